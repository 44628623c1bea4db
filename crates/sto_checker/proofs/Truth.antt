-- What is false is not true.
use Rattle.std.proofs.Common.{◌≡◌, Bool, true, false}

pub no_truth : false ≡ true → ⊥
no_truth e = absurd cc
