use Rattle.std.proofs.Common.{ap, ℕ}
use Rattle.sto_version.proofs.Bits.{or_one}
use Rattle.sto_version.proofs.Version.locked.Goals as goal

pub returns : goal.returns
returns c = let is = or_one c.args.self.0 in ap (λ (n : ℕ). record { 0 = n }) is
