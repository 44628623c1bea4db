use Rattle.std.proofs.Common.{◌≡◌, map, take, length}
use Rattle.sto_lang.proofs.variables.copies.Given as goal

abbrev pub invariant-loop-text : goal.invariant-loop-text
invariant-loop-text l =
    (map (λ name. name.items) l.made.items ≡ map (λ name. name.items) (take l.text-index l.texts)) × (length l.made.items ≡ l.text-index)
