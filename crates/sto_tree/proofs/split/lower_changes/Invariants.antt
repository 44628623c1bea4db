use Rattle.std.proofs.Common.{◌≡◌, ◌*◌, length, pos}
use Rattle.std.specs.Prelude.{if◌then◌else◌}
use Rattle.sto_part.specs.declared.change.Change.TheVariants.{Keep, Put}
use Rattle.sto_tree.specs.Said.{in_pairs}
use Rattle.sto_tree.specs.Split.{moves}
use Rattle.sto_tree.proofs.split.lower_changes.Given as goal

abbrev pub invariant-loop-place : goal.invariant-loop-place
invariant-loop-place l = record {
  items : l.update.items ≡ in_pairs (λ i. if moves l.keys i then (Put (pos 0), Keep) else (Keep, Keep)) 0 l.place;
  few : length l.update.items ≡ 2 * l.place;
}
