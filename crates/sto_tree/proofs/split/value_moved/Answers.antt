use Rattle.std.proofs.Common.{◌≡◌, ℕ, Some, subst}
use Rattle.sto_type.specs.Known.{known}
use Rattle.sto_tree.proofs.Leaves.{value_wide}
use Rattle.sto_tree.proofs.split.value_moved.Goals as goal

pub only_word-requires : goal.only_word-requires
only_word-requires c =
    value_wide c.args.leaves (known c.args.cache.now) c.args.found.number c.args.place c.in-Some.words.now c.requires.below c.requires.place c.requires.part
    (subst (λ (p : ℕ). known c.args.cache.now p ≡ Some c.in-Some.words.now) c.value_part.ensures c.in-Some.ensures)
