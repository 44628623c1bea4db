use Rattle.std.proofs.Common.{◌≡◌, ℕ, Some, subst}
use Rattle.sto_type.specs.Known.{Known, known}
use Rattle.sto_tree.proofs.Leaves.{keys_wide}
use Rattle.sto_tree.proofs.range.add_leaf.Goals as goal

pub add_places-requires-clause-keys : goal.add_places-requires-clause-keys
add_places-requires-clause-keys c =
    let k : Known = known c.args.cache.now in
    keys_wide c.args.leaves k c.args.leaf c.in-Some.keys.now c.requires.leaf c.requires.part (subst (λ (p : ℕ). k p ≡ Some c.in-Some.keys.now) c.key_part.ensures c.in-Some.ensures)
