use Rattle.std.proofs.Common.{◌≡◌, ℕ, ℤ, Bool, Some, List, ap, ◌∙◌, subst}
use Rattle.sto_type.specs.Known.{Known, known}
use Rattle.sto_tree.specs.Layout.{key_part}
use Rattle.sto_tree.specs.Between.{from_in, to_in, leaf_values}
use Rattle.sto_tree.specs.Walked.{first_unknown, AreValuesKnown}
use Rattle.sto_tree.proofs.ValuesKnown.{values_known, leaf_known}
use Rattle.sto_tree.proofs.needs.needed_in.Goals as goal

pub returns-then-are_values_known : goal.returns-then-are_values_known
returns-then-are_values_known c =
    let k : Known = known c.args.cache.now in
    let dir : List ℤ = c.args.directory.now in
    let l : ℕ = c.args.leaf in
    let ks : List ℤ = c.in-Some.keys.now in
    let there : k (key_part l) ≡ Some ks = subst (λ (p : ℕ). k p ≡ Some ks) c.key_part.ensures c.in-Some.ensures in
    let all : AreValuesKnown k l ks 8 = c.are_values_known.ensures c.if-are_values_known.true in
    leaf_known k c.args.scans dir c.args.from c.args.to l ks there
    (ap (λ (s : Bool). first_unknown k (leaf_values s dir c.args.from c.args.to ks l)) c.if-not-scans.false ∙ values_known k l ks all (from_in dir c.args.from l) (to_in dir c.args.to l))
