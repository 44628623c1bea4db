use Rattle.std.proofs.Common.{◌≡◌, ℕ, ℤ, Bool, Option, Some, List, [], ◌∷◌, ◌++◌, ap, sym, ◌∙◌, subst, append_assoc, rules, w64}
use Rattle.std.specs.Int.RustNames.{FitsSigned}
use Rattle.std.proofs.lemmas.Int.{to_z-of_z}
use Rattle.std.proofs.lemmas.Result.{IfOk-weaker}
use Rattle.sto_item.specs.declared.item.Item.{Item}
use Rattle.sto_item.specs.declared.item.Item.TheVariants.{Seen}
use Rattle.sto_type.specs.Known.{Known, known}
use Rattle.sto_type.specs.Reading.{when_known}
use Rattle.sto_tree.specs.Layout.{key_part}
use Rattle.sto_tree.specs.Said.{cover}
use Rattle.sto_tree.specs.Next.{leaf_seen}
use Rattle.sto_tree.specs.Between.{from_in, to_in, all_seen, values_between, leaf_items}
use Rattle.sto_tree.specs.Walked.{leaf_observed}
use Rattle.sto_tree.proofs.walk.see_leaf.Goals as goal

pub returns : goal.returns
returns c =
    let k : Known = known c.args.cache.now in
    let dir : List ℤ = c.args.directory.now in
    let l : ℕ = c.args.leaf in
    let ks : List ℤ = c.in-Some.keys.now in
    let ff : FitsSigned w64 c.args.from = c.ranges.from in
    let ft : FitsSigned w64 c.args.to = c.ranges.to in
    let fx : FitsSigned w64 c.from_in-first.result = search rules in
    let fy : FitsSigned w64 c.to_in-last.result = search rules in
    let x = simp to_z-of_z at c.from_in-first.ensures in
    let y = simp to_z-of_z at c.to_in-last.ensures in
    let seen = simp to_z-of_z at c.in_ok-see_keys.ensures in
    let values = simp to_z-of_z at c.in_ok-values.ensures in
    let there : k (key_part l) ≡ Some ks = subst (λ (p : ℕ). k p ≡ Some ks) c.key_part.ensures c.in-Some.ensures in
    let listed : c.as_slice.result.now ≡ values_between l ks (from_in dir c.args.from l) (to_in dir c.args.to l) =
    c.as_slice.ensures.items ∙ values ∙ ap (λ (z : ℤ). values_between l ks z c.to_in-last.result) x ∙ ap (values_between l ks (from_in dir c.args.from l)) y in
    let said : leaf_seen dir c.args.from c.args.to l ++ all_seen c.as_slice.result.now ≡ leaf_observed k c.args.scans dir c.args.from c.args.to l =
    ap (λ (ps : List ℕ). cover l (from_in dir c.args.from l) (to_in dir c.args.to l) (Seen (key_part l) ∷ all_seen ps)) listed
    ∙ sym (ap (λ (o : Option (List ℤ)). when_known {A = List Item} o [] (λ xs. leaf_items c.args.scans dir c.args.from c.args.to xs l)) there ∙ ap (λ (s : Bool). leaf_items s dir c.args.from c.args.to ks l) c.if-not-scans.false)
    in
    IfOk-weaker c.see_all.result _ _ (λ o h.
    h ∙ ap (λ (is : List Item). is ++ all_seen c.as_slice.result.now) seen
    ∙ append_assoc c.args.items.now.items (leaf_seen dir c.args.from c.args.to l) (all_seen c.as_slice.result.now)
    ∙ ap (λ (is : List Item). c.args.items.now.items ++ is) said) c.see_all.ensures
