use Rattle.std.proofs.Common.{◌≡◌, ◌+◌, ◌*◌, pos, List, [], ◌∷◌, ◌++◌, ap, ◌∙◌, rules, w64}
use Rattle.std.specs.Int.RustNames.{FitsSigned}
use Rattle.std.proofs.lemmas.Int.{to_z-of_z}
use Rattle.sto_part.specs.declared.pred.Test.TheVariants.{Eq, Le, Ge}
use Rattle.sto_item.specs.declared.item.Item.{Item}
use Rattle.sto_item.specs.declared.item.Item.TheVariants.{Seen}
use Rattle.sto_tree.specs.Said.{compared}
use Rattle.sto_tree.specs.Between.{from_in, to_in}
use Rattle.sto_tree.specs.Next.{leaf_seen}
use Rattle.sto_tree.proofs.Adding.{four_more}
use Rattle.sto_tree.proofs.walk.see_keys.Goals as goal

pub returns : goal.returns
returns c =
    let ff : FitsSigned w64 c.args.from = c.ranges.from in
    let ft : FitsSigned w64 c.args.to = c.ranges.to in
    let fx : FitsSigned w64 c.from_in-from.result = search rules in
    let fy : FitsSigned w64 c.to_in-to.result = search rules in
    let x = simp to_z-of_z at c.from_in-from.ensures in
    let y = simp to_z-of_z at c.to_in-to.ensures in
    let low = simp to_z-of_z at c.compares-2.ensures in
    let high = simp to_z-of_z at c.compares-3.ensures in
    let first : c.compares.result ≡ compared 1 (3 * c.args.leaf) Eq (pos 1) = c.compares.ensures in
    let second : c.compares-2.result ≡ compared 1 (3 * c.args.leaf + 1) Le (from_in c.args.directory.now c.args.from c.args.leaf) = low ∙ ap (compared 1 (3 * c.args.leaf + 1) Le) x in
    let third : c.compares-3.result ≡ compared 1 (3 * c.args.leaf + 2) Ge (to_in c.args.directory.now c.args.to c.args.leaf) = high ∙ ap (compared 1 (3 * c.args.leaf + 2) Ge) y in
    let said : ◌≡◌ {A = List Item} (c.compares.result ∷ c.compares-2.result ∷ c.compares-3.result ∷ Seen c.key_part.result ∷ []) (leaf_seen c.args.directory.now c.args.from c.args.to c.args.leaf) =
    λ i. first i ∷ second i ∷ third i ∷ Seen (c.key_part.ensures i) ∷ [] in
    c.in_ok-add_item-4.ensures
    ∙ ap (λ (is : List Item). is ++ Seen c.key_part.result ∷ []) (c.in_ok-add_item-3.ensures ∙ ap (λ (is : List Item). is ++ c.compares-3.result ∷ []) (c.in_ok-add_item-2.ensures ∙ ap (λ (is : List Item). is ++ c.compares-2.result ∷ []) c.in_ok-add_item.ensures))
    ∙ four_more c.args.items.now.items c.compares.result c.compares-2.result c.compares-3.result (Seen c.key_part.result)
    ∙ ap (λ (is : List Item). c.args.items.now.items ++ is) said
