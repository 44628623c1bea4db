-- The set of the items of a list.
use Rattle.std.proofs.Common.{◌≡◌, ◌↔◌, Bool, true, false, not, List, [], ◌∷◌, ◌++◌, IsTrue, inl, inr, ap, sym, ◌∙◌}
use Rattle.std.proofs.lemmas.Bool.{cases_Bool}
use Rattle.std.proofs.lemmas.List.Elements.{Contains-append_left, Contains-append_right, Contains-append_cases}
use Rattle.std.proofs.lemmas.List.Sorted.{IsPermutation-sym, Contains-permutation}
use Rattle.std.proofs.lemmas.Map.Views.{hash_set_contains_iff, Contains-from_any, list_any-from_Contains}
use Rattle.std.specs.HashSet.{HashSet, contains, PutsKey, IsFromIterResult}
use Rattle.std.specs.List.{Contains, list_any}
use Rattle.sto_item.specs.declared.item.Item.{Item}
use Rattle.sto_item.specs.contracts.item.ItemPartialEq.TheImpl.{eq-value}
use Rattle.sto_item.specs.Known.{HaveSame}
use Rattle.sto_item.proofs.Equal.{item_laws, item_exact}

-- what a set finds is what the list has
pub found_there : {S : Type 0} (items : List Item) (s : HashSet Item S) → HaveSame items s.keys → (x : Item) → IsTrue (contains eq-value.it s x) ↔ Contains items x
found_there items s same x =
    let iff = hash_set_contains_iff item_laws item_exact s x in
    (λ found. (same x).1 (iff.0 found), λ there. iff.1 ((same x).0 there))

-- what a search through the list finds is what it has
pub found_among : (items : List Item) (x : Item) → IsTrue (list_any (λ y. eq-value.it y x) items) ↔ Contains items x
found_among items x =
    let turned : list_any (λ y. eq-value.it y x) items ≡ list_any (eq-value.it x) items = λ i. list_any (λ y. item_laws.symm y x i) items in
    (λ found. Contains-from_any item_exact x items (sym turned ∙ found), λ there. turned ∙ list_any-from_Contains item_laws x items there)

-- a set that was made of the list has the same items
pub same_made : {S : Type 0} (items : List Item) (s : HashSet Item S) → IsFromIterResult eq-value.it items s → HaveSame items s.keys
same_made items s made x =
    let iff = hash_set_contains_iff item_laws item_exact s x in (
      λ there. iff.0 (made.0 x ∙ list_any-from_Contains item_laws x items there),
      λ key. Contains-from_any item_exact x items (sym (made.0 x) ∙ iff.1 key),
    )

-- both with an item that is new
pub same_pushed :
    {S : Type 0} (items : List Item) (s n : HashSet Item S) (x : Item) (added : Bool) → (Contains items x → ⊥) → HaveSame items s.keys
    → added ≡ not (contains eq-value.it s x) → PutsKey s n x added → HaveSame (items ++ x ∷ []) n.keys
same_pushed items s n x true absent same is puts y = (
  λ there.
      Contains-permutation (x ∷ s.keys) n.keys y puts (
      elim (Contains-append_cases items (x ∷ []) y there) [
        | inl old ↦ Contains-append_right (x ∷ []) s.keys y ((same y).0 old)
        | inr new ↦ Contains-append_left (x ∷ []) s.keys y new
      ]
      ),
  λ key.
      elim (Contains-append_cases (x ∷ []) s.keys y (Contains-permutation n.keys (x ∷ s.keys) y (IsPermutation-sym (x ∷ s.keys) n.keys puts) key)) [
        | inl new ↦ Contains-append_right items (x ∷ []) y new
        | inr old ↦ Contains-append_left items (x ∷ []) y ((same y).1 old)
      ],
)
same_pushed items s n x false absent same is puts y =
    elim (cases_Bool (contains eq-value.it s x)) [
      | inl there ↦ absurd (absent ((found_there items s same x).0 there))
      | inr none ↦ let clash : false ≡ true = is ∙ ap not none in cc
    ]
