-- Which parts are seen, by the lists of a commit and by the items.
use Rattle.std.proofs.Common.{◌≡◌, ℕ, zero, suc, Bool, true, false, nat_eq, List, [], ◌∷◌, refl, ap, sym, ◌∙◌, inl, inr, eqb-true, eq-eqb, true≢false}
use Rattle.std.proofs.lemmas.Bool.{cases_Bool}
use Rattle.std.specs.List.{Contains, list_any, list_all}
use mathlib.Core.Option.{some, some-ne-none, some-injective}
use lib.ListN.{get_elem?}
use Rattle.sto_item.specs.declared.item.Item.{Item}
use Rattle.sto_item.specs.declared.item.Item.TheVariants.{Seen}
use Rattle.sto_core.specs.Lists.{Among}
use Rattle.sto_attempt_log.specs.declared.commit_phase.LoadedWord.{LoadedWord}
use Rattle.sto_attempt_log.specs.CommitPhases.{Deal, IsPlanned, IsNamed, is_same_part, is_so, goes_on}
use Rattle.sto_attempt_log.proofs.Every.{all_contained}

pub among_any : (l : List ℕ) (p : ℕ) → list_any (is_same_part p) l ≡ true → Among p l
among_any [] p e = cc
among_any (q ∷ l) p e = elim (cases_Bool (nat_eq q p)) [
  | inl hit ↦ (0, ap (λ (k : ℕ). some k) (eqb-true q p hit))
  | inr miss ↦ let r = among_any l p (rw miss at e) in (suc r.0, r.1)
]

pub any_among : (l : List ℕ) (p : ℕ) (j : ℕ) → get_elem? l j ≡ some p → list_any (is_same_part p) l ≡ true
any_among [] p j e = absurd (some-ne-none p (sym e))
any_among (q ∷ l) p zero e = let same : q ≡ p = some-injective q p e in rw (eq-eqb q p same) refl
any_among (q ∷ l) p (suc j) e = elim (cases_Bool (nat_eq q p)) [
  | inl hit ↦ rw hit refl
  | inr miss ↦ rw miss (any_among l p j e)
]

module _ (d : Deal) (planned : IsPlanned d) (p : ℕ) where
  -- a part that an item sees is in the list of those
  pub sight_among : Contains d.items (Seen p) → Among p d.seen
  sight_among there = all_contained (IsNamed d.seen d.loaded) d.items (Seen p) there planned.named

  -- a loaded part is not
  pub loaded_apart : Among p d.loaded → Among p d.seen → ⊥
  loaded_apart a s = planned.apart s.0 p s.1 a.0 p a.1 refl

  pub loaded_unseen : Among p d.loaded → Contains d.items (Seen p) → ⊥
  loaded_unseen a there = loaded_apart a (sight_among there)

-- what the code tests of a part: where the loading goes on, the part is seen or its predicates are true
module _ (d : Deal) (loaded_words : List LoadedWord) (p : ℕ) where
  pub goes_true : goes_on d.seen d.items loaded_words p ≡ true → (Among p d.seen → ⊥) → list_all (is_so p loaded_words) d.items ≡ true
  goes_true e apart = elim (cases_Bool (list_any (is_same_part p) d.seen)) [
    | inl hit ↦ absurd (apart (among_any d.seen p hit))
    | inr miss ↦ rw miss at e
  ]

  -- where it does not go on, no item sees the part
  pub stops_unseen : IsPlanned d → goes_on d.seen d.items loaded_words p ≡ false → Contains d.items (Seen p) → ⊥
  stops_unseen planned e there =
      let a = sight_among d planned p there in
      let no : true ≡ false = rw (any_among d.seen p a.0 a.1) at e in
      true≢false no

  pub stops_false : goes_on d.seen d.items loaded_words p ≡ false → list_all (is_so p loaded_words) d.items ≡ false
  stops_false e = elim (cases_Bool (list_any (is_same_part p) d.seen)) [
    | inl hit ↦ let no : true ≡ false = rw hit at e in absurd (true≢false no)
    | inr miss ↦ rw miss at e
  ]

-- the same, as the code finds it
pub goes_of : (seen : List ℕ) (p q : ℕ) → q ≡ p → (loaded_words more : List LoadedWord) → loaded_words ≡ more → (items : List Item) → (r : Bool) → r ≡ goes_on seen items loaded_words p → (b : Bool) → r ≡ b → goes_on seen items more q ≡ b
goes_of seen p q at loaded_words more same items r test b e =
    ap (goes_on seen items more) at ∙ ap (λ (l : List LoadedWord). goes_on seen items l p) (sym same) ∙ sym test ∙ e
