-- The lists that were gathered are enough for a commit.
use Rattle.std.proofs.Common.{◌≡◌, ◌≢◌, ◌<◌, ◌⊎◌, ℕ, ℤ, zero, suc, Bool, true, false, nat_eq, Some, None, List, [], ◌∷◌, length, map, refl, ap, sym, ◌∙◌, subst, arith, inl, inr, slice_index_or, eqb-true}
use Rattle.std.proofs.lemmas.Bool.{cases_Bool}
use Rattle.std.specs.List.{Contains, list_any}
use mathlib.Core.Option.{some, some-ne-none, some-injective}
use lib.ListN.{get_elem?}
use Rattle.sto_part.specs.Listed.{Listed}
use Rattle.sto_part.specs.Parts.{part_of}
use Rattle.sto_part.specs.declared.pred.Pred.{Pred}
use Rattle.sto_part.specs.declared.change.Change.{Change}
use Rattle.sto_part.specs.declared.change.Change.TheVariants.{Keep, Add}
use Rattle.sto_item.specs.declared.item.Item.{Item}
use Rattle.sto_item.specs.declared.item.Item.TheVariants.{Seen, Holds}
use Rattle.sto_item.specs.Pending.{plain, change_at}
use Rattle.sto_item.specs.Agreement.{HasWidths}
use Rattle.sto_core.specs.Lists.{Each, Among}
use Rattle.sto_core.specs.History.{writes}
use Rattle.sto_type.specs.Known.{Parts}
use Rattle.sto_attempt_log.specs.Every.{AllOf}
use Rattle.sto_attempt_log.specs.Log.{IsInside}
use Rattle.sto_attempt_log.specs.CommitPhases.{is_of_part, is_same_part, IsNamed}
use Rattle.sto_attempt_log.specs.Gathering.{gathered, seen_part, not_in, other_part, is_add, adding_part, unwritten_part}
use Rattle.sto_attempt_log.proofs.Aiming.{any_writes}
use Rattle.sto_attempt_log.proofs.SeenParts.{among_any, any_among}
use Rattle.sto_attempt_log.proofs.Every.{all_contained}
use Rattle.sto_attempt_log.proofs.Gathering.{among_first, among_rest, among_none, among_cases, gathered-new, gathered-cases}

pub contains_among : {A : Type 0} (xs : List A) (x : A) (j : ℕ) → get_elem? xs j ≡ some x → Contains xs x
contains_among [] x j e = absurd (some-ne-none x (sym e))
contains_among (y ∷ xs) x zero e = (0, omega arith, some-injective y x e)
contains_among (y ∷ xs) x (suc j) e = let c = contains_among xs x j e in (suc c.0, omega (arith, c.1), c.2)

pub all_from : {A : Type 0} (P : A → Type 0) (xs : List A) → ((x : A) → Among x xs → P x) → AllOf P xs
all_from P [] h = tt
all_from P (x ∷ xs) h = (h x (among_first x xs), all_from P xs (λ y a. h y (among_rest y x xs a)))

none_some : (p : ℕ) → None ≡ Some p → ⊥
none_some p e = cc

some_same : (p q : ℕ) → Some p ≡ Some q → p ≡ q
some_same p q e = cc

item_seen : (x : Item) (p : ℕ) → seen_part x ≡ Some p → x ≡ Seen p
item_seen (Seen q) p e = ap Seen (some_same q p e)
item_seen (Holds q) p e = absurd (none_some p e)

not_in-of : (ps : List ℕ) (q p : ℕ) (b : Bool) → list_any (is_same_part q) ps ≡ b → not_in ps q ≡ Some p → (q ≡ p) × (list_any (is_same_part q) ps ≡ false)
not_in-of ps q p true t e = absurd (none_some p (rw t at e))
not_in-of ps q p false t e = (some_same q p (rw t at e), t)

item_other : (ps : List ℕ) (x : Item) (p : ℕ) → other_part ps x ≡ Some p → (q : Pred) × (x ≡ Holds q) × (q.part ≡ p) × (list_any (is_same_part p) ps ≡ false)
item_other ps (Seen q) p e = absurd (none_some p e)
item_other ps (Holds q) p e =
    let is = not_in-of ps q.part p (list_any (is_same_part q.part) ps) refl e in
    (q, refl, is.0, subst (λ (k : ℕ). list_any (is_same_part k) ps ≡ false) is.0 is.1)

module _ (items : List Item) where
  abbrev pub seen : List ℕ
  seen = gathered seen_part [] items

  abbrev pub loaded : List ℕ
  loaded = gathered (other_part seen) [] items

  pub plan_apart : Each (λ (p : ℕ). Each (λ (q : ℕ). q ≢ p) loaded) seen
  plan_apart j p e k q g same =
      elim (gathered-cases (other_part seen) [] items q (k, g)) [
        | inl none ↦ among_none q none
        | inr x ↦
            let is = item_other seen x.0 q x.2 in
            let there = any_among seen q j (subst (λ (n : ℕ). get_elem? seen j ≡ some n) (sym same) e) in
            let clash : true ≡ false = sym there ∙ is.3 in
            cc
      ]

  one_named : (x : Item) → Among x items → IsNamed seen loaded x
  one_named (Seen p) a = gathered-new seen_part [] items (Seen p) p a refl
  one_named (Holds q) a =
      elim (cases_Bool (list_any (is_same_part q.part) seen)) [
        | inl there ↦ inl (among_any seen q.part there)
        | inr not ↦ inr (gathered-new (other_part seen) [] items (Holds q) q.part a (rw not refl))
      ]

  pub plan_named : AllOf (IsNamed seen loaded) items
  plan_named = all_from (IsNamed seen loaded) items one_named

  pub plan_seen : Each (λ (p : ℕ). Contains items (Seen p)) seen
  plan_seen j p e =
      elim (gathered-cases seen_part [] items p (j, e)) [
        | inl none ↦ absurd (among_none p none)
        | inr x ↦ subst (λ (y : Item). Contains items y) (item_seen x.0 p x.2) (contains_among items x.0 x.1.0 x.1.1)
      ]

  pub plan_loaded : Each (λ (p : ℕ). (q : Pred) × Contains items (Holds q) × (q.part ≡ p)) loaded
  plan_loaded j p e =
      elim (gathered-cases (other_part seen) [] items p (j, e)) [
        | inl none ↦ absurd (among_none p none)
        | inr x ↦
            let is = item_other seen x.0 p x.2 in
            (is.0, subst (λ (y : Item). Contains items y) is.1 (contains_among items x.0 x.1.0 x.1.1), is.2)
      ]

  module _ (xs : List (ℕ × Listed Change)) where
    abbrev pub checks : List ℕ
    checks = gathered (unwritten_part xs) seen loaded

    pub plan_tests : Each (λ (p : ℕ). writes (map plain xs) p ≡ false → Among p checks) loaded
    plan_tests j p e free = gathered-new (unwritten_part xs) seen loaded p p (j, e) (rw (any_writes xs p ∙ free) refl)

    unwritten_of : (x p : ℕ) (b : Bool) → list_any (is_of_part x) xs ≡ b → unwritten_part xs x ≡ Some p → (x ≡ p) × (writes (map plain xs) p ≡ false)
    unwritten_of x p true t e = absurd (none_some p (rw t at e))
    unwritten_of x p false t e =
        let same = some_same x p (rw t at e) in
        (same, subst (λ (k : ℕ). writes (map plain xs) k ≡ false) same (sym (any_writes xs x) ∙ t))

    pub plan_checks : Each (λ (p : ℕ). Among p seen ⊎ (Among p loaded × (writes (map plain xs) p ≡ false))) checks
    plan_checks j p e =
        elim (gathered-cases (unwritten_part xs) seen loaded p (j, e)) [
          | inl before ↦ inl before
          | inr x ↦
              let is = unwritten_of x.0 p (list_any (is_of_part x.0) xs) refl x.2 in
              inr (subst (λ (k : ℕ). Among k loaded) is.0 x.1, is.1)
        ]

-- updates that add
any_add : (cs : List Change) (i : ℕ) (x : ℤ) → slice_index_or cs i Keep ≡ Add x → list_any is_add cs ≡ true
any_add [] i x e = cc
any_add (c ∷ cs) zero x e = rw e refl
any_add (c ∷ cs) (suc i) x e = elim (cases_Bool (is_add c)) [ inl hit ↦ rw hit refl | inr miss ↦ rw miss (any_add cs i x e) ]

adds_found : (ys : List (ℕ × Listed Change)) (p i : ℕ) (x : ℤ) → change_at (map plain ys) p i ≡ Add x → (u : ℕ × Listed Change) × Among u ys × (adding_part u ≡ Some p)
adds_found [] p i x e = cc
adds_found (y ∷ ys) p i x e =
    elim (cases_Bool (nat_eq y.0 p)) [
      | inl hit ↦ let f = rw hit at e in (y, among_first y ys, rw (any_add y.1.items i x f) (ap Some (eqb-true y.0 p hit)))
      | inr miss ↦ let r = adds_found ys p i x (rw miss at e) in (r.0, among_rest r.0 y ys r.1, r.2)
    ]

pub adding_of : (u : ℕ × Listed Change) (p : ℕ) (b : Bool) → list_any is_add u.1.items ≡ b → adding_part u ≡ Some p → (u.0 ≡ p) × (list_any is_add u.1.items ≡ true)
adding_of u p true t e = (some_same u.0 p (rw t at e), t)
adding_of u p false t e = absurd (none_some p (rw t at e))

some_add : (cs : List Change) → list_any is_add cs ≡ true → 0 < length cs
some_add [] e = cc
some_add (c ∷ cs) e = omega arith

below_length : (ws : List ℕ) (p : ℕ) → 0 < slice_index_or ws p 0 → p < length ws
below_length [] p h = absurd (omega (arith, h))
below_length (w ∷ ws) zero h = omega arith
below_length (w ∷ ws) (suc p) h = omega (arith, below_length ws p h)

pub width_at : (d : Parts) (p : ℕ) → slice_index_or (map length d) p 0 ≡ length (part_of d p)
width_at [] p = refl
width_at (x ∷ d) zero = refl
width_at (x ∷ d) (suc p) = width_at d p

pub widths_of : (ys : List (ℕ × Listed Change)) (d : Parts) → HasWidths (map plain ys) d → (u : ℕ × Listed Change) → Among u ys → length (part_of d u.0) ≡ length u.1.items
widths_of [] d h u a = absurd (among_none u a)
widths_of (y ∷ ys) d h u a =
    elim (among_cases u y ys a) [
      | inl here ↦ subst (λ (z : ℕ × Listed Change). length (part_of d z.0) ≡ length z.1.items) here h.1
      | inr there ↦ widths_of ys d h.2 u there
    ]

module _ (items : List Item) (xs : List (ℕ × Listed Change)) where
  abbrev pub tasks : List ℕ
  tasks = gathered adding_part (loaded items) xs

  pub plan_adds : (p i : ℕ) (x : ℤ) → change_at (map plain xs) p i ≡ Add x → Among p tasks
  plan_adds p i x e = let f = adds_found xs p i x e in gathered-new adding_part (loaded items) xs f.0 p f.1 f.2

  module _ (widths : List ℕ) (inside : AllOf (IsInside widths) items) (d : Parts) (same : map length d ≡ widths) (fit : HasWidths (map plain xs) d) where
    has_words : (p : ℕ) → Among p tasks → 0 < slice_index_or widths p 0
    has_words p a =
        elim (gathered-cases adding_part (loaded items) xs p a) [
          | inl before ↦
              let l = plan_loaded items before.0 p before.1 in
              let i : l.0.word < slice_index_or widths l.0.part 0 = all_contained (IsInside widths) items (Holds l.0) l.1 inside in
              subst (λ (k : ℕ). 0 < slice_index_or widths k 0) l.2 (omega (arith, i))
          | inr u ↦
              let is = adding_of u.0 p (list_any is_add u.0.1.items) refl u.2 in
              let long = widths_of xs d fit u.0 u.1 in
              let more = some_add u.0.1.items is.1 in
              let at : slice_index_or widths u.0.0 0 ≡ length (part_of d u.0.0) = ap (λ (l : List ℕ). slice_index_or l u.0.0 0) (sym same) ∙ width_at d u.0.0 in
              subst (λ (k : ℕ). 0 < slice_index_or widths k 0) is.0 (omega (arith, at, long, more))
        ]

    pub plan_range : Each (λ (p : ℕ). (p < length widths) × (0 < slice_index_or widths p 0)) tasks
    plan_range j p e = let h = has_words p (j, e) in (below_length widths p h, h)
