-- The next of a list, and updates as the code holds them.
use Rattle.std.proofs.Common.{◌≡◌, ◌<◌, ◌+◌, ℕ, zero, suc, List, [], ◌∷◌, ◌++◌, length, take, drop, map, refl, ap, sym, ◌∙◌, subst, arith, slice_index_or}
use Rattle.std.proofs.lemmas.List.{take_more, length-map, get_or-map}
use Rattle.sto_part.specs.Listed.{Listed}
use Rattle.sto_part.specs.Parts.{part_of}
use Rattle.sto_part.specs.declared.change.Change.{Change}
use Rattle.sto_item.specs.Pending.{Entry, plain, with_update, with_updates}
use Rattle.sto_item.specs.Agreement.{HasWidths}
use Rattle.sto_type.specs.Known.{Parts}

pub take_next : {A : Type 0} (xs : List A) (i : ℕ) (x : A) → i < length xs → x ≡ slice_index_or xs i x → take (i + 1) xs ≡ take i xs ++ x ∷ []
take_next xs i x h is = take_more xs i x h ∙ ap (λ y. take i xs ++ y ∷ []) (sym is)

pub drop_next : {A : Type 0} (xs : List A) (i : ℕ) (x : A) → i < length xs → x ≡ slice_index_or xs i x → drop i xs ≡ x ∷ drop (suc i) xs
drop_next [] i x h is = absurd (omega (arith, h))
drop_next (y ∷ xs) zero x h is = ap (λ z. z ∷ xs) (sym is)
drop_next (y ∷ xs) (suc i) x h is = drop_next xs i x (omega (arith, h)) is

pub with_updates-more : (es us : List Entry) (u : Entry) → with_updates es (us ++ u ∷ []) ≡ with_update (with_updates es us) u.0 u.1
with_updates-more es [] u = refl
with_updates-more es (x ∷ us) u = with_updates-more (with_update es x.0 x.1) us u

HasWidths-at : (es : List Entry) (i : ℕ) (x : Entry) (c : Parts) → i < length es → slice_index_or es i x ≡ x → HasWidths es c → (x.0 < length c) × (length (part_of c x.0) ≡ length x.1)
HasWidths-at [] i x c l e h = absurd (omega (arith, l))
HasWidths-at (y ∷ es) zero x c l e h = subst (λ (z : Entry). (z.0 < length c) × (length (part_of c z.0) ≡ length z.1)) e (h.0, h.1)
HasWidths-at (y ∷ es) (suc i) x c l e h = HasWidths-at es i x c (omega (arith, l)) e h.2

module _ (rs : List (ℕ × Listed Change)) (es : List Entry) (i : ℕ) (x : ℕ × Listed Change) (all : map plain rs ≡ es) (h : i < length rs) (is : x ≡ slice_index_or rs i x) where
  in_range : i < length es
  in_range = omega (arith, h, ap length all, length-map rs plain)

  at : slice_index_or es i (plain x) ≡ plain x
  at = ap (λ (l : List Entry). slice_index_or l i (plain x)) (sym all) ∙ get_or-map plain rs i x (plain x) h ∙ ap plain (sym is)

  pub one_more : take (i + 1) es ≡ take i es ++ plain x ∷ []
  one_more = take_more es i (plain x) in_range ∙ ap (λ (e : Entry). take i es ++ e ∷ []) at

  pub rest : drop i es ≡ plain x ∷ drop (suc i) es
  rest = drop_next es i (plain x) in_range (sym at)

  pub fits : (c : Parts) → HasWidths es c → (x.0 < length c) × (length (part_of c x.0) ≡ length x.1.items)
  fits c w = HasWidths-at es i (plain x) c in_range at w
