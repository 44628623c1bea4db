-- The updates of a remove, one after the other.
use Rattle.std.proofs.Common.{◌≡◌, ◌<◌, ◌+◌, ◌++◌, ◌∷◌, [], ℕ, suc, ℤ, negsuc, Bool, true, false, List, refl, ap, sym, ◌∙◌, subst, arith, append_assoc}
use Rattle.sto_part.specs.declared.change.Change.TheVariants as C
use Rattle.sto_item.specs.Pending.{Entry, AreUpdates, IsRisingFrom, EachChanges}
use Rattle.std.specs.Prelude.{nat_lt}
use Rattle.sto_container.specs.Places.{offset}
use Rattle.sto_map.specs.Mapped.{Sizes, key_part, over_part, before, removed, overs_from}
use Rattle.sto_map.specs.Removing.{overs-rise, overs-change, overs_there, overs_past}

pub front_rises : (b : ℕ) (xs ys : List Entry) → IsRisingFrom b (xs ++ ys) → IsRisingFrom b xs
front_rises b [] ys h = tt
front_rises b (x ∷ xs) ys h = (h.0, front_rises (x.0 + 1) xs ys h.1)

pub front_changes : (xs ys : List Entry) → EachChanges (xs ++ ys) → EachChanges xs
front_changes [] ys h = tt
front_changes (x ∷ xs) ys h = (h.0, front_changes xs ys h.1)

module _ (z : Sizes) (k : ℤ) (p : ℕ) where
  pub are_updates : z.stripe k < z.stripes → p < z.places → AreUpdates (removed z k p)
  are_updates s l = (
    (omega arith, (omega (arith, s), overs-rise z k p (negsuc 0) (key_part z p + 1) 0 z.places (omega (arith, l)))),
    (refl, (refl, overs-change z k p (negsuc 0) 0 z.places)),
  )

  -- a front of them is in order too
  pub front_is : (xs rest : List Entry) → xs ++ rest ≡ removed z k p → z.stripe k < z.stripes → p < z.places → AreUpdates xs
  front_is xs rest e s l =
      let all : AreUpdates (xs ++ rest) = subst AreUpdates (sym e) (are_updates s l) in
      (front_rises 0 xs rest all.0, front_changes xs rest all.1)

  pub one_there : (xs : List Entry) (q left : ℕ) → before z k q p ≡ true → xs ++ overs_from z k p (negsuc 0) q (suc left) ≡ removed z k p → (xs ++ (over_part z q, C.Add (negsuc 0) ∷ []) ∷ []) ++ overs_from z k p (negsuc 0) (suc q) left ≡ removed z k p
  one_there xs q left b e =
      append_assoc xs ((over_part z q, C.Add (negsuc 0) ∷ []) ∷ []) (overs_from z k p (negsuc 0) (suc q) left) ∙ ap (λ l. xs ++ l) (sym (overs_there z k p (negsuc 0) q left b)) ∙ e

  pub one_past : (xs : List Entry) (q left : ℕ) → before z k q p ≡ false → xs ++ overs_from z k p (negsuc 0) q (suc left) ≡ removed z k p → xs ++ overs_from z k p (negsuc 0) (suc q) left ≡ removed z k p
  one_past xs q left b e = ap (λ l. xs ++ l) (sym (overs_past z k p (negsuc 0) q left b)) ∙ e

  pub none_left : (xs : List Entry) (q : ℕ) → xs ++ overs_from z k p (negsuc 0) q 0 ≡ removed z k p → xs ≡ removed z k p
  none_left xs q e = sym (append_none xs) ∙ e
    where
      append_none : (ys : List Entry) → ys ++ [] ≡ ys
      append_none [] = refl
      append_none (y ∷ ys) = ap (λ l. y ∷ l) (append_none ys)

-- sizes with these numbers, and this home and stripe
abbrev pub some_sizes : ℕ → ℕ → ℕ → ℕ → Sizes
some_sizes n s home stripe = record { keys = 0; places = n; stripes = s; home = λ k. home; stripe = λ k. stripe }

-- whether a place stands before another, by the home alone
pub before_is : (z : Sizes) (k : ℤ) (n home q p : ℕ) (b : Bool) → z.places ≡ n → z.home k ≡ home → b ≡ nat_lt (offset n home q) (offset n home p) → before z k q p ≡ b
before_is z k n home q p b e h t = (λ i. nat_lt (offset (e i) (h i) q) (offset (e i) (h i) p)) ∙ sym t
