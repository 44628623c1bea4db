-- What a sort by `is_before` gives is in the order of the journal.
use Rattle.std.specs.Prelude.{◌||◌, ◌&&◌, ◌==◌, nat_lt, slice_index_or, ◌+◌}
use Rattle.std.specs.List.{All}
use Rattle.std.specs.List.Sorted.{IsSortedBy}
use Rattle.std.specs.Cmp.{IsStrictWeakOrder}
use Rattle.std.proofs.Common.{◌≡◌, ◌⊎◌, ℕ, zero, suc, ◌<◌, ◌≤◌, List, [], ◌∷◌, length, get_or, refl, sym, ap, ◌∙◌, subst, arith, Bool, true, false, inl, inr}
use Rattle.std.proofs.lemmas.Bool.{cases_order}
use Rattle.std.proofs.lemmas.Bool.Decides.{nat_tests}
use Rattle.std.proofs.lemmas.List.Elements.{All-from_get_or}
use Rattle.std.proofs.lemmas.List.Sorted.{sorted_far}
use Rattle.sto_history.specs.Records.{Record}
use Rattle.sto_serializability.specs.Merged.{key_of, is_before, AreInOrder}

-- three numbers, the first counting most
abbrev below : ℕ → ℕ → ℕ → ℕ → ℕ → ℕ → Bool
below a b c x y z = nat_lt a x || ((a == x) && (nat_lt b y || ((b == y) && nat_lt c z)))

-- they are not below others exactly where these numbers say so
abbrev NotBelow : ℕ → ℕ → ℕ → ℕ → ℕ → ℕ → Type 0
NotBelow a b c x y z = (x < a) ⊎ ((x ≡ a) × ((y < b) ⊎ ((y ≡ b) × (z ≤ c))))

not_below : (a b c x y z : ℕ) → below a b c x y z ≡ false → NotBelow a b c x y z
not_below a b c x y z h = elim (cases_order a x) [
  | inl e ↦ elim (cases_order b y) [
    | inl f ↦ inr (sym e, inr (sym f, grind (arith, nat_tests)))
    | inr (inl l) ↦ absurd (grind (arith, nat_tests))
    | inr (inr l) ↦ inr (sym e, inl l)
  ]
  | inr (inl l) ↦ absurd (grind (arith, nat_tests))
  | inr (inr l) ↦ inl l
]

is_not_below : (a b c x y z : ℕ) → NotBelow a b c x y z → below a b c x y z ≡ false
is_not_below a b c x y z (inl l) = grind (arith, nat_tests)
is_not_below a b c x y z (inr (e, inl l)) = grind (arith, nat_tests)
is_not_below a b c x y z (inr (e, inr (f, l))) = grind (arith, nat_tests)

not_below_chain : (a b c x y z p q r : ℕ) → NotBelow a b c x y z → NotBelow x y z p q r → NotBelow a b c p q r
not_below_chain a b c x y z p q r (inl l) (inl k) = inl (omega (arith, l, k))
not_below_chain a b c x y z p q r (inl l) (inr k) = inl (let e = k.0 in omega (arith, l, e))
not_below_chain a b c x y z p q r (inr (e, l)) (inl k) = inl (omega (arith, e, k))
not_below_chain a b c x y z p q r (inr (e, inl l)) (inr (f, inl k)) = inr (f ∙ e, inl (omega (arith, l, k)))
not_below_chain a b c x y z p q r (inr (e, inl l)) (inr (f, inr k)) = inr (f ∙ e, inl (let g = k.0 in omega (arith, l, g)))
not_below_chain a b c x y z p q r (inr (e, inr l)) (inr (f, inl k)) = inr (f ∙ e, inl (let g = l.0 in omega (arith, g, k)))
not_below_chain a b c x y z p q r (inr (e, inr l)) (inr (f, inr k)) = inr (f ∙ e, inr (k.0 ∙ l.0, (let g = l.1 in let h = k.1 in omega (arith, g, h))))

pub before_order : IsStrictWeakOrder is_before
before_order = record {
  one_way = λ x y h. one_way_by (key_of x.verdict) x.place.0 x.place.1 (key_of y.verdict) y.place.0 y.place.1 h;
  chain = λ x y z h k.
      is_not_below (key_of x.verdict) x.place.0 x.place.1 (key_of z.verdict) z.place.0 z.place.1
      (not_below_chain (key_of x.verdict) x.place.0 x.place.1 (key_of y.verdict) y.place.0 y.place.1 (key_of z.verdict) z.place.0 z.place.1
      (not_below (key_of x.verdict) x.place.0 x.place.1 (key_of y.verdict) y.place.0 y.place.1 h)
      (not_below (key_of y.verdict) y.place.0 y.place.1 (key_of z.verdict) z.place.0 z.place.1 k));
}
  where
    one_way_by : (a b c x y z : ℕ) → below a b c x y z ≡ true → below x y z a b c ≡ false
    one_way_by a b c x y z h = grind (arith, nat_tests)

tail_sorted : (r : Record) (rs : List Record) → IsSortedBy is_before (r ∷ rs) → IsSortedBy is_before rs
tail_sorted r rs h k d l u =
    let e : suc k + 1 ≡ suc (k + 1) = omega arith in
    subst (λ (i : ℕ). is_before (slice_index_or (r ∷ rs) i d) (slice_index_or (r ∷ rs) (suc k) d) ≡ false) e (h (suc k) d (omega arith) (omega (arith, u)))

-- A sort gives the order of the journal.
pub sorted_in_order : (rs : List Record) → IsSortedBy is_before rs → AreInOrder rs
sorted_in_order [] h = tt
sorted_in_order (r ∷ rs) h = (
  All-from_get_or (λ s. is_before s r ≡ false) rs r (λ i l. sorted_far is_before before_order (r ∷ rs) h 0 (suc i) r (omega arith) (omega (arith, l))),
  sorted_in_order rs (tail_sorted r rs h),
)
