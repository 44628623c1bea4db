-- The rows of a range, leaf by leaf.
use Rattle.std.proofs.Common.{◌≡◌, ◌<◌, ◌+◌, ◌*◌, ◌/◌, ◌%◌, ℕ, zero, suc, ℤ, true, false, if◌then◌else◌, Option, Some, None, List, ◌∙◌, ap, arith}
use Rattle.sto_model.specs.Rows.{Row}
use Rattle.sto_type.specs.Known.{Known}
use Rattle.sto_tree.specs.Slots.{Slots, with_slot, gathered}
use Rattle.sto_tree.specs.Layout.{key_part, place_slot}
use Rattle.sto_tree.specs.Between.{meets}
use Rattle.sto_tree.specs.KnownRows.{known_place, known_slot, known_values, with_places, with_part}

-- slots that are those of a key part, from one on
gathered_more : (s : Slots) (m : ℕ) (ks : List ℤ) (v : ℕ → ℤ) (n : ℕ) → ((i : ℕ) → i < n → s (m + i) ≡ place_slot ks v i) → gathered s (m + n) ≡ with_places (gathered s m) ks v n
gathered_more s m ks v zero all = let e : m + 0 ≡ m = omega arith in ap (gathered s) e
gathered_more s m ks v (suc n) all =
    let e : m + suc n ≡ suc (m + n) = omega arith in
    ap (gathered s) e ∙ ap (λ rows. with_slot rows (s (m + n))) (gathered_more s m ks v n (λ i h. all i (omega (arith, h)))) ∙ ap (with_slot (with_places (gathered s m) ks v n)) (all n (omega arith))

-- slots that hold nothing, from one on
gathered_none : (s : Slots) (m n : ℕ) → ((i : ℕ) → i < n → s (m + i) ≡ None) → gathered s (m + n) ≡ gathered s m
gathered_none s m zero all = let e : m + 0 ≡ m = omega arith in ap (gathered s) e
gathered_none s m (suc n) all =
    let e : m + suc n ≡ suc (m + n) = omega arith in
    ap (gathered s) e ∙ ap (with_slot (gathered s (m + n))) (all n (omega arith)) ∙ gathered_none s m n (λ i h. all i (omega (arith, h)))

part_gathered : (s : Slots) (m : ℕ) (o : Option (List ℤ)) (v : ℕ → ℤ) → ((i : ℕ) → i < 8 → s (m + i) ≡ known_place o i (v i)) → gathered s (m + 8) ≡ with_part (gathered s m) o v
part_gathered s m None v all = gathered_none s m 8 all
part_gathered s m (Some ks) v all = gathered_more s m ks v 8 all

module _ (k : Known) (dir : List ℤ) (a b : ℤ) where
  abbrev slots : Slots
  slots = known_slot k dir a b

  -- the row at place i of leaf l
  abbrev row_at : ℕ → ℕ → Option Row
  row_at l i = if meets dir a b l then known_place (k (key_part l)) i (known_values k l i) else None

  place_at : (l i : ℕ) → i < 8 → slots (8 * l + i) ≡ row_at l i
  place_at l i h =
      let q : (8 * l + i) / 8 ≡ l = omega (arith, h) in
      let r : (8 * l + i) % 8 ≡ i = omega (arith, h) in
      ap (λ (x : ℕ). row_at x ((8 * l + i) % 8)) q ∙ ap (λ (x : ℕ). row_at l x) r

  pub leaf_met : (l : ℕ) → meets dir a b l ≡ true → gathered slots (8 * (l + 1)) ≡ with_part (gathered slots (8 * l)) (k (key_part l)) (known_values k l)
  leaf_met l e =
      let more : 8 * (l + 1) ≡ 8 * l + 8 = omega arith in
      ap (gathered slots) more
      ∙ part_gathered slots (8 * l) (k (key_part l)) (known_values k l) (λ i h. place_at l i h ∙ ap (λ u. if u then known_place (k (key_part l)) i (known_values k l i) else None) e)

  pub leaf_apart : (l : ℕ) → meets dir a b l ≡ false → gathered slots (8 * (l + 1)) ≡ gathered slots (8 * l)
  leaf_apart l e =
      let more : 8 * (l + 1) ≡ 8 * l + 8 = omega arith in
      ap (gathered slots) more ∙ gathered_none slots (8 * l) 8 (λ i h. place_at l i h ∙ ap (λ u. if u then known_place (k (key_part l)) i (known_values k l i) else None) e)
