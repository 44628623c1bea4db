-- The words that the predicates of a hash table name.
use Rattle.std.specs.Prelude.{◌≡◌, ◌<◌, ◌+◌, ◌*◌, ℕ, zero, suc, ℤ, Option, Some, None, slice_index_or, refl}
use Rattle.std.proofs.Common.{ap, ◌∙◌, arith}
use Rattle.sto_type.specs.Meaning.{EachInside}
use Rattle.sto_hash.specs.Hashed.{bucket_part, bucket_number, key_part, hash_widths, find_items, get_items, all_seen}
use Rattle.sto_hash.specs.HashedParts.{bucket_below, width_at}

-- each place is one of so many
abbrev pub IsWithin : ℕ → Option ℕ → Type 0
IsWithin places o = (i : ℕ) → o ≡ Some i → i < places

module _ (buckets places : ℕ) (some : 0 < buckets) where
  key_wide : (key : ℤ) → slice_index_or (hash_widths buckets places) (key_part buckets places key) 0 ≡ 2 * places
  key_wide key =
      let b : ℕ = bucket_number buckets key in
      let z : bucket_part places b ≡ b * (1 + places) + 0 = omega arith in
      ap (λ x. slice_index_or (hash_widths buckets places) x 0) z ∙ width_at buckets places b 0 (bucket_below buckets key some) (omega arith)

  pub inside_find : (key : ℤ) (o : Option ℕ) → IsWithin places o → EachInside (hash_widths buckets places) (find_items (key_part buckets places key) key o)
  inside_find key None w = tt
  inside_find key (Some i) w =
      let l = w i refl in
      let n = key_wide key in
      (omega (arith, l, n), (omega (arith, l, n), tt))

  pub inside_get : (key : ℤ) (o : Option ℕ) → IsWithin places o → EachInside (hash_widths buckets places) (get_items (key_part buckets places key) key o)
  inside_get key None w = tt
  inside_get key (Some i) w =
      let l = w i refl in
      let n = key_wide key in
      (omega (arith, l, n), (omega (arith, l, n), tt))

  pub inside_seen : (b n : ℕ) → EachInside (hash_widths buckets places) (all_seen places b n)
  inside_seen b zero = tt
  inside_seen b (suc n) = inside_seen (suc b) n
