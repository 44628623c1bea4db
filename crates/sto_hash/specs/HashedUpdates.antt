-- The contents after each kind of update, and their rows.
use Rattle.std.specs.Prelude.{◌≡◌, ◌<◌, ◌+◌, ◌*◌, ◌⊎◌, ℕ, zero, suc, ℤ, pos, Bool, true, false, not, Option, Some, None, List, [], ◌∷◌, length, slice_index_or, slice_set, refl}
use Rattle.std.specs.Int.{w64}
use Rattle.std.specs.Int.RustNames.{FitsSigned}
use Rattle.std.specs.Ordering.{int_eq}
use Rattle.std.proofs.Common.{ap, sym, ◌∙◌, arith, subst, inl, inr}
use Rattle.std.proofs.lemmas.Bool.{cases_lt}
use Rattle.std.proofs.lemmas.Bool.Decides.{Decides-int_eq}
use Rattle.sto_part.specs.Parts.{part_of}
use Rattle.sto_item.specs.Agreement.{word_of}
use Rattle.sto_model.specs.Rows.{Row, value_at, with_row, without, bucket_of}
use Rattle.sto_model.proofs.RowFacts.{IsRising-with_row, IsRising-without}
use Rattle.sto_model.proofs.Maps.{value_at-with_row_same, value_at-with_row_other, value_at-without_same, value_at-without_other, same_maps}
use Rattle.sto_type.specs.Known.{Parts}
use Rattle.sto_block.specs.Blocks.{Place, places_of, is_present, is_free, is_here, first_from, find, free, IsNowhere}
use Rattle.sto_block.specs.Found.{by_test, at, here_parts, parts_here, absent_here, other_here, found_there, none_nowhere, first_is, set_other, apart_put, apart_remove, removed_none, at-set, length-set}
use Rattle.sto_block.specs.Replaced.{place_set, length-places}
use Rattle.sto_hash.specs.Hashed.{bucket_part, bucket_number, key_part, pairs_from, rows_of, AreOfBucket, IsBucket, IsHash}
use Rattle.sto_hash.specs.HashedRows.{value_found, value_is, rows_rise, bucket_is}
use Rattle.sto_hash.specs.HashedParts.{bucket_below, part_there, key_width, value_width, same_parts, part_set, part_else, widths_set, fits_set, words_fit, fit_set, word_fit}

-- the places of a bucket after one was replaced
own_set : (buckets b : ℕ) (ss : List Place) (m : ℕ) (t : Place) → AreOfBucket buckets b ss → (is_present t ≡ true → bucket_of buckets t.1 ≡ pos b) → AreOfBucket buckets b (slice_set ss m t)
own_set buckets b [] m t h f = tt
own_set buckets b (s ∷ ss) zero t h f = (f, h.1)
own_set buckets b (s ∷ ss) (suc m) t h f = (h.0, own_set buckets b ss m t h.1 f)

module _ (buckets places : ℕ) (some : 0 < buckets) where
  b_of : ℤ → ℕ
  b_of k = bucket_number buckets k

  below : (k : ℤ) → bucket_number buckets k < buckets
  below k = bucket_below buckets k some

  abbrev pub rows_at : Parts → List Row
  rows_at c = rows_of (pairs_from places c 0 buckets)

  -- the value at a key
  abbrev pub looked_up : Parts → ℤ → Option ℤ
  looked_up c k = value_found c (bucket_part places (bucket_number buckets k) + 1) (find (part_of c (bucket_part places (bucket_number buckets k))) k)

  pub value_at_is : (c : Parts) (k : ℤ) → IsHash buckets places c → value_at (rows_at c) k ≡ looked_up c k
  value_at_is c k v = value_is buckets places c k v.each (below k)

  -- rows with the right value at each key
  pub rows_with : (c e : Parts) (k x : ℤ) → IsHash buckets places c → IsHash buckets places e → looked_up e k ≡ Some x → ((q : ℤ) → (k ≡ q → ⊥) → looked_up e q ≡ looked_up c q) → rows_at e ≡ with_row (rows_at c) k x
  rows_with c e k x v w same other =
      same_maps (rows_at e) (with_row (rows_at c) k x) (rows_rise (pairs_from places e 0 buckets)) (IsRising-with_row (rows_at c) k x (rows_rise (pairs_from places c 0 buckets)))
      (λ q. by_test (int_eq k q)
      (λ t.
      let p : k ≡ q = (Decides-int_eq k q).0 t in
      subst (λ z. value_at (rows_at e) z ≡ value_at (with_row (rows_at c) k x) z) p (value_at_is e k w ∙ same ∙ sym (value_at-with_row_same (rows_at c) k x)))
      (λ t.
      let n : k ≡ q → ⊥ = λ p. let z : true ≡ false = sym ((Decides-int_eq k q).1 p) ∙ t in cc in
      value_at_is e q w ∙ other q n ∙ sym (value_at_is c q v) ∙ sym (value_at-with_row_other (rows_at c) k x q n)))

  pub rows_without : (c e : Parts) (k : ℤ) → IsHash buckets places c → IsHash buckets places e → looked_up e k ≡ None → ((q : ℤ) → (k ≡ q → ⊥) → looked_up e q ≡ looked_up c q) → rows_at e ≡ without (rows_at c) k
  rows_without c e k v w same other =
      same_maps (rows_at e) (without (rows_at c) k) (rows_rise (pairs_from places e 0 buckets)) (IsRising-without (rows_at c) k (rows_rise (pairs_from places c 0 buckets)))
      (λ q. by_test (int_eq k q)
      (λ t.
      let p : k ≡ q = (Decides-int_eq k q).0 t in
      subst (λ z. value_at (rows_at e) z ≡ value_at (without (rows_at c) k) z) p (value_at_is e k w ∙ same ∙ sym (value_at-without_same (rows_at c) k (rows_rise (pairs_from places c 0 buckets)))))
      (λ t.
      let n : k ≡ q → ⊥ = λ p. let z : true ≡ false = sym ((Decides-int_eq k q).1 p) ∙ t in cc in
      value_at_is e q w ∙ other q n ∙ sym (value_at_is c q v) ∙ sym (value_at-without_other (rows_at c) k q n)))

  -- a place that is found is one of the bucket's
  pub place_below : (c : Parts) (k : ℤ) (i : ℕ) → IsHash buckets places c → find (part_of c (key_part buckets places k)) k ≡ Some i → i < places
  place_below c k i v e =
      let h = found_there (is_here k) (places_of (part_of c (key_part buckets places k))) i e in
      let long : length (places_of (part_of c (key_part buckets places k))) ≡ places = length-places (part_of c (key_part buckets places k)) places (key_width buckets places c v.widths (bucket_number buckets k) (below k)) in
      omega (arith, h.0, long)

  pub free_below : (c : Parts) (k : ℤ) (i : ℕ) → IsHash buckets places c → free (part_of c (key_part buckets places k)) ≡ Some i → i < places
  free_below c k i v e =
      let h = found_there is_free (places_of (part_of c (key_part buckets places k))) i e in
      let long : length (places_of (part_of c (key_part buckets places k))) ≡ places = length-places (part_of c (key_part buckets places k)) places (key_width buckets places c v.widths (bucket_number buckets k) (below k)) in
      omega (arith, h.0, long)

  -- the parts of a key, by numbers of buckets and of parts there
  key_number : (b : ℕ) → bucket_part places b ≡ b * (1 + places) + 0
  key_number b = omega arith

  value_number : (b i : ℕ) → bucket_part places b + 1 + i ≡ b * (1 + places) + suc i
  value_number b i = omega arith

  key_not_value : (b x i : ℕ) → i < places → bucket_part places x + 1 + i ≡ bucket_part places b → ⊥
  key_not_value b x i l e =
      let h : (x ≡ b) × (suc i ≡ 0) = same_parts places x (suc i) b 0 l (omega arith) (sym (value_number x i) ∙ e ∙ key_number b) in
      let z = h.1 in absurd (omega (arith, z))

  values_apart : (b x i j : ℕ) → i < places → j < places → bucket_part places b + 1 + i ≡ bucket_part places x + 1 + j → (b ≡ x) × (i ≡ j)
  values_apart b x i j l m e =
      let h : (b ≡ x) × (suc i ≡ suc j) = same_parts places b (suc i) x (suc j) l m (sym (value_number b i) ∙ e ∙ value_number x j) in
      (h.0, omega (arith, h.1))

  keys_apart : (b x : ℕ) → bucket_part places b ≡ bucket_part places x → b ≡ x
  keys_apart b x e =
      let h : (b ≡ x) × (0 ≡ 0) = same_parts places b 0 x 0 (omega arith) (omega arith) (sym (key_number b) ∙ e ∙ key_number x) in
      h.0

  -- a value put at a place: other parts stay
  module _ (c : Parts) (v : IsHash buckets places c) (k y : ℤ) (i : ℕ) (l : i < places) (f : FitsSigned w64 y) where
    abbrev p : ℕ
    p = key_part buckets places k

    abbrev q : ℕ
    q = p + 1 + i

    abbrev pub put_value : Parts
    put_value = slice_set c q (y ∷ [])

    q_there : q < length c
    q_there = let h : bucket_number buckets k * (1 + places) + suc i < length c = part_there buckets places c v.widths (bucket_number buckets k) (suc i) (below k) l in omega (arith, h, value_number (bucket_number buckets k) i)

    keys_stay : (b : ℕ) → part_of put_value (bucket_part places b) ≡ part_of c (bucket_part places b)
    keys_stay b = part_else c q (bucket_part places b) (y ∷ []) (key_not_value b (bucket_number buckets k) i l)

    pub put_value_valid : IsHash buckets places put_value
    put_value_valid = record {
      widths = widths_set c q (y ∷ []) (sym (value_width buckets places c v.widths (bucket_number buckets k) i (below k) l)) ∙ v.widths;
      fits = fits_set c q (y ∷ []) (f, tt) v.fits;
      each = λ b m. subst (λ ws. IsBucket buckets b (places_of ws)) (sym (keys_stay b)) (v.each b m);
    }

    value_there : word_of put_value q 0 ≡ y
    value_there = ap (λ ws. slice_index_or ws 0 (pos 0)) (part_set c q (y ∷ []) q_there)

    -- of another place the value stays
    value_else : (b j : ℕ) → j < places → ((bucket_number buckets k ≡ b) × (i ≡ j) → ⊥) → word_of put_value (bucket_part places b + 1 + j) 0 ≡ word_of c (bucket_part places b + 1 + j) 0
    value_else b j m n = ap (λ ws. slice_index_or ws 0 (pos 0)) (part_else c q (bucket_part places b + 1 + j) (y ∷ []) (λ e. n (values_apart (bucket_number buckets k) b i j l m e)))

    -- what is found of another key stands at another place
    found_else :
        (b : ℕ) (o : Option ℕ) → ((j : ℕ) → o ≡ Some j → j < places) → ((j : ℕ) → o ≡ Some j → (bucket_number buckets k ≡ b) × (i ≡ j) → ⊥)
        → value_found put_value (bucket_part places b + 1) o ≡ value_found c (bucket_part places b + 1) o
    found_else b None w n = refl
    found_else b (Some j) w n = ap Some (value_else b j (w j refl) (n j refl))

    -- the value at the key itself, and at another
    own_value : find (part_of c p) k ≡ Some i → looked_up put_value k ≡ Some y
    own_value e =
        let s : find (part_of put_value p) k ≡ Some i = ap (λ ws. find ws k) (keys_stay (bucket_number buckets k)) ∙ e in
        ap (value_found put_value (p + 1)) s ∙ ap Some value_there

    other_value : (x : ℤ) → ((j : ℕ) → find (part_of c (key_part buckets places x)) x ≡ Some j → (bucket_number buckets k ≡ bucket_number buckets x) × (i ≡ j) → ⊥) → looked_up put_value x ≡ looked_up c x
    other_value x n =
        ap (λ ws. value_found put_value (key_part buckets places x + 1) (find ws x)) (keys_stay (bucket_number buckets x))
        ∙ found_else (bucket_number buckets x) (find (part_of c (key_part buckets places x)) x) (λ j e. place_below c x j v e) n

    -- a put over a key
    pub put_over : find (part_of c p) k ≡ Some i → rows_at put_value ≡ with_row (rows_at c) k y
    put_over e =
        rows_with c put_value k y v put_value_valid (own_value e)
        (λ x other. other_value x (λ j s same.
        let here : is_here k (at (places_of (part_of c p)) i) ≡ true = (found_there (is_here k) (places_of (part_of c p)) i e).1 in
        let there : is_here x (at (places_of (part_of c (key_part buckets places x))) j) ≡ true = (found_there (is_here x) (places_of (part_of c (key_part buckets places x))) j s).1 in
        let moved : is_here x (at (places_of (part_of c p)) i) ≡ true =
        subst (λ b. is_here x (at (places_of (part_of c (bucket_part places b))) i) ≡ true) (sym same.0) (subst (λ z. is_here x (at (places_of (part_of c (key_part buckets places x))) z) ≡ true) (sym same.1) there) in
        other (sym (here_parts k (at (places_of (part_of c p)) i) here).1 ∙ (here_parts x (at (places_of (part_of c p)) i) moved).1)))

  same_or_not : (b x : ℕ) → (b ≡ x) ⊎ (b ≡ x → ⊥)
  same_or_not b x = elim (cases_lt b x) [
    | inl q ↦ inr (λ e. absurd (omega (arith, q, e)))
    | inr q ↦ elim (cases_lt x b) [ inl z ↦ inr (λ e. absurd (omega (arith, z, e))) | inr z ↦ inl (omega (arith, q, z)) ]
  ]

  -- one place of the key's bucket replaced: values and other buckets stay
  module _ (c : Parts) (v : IsHash buckets places c) (k a z : ℤ) (i : ℕ) (l : i < places) (fa : FitsSigned w64 a) (fz : FitsSigned w64 z)
      (ok : IsBucket buckets (bucket_number buckets k) (slice_set (places_of (part_of c (key_part buckets places k))) i (a, z))) where
    abbrev kp : ℕ
    kp = key_part buckets places k

    abbrev new_words : List ℤ
    new_words = slice_set (slice_set (part_of c kp) (2 * i) a) (2 * i + 1) z

    abbrev put_place : Parts
    put_place = slice_set c kp new_words

    kp_there : kp < length c
    kp_there = let h : bucket_number buckets k * (1 + places) + 0 < length c = part_there buckets places c v.widths (bucket_number buckets k) 0 (below k) (omega arith) in omega (arith, h, key_number (bucket_number buckets k))

    length-set_word : (ws : List ℤ) (n : ℕ) (x : ℤ) → length (slice_set ws n x) ≡ length ws
    length-set_word [] n x = refl
    length-set_word (w ∷ ws) zero x = refl
    length-set_word (w ∷ ws) (suc n) x = ap suc (length-set_word ws n x)

    pub new_places : places_of (part_of put_place kp) ≡ slice_set (places_of (part_of c kp)) i (a, z)
    new_places = ap places_of (part_set c kp new_words kp_there) ∙ place_set (part_of c kp) i a z

    pub other_keys : (b : ℕ) → (bucket_number buckets k ≡ b → ⊥) → part_of put_place (bucket_part places b) ≡ part_of c (bucket_part places b)
    other_keys b n = part_else c kp (bucket_part places b) new_words (λ e. n (keys_apart (bucket_number buckets k) b e))

    pub put_place_valid : IsHash buckets places put_place
    put_place_valid = record {
      widths = widths_set c kp new_words (length-set_word (slice_set (part_of c kp) (2 * i) a) (2 * i + 1) z ∙ length-set_word (part_of c kp) (2 * i) a) ∙ v.widths;
      fits = fits_set c kp new_words (fit_set (slice_set (part_of c kp) (2 * i) a) (2 * i + 1) z fz (fit_set (part_of c kp) (2 * i) a fa (words_fit c kp v.fits))) v.fits;
      each = λ b m. elim (same_or_not (bucket_number buckets k) b) [
        | inl e ↦ subst (λ x. IsBucket buckets x (places_of (part_of put_place (bucket_part places x)))) e (subst (IsBucket buckets (bucket_number buckets k)) (sym new_places) ok)
        | inr n ↦ subst (λ ws. IsBucket buckets b (places_of ws)) (sym (other_keys b n)) (v.each b m)
      ];
    }

    pub values_stay : (b j : ℕ) → j < places → word_of put_place (bucket_part places b + 1 + j) 0 ≡ word_of c (bucket_part places b + 1 + j) 0
    values_stay b j m = ap (λ ws. slice_index_or ws 0 (pos 0)) (part_else c kp (bucket_part places b + 1 + j) new_words (λ e. key_not_value (bucket_number buckets k) b j m (sym e)))

    -- another key is found where it was
    pub found_alike :
        (x : ℤ) → is_here x (at (places_of (part_of c kp)) i) ≡ false → is_here x (a, z) ≡ false
        → find (part_of put_place (key_part buckets places x)) x ≡ find (part_of c (key_part buckets places x)) x
    found_alike x e f = elim (same_or_not (bucket_number buckets k) (bucket_number buckets x)) [
      | inl s ↦
          subst (λ b. find (part_of put_place (bucket_part places b)) x ≡ find (part_of c (bucket_part places b)) x) s
          (ap (first_from 0 (is_here x)) new_places ∙ set_other x 0 (places_of (part_of c kp)) i (a, z) e f)
      | inr n ↦ ap (λ ws. find ws x) (other_keys (bucket_number buckets x) n)
    ]

    pub value_alike :
        (x : ℤ) (o : Option ℕ) → ((j : ℕ) → o ≡ Some j → j < places)
        → value_found put_place (key_part buckets places x + 1) o ≡ value_found c (key_part buckets places x + 1) o
    value_alike x None w = refl
    value_alike x (Some j) w = ap Some (values_stay (bucket_number buckets x) j (w j refl))

  -- a remove of a key that is there
  module _ (c : Parts) (v : IsHash buckets places c) (k : ℤ) (i : ℕ) (e : find (part_of c (key_part buckets places k)) k ≡ Some i) where
    abbrev ss : List Place
    ss = places_of (part_of c (key_part buckets places k))

    abbrev pub old_key : ℤ
    old_key = slice_index_or (part_of c (key_part buckets places k)) (2 * i + 1) (pos 0)

    in_bucket : IsBucket buckets (bucket_number buckets k) ss
    in_bucket = v.each (bucket_number buckets k) (below k)

    fits_old : FitsSigned w64 old_key
    fits_old = word_fit (part_of c (key_part buckets places k)) (2 * i + 1) (words_fit c (key_part buckets places k) v.fits)

    zero_fits : FitsSigned w64 (pos 0)
    zero_fits = record { sfits = omega arith }

    not_present : (x : ℤ) → is_present (pos 0, x) ≡ false
    not_present x = refl

    removed_ok : IsBucket buckets (bucket_number buckets k) (slice_set ss i (pos 0, old_key))
    removed_ok = record {
      apart = apart_remove old_key ss i in_bucket.apart;
      own = own_set buckets (bucket_number buckets k) ss i (pos 0, old_key) in_bucket.own (λ t. let z : false ≡ true = t in cc);
    }

    abbrev pub without_place : Parts
    without_place = slice_set c (key_part buckets places k) (slice_set (slice_set (part_of c (key_part buckets places k)) (2 * i) (pos 0)) (2 * i + 1) old_key)

    here_is : (i < length ss) × (is_here k (at ss i) ≡ true)
    here_is = found_there (is_here k) ss i e

    pub removed_valid : IsHash buckets places without_place
    removed_valid = put_place_valid c v k (pos 0) old_key i (place_below c k i v e) zero_fits fits_old removed_ok

    none_left : find (part_of without_place (key_part buckets places k)) k ≡ None
    none_left =
        ap (first_from 0 (is_here k)) (new_places c v k (pos 0) old_key i (place_below c k i v e) zero_fits fits_old removed_ok)
        ∙ removed_none k old_key 0 ss i in_bucket.apart here_is.0 here_is.1

    pub removed_rows : rows_at without_place ≡ without (rows_at c) k
    removed_rows =
        rows_without c without_place k v removed_valid (ap (value_found without_place (key_part buckets places k + 1)) none_left)
        (λ x other.
        let gone : is_here x (at ss i) ≡ false = other_here x (at ss i) (λ q. other (sym (here_parts k (at ss i) here_is.1).1 ∙ q)) in
        let alike : find (part_of without_place (key_part buckets places x)) x ≡ find (part_of c (key_part buckets places x)) x =
        found_alike c v k (pos 0) old_key i (place_below c k i v e) zero_fits fits_old removed_ok x gone (absent_here x (pos 0, old_key) refl) in
        ap (value_found without_place (key_part buckets places x + 1)) alike
        ∙ value_alike c v k (pos 0) old_key i (place_below c k i v e) zero_fits fits_old removed_ok x (find (part_of c (key_part buckets places x)) x) (λ j s. place_below c x j v s))

  -- a put of a new key into a free place
  module _ (c : Parts) (v : IsHash buckets places c) (k y : ℤ) (i : ℕ) (fk : FitsSigned w64 k) (fy : FitsSigned w64 y)
      (e : find (part_of c (key_part buckets places k)) k ≡ None) (r : free (part_of c (key_part buckets places k)) ≡ Some i) where
    abbrev all_places : List Place
    all_places = places_of (part_of c (key_part buckets places k))

    room : i < places
    room = free_below c k i v r

    one_fits : FitsSigned w64 (pos 1)
    one_fits = record { sfits = omega arith }

    nowhere : IsNowhere k all_places
    nowhere = none_nowhere k 0 all_places e

    the_bucket : IsBucket buckets (bucket_number buckets k) all_places
    the_bucket = v.each (bucket_number buckets k) (below k)

    put_ok : IsBucket buckets (bucket_number buckets k) (slice_set all_places i (pos 1, k))
    put_ok = record {
      apart = apart_put k all_places i the_bucket.apart nowhere;
      own = own_set buckets (bucket_number buckets k) all_places i (pos 1, k) the_bucket.own (λ t. bucket_is buckets k);
    }

    abbrev pub with_key : Parts
    with_key = slice_set c (key_part buckets places k) (slice_set (slice_set (part_of c (key_part buckets places k)) (2 * i) (pos 1)) (2 * i + 1) k)

    pub with_key_valid : IsHash buckets places with_key
    with_key_valid = put_place_valid c v k (pos 1) k i room one_fits fk put_ok

    abbrev pub with_pair : Parts
    with_pair = slice_set with_key (key_part buckets places k + 1 + i) (y ∷ [])

    pub with_pair_valid : IsHash buckets places with_pair
    with_pair_valid = put_value_valid with_key with_key_valid k y i room fy

    free_there : (i < length all_places) × (is_free (at all_places i) ≡ true)
    free_there = found_there is_free all_places i r

    is_absent : is_present (at all_places i) ≡ false
    is_absent = not_true (is_present (at all_places i)) free_there.1
      where
        not_true : (b : Bool) → not b ≡ true → b ≡ false
        not_true true h = sym h
        not_true false h = refl

    now_found : find (part_of with_key (key_part buckets places k)) k ≡ Some i
    now_found =
        let t : at (slice_set all_places i (pos 1, k)) i ≡ (pos 1, k) = at-set all_places i (pos 1, k) free_there.0 in
        let n : 0 + i ≡ i = omega arith in
        ap (first_from 0 (is_here k)) (new_places c v k (pos 1) k i room one_fits fk put_ok)
        ∙ first_is k 0 (slice_set all_places i (pos 1, k)) i put_ok.apart (omega (arith, free_there.0, length-set all_places i (pos 1, k))) (ap (is_here k) t ∙ parts_here k (pos 1, k) refl refl) ∙ ap Some n

    pub put_rows : rows_at with_pair ≡ with_row (rows_at c) k y
    put_rows =
        rows_with c with_pair k y v with_pair_valid (own_value with_key with_key_valid k y i room fy now_found)
        (λ x other.
        let alike : find (part_of with_key (key_part buckets places x)) x ≡ find (part_of c (key_part buckets places x)) x =
        found_alike c v k (pos 1) k i room one_fits fk put_ok x (absent_here x (at all_places i) is_absent) (other_here x (pos 1, k) other) in
        let apart : (j : ℕ) → find (part_of with_key (key_part buckets places x)) x ≡ Some j → (bucket_number buckets k ≡ bucket_number buckets x) × (i ≡ j) → ⊥ =
        λ j s same.
        let there : is_here x (at (places_of (part_of c (key_part buckets places x))) j) ≡ true = (found_there (is_here x) (places_of (part_of c (key_part buckets places x))) j (sym alike ∙ s)).1 in
        let moved : is_here x (at all_places i) ≡ true =
        subst (λ b. is_here x (at (places_of (part_of c (bucket_part places b))) i) ≡ true) (sym same.0) (subst (λ z. is_here x (at (places_of (part_of c (key_part buckets places x))) z) ≡ true) (sym same.1) there) in
        let bad : true ≡ false = sym moved ∙ absent_here x (at all_places i) is_absent in cc
        in
        other_value with_key with_key_valid k y i room fy x apart ∙ ap (value_found with_key (key_part buckets places x + 1)) alike
        ∙ value_alike c v k (pos 1) k i room one_fits fk put_ok x (find (part_of c (key_part buckets places x)) x) (λ j s. place_below c x j v s))
