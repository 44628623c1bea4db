-- A hash table is lawful.
use Rattle.std.specs.Prelude.{◌≡◌, MatchOption, ◌<◌, ◌≤◌, ◌+◌, ◌*◌, ◌&&◌, ◌+ℤ◌, ℕ, zero, suc, ℤ, pos, nat_le, Bool, true, false, not, if◌then◌else◌, Option, Some, None, List, [], ◌∷◌, ◌++◌, map, length, replicate, slice_index_or, slice_set, count_by, is_some, IsSome, refl}
use Rattle.std.specs.Int.{w64, int_wrap}
use Rattle.std.specs.Int.RustNames.{FitsSigned}
use Rattle.std.specs.Ordering.{int_eq}
use Rattle.std.proofs.Common.{ap, sym, ◌∙◌, arith, subst, inl}
use Rattle.std.proofs.lemmas.Bool.Decides.{Decides-int_eq, nat_tests}
use Rattle.std.proofs.Math.Nat.{mul-le-mul_right}
use Rattle.std.proofs.lemmas.Int.{int_wrap_fits, ints}
use Rattle.sto_part.specs.Parts.{part_of, zeros}
use Rattle.sto_part.specs.Changes.{wrapped_sum, applied, applied_all}
use Rattle.sto_part.specs.Preds.{holds_of}
use Rattle.sto_part.specs.declared.change.Change.{Change}
use Rattle.sto_part.specs.declared.change.Change.TheVariants.{Keep, Put as PutWord}
use Rattle.sto_item.specs.declared.item.Item.{Item}
use Rattle.sto_item.specs.declared.item.Item.TheVariants.{Seen}
use Rattle.sto_item.specs.Agreement.{Agrees, AreTrueOf, IsTrueOf, word_of}
use Rattle.sto_model.specs.declared.call.Call.{Call}
use Rattle.sto_model.specs.declared.operation.Operation.{Operation}
use Rattle.sto_model.specs.declared.operation.Operation.TheVariants.{Get, Put, Remove, Has, Len}
use Rattle.sto_model.specs.declared.shape.Shape.TheVariants.{Hash}
use Rattle.sto_model.specs.Rows.{Row, value_at, has_key, with_row, without, keys_beside}
use Rattle.sto_model.specs.PlainReplies.{PlainReply, is_write}
use Rattle.sto_model.specs.PlainReplies as T
use Rattle.sto_model.specs.Calls.{call_of}
use Rattle.sto_model.specs.Objects.{effect, effect_of, value_or_absent}
use Rattle.sto_type.specs.Plans.{IsSaid, IsPlan, planned, said_is_plan}
use Rattle.sto_type.specs.declared.answer.Answer.{Answer}
use Rattle.sto_model.specs.SequentialObjects.{reply_to, state_after}
use Rattle.sto_type.specs.Known.{Parts, Known, IsPartOf, WordsFit, ContentsFit}
use Rattle.sto_type.specs.Meaning.{Meaning, IsLawful, IsNeed, IsUpdated, IsPartOfObject, EachKnown, EachInside, EachOwner}
use Rattle.sto_block.specs.Blocks.{Place, places_of, is_present, is_here, first_from, find, free, AreApart}
use Rattle.sto_block.specs.Found.{at, here_parts, parts_here, found_there, first_is, full_count, free_count}
use Rattle.sto_block.specs.Replaced.{place_changes, words_replaced, at_words, length-places, length-place_changes}
use Rattle.sto_hash.specs.HashedSteady.{hash_steady}
use Rattle.sto_hash.specs.Hashed.{bucket_part, bucket_number, key_part, value_part, hash_widths, homes_from, place_pairs, block_pairs, pairs_from, rows_of, AreOfBucket, IsBucket, IsHash, HashTakes, words_known, asked, asked_or, first_asked, value_asked, get_asked, hash_need, word_is, find_items, get_items, all_seen, found_known, known_total, hash_items, put_updates, put_told, remove_updates, hash_updates, hash_meaning}
use Rattle.sto_hash.specs.HashedCalls.{by_call}
use Rattle.sto_hash.specs.HashedChanges.{place_changes-change}
use Rattle.sto_hash.specs.HashedItems.{inside_find, inside_get, inside_seen}
use Rattle.sto_hash.specs.HashedRows.{value_found, beside_is, rows_length, present_total}
use Rattle.sto_hash.specs.HashedParts.{bucket_below, length-widths, part_below, part_there, key_width, value_width, value_is_word, words_fit, word_fit, length-homes, home_owner}
use Rattle.sto_hash.specs.HashedUpdates.{value_at_is, place_below, free_below, put_value_valid, put_over, removed_valid, removed_rows, with_key, with_key_valid, with_pair_valid, put_rows}

-- cases
by_option : {A P : Type 0} (o : Option A) → (o ≡ None → P) → ((i : A) → o ≡ Some i → P) → P
by_option None none some = none refl
by_option (Some i) none some = some i refl

asked_some : (p q : ℕ) (o : Option (List ℤ)) → asked p o ≡ Some q → (o ≡ None) × (q ≡ p)
asked_some p q None e = (refl, cc)
asked_some p q (Some ws) e = cc

asked_none : (p : ℕ) (o : Option (List ℤ)) → asked p o ≡ None → (ws : List ℤ) × (o ≡ Some ws)
asked_none p None e = cc
asked_none p (Some ws) e = (ws, refl)

get_none : (p : ℕ) (key : ℤ) (o : Option (List ℤ)) (k : Known) → get_asked p key o k ≡ None → (ws : List ℤ) × (o ≡ Some ws) × (value_asked p (find ws key) k ≡ None)
get_none p key None k e = cc
get_none p key (Some ws) k e = (ws, refl, e)

-- a predicate without a shift on a number of 64 bits
plain : (x : ℤ) → FitsSigned w64 x → wrapped_sum x (pos 0) ≡ x
plain x f = let e : x +ℤ pos 0 ≡ x = omega (arith, ints) in ap (int_wrap w64) e ∙ int_wrap_fits w64 x f

word_holds : (p w : ℕ) (b x : ℤ) → FitsSigned w64 x → holds_of (word_is p w b) x ≡ int_eq x b
word_holds p w b x f = ap (λ y. int_eq y b) (plain x f)

module _ (buckets places : ℕ) (some : 0 < buckets) where
  abbrev m : Meaning
  m = hash_meaning buckets places

  below : (k : ℤ) → bucket_number buckets k < buckets
  below k = bucket_below buckets k some

  abbrev kp : ℤ → ℕ
  kp key = key_part buckets places key

  owned : (object b r : ℕ) → b < buckets → r ≤ places → object ≡ 0 → IsPartOfObject (homes_from 0 (buckets * (1 + places))) object (b * (1 + places) + r)
  owned object b r l h o = record {
    in_range = let z = part_below buckets places b r l h in omega (arith, z, length-homes 0 (buckets * (1 + places)));
    owner = home_owner 0 (buckets * (1 + places)) (b * (1 + places) + r) (part_below buckets places b r l h) ∙ sym o;
  }

  own_bucket : (object b : ℕ) → b < buckets → object ≡ 0 → IsPartOfObject (homes_from 0 (buckets * (1 + places))) object (bucket_part places b)
  own_bucket object b l o =
      let z : b * (1 + places) + 0 ≡ bucket_part places b = omega arith in
      subst (IsPartOfObject (homes_from 0 (buckets * (1 + places))) object) z (owned object b 0 l (omega arith) o)

  own_value_part : (object b i : ℕ) → b < buckets → i < places → object ≡ 0 → IsPartOfObject (homes_from 0 (buckets * (1 + places))) object (value_part (bucket_part places b) i)
  own_value_part object b i l h o =
      let z : b * (1 + places) + suc i ≡ value_part (bucket_part places b) i = omega arith in
      subst (IsPartOfObject (homes_from 0 (buckets * (1 + places))) object) z (owned object b (suc i) l h o)

  key_in_range : (c : Parts) (key : ℤ) → IsHash buckets places c → kp key < length c
  key_in_range c key v =
      let z : bucket_number buckets key * (1 + places) + 0 ≡ kp key = omega arith in
      subst (λ p. p < length c) z (part_there buckets places c v.widths (bucket_number buckets key) 0 (below key) (omega arith))

  bucket_in_range : (c : Parts) (b : ℕ) → b < buckets → IsHash buckets places c → bucket_part places b < length c
  bucket_in_range c b l v =
      let z : b * (1 + places) + 0 ≡ bucket_part places b = omega arith in
      subst (λ p. p < length c) z (part_there buckets places c v.widths b 0 l (omega arith))

  value_in_range : (c : Parts) (key : ℤ) (i : ℕ) → i < places → IsHash buckets places c → value_part (kp key) i < length c
  value_in_range c key i l v =
      let z : bucket_number buckets key * (1 + places) + suc i ≡ value_part (kp key) i = omega arith in
      subst (λ p. p < length c) z (part_there buckets places c v.widths (bucket_number buckets key) (suc i) (below key) l)

  -- what is known of a key part
  known_keys : (k : Known) (d : Parts) (key : ℤ) (ws : List ℤ) → IsHash buckets places d → IsPartOf k d → k (kp key) ≡ Some ws → part_of d (kp key) ≡ ws
  known_keys k d key ws v part e = part.same (kp key) ws (key_in_range d key v) e

  found_is : (k : Known) (d : Parts) (key : ℤ) (ws : List ℤ) → IsHash buckets places d → IsPartOf k d → k (kp key) ≡ Some ws → found_known buckets places key k ≡ find (part_of d (kp key)) key
  found_is k d key ws v part e = ap (λ o. find (words_known o) key) e ∙ ap (λ l. find l key) (sym (known_keys k d key ws v part e))

  -- the needs
  need_key : (k : Known) (p object : ℕ) (key : ℤ) → object ≡ 0 → asked (kp key) (k (kp key)) ≡ Some p → IsNeed m (call_of object Get key (pos 0)) k p
  need_key k p object key o e =
      let h : (k (kp key) ≡ None) × (p ≡ kp key) = asked_some (kp key) p (k (kp key)) e in
      record { unknown = subst (λ x. k x ≡ None) (sym h.1) h.0; owned = subst (IsPartOfObject m.homes object) (sym h.1) (own_bucket object (bucket_number buckets key) (below key) o) }

  abbrev Needed : Call → Known → ℕ → Type 0
  Needed call k p = (k p ≡ None) × IsPartOfObject m.homes call.object p

  needed_key : (call : Call) (k : Known) (p : ℕ) → call.object ≡ 0 → asked (kp call.a) (k (kp call.a)) ≡ Some p → Needed call k p
  needed_key call k p o e =
      let h : (k (kp call.a) ≡ None) × (p ≡ kp call.a) = asked_some (kp call.a) p (k (kp call.a)) e in
      (subst (λ x. k x ≡ None) (sym h.1) h.0, subst (IsPartOfObject m.homes call.object) (sym h.1) (own_bucket call.object (bucket_number buckets call.a) (below call.a) o))

  needed_value : (call : Call) (k : Known) (d : Parts) (p : ℕ) (q : Option ℕ) → call.object ≡ 0 → IsHash buckets places d → find (part_of d (kp call.a)) call.a ≡ q → value_asked (kp call.a) q k ≡ Some p → Needed call k p
  needed_value call k d p None o v f e = cc
  needed_value call k d p (Some i) o v f e =
      let h : (k (value_part (kp call.a) i) ≡ None) × (p ≡ value_part (kp call.a) i) = asked_some (value_part (kp call.a) i) p (k (value_part (kp call.a) i)) e in (
        subst (λ x. k x ≡ None) (sym h.1) h.0,
        subst (IsPartOfObject m.homes call.object) (sym h.1) (own_value_part call.object (bucket_number buckets call.a) i (below call.a) (place_below buckets places some d call.a i v f) o),
      )

  needed_get : (call : Call) (k : Known) (d : Parts) (p : ℕ) (q : Option (List ℤ)) → call.object ≡ 0 → IsHash buckets places d → IsPartOf k d → k (kp call.a) ≡ q → get_asked (kp call.a) call.a q k ≡ Some p → Needed call k p
  needed_get call k d p None o v part s e =
      let h : kp call.a ≡ p = some_same (kp call.a) p e in
      (subst (λ x. k x ≡ None) h s, subst (IsPartOfObject m.homes call.object) h (own_bucket call.object (bucket_number buckets call.a) (below call.a) o))
    where
      some_same : (x y : ℕ) → Some x ≡ Some y → x ≡ y
      some_same x y e = cc
  needed_get call k d p (Some ws) o v part s e = needed_value call k d p (find ws call.a) o v (ap (λ l. find l call.a) (known_keys k d call.a ws v part s)) e

  needed_len : (object : ℕ) (k : Known) (p b n : ℕ) → object ≡ 0 → b + n ≤ buckets → first_asked places k b n ≡ Some p → (k p ≡ None) × IsPartOfObject m.homes object p
  needed_len object k p b zero o l e = cc
  needed_len object k p b (suc n) o l e =
      by_option (k (bucket_part places b))
      (λ q.
      let f : Some (bucket_part places b) ≡ Some p = sym (ap (λ x. asked_or (bucket_part places b) x (first_asked places k (suc b) n)) q) ∙ e in
      let same : bucket_part places b ≡ p = cc in
      (subst (λ x. k x ≡ None) same q, subst (IsPartOfObject m.homes object) same (own_bucket object b (omega (arith, l)) o)))
      (λ ws q. needed_len object k p (suc b) n o (omega (arith, l)) (sym (ap (λ x. asked_or (bucket_part places b) x (first_asked places k (suc b) n)) q) ∙ e))

  abbrev Needs : Call → Type 0
  Needs call = (k : Known) (d : Parts) (p : ℕ) → IsHash buckets places d → IsPartOf k d → m.need call k ≡ Some p → Needed call k p

  needs : (call : Call) → HashTakes buckets call → Needs call
  needs = by_call buckets Needs
      (λ a b k d p v part e. needed_get (call_of 0 Get a b) k d p (k (kp a)) refl v part refl e)
      (λ a b fa fb k d p v part e. needed_key (call_of 0 Put a b) k p refl e)
      (λ a b k d p v part e. needed_key (call_of 0 Remove a b) k p refl e)
      (λ a b k d p v part e. needed_key (call_of 0 Has a b) k p refl e)
      (λ a b k d p v part e. needed_len 0 k p 0 buckets refl (omega arith) e)

  -- the items are of known parts
  is_known : (k : Known) (p : ℕ) (ws : List ℤ) → k p ≡ Some ws → IsSome (k p)
  is_known k p ws e = rw e refl

  find_known : (k : Known) (key : ℤ) (o : Option ℕ) (ws : List ℤ) → k (kp key) ≡ Some ws → EachKnown m.homes 0 k (find_items (kp key) key o)
  find_known k key None ws e = (own_bucket 0 (bucket_number buckets key) (below key) refl, is_known k (kp key) ws e, tt)
  find_known k key (Some i) ws e =
      let own : IsPartOfObject m.homes 0 (kp key) = own_bucket 0 (bucket_number buckets key) (below key) refl in
      (own, is_known k (kp key) ws e, (own, is_known k (kp key) ws e, tt))

  get_known :
      (k : Known) (key : ℤ) (o : Option ℕ) (ws : List ℤ) → k (kp key) ≡ Some ws → ((i : ℕ) → o ≡ Some i → i < places) → value_asked (kp key) o k ≡ None
      → EachKnown m.homes 0 k (get_items (kp key) key o)
  get_known k key None ws e w n = (own_bucket 0 (bucket_number buckets key) (below key) refl, is_known k (kp key) ws e, tt)
  get_known k key (Some i) ws e w n =
      let own : IsPartOfObject m.homes 0 (kp key) = own_bucket 0 (bucket_number buckets key) (below key) refl in
      let s : (vs : List ℤ) × (k (value_part (kp key) i) ≡ Some vs) = asked_none (value_part (kp key) i) (k (value_part (kp key) i)) n in
      (own, is_known k (kp key) ws e, (own, is_known k (kp key) ws e, (own_value_part 0 (bucket_number buckets key) i (below key) (w i refl) refl, is_known k (value_part (kp key) i) s.0 s.1, tt)))

  len_known : (k : Known) (b n : ℕ) → b + n ≤ buckets → first_asked places k b n ≡ None → EachKnown m.homes 0 k (all_seen places b n)
  len_known k b zero l e = tt
  len_known k b (suc n) l e =
      by_option (k (bucket_part places b))
      (λ q. let f : Some (bucket_part places b) ≡ None = sym (ap (λ x. asked_or (bucket_part places b) x (first_asked places k (suc b) n)) q) ∙ e in cc)
      (λ ws q. (
        own_bucket 0 b (omega (arith, l)) refl,
        is_known k (bucket_part places b) ws q,
        len_known k (suc b) n (omega (arith, l)) (sym (ap (λ x. asked_or (bucket_part places b) x (first_asked places k (suc b) n)) q) ∙ e),
      ))

  -- what is known of the parts of a get
  get_ready :
      (k : Known) (d : Parts) (key : ℤ) → IsHash buckets places d → IsPartOf k d → get_asked (kp key) key (k (kp key)) k ≡ None
      → (ws : List ℤ) × (k (kp key) ≡ Some ws) × (found_known buckets places key k ≡ find (part_of d (kp key)) key) × (value_asked (kp key) (find (part_of d (kp key)) key) k ≡ None)
  get_ready k d key v part e =
      let g : (ws : List ℤ) × (k (kp key) ≡ Some ws) × (value_asked (kp key) (find ws key) k ≡ None) = get_none (kp key) key (k (kp key)) k e in
      (g.0, g.1, found_is k d key g.0 v part g.1, subst (λ ws. value_asked (kp key) (find ws key) k ≡ None) (sym (known_keys k d key g.0 v part g.1)) g.2)

  key_ready :
      (k : Known) (d : Parts) (key : ℤ) → IsHash buckets places d → IsPartOf k d → asked (kp key) (k (kp key)) ≡ None
      → (ws : List ℤ) × (k (kp key) ≡ Some ws) × (found_known buckets places key k ≡ find (part_of d (kp key)) key)
  key_ready k d key v part e =
      let g : (ws : List ℤ) × (k (kp key) ≡ Some ws) = asked_none (kp key) (k (kp key)) e in
      (g.0, g.1, found_is k d key g.0 v part g.1)

  abbrev Knows : Call → Type 0
  Knows call = (k : Known) (d : Parts) → IsHash buckets places d → IsPartOf k d → m.need call k ≡ None → EachKnown m.homes call.object k (m.items call k)

  knows_key : (k : Known) (d : Parts) (key : ℤ) → IsHash buckets places d → IsPartOf k d → asked (kp key) (k (kp key)) ≡ None → EachKnown m.homes 0 k (find_items (kp key) key (found_known buckets places key k))
  knows_key k d key v part e =
      let g : (ws : List ℤ) × (k (kp key) ≡ Some ws) × (found_known buckets places key k ≡ find (part_of d (kp key)) key) = key_ready k d key v part e in
      find_known k key (found_known buckets places key k) g.0 g.1

  knows : (call : Call) → HashTakes buckets call → Knows call
  knows = by_call buckets Knows
      (λ a b k d v part e.
      let g : (ws : List ℤ) × (k (kp a) ≡ Some ws) × (found_known buckets places a k ≡ find (part_of d (kp a)) a) × (value_asked (kp a) (find (part_of d (kp a)) a) k ≡ None) = get_ready k d a v part e in
      subst (λ o. EachKnown m.homes 0 k (get_items (kp a) a o)) (sym g.2) (get_known k a (find (part_of d (kp a)) a) g.0 g.1 (λ i s. place_below buckets places some d a i v s) g.3))
      (λ a b fa fb k d v part e. knows_key k d a v part e)
      (λ a b k d v part e. knows_key k d a v part e)
      (λ a b k d v part e. knows_key k d a v part e)
      (λ a b k d v part e. len_known k 0 buckets (omega arith) e)

  -- the predicates name words of their parts
  abbrev Inside : Call → Type 0
  Inside call = (k : Known) (d : Parts) → IsHash buckets places d → IsPartOf k d → m.need call k ≡ None → EachInside m.widths (m.items call k)

  inside_key : (k : Known) (d : Parts) (key : ℤ) → IsHash buckets places d → IsPartOf k d → asked (kp key) (k (kp key)) ≡ None → EachInside m.widths (find_items (kp key) key (found_known buckets places key k))
  inside_key k d key v part e =
      let g : (ws : List ℤ) × (k (kp key) ≡ Some ws) × (found_known buckets places key k ≡ find (part_of d (kp key)) key) = key_ready k d key v part e in
      inside_find buckets places some key (found_known buckets places key k) (λ i s. place_below buckets places some d key i v (sym g.2 ∙ s))

  inside : (call : Call) → HashTakes buckets call → Inside call
  inside = by_call buckets Inside
      (λ a b k d v part e.
      let g = get_ready k d a v part e in
      inside_get buckets places some a (found_known buckets places a k) (λ i s. place_below buckets places some d a i v (sym g.2 ∙ s)))
      (λ a b fa fb k d v part e. inside_key k d a v part e)
      (λ a b k d v part e. inside_key k d a v part e)
      (λ a b k d v part e. inside_key k d a v part e)
      (λ a b k d v part e. inside_seen buckets places some 0 buckets)

  -- the items are true
  place_words : (d : Parts) (key : ℤ) (i : ℕ) → IsHash buckets places d → i < places → at (places_of (part_of d (kp key))) i ≡ (word_of d (kp key) (2 * i), word_of d (kp key) (2 * i + 1))
  place_words d key i v l = at_words (part_of d (kp key)) i (let z = key_width buckets places d v.widths (bucket_number buckets key) (below key) in omega (arith, z, l))

  fits_word : (d : Parts) (p w : ℕ) → IsHash buckets places d → FitsSigned w64 (word_of d p w)
  fits_word d p w v = word_fit (part_of d p) w (words_fit d p v.fits)

  word_true : (d : Parts) (p w : ℕ) (x : ℤ) → IsHash buckets places d → word_of d p w ≡ x → IsTrueOf d (word_is p w x)
  word_true d p w x v e = word_holds p w x (word_of d p w) (fits_word d p w v) ∙ (Decides-int_eq (word_of d p w) x).1 e

  true_word : (d : Parts) (p w : ℕ) (x : ℤ) → IsHash buckets places d → IsTrueOf d (word_is p w x) → word_of d p w ≡ x
  true_word d p w x v h = (Decides-int_eq (word_of d p w) x).0 (sym (word_holds p w x (word_of d p w) (fits_word d p w v)) ∙ h)

  words_here : (d : Parts) (key : ℤ) (i : ℕ) → IsHash buckets places d → find (part_of d (kp key)) key ≡ Some i → (word_of d (kp key) (2 * i) ≡ pos 1) × (word_of d (kp key) (2 * i + 1) ≡ key)
  words_here d key i v e =
      let h : is_here key (at (places_of (part_of d (kp key))) i) ≡ true = (found_there (is_here key) (places_of (part_of d (kp key))) i e).1 in
      let w : at (places_of (part_of d (kp key))) i ≡ (word_of d (kp key) (2 * i), word_of d (kp key) (2 * i + 1)) = place_words d key i v (place_below buckets places some d key i v e) in
      let p = here_parts key (at (places_of (part_of d (kp key))) i) h in
      (sym (ap (λ s. s.0) w) ∙ p.0, sym (ap (λ s. s.1) w) ∙ p.1)

  find_true : (d : Parts) (key : ℤ) (o : Option ℕ) → IsHash buckets places d → find (part_of d (kp key)) key ≡ o → AreTrueOf d (find_items (kp key) key o)
  find_true d key None v e = (refl, tt)
  find_true d key (Some i) v e = let w = words_here d key i v e in (word_true d (kp key) (2 * i) (pos 1) v w.0, (word_true d (kp key) (2 * i + 1) key v w.1, tt))

  get_true : (d : Parts) (key : ℤ) (o : Option ℕ) → IsHash buckets places d → find (part_of d (kp key)) key ≡ o → AreTrueOf d (get_items (kp key) key o)
  get_true d key None v e = (refl, tt)
  get_true d key (Some i) v e = let w = words_here d key i v e in (word_true d (kp key) (2 * i) (pos 1) v w.0, (word_true d (kp key) (2 * i + 1) key v w.1, (refl, tt)))

  seen_true : (d : Parts) (b n : ℕ) → AreTrueOf d (all_seen places b n)
  seen_true d b zero = tt
  seen_true d b (suc n) = (refl, seen_true d (suc b) n)

  abbrev HoldsOf : Call → Type 0
  HoldsOf call = (k : Known) (d : Parts) → IsHash buckets places d → IsPartOf k d → m.need call k ≡ None → AreTrueOf d (m.items call k)

  holds_key : (k : Known) (d : Parts) (key : ℤ) → IsHash buckets places d → IsPartOf k d → asked (kp key) (k (kp key)) ≡ None → AreTrueOf d (find_items (kp key) key (found_known buckets places key k))
  holds_key k d key v part e =
      let g : (ws : List ℤ) × (k (kp key) ≡ Some ws) × (found_known buckets places key k ≡ find (part_of d (kp key)) key) = key_ready k d key v part e in
      find_true d key (found_known buckets places key k) v (sym g.2)

  holds : (call : Call) → HashTakes buckets call → HoldsOf call
  holds = by_call buckets HoldsOf
      (λ a b k d v part e. let g = get_ready k d a v part e in get_true d a (found_known buckets places a k) v (sym g.2))
      (λ a b fa fb k d v part e. holds_key k d a v part e)
      (λ a b k d v part e. holds_key k d a v part e)
      (λ a b k d v part e. holds_key k d a v part e)
      (λ a b k d v part e. seen_true d 0 buckets)

  -- what agrees on a key finds it alike
  number_below : (c : Parts) (key : ℤ) (i : ℕ) → IsHash buckets places c → i < places → i < length (places_of (part_of c (kp key)))
  number_below c key i v l =
      let long = length-places (part_of c (kp key)) places (key_width buckets places c v.widths (bucket_number buckets key) (below key)) in omega (arith, l, long)

  same_find_by :
      (d e : Parts) (key : ℤ) (o : Option ℕ) → IsHash buckets places d → IsHash buckets places e → find (part_of d (kp key)) key ≡ o → Agrees e (find_items (kp key) key o) d → find (part_of e (kp key)) key ≡ o
  same_find_by d e key None v w f g = ap (λ ws. find ws key) g.0 ∙ f
  same_find_by d e key (Some i) v w f g =
      let l : i < places = place_below buckets places some d key i v f in
      let first : word_of e (kp key) (2 * i) ≡ pos 1 = true_word e (kp key) (2 * i) (pos 1) w g.0 in
      let second : word_of e (kp key) (2 * i + 1) ≡ key = true_word e (kp key) (2 * i + 1) key w g.1.0 in
      let place : at (places_of (part_of e (kp key))) i ≡ (word_of e (kp key) (2 * i), word_of e (kp key) (2 * i + 1)) = place_words e key i w l in
      let there : is_here key (at (places_of (part_of e (kp key))) i) ≡ true = parts_here key (at (places_of (part_of e (kp key))) i) (ap (λ s. s.0) place ∙ first) (ap (λ s. s.1) place ∙ second) in
      let n : 0 + i ≡ i = omega arith in
      first_is key 0 (places_of (part_of e (kp key))) i (w.each (bucket_number buckets key) (below key)).apart (number_below e key i w l) there ∙ ap Some n

  same_find : (d e : Parts) (key : ℤ) → IsHash buckets places d → IsHash buckets places e → Agrees e (find_items (kp key) key (find (part_of d (kp key)) key)) d → find (part_of e (kp key)) key ≡ find (part_of d (kp key)) key
  same_find d e key v w g = same_find_by d e key (find (part_of d (kp key)) key) v w refl g

  -- replies, by what is found
  abbrev looked : Parts → ℤ → Option ℤ
  looked c key = value_found c (kp key + 1) (find (part_of c (kp key)) key)

  is_some_found : (c : Parts) (p : ℕ) (o : Option ℕ) → is_some (value_found c p o) ≡ is_some o
  is_some_found c p None = refl
  is_some_found c p (Some i) = refl

  abbrev rows_in : Parts → List Row
  rows_in c = rows_of (pairs_from places c 0 buckets)

  has_key_is : (c : Parts) (key : ℤ) → IsHash buckets places c → has_key (rows_in c) key ≡ is_some (find (part_of c (kp key)) key)
  has_key_is c key v = ap is_some (value_at_is buckets places some c key v) ∙ is_some_found c (kp key + 1) (find (part_of c (kp key)) key)

  get_reply : (c : Parts) (a b : ℤ) → IsHash buckets places c → reply_to m.machines (call_of 0 Get a b) (m.rows c) ≡ value_or_absent (looked c a)
  get_reply c a b v = ap value_or_absent (value_at_is buckets places some c a v)

  has_reply : (c : Parts) (a b : ℤ) → IsHash buckets places c → reply_to m.machines (call_of 0 Has a b) (m.rows c) ≡ T.Flag (is_some (find (part_of c (kp a)) a))
  has_reply c a b v = ap T.Flag (has_key_is c a v)

  len_reply : (c : Parts) (a b : ℤ) → IsHash buckets places c → reply_to m.machines (call_of 0 Len a b) (m.rows c) ≡ T.Value (pos (present_total places c 0 buckets))
  len_reply c a b v = ap (λ n. T.Value (pos n)) (rows_length buckets places c v.each)

  told_remove : (z : Bool) (key : ℤ) (rows : List Row) → (if z then effect (T.Flag true) (without rows key) else effect (T.Flag false) rows).reply ≡ T.Flag z
  told_remove true key rows = refl
  told_remove false key rows = refl

  remove_reply : (c : Parts) (a b : ℤ) → IsHash buckets places c → reply_to m.machines (call_of 0 Remove a b) (m.rows c) ≡ T.Flag (is_some (find (part_of c (kp a)) a))
  remove_reply c a b v = told_remove (has_key (rows_in c) a) a (rows_in c) ∙ ap T.Flag (has_key_is c a v)

  -- a put finds no room
  abbrev is_full : List ℤ → ℤ → Bool
  is_full ws key = not (is_some (find ws key)) && nat_le places (count_by is_present (places_of ws))

  is_full-is : (c : Parts) (a : ℤ) → IsHash buckets places c → (not (has_key (rows_in c) a) && nat_le places (keys_beside (rows_in c) buckets a)) ≡ is_full (part_of c (kp a)) a
  is_full-is c a v = λ i. not (has_key_is c a v i) && nat_le places (beside_is buckets places c a v.each (below a) i)

  told_put : (z : Bool) (a b : ℤ) (rows : List Row) → (if z then effect T.Full rows else effect T.Done (with_row rows a b)).reply ≡ (if z then T.Full else T.Done)
  told_put true a b rows = refl
  told_put false a b rows = refl

  put_reply : (c : Parts) (a b : ℤ) → IsHash buckets places c → reply_to m.machines (call_of 0 Put a b) (m.rows c) ≡ (if is_full (part_of c (kp a)) a then T.Full else T.Done)
  put_reply c a b v =
      told_put (not (has_key (rows_in c) a) && nat_le places (keys_beside (rows_in c) buckets a)) a b (rows_in c) ∙ ap (λ z. if z then T.Full else T.Done) (is_full-is c a v)

  put_after : (c : Parts) (a b : ℤ) (z : Bool) → IsHash buckets places c → is_full (part_of c (kp a)) a ≡ z → state_after m.machines (call_of 0 Put a b) (m.rows c) ≡ (if z then effect T.Full (rows_in c) else effect T.Done (with_row (rows_in c) a b)).after ∷ []
  put_after c a b z v e = ap (λ y. (if y then effect T.Full (rows_in c) else effect T.Done (with_row (rows_in c) a b)).after ∷ []) (is_full-is c a v ∙ e)

  remove_after : (c : Parts) (a b : ℤ) (z : Bool) → IsHash buckets places c → is_some (find (part_of c (kp a)) a) ≡ z → state_after m.machines (call_of 0 Remove a b) (m.rows c) ≡ (if z then effect (T.Flag true) (without (rows_in c) a) else effect (T.Flag false) (rows_in c)).after ∷ []
  remove_after c a b z v e = ap (λ y. (if y then effect (T.Flag true) (without (rows_in c) a) else effect (T.Flag false) (rows_in c)).after ∷ []) (has_key_is c a v ∙ e)

  full_of_found : (ws : List ℤ) (key : ℤ) (i : ℕ) → find ws key ≡ Some i → is_full ws key ≡ false
  full_of_found ws key i e = ap (λ o. not (is_some o) && nat_le places (count_by is_present (places_of ws))) e

  full_of_none : (ws : List ℤ) (key : ℤ) → find ws key ≡ None → is_full ws key ≡ nat_le places (count_by is_present (places_of ws))
  full_of_none ws key e = ap (λ o. not (is_some o) && nat_le places (count_by is_present (places_of ws))) e

  -- the same reply
  same_get_by :
      (d e : Parts) (key : ℤ) (o : Option ℕ) → IsHash buckets places d → IsHash buckets places e → find (part_of d (kp key)) key ≡ o → Agrees e (get_items (kp key) key o) d → looked e key ≡ looked d key
  same_get_by d e key None v w f g =
      let h : find (part_of e (kp key)) key ≡ None = same_find_by d e key None v w f (g.0, tt) in
      ap (value_found e (kp key + 1)) h ∙ sym (ap (value_found d (kp key + 1)) f)
  same_get_by d e key (Some i) v w f g =
      let h : find (part_of e (kp key)) key ≡ Some i = same_find_by d e key (Some i) v w f (g.0, (g.1.0, tt)) in
      let value : word_of e (kp key + 1 + i) 0 ≡ word_of d (kp key + 1 + i) 0 = ap (λ ws. slice_index_or ws 0 (pos 0)) g.1.1.0 in
      ap (value_found e (kp key + 1)) h ∙ ap Some value ∙ sym (ap (value_found d (kp key + 1)) f)

  same_full_by : (d e : Parts) (key : ℤ) (o : Option ℕ) → IsHash buckets places d → IsHash buckets places e → find (part_of d (kp key)) key ≡ o → Agrees e (find_items (kp key) key o) d → is_full (part_of e (kp key)) key ≡ is_full (part_of d (kp key)) key
  same_full_by d e key None v w f g = ap (λ ws. is_full ws key) g.0
  same_full_by d e key (Some i) v w f g =
      full_of_found (part_of e (kp key)) key i (same_find_by d e key (Some i) v w f g) ∙ sym (full_of_found (part_of d (kp key)) key i f)

  same_total : (d e : Parts) (b n : ℕ) → Agrees e (all_seen places b n) d → present_total places e b n ≡ present_total places d b n
  same_total d e b zero g = refl
  same_total d e b (suc n) g = λ i. count_by is_present (places_of (g.0 i)) + same_total d e (suc b) n g.1 i

  abbrev own_agreement : (Option ℕ → List Item) → (k : Known) (d e : Parts) (key : ℤ) → Type 0
  own_agreement items k d e key = Agrees e (items (found_known buckets places key k)) d

  key_agreement :
      (k : Known) (d e : Parts) (key : ℤ) → IsHash buckets places d → IsPartOf k d → asked (kp key) (k (kp key)) ≡ None → Agrees e (find_items (kp key) key (found_known buckets places key k)) d
      → Agrees e (find_items (kp key) key (find (part_of d (kp key)) key)) d
  key_agreement k d e key v part n g = let r = key_ready k d key v part n in subst (λ o. Agrees e (find_items (kp key) key o) d) r.2 g

  get_agreement :
      (k : Known) (d e : Parts) (key : ℤ) → IsHash buckets places d → IsPartOf k d → get_asked (kp key) key (k (kp key)) k ≡ None → Agrees e (get_items (kp key) key (found_known buckets places key k)) d
      → Agrees e (get_items (kp key) key (find (part_of d (kp key)) key)) d
  get_agreement k d e key v part n g = let r = get_ready k d key v part n in subst (λ o. Agrees e (get_items (kp key) key o) d) r.2 g

  abbrev SameReply : Call → Type 0
  SameReply call =
      (k : Known) (d e : Parts) → IsHash buckets places d → IsHash buckets places e → IsPartOf k d → m.need call k ≡ None → Agrees e (m.items call k) d
      → reply_to m.machines call (m.rows e) ≡ reply_to m.machines call (m.rows d)

  same_reply : (call : Call) → HashTakes buckets call → SameReply call
  same_reply = by_call buckets SameReply
      (λ a b k d e v w part n g. get_reply e a b w ∙ ap value_or_absent (same_get_by d e a (find (part_of d (kp a)) a) v w refl (get_agreement k d e a v part n g)) ∙ sym (get_reply d a b v))
      (λ a b fa fb k d e v w part n g.
      put_reply e a b w ∙ ap (λ z. if z then T.Full else T.Done) (same_full_by d e a (find (part_of d (kp a)) a) v w refl (key_agreement k d e a v part n g)) ∙ sym (put_reply d a b v))
      (λ a b k d e v w part n g. remove_reply e a b w ∙ ap (λ o. T.Flag (is_some o)) (same_find d e a v w (key_agreement k d e a v part n g)) ∙ sym (remove_reply d a b v))
      (λ a b k d e v w part n g. has_reply e a b w ∙ ap (λ o. T.Flag (is_some o)) (same_find d e a v w (key_agreement k d e a v part n g)) ∙ sym (has_reply d a b v))
      (λ a b k d e v w part n g. len_reply e a b w ∙ ap (λ x. T.Value (pos x)) (same_total d e 0 buckets g) ∙ sym (len_reply d a b v))

  -- the same updates
  same_put_by :
      (d e : Parts) (key y : ℤ) (o : Option ℕ) → IsHash buckets places d → IsHash buckets places e → find (part_of d (kp key)) key ≡ o → Agrees e (find_items (kp key) key o) d
      → put_updates places (kp key) key y (find (part_of e (kp key)) key) (free (part_of e (kp key))) ≡ put_updates places (kp key) key y (find (part_of d (kp key)) key) (free (part_of d (kp key)))
  same_put_by d e key y None v w f g = ap (λ ws. put_updates places (kp key) key y (find ws key) (free ws)) g.0
  same_put_by d e key y (Some i) v w f g =
      ap (λ o. put_updates places (kp key) key y o (free (part_of e (kp key)))) (same_find_by d e key (Some i) v w f g) ∙ sym (ap (λ o. put_updates places (kp key) key y o (free (part_of d (kp key)))) f)

  abbrev SameUpdates : Call → Type 0
  SameUpdates call =
      (k : Known) (d e : Parts) → IsHash buckets places d → IsHash buckets places e → IsPartOf k d → m.need call k ≡ None → Agrees e (m.items call k) d → m.updates call e ≡ m.updates call d

  same_updates : (call : Call) → HashTakes buckets call → SameUpdates call
  same_updates = by_call buckets SameUpdates
      (λ a b k d e v w part n g. refl)
      (λ a b fa fb k d e v w part n g. same_put_by d e a b (find (part_of d (kp a)) a) v w refl (key_agreement k d e a v part n g))
      (λ a b k d e v w part n g. ap (remove_updates places (kp a)) (same_find d e a v w (key_agreement k d e a v part n g)))
      (λ a b k d e v w part n g. refl)
      (λ a b k d e v w part n g. refl)

  -- the updates
  left_alone : (call : Call) (c : Parts) → IsHash buckets places c → m.rows c ≡ state_after m.machines call (m.rows c) → is_write call.operation (reply_to m.machines call (m.rows c)) ≡ false → IsUpdated m call c []
  left_alone call c v r z = record { ordered = (tt, tt); owned = tt; widths = tt; valid = v; rows = r; writes = z }

  no_write : (o : Option ℤ) → is_write Get (value_or_absent o) ≡ false
  no_write None = refl
  no_write (Some x) = refl

  -- a value put at a place
  value_changed : (c : Parts) (key y : ℤ) (i : ℕ) → IsHash buckets places c → i < places → slice_set c (value_part (kp key) i) (applied_all (PutWord y ∷ []) (part_of c (value_part (kp key) i))) ≡ slice_set c (kp key + 1 + i) (y ∷ [])
  value_changed c key y i v l = ap (λ ws. slice_set c (kp key + 1 + i) (applied_all (PutWord y ∷ []) ws)) (value_is_word buckets places c v.widths (bucket_number buckets key) i (below key) l)

  value_one : (c : Parts) (key : ℤ) (i : ℕ) → IsHash buckets places c → i < places → length (part_of c (value_part (kp key) i)) ≡ 1
  value_one c key i v l = value_width buckets places c v.widths (bucket_number buckets key) i (below key) l

  updated_over : (c : Parts) (a b : ℤ) (i : ℕ) → IsHash buckets places c → FitsSigned w64 b → find (part_of c (kp a)) a ≡ Some i → IsUpdated m (call_of 0 Put a b) c ((value_part (kp a) i, PutWord b ∷ []) ∷ [])
  updated_over c a b i v fb e =
      let l : i < places = place_below buckets places some c a i v e in
      let same = value_changed c a b i v l in
      let full : is_full (part_of c (kp a)) a ≡ false = full_of_found (part_of c (kp a)) a i e in
      record {
        ordered = ((omega arith, tt), (refl, tt));
        owned = (own_value_part 0 (bucket_number buckets a) i (below a) l refl, tt);
        widths = (value_in_range c a i l v, value_one c a i v l, tt);
        valid = subst (IsHash buckets places) (sym same) (put_value_valid buckets places some c v a b i l fb);
        rows = ap (λ d. rows_in d ∷ []) same ∙ ap (λ rows. rows ∷ []) (put_over buckets places some c v a b i l fb e) ∙ sym (put_after c a b false v full);
        writes = ap (is_write Put) (put_reply c a b v ∙ ap (λ z. if z then T.Full else T.Done) full);
      }

  key_changed :
      (c : Parts) (key x y : ℤ) (i : ℕ) (present second : Change) → i < places → applied present (slice_index_or (part_of c (kp key)) (2 * i) (pos 0)) ≡ x → applied second (slice_index_or (part_of c (kp key)) (2 * i + 1) (pos 0)) ≡ y
      → slice_set c (kp key) (applied_all (place_changes places i present second) (part_of c (kp key))) ≡ slice_set c (kp key) (slice_set (slice_set (part_of c (kp key)) (2 * i) x) (2 * i + 1) y)
  key_changed c key x y i present second l e f =
      ap (slice_set c (kp key)) (words_replaced places i present second (part_of c (kp key)) l) ∙ (λ j. slice_set c (kp key) (slice_set (slice_set (part_of c (kp key)) (2 * i) (e j)) (2 * i + 1) (f j)))

  key_wide : (c : Parts) (key : ℤ) (i : ℕ) (present second : Change) → IsHash buckets places c → length (part_of c (kp key)) ≡ length (place_changes places i present second)
  key_wide c key i present second v = key_width buckets places c v.widths (bucket_number buckets key) (below key) ∙ sym (length-place_changes places i present second)

  updated_new :
      (c : Parts) (a b : ℤ) (i : ℕ) → IsHash buckets places c → FitsSigned w64 a → FitsSigned w64 b → find (part_of c (kp a)) a ≡ None → free (part_of c (kp a)) ≡ Some i
      → IsUpdated m (call_of 0 Put a b) c ((kp a, place_changes places i (PutWord (pos 1)) (PutWord a)) ∷ (value_part (kp a) i, PutWord b ∷ []) ∷ [])
  updated_new c a b i v fa fb e r =
      let l : i < places = free_below buckets places some c a i v r in
      let w : IsHash buckets places (with_key buckets places some c v a b i fa fb e r) = with_key_valid buckets places some c v a b i fa fb e r in
      let keys = key_changed c a (pos 1) a i (PutWord (pos 1)) (PutWord a) l refl refl in
      let first = ap (λ d. slice_set d (value_part (kp a) i) (applied_all (PutWord b ∷ []) (part_of d (value_part (kp a) i)))) keys in
      let same = first ∙ value_changed (with_key buckets places some c v a b i fa fb e r) a b i w l in
      let long = length-places (part_of c (kp a)) places (key_width buckets places c v.widths (bucket_number buckets a) (below a)) in
      let few = free_count 0 i (places_of (part_of c (kp a))) r in
      let room : nat_le places (count_by is_present (places_of (part_of c (kp a)))) ≡ false = not_le places (count_by is_present (places_of (part_of c (kp a)))) (omega (arith, few, long)) in
      let full : is_full (part_of c (kp a)) a ≡ false = full_of_none (part_of c (kp a)) a e ∙ room in
      record {
        ordered = ((omega arith, (omega arith, tt)), (place_changes-change places i (PutWord (pos 1)) (PutWord a) l refl, (refl, tt)));
        owned = (own_bucket 0 (bucket_number buckets a) (below a) refl, (own_value_part 0 (bucket_number buckets a) i (below a) l refl, tt));
        widths = (key_in_range c a v, key_wide c a i (PutWord (pos 1)) (PutWord a) v, (value_in_range c a i l v, value_one c a i v l, tt));
        valid = subst (IsHash buckets places) (sym same) (with_pair_valid buckets places some c v a b i fa fb e r);
        rows = ap (λ d. rows_in d ∷ []) same ∙ ap (λ rows. rows ∷ []) (put_rows buckets places some c v a b i fa fb e r) ∙ sym (put_after c a b false v full);
        writes = ap (is_write Put) (put_reply c a b v ∙ ap (λ z. if z then T.Full else T.Done) full);
      }
    where
      not_le : (x y : ℕ) → y < x → nat_le x y ≡ false
      not_le x y l = grind (arith, nat_tests)

  updated_full : (c : Parts) (a b : ℤ) → IsHash buckets places c → find (part_of c (kp a)) a ≡ None → free (part_of c (kp a)) ≡ None → IsUpdated m (call_of 0 Put a b) c []
  updated_full c a b v e r =
      let long = length-places (part_of c (kp a)) places (key_width buckets places c v.widths (bucket_number buckets a) (below a)) in
      let all = full_count 0 (places_of (part_of c (kp a))) r in
      let no_room : nat_le places (count_by is_present (places_of (part_of c (kp a)))) ≡ true = le places (count_by is_present (places_of (part_of c (kp a)))) (omega (arith, all, long)) in
      let full : is_full (part_of c (kp a)) a ≡ true = full_of_none (part_of c (kp a)) a e ∙ no_room in
      left_alone (call_of 0 Put a b) c v (sym (put_after c a b true v full)) (ap (is_write Put) (put_reply c a b v ∙ ap (λ z. if z then T.Full else T.Done) full))
    where
      le : (x y : ℕ) → x ≤ y → nat_le x y ≡ true
      le x y l = grind (arith, nat_tests)

  updated_removed : (c : Parts) (a b : ℤ) (i : ℕ) → IsHash buckets places c → find (part_of c (kp a)) a ≡ Some i → IsUpdated m (call_of 0 Remove a b) c ((kp a, place_changes places i (PutWord (pos 0)) Keep) ∷ [])
  updated_removed c a b i v e =
      let l : i < places = place_below buckets places some c a i v e in
      let same = key_changed c a (pos 0) (slice_index_or (part_of c (kp a)) (2 * i + 1) (pos 0)) i (PutWord (pos 0)) Keep l refl refl in
      let found : is_some (find (part_of c (kp a)) a) ≡ true = ap is_some e in
      record {
        ordered = ((omega arith, tt), (place_changes-change places i (PutWord (pos 0)) Keep l refl, tt));
        owned = (own_bucket 0 (bucket_number buckets a) (below a) refl, tt);
        widths = (key_in_range c a v, key_wide c a i (PutWord (pos 0)) Keep v, tt);
        valid = subst (IsHash buckets places) (sym same) (removed_valid buckets places some c v a i e);
        rows = ap (λ d. rows_in d ∷ []) same ∙ ap (λ rows. rows ∷ []) (removed_rows buckets places some c v a i e) ∙ sym (remove_after c a b true v found);
        writes = ap (is_write Remove) (remove_reply c a b v ∙ ap T.Flag found);
      }

  updated_put : (c : Parts) (a b : ℤ) → IsHash buckets places c → FitsSigned w64 a → FitsSigned w64 b → IsUpdated m (call_of 0 Put a b) c (put_updates places (kp a) a b (find (part_of c (kp a)) a) (free (part_of c (kp a))))
  updated_put c a b v fa fb =
      let P : Option ℕ → Option ℕ → Type 0 = λ o r. IsUpdated m (call_of 0 Put a b) c (put_updates places (kp a) a b o r) in
      by_option (find (part_of c (kp a)) a)
      (λ e. by_option (free (part_of c (kp a)))
      (λ r. subst (λ o. P o (free (part_of c (kp a)))) (sym e) (subst (λ x. P None x) (sym r) (updated_full c a b v e r)))
      (λ i r. subst (λ o. P o (free (part_of c (kp a)))) (sym e) (subst (λ x. P None x) (sym r) (updated_new c a b i v fa fb e r))))
      (λ i e. subst (λ o. P o (free (part_of c (kp a)))) (sym e) (updated_over c a b i v fb e))

  updated_remove : (c : Parts) (a b : ℤ) → IsHash buckets places c → IsUpdated m (call_of 0 Remove a b) c (remove_updates places (kp a) (find (part_of c (kp a)) a))
  updated_remove c a b v =
      let P : Option ℕ → Type 0 = λ o. IsUpdated m (call_of 0 Remove a b) c (remove_updates places (kp a) o) in
      by_option (find (part_of c (kp a)) a)
      (λ e. subst P (sym e) (left_alone (call_of 0 Remove a b) c v (sym (remove_after c a b false v (ap is_some e))) (ap (is_write Remove) (remove_reply c a b v ∙ ap (λ o. T.Flag (is_some o)) e))))
      (λ i e. subst P (sym e) (updated_removed c a b i v e))

  abbrev Updated : Call → Type 0
  Updated call = (c : Parts) → IsHash buckets places c → IsUpdated m call c (m.updates call c)

  updated : (call : Call) → HashTakes buckets call → Updated call
  updated = by_call buckets Updated
      (λ a b c v. left_alone (call_of 0 Get a b) c v refl (no_write (value_at (rows_in c) a)))
      (λ a b fa fb c v. updated_put c a b v fa fb)
      (λ a b c v. updated_remove c a b v)
      (λ a b c v. left_alone (call_of 0 Has a b) c v refl refl)
      (λ a b c v. left_alone (call_of 0 Len a b) c v refl refl)

  -- the opening: no place is present
  zeros_widths : (ws : List ℕ) → map length (zeros ws) ≡ ws
  zeros_widths [] = refl
  zeros_widths (w ∷ ws) = λ i. length-zeros w i ∷ zeros_widths ws i
    where
      length-zeros : (n : ℕ) → length (replicate n (pos 0)) ≡ n
      length-zeros zero = refl
      length-zeros (suc n) = ap suc (length-zeros n)

  words_zero : (n : ℕ) → WordsFit (replicate n (pos 0))
  words_zero zero = tt
  words_zero (suc n) = (record { sfits = omega arith }, words_zero n)

  zeros_fit : (ws : List ℕ) → ContentsFit (zeros ws)
  zeros_fit [] = tt
  zeros_fit (w ∷ ws) = (words_zero w, zeros_fit ws)

  zero_part : (ws : List ℕ) (p : ℕ) → part_of (zeros ws) p ≡ replicate (slice_index_or ws p 0) (pos 0)
  zero_part [] zero = refl
  zero_part [] (suc p) = refl
  zero_part (w ∷ ws) zero = refl
  zero_part (w ∷ ws) (suc p) = zero_part ws p

  zero_apart : (n : ℕ) → AreApart (places_of (replicate n (pos 0)))
  zero_apart zero = tt
  zero_apart (suc zero) = tt
  zero_apart (suc (suc n)) = (inl refl, zero_apart n)

  zero_own : (b n : ℕ) → AreOfBucket buckets b (places_of (replicate n (pos 0)))
  zero_own b zero = tt
  zero_own b (suc zero) = tt
  zero_own b (suc (suc n)) = (λ t. let z : false ≡ true = t in cc, zero_own b n)

  zero_pairs : (c : Parts) (q n : ℕ) → place_pairs c q (places_of (replicate n (pos 0))) ≡ []
  zero_pairs c q zero = refl
  zero_pairs c q (suc zero) = refl
  zero_pairs c q (suc (suc n)) = zero_pairs c (suc q) n

  opened_pairs : (ws : List ℕ) (b n : ℕ) → pairs_from places (zeros ws) b n ≡ []
  opened_pairs ws b zero = refl
  opened_pairs ws b (suc n) =
      let one : block_pairs (zeros ws) (bucket_part places b) ≡ [] =
      ap (λ l. place_pairs (zeros ws) (bucket_part places b + 1) (places_of l)) (zero_part ws (bucket_part places b)) ∙ zero_pairs (zeros ws) (bucket_part places b + 1) (slice_index_or ws (bucket_part places b) 0) in
      λ i. one i ++ opened_pairs ws (suc b) n i

  opened_valid : IsHash buckets places (zeros (hash_widths buckets places))
  opened_valid = record {
    widths = zeros_widths (hash_widths buckets places);
    fits = zeros_fit (hash_widths buckets places);
    each = λ b l. subst (λ ws. IsBucket buckets b (places_of ws)) (sym (zero_part (hash_widths buckets places) (bucket_part places b)))
        (record { apart = zero_apart (slice_index_or (hash_widths buckets places) (bucket_part places b) 0); own = zero_own b (slice_index_or (hash_widths buckets places) (bucket_part places b) 0) });
  }

  owners_from : (j n : ℕ) → EachOwner 1 (homes_from j n)
  owners_from j zero = tt
  owners_from j (suc n) = (omega arith, owners_from (suc j) n)

  own_known : (call : Call) (k : Known) (is : List Item) → call.object ≡ 0 → EachKnown m.homes 0 k is → EachKnown m.homes call.object k is
  own_known call k is o h = subst (λ x. EachKnown m.homes x k is) (sym o) h

  pub hash_lawful : IsLawful m
  hash_lawful = record {
    homes = length-homes 0 (buckets * (1 + places)) ∙ sym (length-widths buckets places);
    owners = owners_from 0 (buckets * (1 + places));
    opening = opened_valid;
    opening_rows = ap (λ rs. rows_of rs ∷ []) (opened_pairs (hash_widths buckets places) 0 buckets);
    widths = λ c v. v.widths;
    fits = λ c v. v.fits;
    states = λ c v. refl;
    object = λ call t. omega (arith, t.object);
    needs = λ call k d p t v part e. let h : (k p ≡ None) × IsPartOfObject m.homes call.object p = needs call t k d p v part e in record { unknown = h.0; owned = h.1 };
    steady = hash_steady buckets places;
    knows = λ call k d r. knows call r.takes k d r.valid r.part r.done;
    inside = λ call k d r. inside call r.takes k d r.valid r.part r.done;
    holds = λ call k d r. holds call r.takes k d r.valid r.part r.done;
    same_reply = λ call k d e r v a. same_reply call r.takes k d e r.valid v r.part r.done a;
    same_updates = λ call k d e r v a. same_updates call r.takes k d e r.valid v r.part r.done a;
    updated = λ call c t v. updated call t c v;
  }

  -- the answers
  need_is : (call : Call) (k : Known) (o : Operation) → call.operation ≡ o → m.need call k ≡ hash_need buckets places o call.a k
  need_is call k o e = ap (λ z. hash_need buckets places z call.a k) e

  items_are : (call : Call) (k : Known) (o : Operation) → call.operation ≡ o → m.items call k ≡ hash_items buckets places o call.a k
  items_are call k o e = ap (λ z. hash_items buckets places z call.a k) e

  updates_are : (call : Call) (c : Parts) (o : Operation) → call.operation ≡ o → m.updates call c ≡ hash_updates buckets places o call.a call.b c
  updates_are call c o e = ap (λ z. hash_updates buckets places z call.a call.b c) e

  reply_is : (call : Call) (rows : List Row) (o : Operation) → call.object ≡ 0 → call.operation ≡ o → reply_to m.machines call (rows ∷ []) ≡ (effect_of (Hash buckets places) o call.a call.b rows).reply
  reply_is call rows o z e = rw z (ap (λ x. (effect_of (Hash buckets places) x call.a call.b rows).reply) e)

  keys_known : (k : Known) (d : Parts) (key : ℤ) (ws : List ℤ) → IsHash buckets places d → IsPartOf k d → k (kp key) ≡ Some ws → find (part_of d (kp key)) key ≡ find ws key
  keys_known k d key ws v part s = ap (λ l. find l key) (known_keys k d key ws v part s)

  item_found : (k : Known) (key : ℤ) (ws : List ℤ) → k (kp key) ≡ Some ws → found_known buckets places key k ≡ find ws key
  item_found k key ws s = ap (λ o. find (words_known o) key) s

  pub plan_needs_key : (call : Call) (k : Known) (o : Operation) → call.operation ≡ o → hash_need buckets places o call.a k ≡ Some (kp call.a) → m.need call k ≡ Some (kp call.a)
  plan_needs_key call k o e h = need_is call k o e ∙ h

  pub plan_has :
      (call : Call) (k : Known) (ws : List ℤ) (answer : Answer) → call.object ≡ 0 → call.operation ≡ Has → k (kp call.a) ≡ Some ws
      → IsSaid (T.Flag (is_some (find ws call.a))) (find_items (kp call.a) call.a (find ws call.a)) [] answer → IsPlan m call k (planned answer)
  plan_has call k ws answer z e s h =
      said_is_plan m call k (T.Flag (is_some (find ws call.a))) (find_items (kp call.a) call.a (find ws call.a)) [] answer h (need_is call k Has e ∙ ap (asked (kp call.a)) s)
      (sym (items_are call k Has e ∙ ap (find_items (kp call.a) call.a) (item_found k call.a ws s)))
      (λ d v part. (
        sym (reply_is call (rows_in d) Has z e ∙ has_reply d call.a call.b v ∙ ap (λ o. T.Flag (is_some o)) (keys_known k d call.a ws v part s)),
        sym (updates_are call d Has e),
      ))

  pub plan_remove :
      (call : Call) (k : Known) (ws : List ℤ) (answer : Answer) → call.object ≡ 0 → call.operation ≡ Remove → k (kp call.a) ≡ Some ws
      → IsSaid (T.Flag (is_some (find ws call.a))) (find_items (kp call.a) call.a (find ws call.a)) (remove_updates places (kp call.a) (find ws call.a)) answer → IsPlan m call k (planned answer)
  plan_remove call k ws answer z e s h =
      said_is_plan m call k (T.Flag (is_some (find ws call.a))) (find_items (kp call.a) call.a (find ws call.a)) (remove_updates places (kp call.a) (find ws call.a)) answer h
      (need_is call k Remove e ∙ ap (asked (kp call.a)) s)
      (sym (items_are call k Remove e ∙ ap (find_items (kp call.a) call.a) (item_found k call.a ws s)))
      (λ d v part. (
        sym (reply_is call (rows_in d) Remove z e ∙ remove_reply d call.a call.b v ∙ ap (λ o. T.Flag (is_some o)) (keys_known k d call.a ws v part s)),
        sym (updates_are call d Remove e ∙ ap (remove_updates places (kp call.a)) (keys_known k d call.a ws v part s)),
      ))

  pub plan_absent :
      (call : Call) (k : Known) (ws : List ℤ) (answer : Answer) → call.object ≡ 0 → call.operation ≡ Get → k (kp call.a) ≡ Some ws → find ws call.a ≡ None
      → IsSaid T.Absent (Seen (kp call.a) ∷ []) [] answer → IsPlan m call k (planned answer)
  plan_absent call k ws answer z e s f h =
      said_is_plan m call k T.Absent (Seen (kp call.a) ∷ []) [] answer h
      (need_is call k Get e ∙ ap (λ o. get_asked (kp call.a) call.a o k) s ∙ ap (λ o. value_asked (kp call.a) o k) f)
      (sym (items_are call k Get e ∙ ap (get_items (kp call.a) call.a) (item_found k call.a ws s ∙ f)))
      (λ d v part. (
        sym (reply_is call (rows_in d) Get z e ∙ get_reply d call.a call.b v ∙ ap (λ o. value_or_absent (value_found d (kp call.a + 1) o)) (keys_known k d call.a ws v part s ∙ f)),
        sym (updates_are call d Get e),
      ))

  pub plan_present :
      (call : Call) (k : Known) (ws vs : List ℤ) (i : ℕ) (answer : Answer) → call.object ≡ 0 → call.operation ≡ Get → k (kp call.a) ≡ Some ws → find ws call.a ≡ Some i
      → k (value_part (kp call.a) i) ≡ Some vs → IsSaid (T.Value (slice_index_or vs 0 (pos 0))) (get_items (kp call.a) call.a (Some i)) [] answer → IsPlan m call k (planned answer)
  plan_present call k ws vs i answer z e s f t h =
      said_is_plan m call k (T.Value (slice_index_or vs 0 (pos 0))) (get_items (kp call.a) call.a (Some i)) [] answer h
      (need_is call k Get e ∙ ap (λ o. get_asked (kp call.a) call.a o k) s ∙ ap (λ o. value_asked (kp call.a) o k) f ∙ ap (asked (value_part (kp call.a) i)) t)
      (sym (items_are call k Get e ∙ ap (get_items (kp call.a) call.a) (item_found k call.a ws s ∙ f)))
      (λ d v part.
      let found : find (part_of d (kp call.a)) call.a ≡ Some i = keys_known k d call.a ws v part s ∙ f in
      let value : part_of d (value_part (kp call.a) i) ≡ vs = part.same (value_part (kp call.a) i) vs (value_in_range d call.a i (place_below buckets places some d call.a i v found) v) t in (
        sym
            (reply_is call (rows_in d) Get z e ∙ get_reply d call.a call.b v ∙ ap (λ o. value_or_absent (value_found d (kp call.a + 1) o)) found
            ∙ ap (λ l. T.Value (slice_index_or l 0 (pos 0))) value),
        sym (updates_are call d Get e),
      ))

  -- a put, by what is found and what is free
  told_of_put : (c : Parts) (key : ℤ) → IsHash buckets places c → (if is_full (part_of c (kp key)) key then T.Full else T.Done) ≡ put_told (find (part_of c (kp key)) key) (free (part_of c (kp key)))
  told_of_put c key v =
      let keys : List ℤ = part_of c (kp key) in
      let long = length-places keys places (key_width buckets places c v.widths (bucket_number buckets key) (below key)) in
      by_option (find keys key)
      (λ e. by_option (free keys)
      (λ r.
      let all = full_count 0 (places_of keys) r in
      let no_room : nat_le places (count_by is_present (places_of keys)) ≡ true = at_most places (count_by is_present (places_of keys)) (omega (arith, all, long)) in
      ap (λ z. if z then T.Full else T.Done) (full_of_none keys key e ∙ no_room) ∙ (λ j. put_told (sym e j) (sym r j)))
      (λ i r.
      let few = free_count 0 i (places_of keys) r in
      let room : nat_le places (count_by is_present (places_of keys)) ≡ false = above places (count_by is_present (places_of keys)) (omega (arith, few, long)) in
      ap (λ z. if z then T.Full else T.Done) (full_of_none keys key e ∙ room) ∙ (λ j. put_told (sym e j) (sym r j))))
      (λ i e. ap (λ z. if z then T.Full else T.Done) (full_of_found keys key i e) ∙ (λ j. put_told (sym e j) (free keys)))
    where
      at_most : (x y : ℕ) → x ≤ y → nat_le x y ≡ true
      at_most x y l = grind (arith, nat_tests)

      above : (x y : ℕ) → y < x → nat_le x y ≡ false
      above x y l = grind (arith, nat_tests)

  pub plan_put :
      (call : Call) (k : Known) (ws : List ℤ) (answer : Answer) → call.object ≡ 0 → call.operation ≡ Put → k (kp call.a) ≡ Some ws
      → IsSaid (put_told (find ws call.a) (free ws)) (find_items (kp call.a) call.a (find ws call.a)) (put_updates places (kp call.a) call.a call.b (find ws call.a) (free ws)) answer
      → IsPlan m call k (planned answer)
  plan_put call k ws answer z e s h =
      said_is_plan m call k (put_told (find ws call.a) (free ws)) (find_items (kp call.a) call.a (find ws call.a)) (put_updates places (kp call.a) call.a call.b (find ws call.a) (free ws)) answer h
      (need_is call k Put e ∙ ap (asked (kp call.a)) s)
      (sym (items_are call k Put e ∙ ap (find_items (kp call.a) call.a) (item_found k call.a ws s)))
      (λ d v part. (
        sym (reply_is call (rows_in d) Put z e ∙ put_reply d call.a call.b v ∙ told_of_put d call.a v ∙ ap (λ l. put_told (find l call.a) (free l)) (known_keys k d call.a ws v part s)),
        sym (updates_are call d Put e ∙ ap (λ l. put_updates places (kp call.a) call.a call.b (find l call.a) (free l)) (known_keys k d call.a ws v part s)),
      ))

  -- len: the sum of what is known of all key parts
  pub total_known : (k : Known) (d : Parts) (b n : ℕ) → b + n ≤ buckets → IsHash buckets places d → IsPartOf k d → first_asked places k b n ≡ None → known_total places k b n ≡ present_total places d b n
  total_known k d b zero l v part e = refl
  total_known k d b (suc n) l v part e =
      by_option (k (bucket_part places b))
      (λ q. let f : Some (bucket_part places b) ≡ None = sym (ap (λ x. asked_or (bucket_part places b) x (first_asked places k (suc b) n)) q) ∙ e in cc)
      (λ ws q.
      let same : part_of d (bucket_part places b) ≡ ws = part.same (bucket_part places b) ws (bucket_in_range d b (omega (arith, l)) v) q in
      let one : words_known (k (bucket_part places b)) ≡ part_of d (bucket_part places b) = ap words_known q ∙ sym same in
      let rest : known_total places k (suc b) n ≡ present_total places d (suc b) n = total_known k d (suc b) n (omega (arith, l)) v part (sym (ap (λ x. asked_or (bucket_part places b) x (first_asked places k (suc b) n)) q) ∙ e) in
      λ i. count_by is_present (places_of (one i)) + rest i)

  pub plan_len :
      (call : Call) (k : Known) (answer : Answer) → call.object ≡ 0 → call.operation ≡ Len → first_asked places k 0 buckets ≡ None
      → IsSaid (T.Value (pos (known_total places k 0 buckets))) (all_seen places 0 buckets) [] answer → IsPlan m call k (planned answer)
  plan_len call k answer z e n h =
      said_is_plan m call k (T.Value (pos (known_total places k 0 buckets))) (all_seen places 0 buckets) [] answer h (need_is call k Len e ∙ n) (sym (items_are call k Len e))
      (λ d v part. (
        ap (λ x. T.Value (pos x)) (total_known k d 0 buckets (omega arith) v part n) ∙ sym (reply_is call (rows_in d) Len z e ∙ len_reply d call.a call.b v),
        sym (updates_are call d Len e),
      ))

  -- what is known of a key part has its width, and what is found in it is one of its places
  pub known_width : (k : Known) (d : Parts) (key : ℤ) (ws : List ℤ) → IsHash buckets places d → IsPartOf k d → k (kp key) ≡ Some ws → length ws ≡ 2 * places
  known_width k d key ws v part s = ap length (sym (known_keys k d key ws v part s)) ∙ key_width buckets places d v.widths (bucket_number buckets key) (below key)

  pub first_within : (test : Place → Bool) (ws : List ℤ) → length ws ≡ 2 * places → MatchOption (first_from 0 test (places_of ws)) (Unit {0}) (λ i. i < places)
  first_within test ws e =
      by_option (first_from 0 test (places_of ws)) (λ n. rw n tt)
      (λ i s.
      let h = found_there test (places_of ws) i s in
      let long = length-places ws places e in
      rw s (omega (arith, h.0, long)))

  pub key_room : (key : ℤ) → kp key + 1 + places ≤ buckets * (1 + places)
  key_room key =
      let h : suc (bucket_number buckets key) * (1 + places) ≤ buckets * (1 + places) = mul-le-mul_right (1 + places) (below key) in omega (arith, h)

  pub plan_needs_value :
      (call : Call) (k : Known) (ws : List ℤ) (i : ℕ) → call.operation ≡ Get → k (kp call.a) ≡ Some ws → find ws call.a ≡ Some i → k (value_part (kp call.a) i) ≡ None → m.need call k ≡ Some (value_part (kp call.a) i)
  plan_needs_value call k ws i e s f n =
      need_is call k Get e ∙ ap (λ o. get_asked (kp call.a) call.a o k) s ∙ ap (λ o. value_asked (kp call.a) o k) f ∙ ap (asked (value_part (kp call.a) i)) n
