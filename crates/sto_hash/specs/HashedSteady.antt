-- A hash table is steady.
use Rattle.std.proofs.Common.{◌≡◌, ℕ, ℤ, Bool, true, false, nat_eq, Some, None, Option, List, zero, suc, [], ◌∷◌, refl, ap, sym, ◌∙◌, inl, inr}
use Rattle.sto_model.specs.declared.operation.Operation.{Operation}
use Rattle.sto_model.specs.declared.operation.Operation.TheVariants.{Get, Set, Add, Test as TestWord, Take, Put, Remove, Has, Len, Next, Count, Scan, Push, Pop}
use Rattle.sto_type.specs.Known.{Known, IsWithin}
use Rattle.sto_type.specs.Meaning.{IsSteady}
use Rattle.sto_type.specs.SteadyLaw.{by_known, no_part, same_part}
use Rattle.sto_block.specs.Blocks.{find}
use Rattle.sto_hash.specs.Hashed.{hash_meaning, hash_need, hash_items, find_items, get_items, words_known, first_asked, value_asked, get_asked, bucket_part, key_part, value_part, asked}

asks_on : (i : ℕ) (k more : Known) (p : ℕ) → more p ≡ None → asked i (k i) ≡ Some p → asked i (more i) ≡ Some p
asks_on i k more p none e = elim (by_known (k i)) [
  | inl unknown ↦
      let it : Some i ≡ Some p = rw unknown at e in
      let here : more i ≡ None = ap more (same_part i p it) ∙ none in rw here it
  | inr known ↦ let no : None ≡ Some p = rw known.1 at e in no_part p (sym no)
]

asks_off : (i : ℕ) (k more : Known) → IsWithin k more → asked i (k i) ≡ None → (asked i (more i) ≡ None) × (more i ≡ k i)
asks_off i k more w e = elim (by_known (k i)) [
  | inl unknown ↦ let no : Some i ≡ None = rw unknown at e in no_part i no
  | inr known ↦ rw (w i known.0 known.1, known.1) (refl, refl)
]

value_on : (q : ℕ) (o : Option ℕ) (k more : Known) (p : ℕ) → more p ≡ None → value_asked q o k ≡ Some p → value_asked q o more ≡ Some p
value_on q None k more p none e = cc
value_on q (Some i) k more p none e = asks_on (value_part q i) k more p none e

value_off : (q : ℕ) (o : Option ℕ) (k more : Known) → IsWithin k more → value_asked q o k ≡ None → value_asked q o more ≡ None
value_off q None k more w e = refl
value_off q (Some i) k more w e = (asks_off (value_part q i) k more w e).0

get_on : (q : ℕ) (key : ℤ) (k more : Known) (p : ℕ) → IsWithin k more → more p ≡ None → get_asked q key (k q) k ≡ Some p → get_asked q key (more q) more ≡ Some p
get_on q key k more p w none e = elim (by_known (k q)) [
  | inl unknown ↦
      let it : Some q ≡ Some p = rw unknown at e in
      let here : more q ≡ None = ap more (same_part q p it) ∙ none in rw here it
  | inr known ↦
      let on : value_asked q (find known.0 key) k ≡ Some p = rw known.1 at e in
      rw (w q known.0 known.1) (value_on q (find known.0 key) k more p none on)
]

get_off : (q : ℕ) (key : ℤ) (k more : Known) → IsWithin k more → get_asked q key (k q) k ≡ None → (get_asked q key (more q) more ≡ None) × (more q ≡ k q)
get_off q key k more w e = elim (by_known (k q)) [
  | inl unknown ↦ let no : Some q ≡ None = rw unknown at e in no_part q no
  | inr known ↦
      let on : value_asked q (find known.0 key) k ≡ None = rw known.1 at e in
      rw (w q known.0 known.1, known.1) (value_off q (find known.0 key) k more w on, refl)
]

first_on : (places : ℕ) (k more : Known) (p b n : ℕ) → IsWithin k more → more p ≡ None → first_asked places k b n ≡ Some p → first_asked places more b n ≡ Some p
first_on places k more p b zero w none e = cc
first_on places k more p b (suc n) w none e = elim (by_known (k (bucket_part places b))) [
  | inl unknown ↦
      let it : Some (bucket_part places b) ≡ Some p = rw unknown at e in
      let here : more (bucket_part places b) ≡ None = ap more (same_part (bucket_part places b) p it) ∙ none in rw here it
  | inr known ↦
      let on : first_asked places k (suc b) n ≡ Some p = rw known.1 at e in
      rw (w (bucket_part places b) known.0 known.1) (first_on places k more p (suc b) n w none on)
]

first_off : (places : ℕ) (k more : Known) (b n : ℕ) → IsWithin k more → first_asked places k b n ≡ None → first_asked places more b n ≡ None
first_off places k more b zero w e = refl
first_off places k more b (suc n) w e = elim (by_known (k (bucket_part places b))) [
  | inl unknown ↦ let no : Some (bucket_part places b) ≡ None = rw unknown at e in no_part (bucket_part places b) no
  | inr known ↦
      let on : first_asked places k (suc b) n ≡ None = rw known.1 at e in
      rw (w (bucket_part places b) known.0 known.1) (first_off places k more (suc b) n w on)
]

hash_on : (buckets places : ℕ) (o : Operation) (key : ℤ) (k more : Known) (p : ℕ) → IsWithin k more → more p ≡ None → hash_need buckets places o key k ≡ Some p → hash_need buckets places o key more ≡ Some p
hash_on buckets places Get key k more p w none e = get_on (key_part buckets places key) key k more p w none e
hash_on buckets places Set key k more p w none e = cc
hash_on buckets places Add key k more p w none e = cc
hash_on buckets places TestWord key k more p w none e = cc
hash_on buckets places Take key k more p w none e = cc
hash_on buckets places Put key k more p w none e = asks_on (key_part buckets places key) k more p none e
hash_on buckets places Remove key k more p w none e = asks_on (key_part buckets places key) k more p none e
hash_on buckets places Has key k more p w none e = asks_on (key_part buckets places key) k more p none e
hash_on buckets places Len key k more p w none e = first_on places k more p 0 buckets w none e
hash_on buckets places Next key k more p w none e = cc
hash_on buckets places Count key k more p w none e = cc
hash_on buckets places Scan key k more p w none e = cc
hash_on buckets places Push key k more p w none e = cc
hash_on buckets places Pop key k more p w none e = cc

hash_off : (buckets places : ℕ) (o : Operation) (key : ℤ) (k more : Known) → IsWithin k more → hash_need buckets places o key k ≡ None
    → (hash_need buckets places o key more ≡ None) × (hash_items buckets places o key more ≡ hash_items buckets places o key k)
hash_off buckets places Get key k more w e = let it = get_off (key_part buckets places key) key k more w e in (it.0, ap (λ (x : Option (List ℤ)). get_items (key_part buckets places key) key (find (words_known x) key)) it.1)
hash_off buckets places Set key k more w e = (refl, refl)
hash_off buckets places Add key k more w e = (refl, refl)
hash_off buckets places TestWord key k more w e = (refl, refl)
hash_off buckets places Take key k more w e = (refl, refl)
hash_off buckets places Put key k more w e = let it = asks_off (key_part buckets places key) k more w e in (it.0, ap (λ (x : Option (List ℤ)). find_items (key_part buckets places key) key (find (words_known x) key)) it.1)
hash_off buckets places Remove key k more w e = let it = asks_off (key_part buckets places key) k more w e in (it.0, ap (λ (x : Option (List ℤ)). find_items (key_part buckets places key) key (find (words_known x) key)) it.1)
hash_off buckets places Has key k more w e = let it = asks_off (key_part buckets places key) k more w e in (it.0, ap (λ (x : Option (List ℤ)). find_items (key_part buckets places key) key (find (words_known x) key)) it.1)
hash_off buckets places Len key k more w e = (first_off places k more 0 buckets w e, refl)
hash_off buckets places Next key k more w e = (refl, refl)
hash_off buckets places Count key k more w e = (refl, refl)
hash_off buckets places Scan key k more w e = (refl, refl)
hash_off buckets places Push key k more w e = (refl, refl)
hash_off buckets places Pop key k more w e = (refl, refl)

pub hash_steady : (buckets places : ℕ) → IsSteady (hash_meaning buckets places)
hash_steady buckets places = record {
  steady = λ call k more p w none e. hash_on buckets places call.operation call.a k more p w none e;
  done = λ call k more w e. hash_off buckets places call.operation call.a k more w e;
}
