-- The predicates on a part among those that rise by part, and among items.
use Rattle.std.proofs.Common.{◌≡◌, ◌<◌, ◌≤◌, ◌+◌, ℕ, suc, Bool, true, false, ltb, leb, nat_eq, ◌&&◌, if◌then◌else◌, List, [], ◌∷◌, ◌++◌, length, take, drop, refl, ap, sym, ◌∙◌, arith, slice_index_or, inl, inr, length-take, length-drop, true≢false}
use Rattle.std.specs.List.{list_all}
use Rattle.std.specs.List.Sorted.{IsPartitionPoint, IsPermutation}
use Rattle.std.proofs.lemmas.Bool.{cases_Bool}
use Rattle.std.proofs.lemmas.Bool.Decides.{nat_tests}
use Rattle.std.proofs.lemmas.List.{take_more, take-append-drop, get_or-drop, get_or-take}
use Rattle.std.proofs.lemmas.List.Folds.{list_all-append}
use Rattle.std.proofs.lemmas.List.Sorted.{All-permutation, IsPermutation-sym}
use Rattle.std.proofs.lemmas.List.Sums.{AllPass-from_list_all, list_all-from_AllPass}
use Rattle.sto_part.specs.declared.pred.Pred.{Pred}
use Rattle.sto_item.specs.declared.item.Item.{Item}
use Rattle.sto_item.specs.declared.item.Item.TheVariants.{Seen, Holds}
use Rattle.sto_attempt_log.specs.declared.commit_phase.LoadedWord.{LoadedWord}
use Rattle.sto_part.specs.Preds.{holds_of}
use Rattle.sto_core.specs.Reads.{value_read}
use Rattle.sto_attempt_log.specs.CommitPhases.{reads_of, is_so}
use Rattle.sto_attempt_log.specs.Predicates.{preds_in}

-- a test of all elements does not see their order
pub list_all_moved : {X : Type 0} (f : X → Bool) (xs ys : List X) → IsPermutation xs ys → list_all f ys ≡ list_all f xs
list_all_moved f xs ys moved = elim (cases_Bool (list_all f xs)) [
  | inl good ↦ list_all-from_AllPass f ys (All-permutation (λ x. f x ≡ true) xs ys moved (AllPass-from_list_all f xs good)) ∙ sym good
  | inr bad ↦ elim (cases_Bool (list_all f ys)) [
    | inl good ↦
        let all : list_all f xs ≡ true = list_all-from_AllPass f xs (All-permutation (λ x. f x ≡ true) ys xs (IsPermutation-sym xs ys moved) (AllPass-from_list_all f ys good)) in
        absurd (true≢false (sym all ∙ bad))
    | inr none ↦ none ∙ sym bad
  ]
]

module _ (p : ℕ) (f : Pred → Bool) where
  -- the test of those on the part
  abbrev on : Pred → Bool
  on q = if nat_eq q.part p then f q else true

  all_of : (qs : List Pred) → ((k : ℕ) (d : Pred) → k < length qs → nat_eq (slice_index_or qs k d).part p ≡ true) → list_all on qs ≡ list_all f qs
  all_of [] here = refl
  all_of (q ∷ qs) here = rw (here 0 q (omega arith)) (ap (λ b. f q && b) (all_of qs (λ k d h. here (suc k) d (omega (arith, h)))))

  none_of : (qs : List Pred) → ((k : ℕ) (d : Pred) → k < length qs → nat_eq (slice_index_or qs k d).part p ≡ false) → list_all on qs ≡ true
  none_of [] other = refl
  none_of (q ∷ qs) other = rw (other 0 q (omega arith)) (none_of qs (λ k d h. other (suc k) d (omega (arith, h))))

  and_true : (b : Bool) → (b && true) ≡ b
  and_true true = refl
  and_true false = refl

  is_below : (n : ℕ) → ltb n p ≡ true → nat_eq n p ≡ false
  is_below n t = grind (arith, nat_tests)

  is_above : (n : ℕ) → leb n p ≡ false → nat_eq n p ≡ false
  is_above n t = grind (arith, nat_tests)

  is_equal : (n : ℕ) → ltb n p ≡ false → leb n p ≡ true → nat_eq n p ≡ true
  is_equal n a b = grind (arith, nat_tests)

  module _ (qs : List Pred) (i n : ℕ) (few : i ≤ length qs) (low : IsPartitionPoint (λ (q : Pred). ltb q.part p ≡ true) (λ q. ltb q.part p ≡ false) qs i) (high : IsPartitionPoint (λ (q : Pred). leb q.part p ≡ true) (λ q. leb q.part p ≡ false) (drop i qs) n) where
    abbrev rest : List Pred
    rest = drop i qs

    before : list_all on (take i qs) ≡ true
    before = none_of (take i qs) (λ k d h.
        let within : k < i = omega (arith, h, length-take i qs) in
        ap (λ (q : Pred). nat_eq q.part p) (get_or-take i qs k d within) ∙ is_below (slice_index_or qs k d).part (low.0 k d (omega arith) within))

    here : list_all on (take n rest) ≡ list_all f (take n rest)
    here = all_of (take n rest) (λ k d h.
        let within : k < n = omega (arith, h, length-take n rest) in
        let inside : i + k < length qs = omega (arith, h, length-take n rest, length-drop i qs, few) in
        let at : slice_index_or rest k d ≡ slice_index_or qs (i + k) d = get_or-drop i qs k d in
        let from : ltb (slice_index_or rest k d).part p ≡ false = ap (λ (q : Pred). ltb q.part p) at ∙ low.1 (i + k) d (omega arith) inside in
        ap (λ (q : Pred). nat_eq q.part p) (get_or-take n rest k d within) ∙ is_equal (slice_index_or rest k d).part from (high.0 k d (omega arith) within))

    behind : list_all on (drop n rest) ≡ true
    behind = none_of (drop n rest) (λ k d h.
        let inside : n + k < length rest = omega (arith, h, length-drop n rest) in
        ap (λ (q : Pred). nat_eq q.part p) (get_or-drop n rest k d) ∙ is_above (slice_index_or rest (n + k) d).part (high.1 (n + k) d (omega arith) inside))

    -- they are those between the two places
    pub test_on : list_all on qs ≡ list_all f (take n rest)
    test_on =
        ap (list_all on) (sym (take-append-drop i qs)) ∙ list_all-append on (take i qs) rest ∙ ap (λ b. b && list_all on rest) before
        ∙ ap (list_all on) (sym (take-append-drop n rest)) ∙ list_all-append on (take n rest) (drop n rest) ∙ ap (λ b. list_all on (take n rest) && b) behind ∙ and_true (list_all on (take n rest)) ∙ here

-- the predicates of the front of the items, and of one more
preds_append : (xs ys : List Item) → preds_in (xs ++ ys) ≡ preds_in xs ++ preds_in ys
preds_append [] ys = refl
preds_append (Seen p ∷ xs) ys = preds_append xs ys
preds_append (Holds q ∷ xs) ys = ap (λ (l : List Pred). q ∷ l) (preds_append xs ys)

pub preds_more : (items : List Item) (i : ℕ) (d : Item) → i < length items → preds_in (take (i + 1) items) ≡ preds_in (take i items) ++ preds_in (slice_index_or items i d ∷ [])
preds_more items i d h = ap preds_in (take_more items i d h) ∙ preds_append (take i items) (slice_index_or items i d ∷ [])

-- the predicate is on another part, or it is true of the word that was read
abbrev pub is_true_of : ℕ → List LoadedWord → Pred → Bool
is_true_of p loaded_words q = if nat_eq q.part p then holds_of q (value_read (reads_of loaded_words p) q.word) else true

-- the predicates among items are so where the items are
pub preds_so : (p : ℕ) (loaded_words : List LoadedWord) (items : List Item) → list_all (is_true_of p loaded_words) (preds_in items) ≡ list_all (is_so p loaded_words) items
preds_so p loaded_words [] = refl
preds_so p loaded_words (Seen q ∷ items) = preds_so p loaded_words items
preds_so p loaded_words (Holds q ∷ items) = ap (λ b. is_so p loaded_words (Holds q) && b) (preds_so p loaded_words items)
