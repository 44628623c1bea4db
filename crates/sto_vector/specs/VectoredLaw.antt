-- A vector is lawful.
use Rattle.std.specs.Prelude.{◌≡◌, ◌<◌, ◌≤◌, ◌+◌, ◌^◌, ◌+ℤ◌, ℕ, zero, suc, ℤ, pos, negsuc, nat_lt, nat_le, Bool, true, false, not, if◌then◌else◌, Option, Some, None, unwrap_or, List, [], ◌∷◌, map, length, take, replicate, slice_index_or, slice_set, IsSome, IsTrue, is_some, refl}
use Rattle.std.specs.Option.{option_map}
use Rattle.std.specs.Int.{w64, int_wrap}
use Rattle.std.specs.Int.RustNames.{FitsSigned}
use Rattle.std.proofs.Common.{ap, sym, ◌∙◌, arith, subst}
use Rattle.std.proofs.lemmas.Int.{ints, int_wrap_fits}
use Rattle.std.proofs.lemmas.Bool.Decides.{nat_tests}
use Rattle.sto_part.specs.Parts.{part_of}
use Rattle.sto_part.specs.Changes.{wrapped_sum, applied_all}
use Rattle.sto_part.specs.Preds.{compares, holds_of}
use Rattle.sto_part.specs.declared.change.Change.TheVariants as C
use Rattle.sto_part.specs.declared.pred.Test.{Test}
use Rattle.sto_part.specs.declared.pred.Test.TheVariants.{Eq, Le, Gt, Ge}
use Rattle.sto_item.specs.declared.item.Item.{Item}
use Rattle.sto_item.specs.Pending.{Entry}
use Rattle.sto_item.specs.Agreement.{Agrees, AreTrueOf, word_of}
use Rattle.sto_model.specs.declared.call.Call.{Call}
use Rattle.sto_model.specs.declared.operation.Operation.{Operation}
use Rattle.sto_model.specs.declared.operation.Operation.TheVariants.{Get, Set, Add, Test as TestWord, Take, Put, Remove, Has, Len, Next, Count, Scan, Push, Pop}
use Rattle.sto_model.specs.declared.shape.Shape.TheVariants.{Vector}
use Rattle.sto_model.specs.Rows.{Row, value_at, with_row, without}
use Rattle.sto_model.specs.PlainReplies.{PlainReply, is_write}
use Rattle.sto_model.specs.PlainReplies as T
use Rattle.sto_model.specs.Calls.{call_of}
use Rattle.sto_model.specs.Operations.{test_of}
use Rattle.sto_model.specs.Objects.{compared, value_or_absent, push_effect, popped, pop_effect, takes}
use Rattle.sto_model.specs.SequentialObjects.{reply_to, state_after}
use Rattle.sto_model.proofs.RowFacts.{by_test}
use Rattle.sto_type.specs.Known.{Parts, Known, IsPartOf, word_known}
use Rattle.sto_type.specs.Meaning.{Meaning, IsLawful, IsUpdated, IsPartOfObject, EachKnown, EachInside, EachOwner}
use Rattle.sto_counter.specs.Sums.{word_pred_of}
use Rattle.sto_counter.specs.SumsLaw.{holds_plain}
use Rattle.sto_counter.specs.Counted.{test_items}
use Rattle.sto_counter.specs.CountedLaw.{test_observed}
use Rattle.sto_array.specs.Arrayed.{place_of, asked, array_rows, homes_from}
use Rattle.sto_array.specs.ArrayedRows.{length-ones, part_is, widths-set, fits-set, length-homes, home_owner, length-replicate, opened_widths, opened_fits}
use Rattle.sto_vector.specs.VectoredSteady.{vector_steady}
use Rattle.sto_vector.specs.Vectored.{size_of, size_known, place_need, after_size, vector_need, get_items, push_items, pop_items, vector_items, push_updates, pop_updates, vector_updates, vector_rows, IsVector, VectorTakes, vector_meaning}
use Rattle.sto_vector.specs.VectoredRows.{count, take_none, with_end, without_end, lt_of, ge_of, value_below, value_in, value_is}

some_test : (o : Option Test) → is_some o ≡ true → (t : Test) × (o ≡ Some t)
some_test None e = cc
some_test (Some t) e = (t, refl)

by_operation :
    {P : Type 0} (o : Operation) (a : ℤ) → IsTrue (takes (Vector 0) o a)
    → (o ≡ Get → P) → (o ≡ TestWord → (t : Test) → test_of a ≡ Some t → P) → (o ≡ Len → P) → (o ≡ Push → P) → (o ≡ Pop → P) → P
by_operation Get a h get test len push pop = get refl
by_operation Set a h get test len push pop = cc
by_operation Add a h get test len push pop = cc
by_operation TestWord a h get test len push pop = let t : (t : Test) × (test_of a ≡ Some t) = some_test (test_of a) h in test refl t.0 t.1
by_operation Take a h get test len push pop = cc
by_operation Put a h get test len push pop = cc
by_operation Remove a h get test len push pop = cc
by_operation Has a h get test len push pop = cc
by_operation Len a h get test len push pop = len refl
by_operation Next a h get test len push pop = cc
by_operation Count a h get test len push pop = cc
by_operation Scan a h get test len push pop = cc
by_operation Push a h get test len push pop = push refl
by_operation Pop a h get test len push pop = pop refl

-- what is so of the five calls is so of each call that is taken
pub by_call :
    (P : Call → Type 0) → ((a b : ℤ) → P (call_of 0 Get a b)) → ((a b : ℤ) (t : Test) → test_of a ≡ Some t → P (call_of 0 TestWord a b)) → ((a b : ℤ) → P (call_of 0 Len a b))
    → ((a b : ℤ) → FitsSigned w64 a → P (call_of 0 Push a b)) → ((a b : ℤ) → P (call_of 0 Pop a b)) → (call : Call) → VectorTakes call → P call
by_call P get test len push pop call t =
    let same : (o : Operation) → call.operation ≡ o → call ≡ call_of 0 o call.a call.b = λ o e i. record { object = t.object i; operation = e i; a = call.a; b = call.b; c = t.third i } in
    by_operation call.operation call.a t.taken
    (λ e. subst P (sym (same Get e)) (get call.a call.b))
    (λ e s q. subst P (sym (same TestWord e)) (test call.a call.b s q))
    (λ e. subst P (sym (same Len e)) (len call.a call.b))
    (λ e. subst P (sym (same Push e)) (push call.a call.b t.fits))
    (λ e. subst P (sym (same Pop e)) (pop call.a call.b))

-- contents of a size and places
abbrev pub sized : ℕ → Parts → Parts
sized n places = (pos n ∷ []) ∷ places

heads : (x y : ℕ) (xs ys : List ℕ) → x ∷ xs ≡ y ∷ ys → (x ≡ y) × (xs ≡ ys)
heads x y xs ys e = (cc, cc)

pub apart : (capacity : ℕ) (c : Parts) → IsVector capacity c → (n : ℕ) × (places : Parts) × (c ≡ sized n places)
apart capacity [] v = let z = v.widths in cc
apart capacity ([] ∷ places) v = absurd (omega (arith, (heads 0 1 (map length places) (replicate capacity 1) v.widths).0))
apart capacity ((pos n ∷ []) ∷ places) v = (n, places, refl)
apart capacity ((negsuc n ∷ []) ∷ places) v = absurd v.sized
apart capacity ((w ∷ x ∷ ws) ∷ places) v = absurd (omega (arith, (heads (suc (suc (length ws))) 1 (map length places) (replicate capacity 1) v.widths).0))

-- comparisons of sizes
gt_of : (m i : ℕ) → compares Gt (pos m) (pos i) ≡ true → i < m
gt_of m i e = grind (arith, ints)

of_gt : (m i : ℕ) → i < m → compares Gt (pos m) (pos i) ≡ true
of_gt m i l = grind (arith, ints)

le_of : (m i : ℕ) → compares Le (pos m) (pos i) ≡ true → m ≤ i
le_of m i e = grind (arith, ints)

of_le : (m i : ℕ) → m ≤ i → compares Le (pos m) (pos i) ≡ true
of_le m i l = grind (arith, ints)

ge_to : (m i : ℕ) → compares Ge (pos m) (pos i) ≡ true → i ≤ m
ge_to m i e = grind (arith, ints)

of_ge : (m i : ℕ) → i ≤ m → compares Ge (pos m) (pos i) ≡ true
of_ge m i l = grind (arith, ints)

eq_of : (m i : ℕ) → compares Eq (pos m) (pos i) ≡ true → m ≡ i
eq_of m i e = grind (arith, ints)

of_eq : (m i : ℕ) → m ≡ i → compares Eq (pos m) (pos i) ≡ true
of_eq m i e = grind (arith, ints)

to_lt : (i n : ℕ) → i < n → nat_lt i n ≡ true
to_lt i n l = grind (arith, nat_tests)

to_ge : (i n : ℕ) → n ≤ i → nat_lt i n ≡ false
to_ge i n l = grind (arith, nat_tests)

full_of : (capacity n : ℕ) → nat_lt n capacity ≡ false → nat_le capacity n ≡ true
full_of capacity n e = grind (arith, nat_tests)

free_of : (capacity n : ℕ) → nat_lt n capacity ≡ true → nat_le capacity n ≡ false
free_of capacity n e = grind (arith, nat_tests)

-- where nothing is needed the size is known, and so is the place
pub record IsSized (k : Known) (n : ℕ) (need : ℕ → Option ℕ) : Type 0 where
  pub some : IsSome (k 0)
  pub size : size_known k ≡ Some n
  pub done : need n ≡ None

module _ (capacity : ℕ) (few : 1 + capacity < 2 ^ 32) where
  abbrev m : Meaning
  m = vector_meaning capacity

  here : (i object : ℕ) → i ≤ capacity → object ≡ 0 → IsPartOfObject (homes_from 0 (suc capacity)) object i
  here i object l o = let s : i < suc capacity = omega (arith, l) in record { in_range = omega (arith, s, length-homes 0 (suc capacity)); owner = home_owner 0 (suc capacity) i s ∙ sym o }

  owners_from : (j k : ℕ) → EachOwner 1 (homes_from j k)
  owners_from j zero = tt
  owners_from j (suc k) = (omega arith, owners_from (suc j) k)

  -- what valid contents tell
  module _ (n : ℕ) (places : Parts) (v : IsVector capacity (sized n places)) where
    pub small : n ≤ capacity
    small = v.sized

    pub size_fits : FitsSigned w64 (pos n)
    size_fits = v.fits.0.0

    pub place_widths : map length places ≡ replicate capacity 1
    place_widths = (heads 1 1 (map length places) (replicate capacity 1) v.widths).1

    pub many : length places ≡ capacity
    many = length-ones capacity places place_widths

    pub enough : n ≤ length places
    enough = omega (arith, small, many)

    pub row_count : length (array_rows 0 (take n places)) ≡ n
    row_count = count n places enough

    pub value : (a : ℤ) → value_at (array_rows 0 (take n places)) a ≡ value_in (place_of capacity a) n places
    value a = value_is capacity n a places (place_of capacity a) small many refl

    -- the size compares
    pub holds : (test : Test) (i : ℕ) → compares test (pos n) (pos i) ≡ true → IsTrue (holds_of (word_pred_of 0 test (pos i)) (pos n))
    holds test i e = holds_plain 0 test (pos i) (pos n) size_fits ∙ e

    pub held : (test : Test) (i : ℕ) → IsTrue (holds_of (word_pred_of 0 test (pos i)) (pos n)) → compares test (pos n) (pos i) ≡ true
    held test i h = sym (holds_plain 0 test (pos i) (pos n) size_fits) ∙ h

  -- the items are true
  get_true : (q : Option ℕ) (a b : ℤ) (n : ℕ) (places : Parts) → IsVector capacity (sized n places) → AreTrueOf (sized n places) (vector_items capacity Get q a b n)
  get_true None a b n places v = tt
  get_true (Some i) a b n places v =
      by_test (nat_lt i n)
      (λ t. rw t (holds n places v Gt i (of_gt n i (lt_of i n t)), (refl, tt)))
      (λ t. rw t (holds n places v Le i (of_le n i (ge_of i n t)), tt))

  test_items-is : (a b x : ℤ) (t : Test) → test_of a ≡ Some t → test_items (test_of a) b x ≡ test_items (Some t) b x
  test_items-is a b x t e = ap (λ o. test_items o b x) e

  test_true : (a b : ℤ) (t : Test) (n : ℕ) (places : Parts) → test_of a ≡ Some t → IsVector capacity (sized n places) → AreTrueOf (sized n places) (test_items (test_of a) b (pos n))
  test_true a b t n places e v =
      subst (λ (is : List Item). AreTrueOf (sized n places) is) (sym (test_items-is a b (pos n) t e))
      ((test_observed t b (pos n) (pos n) (compares t (pos n) b) refl (size_fits n places v)).1 refl, tt)

  push_true : (n : ℕ) (places : Parts) → IsVector capacity (sized n places) → AreTrueOf (sized n places) (push_items capacity n)
  push_true n places v =
      by_test (nat_lt n capacity)
      (λ t. rw t (holds n places v Eq n (of_eq n n refl), tt))
      (λ t. rw t (holds n places v Ge capacity (of_ge n capacity (ge_of n capacity t)), tt))

  pop_true : (n : ℕ) (places : Parts) → IsVector capacity (sized n places) → AreTrueOf (sized n places) (pop_items n)
  pop_true zero places v = (holds 0 places v Le 0 (of_le 0 0 (omega arith)), tt)
  pop_true (suc n) places v = (holds (suc n) places v Eq (suc n) (of_eq (suc n) (suc n) refl), (refl, tt))

  -- the items by the call and the size
  abbrev pub own_items : Call → ℕ → List Item
  own_items call n = vector_items capacity call.operation (place_of capacity call.a) call.a call.b n

  abbrev pub own_updates : Call → ℕ → List Entry
  own_updates call n = vector_updates capacity call.operation call.a n

  abbrev HoldsAt : Call → Type 0
  HoldsAt call = (n : ℕ) (places : Parts) → IsVector capacity (sized n places) → AreTrueOf (sized n places) (own_items call n)

  holds_at : (call : Call) → VectorTakes call → HoldsAt call
  holds_at = by_call HoldsAt
      (λ a b n places v. get_true (place_of capacity a) a b n places v)
      (λ a b t e n places v. test_true a b t n places e v)
      (λ a b n places v. (refl, tt))
      (λ a b f n places v. push_true n places v)
      (λ a b n places v. pop_true n places v)

  -- the replies, by the size and the places
  abbrev pub push_reply : ℕ → PlainReply
  push_reply n = if nat_lt n capacity then T.Done else T.Full

  abbrev pub pop_reply : ℕ → Parts → PlainReply
  pop_reply zero places = T.Absent
  pop_reply (suc n) places = T.Value (word_of places n 0)

  push_replied : (full : Bool) (v : ℤ) (rows : List Row) (other : Bool) → full ≡ not other → (push_effect full v rows).reply ≡ (if other then T.Done else T.Full)
  push_replied true v rows true e = cc
  push_replied true v rows false e = refl
  push_replied false v rows true e = refl
  push_replied false v rows false e = cc

  full_is : (n : ℕ) → nat_le capacity n ≡ not (nat_lt n capacity)
  full_is n = by_test (nat_lt n capacity) (λ t. rw t (free_of capacity n t)) (λ t. rw t (full_of capacity n t))

  pub get_replies : (a b : ℤ) (n : ℕ) (places : Parts) → IsVector capacity (sized n places)
      → reply_to m.machines (call_of 0 Get a b) (m.rows (sized n places)) ≡ value_or_absent (value_in (place_of capacity a) n places)
  get_replies a b n places v = ap value_or_absent (value n places v a)

  pub test_replies : (a b : ℤ) (n : ℕ) (places : Parts) → IsVector capacity (sized n places)
      → reply_to m.machines (call_of 0 TestWord a b) (m.rows (sized n places)) ≡ T.Flag (compared (test_of a) (pos n) b)
  test_replies a b n places v = ap (λ x. T.Flag (compared (test_of a) (pos x) b)) (row_count n places v)

  pub len_replies : (a b : ℤ) (n : ℕ) (places : Parts) → IsVector capacity (sized n places) → reply_to m.machines (call_of 0 Len a b) (m.rows (sized n places)) ≡ T.Value (pos n)
  len_replies a b n places v = ap (λ x. T.Value (pos x)) (row_count n places v)

  pub push_replies : (a b : ℤ) (n : ℕ) (places : Parts) → IsVector capacity (sized n places) → reply_to m.machines (call_of 0 Push a b) (m.rows (sized n places)) ≡ push_reply n
  push_replies a b n places v =
      ap (λ x. (push_effect (nat_le capacity x) a (array_rows 0 (take n places))).reply) (row_count n places v)
      ∙ push_replied (nat_le capacity n) a (array_rows 0 (take n places)) (nat_lt n capacity) (full_is n)

  last_value : (n : ℕ) (places : Parts) → IsVector capacity (sized (suc n) places) → value_at (array_rows 0 (take (suc n) places)) (pos n) ≡ Some (word_of places n 0)
  last_value n places v = value_below (suc n) n places (enough (suc n) places v) (omega arith)

  popped_reply : (n : ℕ) (places : Parts) → IsVector capacity (sized n places) → (pop_effect n (array_rows 0 (take n places))).reply ≡ pop_reply n places
  popped_reply zero places v = refl
  popped_reply (suc n) places v = ap (λ o. (popped o (pos n) (array_rows 0 (take (suc n) places))).reply) (last_value n places v)

  pub pop_replies : (a b : ℤ) (n : ℕ) (places : Parts) → IsVector capacity (sized n places) → reply_to m.machines (call_of 0 Pop a b) (m.rows (sized n places)) ≡ pop_reply n places
  pop_replies a b n places v = ap (λ x. (pop_effect x (array_rows 0 (take n places))).reply) (row_count n places v) ∙ popped_reply n places v

  -- what agrees with the items is answered alike
  module _ (n k : ℕ) (places others : Parts) (v : IsVector capacity (sized n places)) (w : IsVector capacity (sized k others)) where
    same_value : (q : Option ℕ) (a b : ℤ) → Agrees (sized k others) (vector_items capacity Get q a b n) (sized n places) → value_in q k others ≡ value_in q n places
    same_value None a b g = refl
    same_value (Some i) a b g =
        by_test (nat_lt i n)
        (λ t.
        let h = rw t at g in
        let l : nat_lt i k ≡ true = to_lt i k (gt_of k i (held k others w Gt i h.0)) in
        rw (t, l) (ap (λ (ws : List ℤ). Some (slice_index_or ws 0 (pos 0))) h.1.0))
        (λ t.
        let h = rw t at g in
        let l : nat_lt i k ≡ false = to_ge i k (le_of k i (held k others w Le i h.0)) in
        rw (t, l) refl)

    same_test : (a b : ℤ) (t : Test) → test_of a ≡ Some t → Agrees (sized k others) (test_items (test_of a) b (pos n)) (sized n places) → compared (test_of a) (pos k) b ≡ compared (test_of a) (pos n) b
    same_test a b t e g =
        let h : Agrees (sized k others) (test_items (Some t) b (pos n)) (sized n places) = subst (λ (is : List Item). Agrees (sized k others) is (sized n places)) (test_items-is a b (pos n) t e) g in
        ap (λ o. compared o (pos k) b) e ∙ (test_observed t b (pos n) (pos k) (compares t (pos n) b) refl (size_fits k others w)).0 h.0 ∙ sym (ap (λ o. compared o (pos n) b) e)

    -- the size, or that there is no room
    abbrev room : ℕ → Option ℕ
    room x = if nat_lt x capacity then Some x else None

    same_room : Agrees (sized k others) (push_items capacity n) (sized n places) → room k ≡ room n
    same_room g =
        by_test (nat_lt n capacity)
        (λ t. let h = rw t at g in ap room (eq_of k n (held k others w Eq n h.0)))
        (λ t.
        let h = rw t at g in
        let l : nat_lt k capacity ≡ false = to_ge k capacity (ge_to k capacity (held k others w Ge capacity h.0)) in
        rw (t, l) refl)

  abbrev SameReply : Call → Type 0
  SameReply call =
      (n k : ℕ) (places others : Parts) → IsVector capacity (sized n places) → IsVector capacity (sized k others) → Agrees (sized k others) (own_items call n) (sized n places)
      → reply_to m.machines call (m.rows (sized k others)) ≡ reply_to m.machines call (m.rows (sized n places))

  abbrev room_reply : Option ℕ → PlainReply
  room_reply None = T.Full
  room_reply (Some n) = T.Done

  push_by_room : (n : ℕ) → push_reply n ≡ room_reply (if nat_lt n capacity then Some n else None)
  push_by_room n = by_test (nat_lt n capacity) (λ t. rw t refl) (λ t. rw t refl)

  abbrev room_updates : ℤ → Option ℕ → List Entry
  room_updates v None = []
  room_updates v (Some n) = (0, C.Add (pos 1) ∷ []) ∷ (suc n, C.Put v ∷ []) ∷ []

  updates_by_room : (v : ℤ) (n : ℕ) → push_updates capacity v n ≡ room_updates v (if nat_lt n capacity then Some n else None)
  updates_by_room v n = by_test (nat_lt n capacity) (λ t. rw t refl) (λ t. rw t refl)

  -- a pop of the same size and last word
  same_pop :
      (n k : ℕ) (places others : Parts) → IsVector capacity (sized n places) → IsVector capacity (sized k others) → Agrees (sized k others) (pop_items n) (sized n places)
      → (pop_reply k others ≡ pop_reply n places) × (pop_updates k ≡ pop_updates n)
  same_pop zero zero places others v w g = (refl, refl)
  same_pop zero (suc k) places others v w g = absurd (omega (arith, le_of (suc k) 0 (held (suc k) others w Le 0 g.0)))
  same_pop (suc n) zero places others v w g = absurd (omega (arith, eq_of 0 (suc n) (held 0 others w Eq (suc n) g.0)))
  same_pop (suc n) (suc k) places others v w g =
      let e : suc k ≡ suc n = eq_of (suc k) (suc n) (held (suc k) others w Eq (suc n) g.0) in
      let p : k ≡ n = omega (arith, e) in
      (ap (λ x. T.Value (word_of others x 0)) p ∙ ap (λ (ws : List ℤ). T.Value (slice_index_or ws 0 (pos 0))) g.1.0, refl)

  same_reply : (call : Call) → VectorTakes call → SameReply call
  same_reply = by_call SameReply
      (λ a b n k ps qs v w g. get_replies a b k qs w ∙ ap value_or_absent (same_value n k ps qs v w (place_of capacity a) a b g) ∙ sym (get_replies a b n ps v))
      (λ a b t e n k ps qs v w g. test_replies a b k qs w ∙ ap T.Flag (same_test n k ps qs v w a b t e g) ∙ sym (test_replies a b n ps v))
      (λ a b n k ps qs v w g. len_replies a b k qs w ∙ ap (λ (ws : List ℤ). T.Value (slice_index_or ws 0 (pos 0))) g.0 ∙ sym (len_replies a b n ps v))
      (λ a b f n k ps qs v w g. push_replies a b k qs w ∙ push_by_room k ∙ ap room_reply (same_room n k ps qs v w g) ∙ sym (push_by_room n) ∙ sym (push_replies a b n ps v))
      (λ a b n k ps qs v w g. pop_replies a b k qs w ∙ (same_pop n k ps qs v w g).0 ∙ sym (pop_replies a b n ps v))

  abbrev SameUpdates : Call → Type 0
  SameUpdates call =
      (n k : ℕ) (places others : Parts) → IsVector capacity (sized n places) → IsVector capacity (sized k others) → Agrees (sized k others) (own_items call n) (sized n places)
      → own_updates call k ≡ own_updates call n

  same_updates : (call : Call) → VectorTakes call → SameUpdates call
  same_updates = by_call SameUpdates
      (λ a b n k ps qs v w g. refl)
      (λ a b t e n k ps qs v w g. refl)
      (λ a b n k ps qs v w g. refl)
      (λ a b f n k ps qs v w g. updates_by_room a k ∙ ap (room_updates a) (same_room n k ps qs v w g) ∙ sym (updates_by_room a n))
      (λ a b n k ps qs v w g. (same_pop n k ps qs v w g).1)

  -- the updates
  left_alone :
      (call : Call) (n : ℕ) (places : Parts) → IsVector capacity (sized n places) → m.rows (sized n places) ≡ state_after m.machines call (m.rows (sized n places))
      → is_write call.operation (reply_to m.machines call (m.rows (sized n places))) ≡ false → IsUpdated m call (sized n places) []
  left_alone call n places v r z = record { ordered = (tt, tt); owned = tt; widths = tt; valid = v; rows = r; writes = z }

  small_fits : (n : ℕ) → n ≤ suc capacity → FitsSigned w64 (pos n)
  small_fits n l = let most : n < 2 ^ 32 = omega (arith, l, few) in record { sfits = grind (arith, ints) }

  up : (n : ℕ) → n ≤ capacity → wrapped_sum (pos n) (pos 1) ≡ pos (suc n)
  up n l = let e : pos n +ℤ pos 1 ≡ pos (suc n) = omega (arith, ints) in ap (int_wrap w64) e ∙ int_wrap_fits w64 (pos (suc n)) (small_fits (suc n) (omega (arith, l)))

  down : (n : ℕ) → n ≤ capacity → wrapped_sum (pos (suc n)) (negsuc 0) ≡ pos n
  down n l = let e : pos (suc n) +ℤ negsuc 0 ≡ pos n = omega (arith, ints) in ap (int_wrap w64) e ∙ int_wrap_fits w64 (pos n) (small_fits n (omega (arith, l)))

  pushed : (a b : ℤ) (n : ℕ) (places : Parts) → IsVector capacity (sized n places) → nat_lt n capacity ≡ true
      → state_after m.machines (call_of 0 Push a b) (m.rows (sized n places)) ≡ array_rows 0 (take (suc n) (slice_set places n (a ∷ []))) ∷ []
  pushed a b n places v t =
      let rows : List Row = array_rows 0 (take n places) in
      let z : 0 + n ≡ n = omega arith in
      ap (λ x. (push_effect (nat_le capacity x) a rows).after ∷ []) (row_count n places v)
      ∙ ap (λ x. (push_effect x a rows).after ∷ []) (free_of capacity n t)
      ∙ ap (λ x. with_row rows (pos x) a ∷ []) (row_count n places v ∙ sym z)
      ∙ ap (λ x. x ∷ []) (with_end 0 n places a (omega (arith, lt_of n capacity t, many n places v)))

  full_after : (a b : ℤ) (n : ℕ) (places : Parts) → IsVector capacity (sized n places) → nat_lt n capacity ≡ false
      → state_after m.machines (call_of 0 Push a b) (m.rows (sized n places)) ≡ m.rows (sized n places)
  full_after a b n places v t =
      let rows : List Row = array_rows 0 (take n places) in
      ap (λ x. (push_effect (nat_le capacity x) a rows).after ∷ []) (row_count n places v)
      ∙ ap (λ x. (push_effect x a rows).after ∷ []) (full_of capacity n t)

  updated_push : (a b : ℤ) (n : ℕ) (places : Parts) → FitsSigned w64 a → IsVector capacity (sized n places) → nat_lt n capacity ≡ true
      → IsUpdated m (call_of 0 Push a b) (sized n places) ((0, C.Add (pos 1) ∷ []) ∷ (suc n, C.Put a ∷ []) ∷ [])
  updated_push a b n places f v t =
      let l : n < capacity = lt_of n capacity t in
      let part : part_of places n ≡ word_of places n 0 ∷ [] = part_is capacity places n (place_widths n places v) l in
      let same : (wrapped_sum (pos n) (pos 1) ∷ []) ∷ slice_set places n (applied_all (C.Put a ∷ []) (part_of places n)) ≡ sized (suc n) (slice_set places n (a ∷ [])) =
      (λ i. (up n (small n places v) i ∷ []) ∷ slice_set places n (applied_all (C.Put a ∷ []) (part i))) in
      let made : IsVector capacity (sized (suc n) (slice_set places n (a ∷ []))) =
      record {
        widths = ap (λ x. 1 ∷ x) (widths-set capacity places n a (place_widths n places v));
        fits = ((small_fits (suc n) (omega (arith, l)), tt), fits-set places n a f v.fits.1);
        sized = omega (arith, l);
      } in
      record {
        ordered = ((omega arith, (omega arith, tt)), (refl, (refl, tt)));
        owned = (here 0 0 (omega arith) refl, (here (suc n) 0 (omega (arith, l)) refl, tt));
        widths = (omega arith, refl, (omega (arith, l, many n places v), ap length part, tt));
        valid = subst (IsVector capacity) (sym same) made;
        rows = ap (λ p. vector_rows p ∷ []) same ∙ sym (pushed a b n places v t);
        writes = ap (is_write Push) (push_replies a b n places v ∙ ap (λ x. if x then T.Done else T.Full) t);
      }

  popped_rows : (a b : ℤ) (n : ℕ) (places : Parts) → IsVector capacity (sized (suc n) places)
      → state_after m.machines (call_of 0 Pop a b) (m.rows (sized (suc n) places)) ≡ array_rows 0 (take n places) ∷ []
  popped_rows a b n places v =
      let rows : List Row = array_rows 0 (take (suc n) places) in
      let z : 0 + n ≡ n = omega arith in
      ap (λ x. (pop_effect x rows).after ∷ []) (row_count (suc n) places v)
      ∙ ap (λ o. (popped o (pos n) rows).after ∷ []) (last_value n places v)
      ∙ ap (λ x. without rows (pos x) ∷ []) (sym z)
      ∙ ap (λ x. x ∷ []) (without_end 0 n places (omega (arith, enough (suc n) places v)))

  updated_pop : (a b : ℤ) (n : ℕ) (places : Parts) → IsVector capacity (sized n places) → IsUpdated m (call_of 0 Pop a b) (sized n places) (pop_updates n)
  updated_pop a b zero places v =
      left_alone (call_of 0 Pop a b) 0 places v (sym (ap (λ x. (pop_effect x (array_rows 0 (take 0 places))).after ∷ []) (row_count 0 places v))) (ap (is_write Pop) (pop_replies a b 0 places v))
  updated_pop a b (suc n) places v =
      let l : suc n ≤ capacity = small (suc n) places v in
      let same : (wrapped_sum (pos (suc n)) (negsuc 0) ∷ []) ∷ places ≡ sized n places = (λ i. (down n (omega (arith, l)) i ∷ []) ∷ places) in
      record {
        ordered = ((omega arith, tt), (refl, tt));
        owned = (here 0 0 (omega arith) refl, tt);
        widths = (omega arith, refl, tt);
        valid = subst (IsVector capacity) (sym same) (record { widths = v.widths; fits = ((small_fits n (omega (arith, l)), tt), v.fits.1); sized = omega (arith, l) });
        rows = ap (λ p. vector_rows p ∷ []) same ∙ sym (popped_rows a b n places v);
        writes = ap (is_write Pop) (pop_replies a b (suc n) places v);
      }

  abbrev Updated : Call → Type 0
  Updated call = (n : ℕ) (places : Parts) → IsVector capacity (sized n places) → IsUpdated m call (sized n places) (own_updates call n)

  updated : (call : Call) → VectorTakes call → Updated call
  updated = by_call Updated
      (λ a b n places v. left_alone (call_of 0 Get a b) n places v refl (ap (is_write Get) (get_replies a b n places v) ∙ shown_writes_not (value_in (place_of capacity a) n places)))
      (λ a b t e n places v. left_alone (call_of 0 TestWord a b) n places v refl refl)
      (λ a b n places v. left_alone (call_of 0 Len a b) n places v refl refl)
      (λ a b f n places v.
      let P : Bool → Type 0 = λ z. IsUpdated m (call_of 0 Push a b) (sized n places) (if z then (0, C.Add (pos 1) ∷ []) ∷ (suc n, C.Put a ∷ []) ∷ [] else []) in
      by_test (nat_lt n capacity)
      (λ t. subst P (sym t) (updated_push a b n places f v t))
      (λ t. subst P (sym t) (left_alone (call_of 0 Push a b) n places v (sym (full_after a b n places v t)) (ap (is_write Push) (push_replies a b n places v ∙ ap (λ x. if x then T.Done else T.Full) t)))))
      (λ a b n places v. updated_pop a b n places v)
    where
      shown_writes_not : (o : Option ℤ) → is_write Get (value_or_absent o) ≡ false
      shown_writes_not None = refl
      shown_writes_not (Some x) = refl

  -- the size is known as it is, or not known
  by_size : {P : Type 0} (k : Known) (n : ℕ) (places : Parts) → IsPartOf k (sized n places) → (k 0 ≡ None → size_known k ≡ None → P) → (IsSome (k 0) → size_known k ≡ Some n → P) → P
  by_size {P} k n places part none some = by (k 0) refl
    where
      by : (o : Option (List ℤ)) → k 0 ≡ o → P
      by None e = none e (ap (λ x. option_map size_of (word_known x)) e)
      by (Some ws) e =
          some (rw e refl) (ap (λ x. option_map size_of (word_known x)) e ∙ ap (λ (x : List ℤ). Some (size_of (slice_index_or x 0 (pos 0)))) (sym (part.same 0 ws (omega arith) e)))

  none_is_not : {P X : Type 0} (x : X) → None ≡ Some x → P
  none_is_not x e = cc

  some_is : (p q : ℕ) → Some p ≡ Some q → p ≡ q
  some_is p q e = cc

  asked_some : (i : ℕ) (o : Option (List ℤ)) (p : ℕ) → asked i o ≡ Some p → (o ≡ None) × (p ≡ i)
  asked_some i None p e = (refl, cc)
  asked_some i (Some ws) p e = cc

  asked_none : (i : ℕ) (o : Option (List ℤ)) → asked i o ≡ None → IsSome o
  asked_none i None e = cc
  asked_none i (Some ws) e = refl

  -- what is needed is not known
  abbrev Missing : Known → ℕ → Type 0
  Missing k p = (k p ≡ None) × (p ≤ capacity)

  missing_at : (k : Known) (i p : ℕ) → i ≤ capacity → asked i (k i) ≡ Some p → Missing k p
  missing_at k i p l e =
      let h : (k i ≡ None) × (p ≡ i) = asked_some i (k i) p e in
      (subst (λ x. k x ≡ None) (sym h.1) h.0, omega (arith, l, h.1))

  first_or : (k : Known) (n p : ℕ) (places : Parts) (need : ℕ → Option ℕ) → IsPartOf k (sized n places) → (need n ≡ Some p → Missing k p) → after_size (size_known k) need ≡ Some p → Missing k p
  first_or k n p places need part rest e =
      by_size k n places part
      (λ none s.
      let q : 0 ≡ p = some_is 0 p (sym (ap (λ o. after_size o need) s) ∙ e) in
      (subst (λ x. k x ≡ None) q none, omega (arith, q)))
      (λ some s. rest (sym (ap (λ o. after_size o need) s) ∙ e))

  get_missing : (k : Known) (n p : ℕ) (q : Option ℕ) (places : Parts) → IsVector capacity (sized n places) → IsPartOf k (sized n places) → vector_need Get q k ≡ Some p → Missing k p
  get_missing k n p None places v part e = none_is_not p e
  get_missing k n p (Some i) places v part e =
      first_or k n p places (place_need Get (Some i) k) part
      (λ g. by_test (nat_lt i n)
      (λ t. missing_at k (suc i) p (omega (arith, lt_of i n t, small n places v)) (rw t at g))
      (λ t. none_is_not p (rw t at g)))
      e

  pop_missing : (k : Known) (n p : ℕ) (q : Option ℕ) → n ≤ capacity → place_need Pop q k n ≡ Some p → Missing k p
  pop_missing k zero p q l e = none_is_not p e
  pop_missing k (suc n) p q l e = missing_at k (suc n) p l e

  abbrev NeedsAt : Call → Type 0
  NeedsAt call = (k : Known) (n p : ℕ) (places : Parts) → IsVector capacity (sized n places) → IsPartOf k (sized n places) → m.need call k ≡ Some p → Missing k p

  needs_at : (call : Call) → VectorTakes call → NeedsAt call
  needs_at = by_call NeedsAt
      (λ a b k n p places v part e. get_missing k n p (place_of capacity a) places v part e)
      (λ a b t s k n p places v part e. first_or k n p places (place_need TestWord (place_of capacity a) k) part (λ g. none_is_not p g) e)
      (λ a b k n p places v part e. first_or k n p places (place_need Len (place_of capacity a) k) part (λ g. none_is_not p g) e)
      (λ a b f k n p places v part e. first_or k n p places (place_need Push (place_of capacity a) k) part (λ g. none_is_not p g) e)
      (λ a b k n p places v part e. first_or k n p places (place_need Pop (place_of capacity a) k) part (pop_missing k n p (place_of capacity a) (small n places v)) e)

  size_ready : (k : Known) (n : ℕ) (places : Parts) (need : ℕ → Option ℕ) → IsPartOf k (sized n places) → after_size (size_known k) need ≡ None → IsSized k n need
  size_ready k n places need part e =
      by_size k n places part
      (λ none s. none_is_not 0 (sym (sym (ap (λ o. after_size o need) s) ∙ e)))
      (λ some s. record { some = some; size = s; done = sym (ap (λ o. after_size o need) s) ∙ e })

  abbrev same_size : Known → ℕ
  same_size k = unwrap_or (size_known k) 0

  size_same : (k : Known) (n : ℕ) → size_known k ≡ Some n → same_size k ≡ n
  size_same k n e = ap (λ o. unwrap_or o 0) e

  -- the items are those of the size
  abbrev ItemsAt : Call → Type 0
  ItemsAt call = (k : Known) (n : ℕ) (places : Parts) → IsPartOf k (sized n places) → m.need call k ≡ None → m.items call k ≡ own_items call n

  get_items_at : (q : Option ℕ) (a b : ℤ) (k : Known) (n : ℕ) (places : Parts) → IsPartOf k (sized n places) → vector_need Get q k ≡ None
      → vector_items capacity Get q a b (same_size k) ≡ vector_items capacity Get q a b n
  get_items_at None a b k n places part e = refl
  get_items_at (Some i) a b k n places part e = ap (get_items i) (size_same k n (size_ready k n places (place_need Get (Some i) k) part e).size)

  items_at : (call : Call) → VectorTakes call → ItemsAt call
  items_at = by_call ItemsAt
      (λ a b k n places part e. get_items_at (place_of capacity a) a b k n places part e)
      (λ a b t s k n places part e. ap (λ x. test_items (test_of a) b (pos x)) (size_same k n (size_ready k n places (place_need TestWord (place_of capacity a) k) part e).size))
      (λ a b k n places part e. refl)
      (λ a b f k n places part e. ap (push_items capacity) (size_same k n (size_ready k n places (place_need Push (place_of capacity a) k) part e).size))
      (λ a b k n places part e. ap pop_items (size_same k n (size_ready k n places (place_need Pop (place_of capacity a) k) part e).size))

  -- each item names a known part
  abbrev Knows : Known → List Item → Type 0
  Knows k is = EachKnown (homes_from 0 (suc capacity)) 0 k is

  get_knows : (k : Known) (n i : ℕ) → n ≤ capacity → IsSized k n (place_need Get (Some i) k) → Knows k (get_items i n)
  get_knows k n i l s =
      by_test (nat_lt i n)
      (λ t.
      let d : asked (suc i) (k (suc i)) ≡ None = rw t at s.done in
      rw t (here 0 0 (omega arith) refl, s.some, (here (suc i) 0 (omega (arith, l, lt_of i n t)) refl, asked_none (suc i) (k (suc i)) d, tt)))
      (λ t. rw t (here 0 0 (omega arith) refl, s.some, tt))

  test_knows : (k : Known) (t : Option Test) (b : ℤ) (n : ℕ) → IsSome (k 0) → Knows k (test_items t b (pos n))
  test_knows k (Some t) b n s = (here 0 0 (omega arith) refl, s, tt)
  test_knows k None b n s = tt

  push_knows : (k : Known) (n : ℕ) → IsSome (k 0) → Knows k (push_items capacity n)
  push_knows k n s = by_test (nat_lt n capacity) (λ t. rw t (here 0 0 (omega arith) refl, s, tt)) (λ t. rw t (here 0 0 (omega arith) refl, s, tt))

  pop_knows : (k : Known) (n : ℕ) (q : Option ℕ) → n ≤ capacity → IsSized k n (place_need Pop q k) → Knows k (pop_items n)
  pop_knows k zero q l s = (here 0 0 (omega arith) refl, s.some, tt)
  pop_knows k (suc n) q l s = (here 0 0 (omega arith) refl, s.some, (here (suc n) 0 l refl, asked_none (suc n) (k (suc n)) s.done, tt))

  get_knows_at : (q : Option ℕ) (a b : ℤ) (k : Known) (n : ℕ) (places : Parts) → IsVector capacity (sized n places) → IsPartOf k (sized n places) → vector_need Get q k ≡ None
      → Knows k (vector_items capacity Get q a b n)
  get_knows_at None a b k n places v part e = tt
  get_knows_at (Some i) a b k n places v part e = get_knows k n i (small n places v) (size_ready k n places (place_need Get (Some i) k) part e)

  abbrev KnowsAt : Call → Type 0
  KnowsAt call = (k : Known) (n : ℕ) (places : Parts) → IsVector capacity (sized n places) → IsPartOf k (sized n places) → m.need call k ≡ None → EachKnown m.homes call.object k (own_items call n)

  knows_at : (call : Call) → VectorTakes call → KnowsAt call
  knows_at = by_call KnowsAt
      (λ a b k n places v part e. get_knows_at (place_of capacity a) a b k n places v part e)
      (λ a b t s k n places v part e. test_knows k (test_of a) b n (size_ready k n places (place_need TestWord (place_of capacity a) k) part e).some)
      (λ a b k n places v part e. (here 0 0 (omega arith) refl, (size_ready k n places (place_need Len (place_of capacity a) k) part e).some, tt))
      (λ a b f k n places v part e. push_knows k n (size_ready k n places (place_need Push (place_of capacity a) k) part e).some)
      (λ a b k n places v part e. pop_knows k n (place_of capacity a) (small n places v) (size_ready k n places (place_need Pop (place_of capacity a) k) part e))

  -- each predicate names the one word of the size
  abbrev Inside : List Item → Type 0
  Inside is = EachInside (replicate (suc capacity) 1) is

  get_inside : (q : Option ℕ) (a b : ℤ) (n : ℕ) → Inside (vector_items capacity Get q a b n)
  get_inside None a b n = tt
  get_inside (Some i) a b n = by_test (nat_lt i n) (λ t. rw t (omega arith, tt)) (λ t. rw t (omega arith, tt))

  test_inside : (t : Option Test) (b : ℤ) (n : ℕ) → Inside (test_items t b (pos n))
  test_inside (Some t) b n = (omega arith, tt)
  test_inside None b n = tt

  push_inside : (n : ℕ) → Inside (push_items capacity n)
  push_inside n = by_test (nat_lt n capacity) (λ t. rw t (omega arith, tt)) (λ t. rw t (omega arith, tt))

  pop_inside : (n : ℕ) → Inside (pop_items n)
  pop_inside zero = (omega arith, tt)
  pop_inside (suc n) = (omega arith, tt)

  abbrev InsideAt : Call → Type 0
  InsideAt call = (k : Known) → EachInside m.widths (m.items call k)

  inside_at : (call : Call) → VectorTakes call → InsideAt call
  inside_at = by_call InsideAt
      (λ a b k. get_inside (place_of capacity a) a b (same_size k))
      (λ a b t s k. test_inside (test_of a) b (same_size k))
      (λ a b k. tt)
      (λ a b f k. push_inside (same_size k))
      (λ a b k. pop_inside (same_size k))

  pub vector_lawful : IsLawful m
  vector_lawful = record {
    homes = length-homes 0 (suc capacity) ∙ sym (length-replicate (suc capacity));
    owners = owners_from 0 (suc capacity);
    opening = record { widths = opened_widths (suc capacity) (pos 0); fits = opened_fits (suc capacity) (pos 0) (small_fits 0 (omega arith)); sized = omega arith };
    opening_rows = ap (λ l. array_rows 0 l ∷ []) (take_none (replicate capacity (pos 0 ∷ [])));
    widths = λ c v. v.widths;
    fits = λ c v. v.fits;
    states = λ c v. refl;
    object = λ call t. omega (arith, t.object);
    needs = λ call k d p t v part e.
        let a : (n : ℕ) × (places : Parts) × (d ≡ sized n places) = apart capacity d v in
        let h : Missing k p = needs_at call t k a.0 p a.1 (subst (IsVector capacity) a.2 v) (subst (IsPartOf k) a.2 part) e in
        record { unknown = h.0; owned = here p call.object h.1 t.object };
    steady = vector_steady capacity;
    knows = λ call k d r.
        let a : (n : ℕ) × (places : Parts) × (d ≡ sized n places) = apart capacity d r.valid in
        let v : IsVector capacity (sized a.0 a.1) = subst (IsVector capacity) a.2 r.valid in
        let part : IsPartOf k (sized a.0 a.1) = subst (IsPartOf k) a.2 r.part in
        subst (λ (is : List Item). EachKnown m.homes call.object k is) (sym (items_at call r.takes k a.0 a.1 part r.done)) (knows_at call r.takes k a.0 a.1 v part r.done);
    inside = λ call k d r. inside_at call r.takes k;
    holds = λ call k d r.
        let a : (n : ℕ) × (places : Parts) × (d ≡ sized n places) = apart capacity d r.valid in
        let v : IsVector capacity (sized a.0 a.1) = subst (IsVector capacity) a.2 r.valid in
        let part : IsPartOf k (sized a.0 a.1) = subst (IsPartOf k) a.2 r.part in
        subst (λ (c : Parts). AreTrueOf c (m.items call k)) (sym a.2)
        (subst (λ (is : List Item). AreTrueOf (sized a.0 a.1) is) (sym (items_at call r.takes k a.0 a.1 part r.done)) (holds_at call r.takes a.0 a.1 v));
    same_reply = λ call k d e r w g.
        let a : (n : ℕ) × (places : Parts) × (d ≡ sized n places) = apart capacity d r.valid in
        let b : (n : ℕ) × (places : Parts) × (e ≡ sized n places) = apart capacity e w in
        let part : IsPartOf k (sized a.0 a.1) = subst (IsPartOf k) a.2 r.part in
        let h : Agrees (sized b.0 b.1) (own_items call a.0) (sized a.0 a.1) = agreed call k d e a.0 b.0 a.1 b.1 a.2 b.2 (items_at call r.takes k a.0 a.1 part r.done) g in
        ap (λ (c : Parts). reply_to m.machines call (m.rows c)) b.2
        ∙ same_reply call r.takes a.0 b.0 a.1 b.1 (subst (IsVector capacity) a.2 r.valid) (subst (IsVector capacity) b.2 w) h
        ∙ sym (ap (λ (c : Parts). reply_to m.machines call (m.rows c)) a.2);
    same_updates = λ call k d e r w g.
        let a : (n : ℕ) × (places : Parts) × (d ≡ sized n places) = apart capacity d r.valid in
        let b : (n : ℕ) × (places : Parts) × (e ≡ sized n places) = apart capacity e w in
        let part : IsPartOf k (sized a.0 a.1) = subst (IsPartOf k) a.2 r.part in
        let h : Agrees (sized b.0 b.1) (own_items call a.0) (sized a.0 a.1) = agreed call k d e a.0 b.0 a.1 b.1 a.2 b.2 (items_at call r.takes k a.0 a.1 part r.done) g in
        ap (λ (c : Parts). m.updates call c) b.2
        ∙ same_updates call r.takes a.0 b.0 a.1 b.1 (subst (IsVector capacity) a.2 r.valid) (subst (IsVector capacity) b.2 w) h
        ∙ sym (ap (λ (c : Parts). m.updates call c) a.2);
    updated = λ call c t v.
        let a : (n : ℕ) × (places : Parts) × (c ≡ sized n places) = apart capacity c v in
        subst (λ (d : Parts). IsUpdated m call d (m.updates call d)) (sym a.2) (updated call t a.0 a.1 (subst (IsVector capacity) a.2 v));
  }
    where
      agreed :
          (call : Call) (k : Known) (d e : Parts) (n x : ℕ) (places others : Parts) → d ≡ sized n places → e ≡ sized x others → m.items call k ≡ own_items call n → Agrees e (m.items call k) d
          → Agrees (sized x others) (own_items call n) (sized n places)
      agreed call k d e n x places others p q i g =
          subst (λ (is : List Item). Agrees (sized x others) is (sized n places)) i (subst (λ (c : Parts). Agrees (sized x others) (m.items call k) c) p (subst (λ (c : Parts). Agrees c (m.items call k) d) q g))
