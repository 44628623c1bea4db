-- Windows with one entry more.
use Rattle.std.proofs.Common.{◌≡◌, ◌⊎◌, ℕ, zero, suc, ◌+◌, ◌-◌, ◌<◌, ◌≤◌, max, List, [], ◌∷◌, ◌++◌, length, map, refl, sym, ap, ◌∙◌, subst, Bool, true, false, cond, ◌==◌, Option, Some, None, slice_get, replicate, arith, inl, inr}
use Rattle.std.specs.List.{All}
use Rattle.std.proofs.lemmas.Bool.Decides.{nat_tests}
use Rattle.std.proofs.lemmas.List.{map-append}
use Rattle.std.proofs.lemmas.List.Elements.{All-nil, All-cons, All-head, All-tail, All-push, All-weaker}
use Rattle.std.proofs.lemmas.Option.{slice_get_within}
use Rattle.sto_report_spec.specs.Orders.{TransactionPlace, positions_of, numbers_from}
use Rattle.sto_report_spec.specs.Replay.{Entry}
use Rattle.sto_report_spec.specs.LawfulAborts.{writers_before, IsBefore, IsAfterOwn}
use Rattle.sto_checker.proofs.Kept.{positions_of-more}
use Rattle.sto_checker.specs.declared.window.Window.{Window}
use Rattle.sto_checker.specs.Windows.{with_more, reached_in, window_after, IsWindow, AreOfThread, AreWindows}
use Rattle.sto_checker.proofs.Lists.{more_length, IsMore, more_cases, push_cases}

abbrev pub place_of_entry : Entry → TransactionPlace
place_of_entry e = e.place

-- all but the last, and the last

front_all : {X : Type 0} (P : X → Type 0) (xs : List X) (x : X) → All P (xs ++ x ∷ []) → All P xs
front_all P [] x h = All-nil P
front_all P (y ∷ xs) x h = All-cons P y xs (All-head P y (xs ++ x ∷ []) h) (front_all P xs x (All-tail P y (xs ++ x ∷ []) h))

last_all : {X : Type 0} (P : X → Type 0) (xs : List X) (x : X) → All P (xs ++ x ∷ []) → P x
last_all P [] x h = All-head P x [] h
last_all P (y ∷ xs) x h = last_all P xs x (All-tail P y (xs ++ x ∷ []) h)

-- positions of a thread

all_numbers : (first count : ℕ) → All (λ (n : ℕ). (first ≤ n) × (n < first + count)) (numbers_from first count)
all_numbers first zero = All-nil (λ (n : ℕ). (first ≤ n) × (n < first + zero))
all_numbers first (suc count) =
    All-cons (λ (n : ℕ). (first ≤ n) × (n < first + suc count)) first (numbers_from (suc first) count) (omega arith, omega arith)
    (All-weaker (λ (n : ℕ). (suc first ≤ n) × (n < suc first + count)) (λ (n : ℕ). (first ≤ n) × (n < first + suc count))
    (λ n h. (let l = h.0 in omega (arith, l), let m = h.1 in omega (arith, m))) (numbers_from (suc first) count) (all_numbers (suc first) count))

is_thread : (a b : ℕ) → a ≡ b → (a == b) ≡ true
is_thread a b e = grind (arith, nat_tests)

own_positions : (P : ℕ → Type 0) (t : ℕ) (es : List Entry) → All P (positions_of t (map place_of_entry es)) → All (λ (e : Entry). e.place.0 ≡ t → P e.place.1) es
own_positions P t [] h = All-nil (λ (e : Entry). e.place.0 ≡ t → P e.place.1)
own_positions P t (e ∷ es) h = by (e.place.0 == t) refl h (own_positions P t es)
  where
    by : (b : Bool) → (e.place.0 == t) ≡ b → All P (cond b (e.place.1 ∷ positions_of t (map place_of_entry es)) (positions_of t (map place_of_entry es)))
        → (All P (positions_of t (map place_of_entry es)) → All (λ (x : Entry). x.place.0 ≡ t → P x.place.1) es) → All (λ (x : Entry). x.place.0 ≡ t → P x.place.1) (e ∷ es)
    by true k h more =
        All-cons (λ (x : Entry). x.place.0 ≡ t → P x.place.1) e es (λ _. All-head P e.place.1 (positions_of t (map place_of_entry es)) h)
        (more (All-tail P e.place.1 (positions_of t (map place_of_entry es)) h))
    by false k h more =
        All-cons (λ (x : Entry). x.place.0 ≡ t → P x.place.1) e es (λ f. absurd (let yes = is_thread e.place.0 t f in let no : true ≡ false = sym yes ∙ k in cc)) (more h)

-- the transactions of each thread are its first ones
abbrev pub InRow : List Entry → Type 0
InRow es = (t : ℕ) → positions_of t (map place_of_entry es) ≡ numbers_from 1 (length (positions_of t (map place_of_entry es)))

in_row : (es : List Entry) (t : ℕ) → InRow es → All (λ (e : Entry). e.place.0 ≡ t → (1 ≤ e.place.1) × (e.place.1 < 1 + length (positions_of t (map place_of_entry es)))) es
in_row es t h =
    let n : ℕ = length (positions_of t (map place_of_entry es)) in
    own_positions (λ (p : ℕ). (1 ≤ p) × (p < 1 + n)) t es (subst (All (λ (p : ℕ). (1 ≤ p) × (p < 1 + n))) (sym (h t)) (all_numbers 1 n))

-- a window, with the entry of a later transaction of its thread or of another one
module _ (es : List Entry) (e : Entry) where
  more_after : (place : TransactionPlace) (n : ℕ) → (e.place.0 ≡ place.0 → e.place.1 < place.1 → e.writers ≤ n) → IsAfterOwn es place n → IsAfterOwn (es ++ e ∷ []) place n
  more_after place n here h = All-push (λ (x : Entry). x.place.0 ≡ place.0 → x.place.1 < place.1 → x.writers ≤ n) es e h here

  less_after : (place : TransactionPlace) (n : ℕ) → IsAfterOwn (es ++ e ∷ []) place n → IsAfterOwn es place n
  less_after place n h = front_all (λ (x : Entry). x.place.0 ≡ place.0 → x.place.1 < place.1 → x.writers ≤ n) es e h

  more_before : (place : TransactionPlace) (n : ℕ) → (e.place ≡ place → n ≤ writers_before e e.ending) → IsBefore es place n → IsBefore (es ++ e ∷ []) place n
  more_before place n here h = All-push (λ (x : Entry). x.place ≡ place → n ≤ writers_before x x.ending) es e h here

  less_before : (place : TransactionPlace) (n : ℕ) → IsBefore (es ++ e ∷ []) place n → IsBefore es place n
  less_before place n h = front_all (λ (x : Entry). x.place ≡ place → n ≤ writers_before x x.ending) es e h

  pub window_stays : (place : TransactionPlace) (w : Window) → (e.place.0 ≡ place.0 → place.1 < e.place.1) → IsWindow es place w → IsWindow (es ++ e ∷ []) place w
  window_stays place w later h = record {
    least = λ n l. more_after place n (λ t p. absurd (let k = later t in omega (arith, k, p))) (h.least n l);
    not_below = λ n a. h.not_below n (less_after place n a);
    most = λ n l. more_before place n (λ q. absurd (let t = ap (λ (x : TransactionPlace). x.0) q in let p = ap (λ (x : TransactionPlace). x.1) q in let k = later t in omega (arith, k, p))) (h.most n l);
    not_above = λ n b. h.not_above n (less_before place n b);
    reached = λ n l. more_after (place.0, suc place.1) n (λ t p. absurd (let k = later t in omega (arith, k, p))) (h.reached n l);
    not_reached = λ n a. h.not_reached n (less_after (place.0, suc place.1) n a);
  }

  -- the window of the entry itself, by the least number for it
  module _ (least : ℕ) (up : (n : ℕ) → least ≤ n → IsAfterOwn es e.place n) (down : (n : ℕ) → IsAfterOwn es e.place n → least ≤ n)
      (first : All (λ (x : Entry). x.place.0 ≡ e.place.0 → x.place.1 < e.place.1) es) where
    unlike : (n : ℕ) → IsBefore es e.place n
    unlike n = All-weaker (λ (x : Entry). x.place.0 ≡ e.place.0 → x.place.1 < e.place.1) (λ (x : Entry). x.place ≡ e.place → n ≤ writers_before x x.ending)
        (λ x h q. absurd (let t = ap (λ (y : TransactionPlace). y.0) q in let p = ap (λ (y : TransactionPlace). y.1) q in let k = h t in omega (arith, k, p))) es first

    next_up : (n : ℕ) → least ≤ n → IsAfterOwn es (e.place.0, suc e.place.1) n
    next_up n l =
        both es first (up n l)
      where
        both : (xs : List Entry) → All (λ (x : Entry). x.place.0 ≡ e.place.0 → x.place.1 < e.place.1) xs → IsAfterOwn xs e.place n → IsAfterOwn xs (e.place.0, suc e.place.1) n
        both [] f a = All-nil (λ (x : Entry). x.place.0 ≡ e.place.0 → x.place.1 < suc e.place.1 → x.writers ≤ n)
        both (x ∷ xs) f a =
            All-cons (λ (x : Entry). x.place.0 ≡ e.place.0 → x.place.1 < suc e.place.1 → x.writers ≤ n) x xs
            (λ t _. All-head (λ (y : Entry). y.place.0 ≡ e.place.0 → y.place.1 < e.place.1 → y.writers ≤ n) x xs a t (All-head (λ (y : Entry). y.place.0 ≡ e.place.0 → y.place.1 < e.place.1) x xs f t))
            (both xs (All-tail (λ (y : Entry). y.place.0 ≡ e.place.0 → y.place.1 < e.place.1) x xs f) (All-tail (λ (y : Entry). y.place.0 ≡ e.place.0 → y.place.1 < e.place.1 → y.writers ≤ n) x xs a))

    next_down : (n : ℕ) → IsAfterOwn es (e.place.0, suc e.place.1) n → IsAfterOwn es e.place n
    next_down n a = All-weaker (λ (x : Entry). x.place.0 ≡ e.place.0 → x.place.1 < suc e.place.1 → x.writers ≤ n) (λ (x : Entry). x.place.0 ≡ e.place.0 → x.place.1 < e.place.1 → x.writers ≤ n)
        (λ x h t p. h t (omega (arith, p))) es a

    pub window_new : IsWindow (es ++ e ∷ []) e.place (record { least = least; most = writers_before e e.ending; reached = max least e.writers })
    window_new = record {
      least = λ n l. more_after e.place n (λ t p. absurd (omega (arith, p))) (up n l);
      not_below = λ n a. down n (less_after e.place n a);
      most = λ n l. more_before e.place n (λ q. l) (unlike n);
      not_above = λ n b. last_all (λ (x : Entry). x.place ≡ e.place → n ≤ writers_before x x.ending) es e b refl;
      reached = λ n l. more_after (e.place.0, suc e.place.1) n (λ t p. omega (arith, l)) (next_up n (omega (arith, l)));
      not_reached = λ n a.
          let own = last_all (λ (x : Entry). x.place.0 ≡ e.place.0 → x.place.1 < suc e.place.1 → x.writers ≤ n) es e a refl (omega arith) in
          let low = down n (next_down n (less_after (e.place.0, suc e.place.1) n a)) in
          omega (arith, own, low);
    }

last_in : (w : Window) (ws : List Window) → (v : Window) × (slice_get (w ∷ ws) (length (w ∷ ws) - 1) ≡ Some v)
last_in w [] = (w, refl)
last_in w (x ∷ xs) =
    let more = last_in x xs in
    let next : length (w ∷ x ∷ xs) - 1 ≡ suc (length (x ∷ xs) - 1) = omega arith in
    (more.0, ap (slice_get (w ∷ x ∷ xs)) next ∙ more.1)

none_in : (ws : List Window) → slice_get ws (length ws - 1) ≡ None → length ws ≡ 0
none_in [] f = refl
none_in (w ∷ ws) f = absurd (let there = last_in w ws in let clash : None ≡ Some there.0 = sym f ∙ there.1 in cc)

-- the least number for the next transaction of a thread
module _ (es : List Entry) (t : ℕ) (row : List Window) (h : AreOfThread es t row) (numbers : InRow es) where
  none_yet : length row ≡ 0 → (n : ℕ) → IsAfterOwn es (t, 1) n
  none_yet e n =
      All-weaker (λ (x : Entry). x.place.0 ≡ t → (1 ≤ x.place.1) × (x.place.1 < 1 + length (positions_of t (map place_of_entry es)))) (λ (x : Entry). x.place.0 ≡ t → x.place.1 < 1 → x.writers ≤ n)
      (λ x k q l. absurd (let low = (k q).0 in omega (arith, low, l))) es (in_row es t numbers)

  least_by : (o : Option Window) → slice_get row (length row - 1) ≡ o → ((n : ℕ) → reached_in o ≤ n → IsAfterOwn es (t, suc (length row)) n) × ((n : ℕ) → IsAfterOwn es (t, suc (length row)) n → reached_in o ≤ n)
  least_by None e =
      let none = none_in row e in
      ((λ n l. subst (λ (k : ℕ). IsAfterOwn es (t, suc k) n) (sym none) (none_yet none n)), (λ n a. omega arith))
  least_by (Some w) e =
      let inside = slice_get_within row (length row - 1) w e in
      let last : suc (length row - 1) ≡ length row = omega (arith, inside) in
      let is = h.each (length row - 1) w e in (
        (λ n l. subst (λ (k : ℕ). IsAfterOwn es (t, suc k) n) last (is.reached n l)),
        (λ n a. is.not_reached n (subst (λ (k : ℕ). IsAfterOwn es (t, suc k) n) (sym last) a)),
      )

  -- the row with the window of the next transaction
  pub row_more : (e : Entry) → e.place ≡ (t, suc (length row)) → AreOfThread (es ++ e ∷ []) t (row ++ window_after row e ∷ [])
  row_more e at = record {
    count = one_longer row (window_after row e) ∙ ap suc h.count ∙ sym longer;
    each = λ i w k. by i w (push_cases row (window_after row e) i w k);
  }
    where
      thread : e.place.0 ≡ t
      thread = ap (λ (p : TransactionPlace). p.0) at

      position : e.place.1 ≡ suc (length row)
      position = ap (λ (p : TransactionPlace). p.1) at

      one_longer : {X : Type 0} (xs : List X) (x : X) → length (xs ++ x ∷ []) ≡ suc (length xs)
      one_longer [] x = refl
      one_longer (y ∷ xs) x = ap suc (one_longer xs x)

      longer : length (positions_of t (map place_of_entry (es ++ e ∷ []))) ≡ suc (length (positions_of t (map place_of_entry es)))
      longer =
          ap (λ (ps : List TransactionPlace). length (positions_of t ps)) (map-append place_of_entry es (e ∷ []))
          ∙ ap length (positions_of-more t (map place_of_entry es) e.place)
          ∙ ap (λ (b : Bool). length (positions_of t (map place_of_entry es) ++ cond b (e.place.1 ∷ []) [])) (is_thread e.place.0 t thread)
          ∙ one_longer (positions_of t (map place_of_entry es)) e.place.1

      first : All (λ (x : Entry). x.place.0 ≡ e.place.0 → x.place.1 < e.place.1) es
      first =
          All-weaker (λ (x : Entry). x.place.0 ≡ t → (1 ≤ x.place.1) × (x.place.1 < 1 + length (positions_of t (map place_of_entry es)))) (λ (x : Entry). x.place.0 ≡ e.place.0 → x.place.1 < e.place.1)
          (λ x k q. let high = (k (q ∙ thread)).1 in let c = h.count in omega (arith, high, c, position)) es (in_row es t numbers)

      by : (i : ℕ) (w : Window) → (slice_get row i ≡ Some w) ⊎ ((i ≡ length row) × (w ≡ window_after row e)) → IsWindow (es ++ e ∷ []) (t, suc i) w
      by i w (inl k) = let l = slice_get_within row i w k in window_stays es e (t, suc i) w (λ _. omega (arith, l, position)) (h.each i w k)
      by i w (inr k) =
          let least = least_by (slice_get row (length row - 1)) refl in
          let here : e.place ≡ (t, suc i) = at ∙ ap (λ (n : ℕ). let p : TransactionPlace = (t, suc n) in p) (sym k.0) in
          let own : IsWindow (es ++ e ∷ []) e.place (window_after row e) =
          window_new es e (reached_in (slice_get row (length row - 1))) (λ n l. subst (λ (p : TransactionPlace). IsAfterOwn es p n) (sym at) (least.0 n l)) (λ n a. least.1 n (subst (λ (p : TransactionPlace). IsAfterOwn es p n) at a)) first in
          subst (λ (p : TransactionPlace). IsWindow (es ++ e ∷ []) p w) here (subst (λ (v : Window). IsWindow (es ++ e ∷ []) e.place v) (sym k.1) own)

-- the row of another thread
pub row_stays : (es : List Entry) (e : Entry) (t : ℕ) (row : List Window) → (e.place.0 ≡ t → ⊥) → AreOfThread es t row → AreOfThread (es ++ e ∷ []) t row
row_stays es e t row other h = record {
  count =
      h.count
      ∙ sym (ap (λ (ps : List TransactionPlace). length (positions_of t ps)) (map-append place_of_entry es (e ∷ []))
      ∙ ap length (positions_of-more t (map place_of_entry es) e.place)
      ∙ ap (λ (b : Bool). length (positions_of t (map place_of_entry es) ++ cond b (e.place.1 ∷ []) [])) (no_thread e.place.0 t other)
      ∙ none_more (positions_of t (map place_of_entry es)));
  each = λ i w k. window_stays es e (t, suc i) w (λ q. absurd (other q)) (h.each i w k);
}
  where
    no_thread : (a b : ℕ) → (a ≡ b → ⊥) → (a == b) ≡ false
    no_thread a b e = grind (arith, nat_tests)

    none_more : (ns : List ℕ) → length (ns ++ []) ≡ length ns
    none_more [] = refl
    none_more (n ∷ ns) = ap suc (none_more ns)

-- all of them
pub windows_more : (threads : ℕ) (es : List Entry) (rows : List (List Window)) (e : Entry) (row : List Window)
    → AreWindows threads es rows → InRow es → slice_get rows e.place.0 ≡ Some row → e.place.1 ≡ suc (length (positions_of e.place.0 (map place_of_entry es)))
    → AreWindows threads (es ++ e ∷ []) (with_more rows e.place.0 (window_after row e))
windows_more threads es rows e row h numbers at next = record {
  count = more_length rows e.place.0 (window_after row e) ∙ h.count;
  each = λ t ws k. by t ws (more_cases rows e.place.0 (window_after row e) t ws k);
}
  where
    by : (t : ℕ) (ws : List Window) → IsMore rows e.place.0 (window_after row e) t ws ⊎ ((t ≡ e.place.0 → ⊥) × (slice_get rows t ≡ Some ws)) → AreOfThread (es ++ e ∷ []) t ws
    by t ws (inl k) =
        let same : k.xs ≡ row = some_same k.xs row (sym k.at ∙ at) in
        let here : AreOfThread es e.place.0 row = h.each e.place.0 row at in
        let position : e.place.1 ≡ suc (length row) = next ∙ ap suc (sym here.count) in
        subst (λ (u : ℕ). AreOfThread (es ++ e ∷ []) u ws) (sym k.same)
        (subst (AreOfThread (es ++ e ∷ []) e.place.0) (sym (k.is ∙ ap (λ (xs : List Window). xs ++ window_after row e ∷ []) same))
        (row_more es e.place.0 row here numbers e (λ i. (e.place.0, position i))))
      where
        some_same : (a b : List Window) → Some a ≡ Some b → a ≡ b
        some_same a b e = cc
    by t ws (inr k) = row_stays es e t ws (λ q. k.0 (sym q)) (h.each t ws k.1)

    only : (n t : ℕ) (row : List Window) → slice_get (replicate n []) t ≡ Some row → row ≡ []
    only zero zero row e = absurd cc
    only zero (suc t) row e = absurd cc
    only (suc n) zero row e = let same : [] ≡ row = cc in sym same
    only (suc n) (suc t) row e = only n t row e

    nothing : (i : ℕ) (w : Window) → slice_get [] i ≡ Some w → ⊥
    nothing zero w e = absurd cc
    nothing (suc i) w e = absurd cc
