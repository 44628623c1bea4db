-- A worker claims a further thread.
use Rattle.std.specs.Prelude.{◌⊎◌, ◌*◌}
use Rattle.std.proofs.Common.{◌≡◌, ℕ, zero, suc, ◌+◌, ◌-◌, ◌<◌, ◌≤◌, List, [], ◌∷◌, ◌++◌, length, refl, sym, ap, ◌∙◌, subst, arith, inl, inr}
use Rattle.sto_core.specs.Lists.{Each}
use Rattle.sto_lang.specs.Scripts.{Script, File}
use Rattle.std.specs.Prelude.{nat_eq}
use Rattle.std.specs.List.{All}
use Rattle.std.proofs.Common.{Bool, true, false, ne_eqb}
use Rattle.std.proofs.lemmas.Bool.{cases_eq}
use Rattle.std.proofs.lemmas.List.Sums.{sum_by-cons}
use Rattle.sto_core.specs.declared.view.View.{View}
use Rattle.sto_core.specs.Lists.{weight}
use Rattle.sto_table.specs.Taken.{times, past, once_below}
use Rattle.std.proofs.Common.{map, take, get_or, sum_by, eq-eqb}
use Rattle.sto_transaction.specs.declared.record.Record as code
use Rattle.sto_transaction.specs.Plain.{plain}
use Rattle.sto_serializability.proofs.Chains.{Every, every}
use Rattle.sto_serializability.proofs.Pairs.{all_of}
use Rattle.sto_run_threads.specs.Running.{AreUnderWay}
use Rattle.std.specs.Prelude.{nat_le}
use Rattle.std.proofs.lemmas.Bool.Decides.{nat_tests}
use Rattle.sto_report_spec.specs.Orders.{count_in}
use Rattle.sto_history.specs.Records.{Record}
use Rattle.sto_history.specs.Counted.{aborted_times}
use Rattle.sto_serializability.proofs.Working.{aborted_append}
use Rattle.sto_run_threads.specs.Running.{ended_of}
use Rattle.sto_run_threads.specs.Worked.{AreOf, AreDone, IsDone, IsScriptRun}
use Rattle.sto_run_threads.proofs.Threads.{ended_append}
use Rattle.sto_run_threads.proofs.Joined.{times_append, either_list, none_has_ended, none_was_aborted}
use Rattle.sto_run_threads.specs.Counts.{scripts_from, next_after}
use Rattle.sto_run_threads.specs.Plans.{Plan}

-- the transactions of a thread, and those after it, are of those from an earlier one on
pub thread_within : (threads : List (List Script)) (thread n : ℕ) → n ≤ thread → count_in threads thread + scripts_from threads (suc thread) ≤ scripts_from threads n
thread_within [] thread n l = omega arith
thread_within (s ∷ ts) zero zero l = omega arith
thread_within (s ∷ ts) zero (suc n) l = absurd (omega (arith, l))
thread_within (s ∷ ts) (suc thread) zero l = let k = thread_within ts thread zero (omega arith) in omega (arith, k)
thread_within (s ∷ ts) (suc thread) (suc n) l = thread_within ts thread n (omega (arith, l))

pub next_is : (xs : List ℕ) (n : ℕ) → Each (λ (x : ℕ). x < n) xs → next_after xs ≤ n
next_is [] n h = omega arith
next_is (x ∷ xs) n h = let l : x < n = h 0 x refl in let k = next_is xs n (λ j y at. h (suc j) y at) in omega (arith, l, k)

pub next_more : (xs : List ℕ) (n : ℕ) → Each (λ (x : ℕ). x < n) xs → next_after (xs ++ n ∷ []) ≡ suc n
next_more [] n h = omega arith
next_more (x ∷ xs) n h = let l : x < n = h 0 x refl in let k = next_more xs n (λ j y at. h (suc j) y at) in omega (arith, l, k)

-- what is done stays done where the counts of the thread stay
done_still : (plan : Plan) (u : ℕ) (rs later : List Record) → ended_of u later ≡ ended_of u rs
    → ((position : ℕ) → aborted_times (u, position) later ≡ aborted_times (u, position) rs) → IsDone plan rs u → IsDone plan later u
done_still plan u rs later ended aborts (inl all) = inl (ended ∙ all)
done_still plan u rs later ended aborts (inr used) = inr (aborts (suc (ended_of u later)) ∙ ap (λ (n : ℕ). aborted_times (u, suc n) rs) ended ∙ used)

script_done : (plan : Plan) (passes : ℕ) (w : View) (n : ℕ) (rs later : List Record) (b : Bool) → IsScriptRun plan passes w n rs later b → IsDone plan later n
script_done plan passes w n rs later true h = inl (h.all refl)
script_done plan passes w n rs later false h = inr (h.left refl)

not_hit : (u n : ℕ) → (n ≡ u → ⊥) → times u (n ∷ []) ≡ 0
not_hit u n other = let e : weight (nat_eq u n) ≡ 0 = ap weight (ne_eqb u n (λ is. other (sym is))) in omega (arith, e)

-- a claimed thread was run
pub done_more : (plan : Plan) (passes : ℕ) (w : View) (threads : List ℕ) (n : ℕ) (rs later : List Record) (b : Bool)
    → IsScriptRun plan passes w n rs later b → AreDone plan threads rs → AreDone plan (threads ++ n ∷ []) later
done_more plan passes w threads n rs later b h done u low = elim (cases_eq n u) [
  | inl same ↦ inr (subst (IsDone plan later) same (script_done plan passes w n rs later b h))
  | inr other ↦ elim (done u low) [
    | inl none ↦ inl (let a = times_append u threads (n ∷ []) in let k = not_hit u n other in omega (arith, a, k, none))
    | inr is ↦ inr (done_still plan u rs later (h.adds.others u other) (λ position. h.adds.aborts (u, position) other) is)
  ]
]

-- a number past the threads was claimed
pub of_past : (threads : List ℕ) (n : ℕ) (rs : List Record) → AreOf threads rs → AreOf (threads ++ n ∷ []) rs
of_past threads n rs h u none = h u (let a = times_append u threads (n ∷ []) in omega (arith, a, none))

pub done_past : (plan : Plan) (threads : List ℕ) (n : ℕ) (rs : List Record) → length plan.file.threads ≤ n → AreDone plan threads rs → AreDone plan (threads ++ n ∷ []) rs
done_past plan threads n rs far done u low = elim (done u low) [
  | inl none ↦ inl (let a = times_append u threads (n ∷ []) in let k = not_hit u n (λ is. absurd (omega (arith, is, low, far))) in omega (arith, a, k, none))
  | inr is ↦ inr is
]

-- two passes are gathered
pub done_both : (plan : Plan) (xs ys : List ℕ) (rs ss : List Record) → ((x : ℕ) → times x xs + times x ys ≤ 1) → AreOf xs rs → AreOf ys ss
    → AreDone plan xs rs → AreDone plan ys ss → AreDone plan (xs ++ ys) (rs ++ ss)
done_both plan xs ys rs ss apart own other h k u low = elim (either_list xs ys apart u) [
  | inl none ↦ elim (k u low) [
    | inl too ↦ inl (let a = times_append u xs ys in omega (arith, a, none, too))
    | inr is ↦ inr (done_still plan u ss (rs ++ ss)
        (let a = ended_append u rs ss in let z = none_has_ended u rs (own u none) in omega (arith, a, z))
        (λ position. (let a = aborted_append (u, position) rs ss in let z = none_was_aborted (u, position) rs (own u none) in omega (arith, a, z))) is)
  ]
  | inr none ↦ elim (h u low) [
    | inl too ↦ inl (let a = times_append u xs ys in omega (arith, a, none, too))
    | inr is ↦ inr (done_still plan u rs (rs ++ ss)
        (let a = ended_append u rs ss in let z = none_has_ended u ss (other u none) in omega (arith, a, z))
        (λ position. (let a = aborted_append (u, position) rs ss in let z = none_was_aborted (u, position) ss (other u none) in omega (arith, a, z))) is)
  ]
]

-- a product by one more
pub less_one : (t a b : ℕ) → b < a → t * (a - b) ≡ t * (a - (b + 1)) + t
less_one t a b l = let e : a - b ≡ suc (a - (b + 1)) = omega (arith, l) in ap (λ (n : ℕ). t * n) e ∙ omega arith

pub more_one : (t a b : ℕ) → a ≤ b → t * (b + 1 - a) ≡ t * (b - a) + t
more_one t a b l = let e : b + 1 - a ≡ suc (b - a) = omega (arith, l) in ap (λ (n : ℕ). t * n) e ∙ omega arith

pub times_le : (t a b c : ℕ) → a + c ≤ b → t * a + t * c ≤ t * b
times_le t a b c l =
    let e : b ≡ a + c + (b - (a + c)) = omega (arith, l) in
    let d : t * b ≡ t * a + t * c + t * (b - (a + c)) = ap (λ (n : ℕ). t * n) e ∙ split t a c (b - (a + c)) in omega (arith, d)
  where
    split : (t a b c : ℕ) → t * (a + b + c) ≡ t * a + t * b + t * c
    split t a b c = grind arith

-- what a worker is left to draw, with some more that it does not touch
pub draws_left : (t count sum later more draws left : ℕ) → count + later ≤ sum → t * sum + more ≤ draws → (t * count ≤ draws) × (draws ≤ left + t * count → t * later + more ≤ left)
draws_left t count sum later more draws left l d =
    let k = times_le t count sum later l in (omega (arith, k, d), λ e. omega (arith, k, d, e))

-- the same where so many were there at first, of which all may be used
pub spent_left : (t count sum later first all draws left : ℕ) → count + later ≤ sum → all ≤ first → first + t * sum ≤ draws + all
    → (t * count ≤ draws) × (draws ≤ left + t * count → first + t * later ≤ left + all)
spent_left t count sum later first all draws left l enough d =
    let k = times_le t count sum later l in (omega (arith, k, d, enough), λ e. omega (arith, k, d, e))

pub past_more : (count : ℕ) (xs : List ℕ) (n : ℕ) → past count xs ≡ 0 → n < count → past count (xs ++ n ∷ []) ≡ 0
past_more count [] n h l = let e : nat_le count n ≡ false = grind (arith, nat_tests, l) in let w : weight (nat_le count n) ≡ 0 = ap weight e in omega (arith, w)
past_more count (x ∷ xs) n h l =
    let k = past_more count xs n (omega (arith, h)) l in omega (arith, h, k)

-- a thread of the file, or one that has no transactions
pub count_case : (threads : List (List Script)) (u : ℕ) → (u < length threads) ⊎ (count_in threads u ≡ 0)
count_case [] u = inr refl
count_case (s ∷ ts) zero = inl (omega arith)
count_case (s ∷ ts) (suc u) = elim (count_case ts u) [
  | inl l ↦ inl (omega (arith, l))
  | inr e ↦ inr e
]

pub counts_of_all : (file : File) (rs : List Record) → AreUnderWay file rs → ((u : ℕ) → u < length file.threads → ended_of u rs ≡ count_in file.threads u) → (u : ℕ) → ended_of u rs ≡ count_in file.threads u
counts_of_all file rs h all u = elim (count_case file.threads u) [
  | inl l ↦ all u l
  | inr none ↦ (let w = (h u).within in omega (arith, none, w))
]

-- which numbers are below a word
below_is : (x word : ℕ) → 1 ≤ once_below x word → x < word
below_is x zero h = absurd (omega (arith, h))
below_is x (suc n) h = elim (cases_eq x n) [
  | inl same ↦ omega (arith, same)
  | inr other ↦ (let e : weight (nat_eq x n) ≡ 0 = ap weight (ne_eqb x n other) in let k = below_is x n (omega (arith, h, e)) in omega (arith, k))
]

is_below : (x word : ℕ) → x < word → 1 ≤ once_below x word
is_below x zero l = absurd (omega (arith, l))
is_below x (suc n) l = elim (cases_eq x n) [
  | inl same ↦ (let e : weight (nat_eq x n) ≡ 1 = ap weight (eq-eqb x n same) in omega (arith, e))
  | inr other ↦ (let k = is_below x n (omega (arith, l, other)) in omega (arith, k))
]

-- below a number that was claimed, each was
pub was_claimed : (numbers : List ℕ) (word : ℕ) → ((x : ℕ) → times x numbers ≡ once_below x word) → (last thread : ℕ) → thread < last → 1 ≤ times last numbers → times thread numbers ≡ 0 → ⊥
was_claimed numbers word all last thread l found none =
    let a = all last in let b = all thread in
    let far = below_is last word (omega (arith, a, found)) in
    let k = is_below thread word (omega (arith, l, far)) in absurd (omega (arith, b, k, none))

-- lists with one more item at the end
snoc_every : {X : Type 0} (P : X → Type 0) (xs : List X) (x : X) → Every P (xs ++ x ∷ []) → Every P xs × P x
snoc_every P [] x h = (tt, h.0)
snoc_every P (y ∷ xs) x h = let k = snoc_every P xs x h.1 in ((h.0, k.0), k.1)

pub snoc_last : {X : Type 0} (P : X → Type 0) (xs : List X) (x : X) → All P (xs ++ x ∷ []) → All P xs × P x
snoc_last P xs x h = let k = snoc_every P xs x (every P (xs ++ x ∷ []) h) in (all_of P xs k.0, k.1)

pub all_one : {X : Type 0} (P : X → Type 0) (x : X) → P x → All P (x ∷ [])
all_one P x p = all_of P (x ∷ []) (p, tt)

pub snoc_sum : {X : Type 0} (f : X → ℕ) (xs : List X) (x : X) → sum_by f (xs ++ x ∷ []) ≡ sum_by f xs + f x
snoc_sum f [] x = omega arith
snoc_sum f (y ∷ xs) x = let k = snoc_sum f xs x in let a = sum_by-cons f y (xs ++ x ∷ []) in let b = sum_by-cons f y xs in omega (arith, k, a, b)

pub snoc_length : {X : Type 0} (xs : List X) (x : X) → length (xs ++ x ∷ []) ≡ length xs + 1
snoc_length [] x = refl
snoc_length (y ∷ xs) x = let k = snoc_length xs x in omega (arith, k)

-- the records counted so far, and one more
pub ended_take : (thread : ℕ) (rs : List code.Record) (i : ℕ) (r : code.Record) → i < length rs → r ≡ get_or rs i r
    → ended_of thread (map plain (take (i + 1) rs)) ≡ ended_of thread (map plain (take i rs)) + ended_of thread (plain r ∷ [])
ended_take thread [] i r l e = absurd (omega (arith, l))
ended_take thread (x ∷ rs) zero r l e = let k = ap (λ (y : code.Record). ended_of thread (plain y ∷ [])) (sym e) in omega (arith, k)
ended_take thread (x ∷ rs) (suc i) r l e =
    let one : suc i + 1 ≡ suc (i + 1) = omega arith in
    let k = ended_take thread rs i r (omega (arith, l)) e in
    let a = ended_append thread (plain x ∷ []) (map plain (take (i + 1) rs)) in
    let b = ended_append thread (plain x ∷ []) (map plain (take i rs)) in
    ap (λ (j : ℕ). ended_of thread (map plain (take j (x ∷ rs)))) one ∙ omega (arith, k, a, b)
