-- A worker takes job after job.
use Rattle.std.specs.Prelude.{◌%◌, if◌then◌else◌, Option, Some, slice_get, option_and_then}
use Rattle.std.specs.List.{All}
use Rattle.std.proofs.Common.{◌≡◌, ℕ, zero, suc, ◌+◌, ◌<◌, ◌≤◌, List, [], ◌∷◌, ◌++◌, take, drop, length, get_or, refl, sym, ap, ◌∙◌, subst, arith, append-nil, Bool, true, false, true≢false, inl, inr}
use Rattle.std.proofs.lemmas.Bool.{cases_eq}
use Rattle.std.proofs.lemmas.List.{length-append, take-append-drop, take_more, drop_more}
use Rattle.std.proofs.lemmas.List.Elements.{All-head, All-tail}
use Rattle.std.proofs.lemmas.Option.{slice_get_within, get_or_from_slice_get, none-some}
use Rattle.sto_run_feed.specs.declared.job.Job.{Job}
use Rattle.sto_run_feed.specs.declared.job.Job.TheVariants.{Run, Last}
use Rattle.sto_run_feed.specs.Queues.{IsRun, EndsWithLast}
use Rattle.sto_run_threads.specs.Scripts.{Script, File}
use Rattle.sto_core.specs.declared.view.View.{View}
use Rattle.sto_table.specs.Taken.{times}
use Rattle.sto_run_threads.specs.Orders.{TransactionPlace, at_position, transaction_at, positions_of, numbers_from, count_in}
use Rattle.sto_run_threads.specs.Records.{Record}
use Rattle.sto_run_threads.specs.Counted.{aborted_times, finished_places}
use Rattle.sto_serializability.proofs.Working.{positions_append, finished_append, aborted_append}
use Rattle.sto_run_threads.specs.Counts.{scripts_from}
use Rattle.sto_run_threads.specs.Ran.{IsTransaction, HasRunAt}
use Rattle.sto_run_threads.specs.Running.{ended_of, HasNone}
use Rattle.sto_run_threads.specs.Worked.{HasWorked, HasSpared, IsOneMore}
use Rattle.sto_run_threads.proofs.Threads.{one_of_own, length_numbers}
use Rattle.sto_run_threads.proofs.Joined.{once_self}
use Rattle.sto_run_threads.proofs.Runs.{one_more, spared_more, placed_all}
use Rattle.sto_run_threads.proofs.Scripts.{transaction_there, adds_none}
use Rattle.sto_run_feed.specs.Jobs.{places_of, AreJobs}
use Rattle.sto_run_feed.specs.Served.{HasServed, HaveServed, AreFrom, IsJobRun, ComesNext}
use Rattle.sto_run_feed.proofs.Going.{few_places}
use Rattle.sto_run_threads.specs.Plans.{Plan}

-- a thread has the transaction at a place
within_by : (found : Option (List Script)) (threads : List (List Script)) (thread position : ℕ) (s : Script) → slice_get threads thread ≡ found
    → option_and_then (at_position (suc position)) found ≡ Some s → suc position ≤ count_in threads thread
within_by found [] thread position s e at = absurd (none-some s (ap (option_and_then (at_position (suc position))) e ∙ at))
within_by found (scripts ∷ threads) zero position s e at =
    let l = slice_get_within scripts position s (ap (option_and_then (at_position (suc position))) e ∙ at) in omega (arith, l)
within_by found (scripts ∷ threads) (suc thread) position s e at = within_by found threads thread position s e at

pub transaction_within : (file : File) (thread position : ℕ) (s : Script) → transaction_at file (thread, suc position) ≡ Some s → suc position ≤ count_in file.threads thread
transaction_within file thread position s at = within_by (slice_get file.threads thread) file.threads thread position s refl at

-- The run of the transaction at a place that is its thread's next one.
pub job_run : (plan : Plan) (passes : ℕ) (v w : View) (thread position : ℕ) (rs later : List Record) (on : Bool)
    → HasWorked plan v rs → ComesNext plan.tries (thread, position) rs
    → HasRunAt plan passes v w (thread, position) rs later on → IsJobRun plan passes w (thread, position) rs later true on
job_run plan passes v w thread position rs later on h comes run =
    subst (λ (p : ℕ). IsJobRun plan passes w (thread, p) rs later true on) next (record {
      worked = k.next.worked;
      adds = k.next.adds;
      ended = λ e. (refl, finished ∙ ap (λ (b : Bool). finished_places rs ++ (if b then place ∷ [] else [])) e, (k.next.more e).1, spared e);
      used = λ e _. (
        finished ∙ ap (λ (b : Bool). finished_places rs ++ (if b then place ∷ [] else [])) e ∙ append-nil (finished_places rs),
        ap (λ (n : ℕ). aborted_times (thread, suc n) later) (sym (k.next.left e)) ∙ k.used e,
      );
      still = λ e. absurd (true≢false e);
      alone = λ one. (k.alone one).1;
    })
  where
    next : suc (ended_of thread rs) ≡ position
    next = comes.0

    place : TransactionPlace
    place = (thread, suc (ended_of thread rs))

    own : HasRunAt plan passes v w place rs later on
    own = subst (λ (p : ℕ). HasRunAt plan passes v w (thread, p) rs later on) (sym next) run

    k : IsOneMore plan passes w thread rs later on
    k = one_more plan passes v w thread rs later on h
        (transaction_within plan.file thread (ended_of thread rs) own.script own.there)
        (inr (subst (λ (p : ℕ). aborted_times (thread, p) rs ≡ 0) (sym next) comes.1, comes.2)) own

    spared : on ≡ true → HasSpared plan.tries thread later
    spared e = subst (HasSpared plan.tries thread) (sym own.ran.whole) (spared_more plan.tries thread rs own.ran.new
        (placed_all plan.meaning v w own.script place own.ran.new own.ran.added.each)
        (let n = (k.next.more e).0 in let l = ap (ended_of thread) own.ran.whole in omega (arith, n, l))
        (λ _. (let a = aborted_append place rs own.ran.new in let b = own.ran.spare e in
        let z = subst (λ (p : ℕ). aborted_times (thread, p) rs ≡ 0) (sym next) comes.1 in omega (arith, a, b, z))) comes.2)

    finished : finished_places later ≡ finished_places rs ++ (if on then place ∷ [] else [])
    finished = ap finished_places own.ran.whole ∙ finished_append rs own.ran.new ∙ ap (λ (l : List TransactionPlace). finished_places rs ++ l) own.ran.ends

-- it is handed back
pub job_left : (plan : Plan) (passes : ℕ) (v : View) (place : TransactionPlace) (rs : List Record) → HasWorked plan v rs → IsJobRun plan passes v place rs rs false false
job_left plan passes v place rs h = record {
  worked = h;
  adds = adds_none place.0 rs;
  ended = λ e. absurd (true≢false (sym e));
  used = λ off e. absurd (true≢false (sym e));
  still = λ e. (refl, refl);
  alone = λ one other. refl;
}

-- The jobs before the end mark are the transactions, and it is the last.
pub job_place : (runs : List Job) → All IsRun runs → (k thread position : ℕ) → slice_get (runs ++ Last ∷ []) k ≡ Some (Run thread position)
    → slice_get (places_of (runs ++ Last ∷ [])) k ≡ Some (thread, position)
job_place [] all zero thread position at = absurd cc
job_place [] all (suc k) thread position at = absurd cc
job_place (Last ∷ runs) all k thread position at = absurd (All-head IsRun Last runs all)
job_place (Run t p ∷ runs) all zero thread position at = cc
job_place (Run t p ∷ runs) all (suc k) thread position at = job_place runs (All-tail IsRun (Run t p) runs all) k thread position at

pub job_last : (runs : List Job) → All IsRun runs → (k : ℕ) → slice_get (runs ++ Last ∷ []) k ≡ Some Last
    → (k ≡ length (places_of (runs ++ Last ∷ []))) × (length (runs ++ Last ∷ []) ≡ k + 1)
job_last [] all zero at = (refl, refl)
job_last [] all (suc k) at = absurd cc
job_last (Last ∷ runs) all k at = absurd (All-head IsRun Last runs all)
job_last (Run t p ∷ runs) all zero at = absurd cc
job_last (Run t p ∷ runs) all (suc k) at = let e = job_last runs (All-tail IsRun (Run t p) runs all) k at in let l = e.1 in (ap suc e.0, omega (arith, l))

pub run_at : (jobs : List Job) → EndsWithLast jobs → (k thread position : ℕ) → slice_get jobs k ≡ Some (Run thread position) → slice_get (places_of jobs) k ≡ Some (thread, position)
run_at jobs h k thread position at =
    subst (λ (l : List Job). slice_get (places_of l) k ≡ Some (thread, position)) (sym h.2)
    (job_place h.0 h.1 k thread position (subst (λ (l : List Job). slice_get l k ≡ Some (Run thread position)) h.2 at))

pub last_at : (jobs : List Job) → EndsWithLast jobs → (k : ℕ) → slice_get jobs k ≡ Some Last → (k ≡ length (places_of jobs)) × (length jobs ≡ k + 1)
last_at jobs h k at =
    subst (λ (l : List Job). (k ≡ length (places_of l)) × (length l ≡ k + 1)) (sym h.2)
    (job_last h.0 h.1 k (subst (λ (l : List Job). slice_get l k ≡ Some Last) h.2 at))

-- a number of a run of numbers
numbers_at : (first count x : ℕ) (xs ys : List ℕ) → numbers_from first count ≡ xs ++ x ∷ ys → (x ≡ first + length xs) × (length xs < count)
numbers_at first zero x [] ys e = absurd (let l = ap length e in omega (arith, l))
numbers_at first zero x (y ∷ xs) ys e = absurd (let l = ap length e in omega (arith, l))
numbers_at first (suc count) x [] ys e = (let a = ap (λ (l : List ℕ). get_or l 0 x) e in omega (arith, a), omega arith)
numbers_at first (suc count) x (y ∷ xs) ys e =
    let k = numbers_at (suc first) count x xs ys (ap (drop 1) e) in let a = k.0 in let l = k.1 in (omega (arith, a), omega (arith, l))

-- The place that comes next among those of the jobs of a queue.
pub record IsNextPlace (file : File) (queues number : ℕ) (before : List TransactionPlace) (place : TransactionPlace) : Type 0 where
  pub own : place.0 % queues ≡ number
  pub position : place.1 ≡ suc (length (positions_of place.0 before))
  pub within : length (positions_of place.0 before) < count_in file.threads place.0

split_at : (ps : List TransactionPlace) (k : ℕ) (p : TransactionPlace) → slice_get ps k ≡ Some p → ps ≡ take k ps ++ p ∷ drop (k + 1) ps
split_at ps k p at =
    let low = slice_get_within ps k p at in
    sym (take-append-drop k ps)
    ∙ ap (λ (l : List TransactionPlace). take k ps ++ l) (drop_more ps k p low ∙ ap (λ (x : TransactionPlace). x ∷ drop (k + 1) ps) (get_or_from_slice_get ps k p p at))

positions_split : (ps : List TransactionPlace) (k : ℕ) (p : TransactionPlace) → slice_get ps k ≡ Some p
    → positions_of p.0 ps ≡ positions_of p.0 (take k ps) ++ p.1 ∷ positions_of p.0 (drop (k + 1) ps)
positions_split ps k p at =
    ap (positions_of p.0) (split_at ps k p at) ∙ positions_append p.0 (take k ps) (p ∷ drop (k + 1) ps)
    ∙ ap (λ (l : List ℕ). positions_of p.0 (take k ps) ++ l)
    (positions_append p.0 (p ∷ []) (drop (k + 1) ps) ∙ ap (λ (l : List ℕ). l ++ positions_of p.0 (drop (k + 1) ps)) (one_of_own p p.0 refl))

pub next_place : (file : File) (queues number : ℕ) (jobs : List Job) → AreJobs file queues number jobs → (k : ℕ) (p : TransactionPlace) → slice_get (places_of jobs) k ≡ Some p
    → IsNextPlace file queues number (take k (places_of jobs)) p
next_place file queues number jobs h k p at = elim (cases_eq (p.0 % queues) number) [
  | inl own ↦
      let e = numbers_at 1 (count_in file.threads p.0) p.1 (positions_of p.0 (take k (places_of jobs))) (positions_of p.0 (drop (k + 1) (places_of jobs)))
      (sym (h.own p.0 own) ∙ positions_split (places_of jobs) k p at) in
      record { own = own; position = (let a = e.0 in omega (arith, a)); within = e.1 }
  | inr other ↦
      let e = ap length (sym (h.others p.0 other) ∙ positions_split (places_of jobs) k p at) in
      let l = length-append (positions_of p.0 (take k (places_of jobs))) (p.1 ∷ positions_of p.0 (drop (k + 1) (places_of jobs))) in
      absurd (omega (arith, e, l))
]

pub place_there : (file : File) (queues number : ℕ) (before : List TransactionPlace) (thread position : ℕ) → IsNextPlace file queues number before (thread, position) → IsTransaction file (thread, position)
place_there file queues number before thread position h =
    let p = h.position in
    subst (λ (n : ℕ). IsTransaction file (thread, n)) (let e : length (positions_of thread before) + 1 ≡ position = omega (arith, p) in e)
    (transaction_there file thread (length (positions_of thread before)) h.within)

-- no more jobs than the file has transactions
pub few_jobs : (file : File) (queues number : ℕ) (jobs : List Job) → AreJobs file queues number jobs → length (places_of jobs) ≤ scripts_from file.threads 0
few_jobs file queues number jobs h = few_places file.threads (places_of jobs) each
  where
    each : (thread : ℕ) → length (positions_of thread (places_of jobs)) ≤ count_in file.threads thread
    each thread = elim (cases_eq (thread % queues) number) [
      | inl own ↦ (let e = ap length (h.own thread own) in let n = length_numbers 1 (count_in file.threads thread) in omega (arith, e, n))
      | inr other ↦ (let e = ap length (h.others thread other) in omega (arith, e))
    ]

-- What a worker has done that has taken so many jobs: it ran them all to their end, or one used up its tries.
pub record IsServing (tries queues number : ℕ) (places : List TransactionPlace) (taken : ℕ) (rs : List Record) (runs : Bool) : Type 0 where
  pub fine : runs ≡ true → (finished_places rs ≡ take taken places) × ((u : ℕ) → (aborted_times (u, suc (ended_of u rs)) rs ≡ 0) × HasSpared tries u rs)
  pub back : runs ≡ false → (ran : ℕ) × (place : TransactionPlace) × (ran < taken) × (finished_places rs ≡ take ran places) × (slice_get places ran ≡ Some place) × (aborted_times place rs ≡ tries)
  pub own : (thread : ℕ) → (thread % queues ≡ number → ⊥) → HasNone thread rs

pub serving_none : (tries queues number : ℕ) (places : List TransactionPlace) → IsServing tries queues number places 0 [] true
serving_none tries queues number places = record {
  fine = λ e. (refl, λ u. (refl, λ position low high. absurd (omega (arith, low, high))));
  back = λ e. absurd (true≢false e);
  own = λ thread other k d l. absurd (omega (arith, l));
}

-- the next transaction is the next one of its thread, and was not tried yet
pub comes_next : (plan : Plan) (queues number : ℕ) (places : List TransactionPlace) (taken thread position : ℕ) (rs : List Record) (runs : Bool)
    → IsServing plan.tries queues number places taken rs runs → IsNextPlace plan.file queues number (take taken places) (thread, position) → runs ≡ true
    → ComesNext plan.tries (thread, position) rs
comes_next plan queues number places taken thread position rs runs h next on =
    let fine = h.fine on in
    let same : ended_of thread rs ≡ length (positions_of thread (take taken places)) = ap (λ (l : List TransactionPlace). length (positions_of thread l)) fine.0 in
    let e : suc (ended_of thread rs) ≡ position = ap suc same ∙ sym next.position in
    (e, subst (λ (n : ℕ). aborted_times (thread, n) rs ≡ 0) e (fine.1 thread).0, (fine.1 thread).1)

take_one : (ps : List TransactionPlace) (k : ℕ) (p : TransactionPlace) → slice_get ps k ≡ Some p → take k ps ++ p ∷ [] ≡ take (k + 1) ps
take_one ps k p at =
    sym (take_more ps k p (slice_get_within ps k p at) ∙ ap (λ (x : TransactionPlace). take k ps ++ x ∷ []) (get_or_from_slice_get ps k p p at))

pub serving_more : (plan : Plan) (passes queues number : ℕ) (w : View) (places : List TransactionPlace) (taken : ℕ) (place : TransactionPlace) (rs later : List Record) (runs on : Bool)
    → slice_get places taken ≡ Some place → place.0 % queues ≡ number → IsServing plan.tries queues number places taken rs runs
    → IsJobRun plan passes w place rs later runs on → IsServing plan.tries queues number places (taken + 1) later on
serving_more plan passes queues number w places taken place rs later runs on at goes h run = record {
  fine = λ e. fine (run.ended e);
  back = λ e. by runs e run.used run.still h.back h.fine;
  own = λ thread other. run.adds.apart thread (λ is. other (sym (ap (λ (n : ℕ). n % queues) is) ∙ goes)) (h.own thread other);
}
  where
    fine : (runs ≡ true) × (finished_places later ≡ finished_places rs ++ place ∷ []) × (aborted_times (place.0, suc (ended_of place.0 later)) later ≡ 0) × HasSpared plan.tries place.0 later
        → (finished_places later ≡ take (taken + 1) places) × ((u : ℕ) → (aborted_times (u, suc (ended_of u later)) later ≡ 0) × HasSpared plan.tries u later)
    fine e = (
      e.1 ∙ ap (λ (l : List TransactionPlace). l ++ place ∷ []) (h.fine e.0).0 ∙ take_one places taken place at,
      λ u. elim (cases_eq place.0 u) [
        | inl same ↦ subst (λ (n : ℕ). (aborted_times (n, suc (ended_of n later)) later ≡ 0) × HasSpared plan.tries n later) same (e.2, e.3)
        | inr other ↦ (
          run.adds.aborts (u, suc (ended_of u later)) other ∙ ap (λ (n : ℕ). aborted_times (u, suc n) rs) (run.adds.others u other) ∙ ((h.fine e.0).1 u).0,
          λ position low high. (let a = run.adds.aborts (u, position) other in let n = run.adds.others u other in
              let s = ((h.fine e.0).1 u).1 position low (omega (arith, high, n)) in omega (arith, a, s)),
        )
      ],
    )

    by : (b : Bool) → on ≡ false → (on ≡ false → b ≡ true → (finished_places later ≡ finished_places rs) × (aborted_times place later ≡ plan.tries))
        → (b ≡ false → (on ≡ false) × (later ≡ rs))
        → (b ≡ false → (ran : ℕ) × (p : TransactionPlace) × (ran < taken) × (finished_places rs ≡ take ran places) × (slice_get places ran ≡ Some p) × (aborted_times p rs ≡ plan.tries))
        → (b ≡ true → (finished_places rs ≡ take taken places) × ((u : ℕ) → (aborted_times (u, suc (ended_of u rs)) rs ≡ 0) × HasSpared plan.tries u rs))
        → (ran : ℕ) × (p : TransactionPlace) × (ran < taken + 1) × (finished_places later ≡ take ran places) × (slice_get places ran ≡ Some p) × (aborted_times p later ≡ plan.tries)
    by true off used still back fine = (taken, place, omega arith, (used off refl).0 ∙ (fine refl).0, at, (used off refl).1)
    by false off used still back fine =
        let k = back refl in let same = (still refl).1 in let l = k.2 in
        (k.0, k.1, omega (arith, l), ap finished_places same ∙ k.3, k.4, ap (aborted_times k.1) same ∙ k.5)

-- the end mark was taken
pub serving_ends : (tries queues number : ℕ) (jobs : List Job) (taken : ℕ) (rs : List Record) (runs : Bool) → taken ≡ length (places_of jobs)
    → IsServing tries queues number (places_of jobs) taken rs runs → HasServed tries jobs rs
serving_ends tries queues number jobs taken rs true all h = record {
  ran = taken;
  within = omega (arith, all);
  ended = (h.fine refl).0;
  back = inl all;
}
serving_ends tries queues number jobs taken rs false all h =
    let k = h.back refl in let l = k.2 in record {
      ran = k.0;
      within = omega (arith, all, l);
      ended = k.3;
      back = inr (k.1, k.4, k.5);
    }

-- the same of one worker
pub served_one : (tries : ℕ) (jobs : List Job) (rs : List Record) → HasServed tries jobs rs → HaveServed tries (jobs ∷ []) rs
served_one tries jobs rs h = (rs, [], sym (append-nil rs), h, refl)

pub from_one : (tries queues number : ℕ) (places : List TransactionPlace) (taken : ℕ) (rs : List Record) (runs : Bool) → IsServing tries queues number places taken rs runs → AreFrom queues (number ∷ []) rs
from_one tries queues number places taken rs runs h thread none =
    h.own thread (λ is. absurd (let e = ap (λ (n : ℕ). times n (number ∷ [])) is in let o = once_self number in omega (arith, e, o, none)))
