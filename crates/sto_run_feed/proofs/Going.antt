-- The jobs of a queue.
use Rattle.std.specs.Prelude.{◌%◌, if◌then◌else◌}
use Rattle.std.specs.List.{All}
use Rattle.std.proofs.Common.{◌≡◌, ℕ, zero, suc, ◌+◌, ◌<◌, ◌≤◌, List, [], ◌∷◌, ◌++◌, map, take, length, get_or, refl, sym, ap, ◌∙◌, arith, append-nil, Bool, true, false, cond, inl, inr, ◌==◌, eq-eqb, ne_eqb}
use Rattle.std.proofs.lemmas.Bool.{cases_eq}
use Rattle.std.proofs.lemmas.List.{map-append, take_more}
use Rattle.std.proofs.lemmas.List.Elements.{All-cons, filter-append}
use Rattle.sto_run_feed.specs.declared.job.Job.{Job}
use Rattle.sto_run_feed.specs.declared.job.Job.TheVariants.{Last}
use Rattle.sto_run_feed.specs.Queues.{IsRun, EndsWithLast}
use Rattle.sto_run_threads.specs.Scripts.{Script, File}
use Rattle.sto_run_threads.specs.Orders.{TransactionPlace as Place, positions_of, count_in, IsOrder}
use Rattle.sto_run_threads.specs.Counts.{scripts_from}
use Rattle.sto_run_feed.specs.declared.order.TransactionPlace as code
use Rattle.sto_run_feed.specs.Orders.{place_of}
use Rattle.sto_run_feed.specs.Jobs.{run_of, goes_to, going_to, jobs_for, places_of, AreJobs}

-- the transactions of runs, and of an end mark
pub runs_name : (ps : List Place) (jobs : List Job) → places_of (map run_of ps ++ jobs) ≡ ps ++ places_of jobs
runs_name [] jobs = refl
runs_name (p ∷ ps) jobs = ap (λ (l : List Place). p ∷ l) (runs_name ps jobs)

pub jobs_name : (queues number : ℕ) (order : List Place) → places_of (jobs_for queues number order) ≡ going_to queues number order
jobs_name queues number order = runs_name (going_to queues number order) (Last ∷ []) ∙ append-nil (going_to queues number order)

all_runs : (ps : List Place) → All IsRun (map run_of ps)
all_runs [] = λ k d l. absurd (omega (arith, l))
all_runs (p ∷ ps) = All-cons IsRun (run_of p) (map run_of ps) tt (all_runs ps)

pub jobs_end : (queues number : ℕ) (order : List Place) → EndsWithLast (jobs_for queues number order)
jobs_end queues number order = (map run_of (going_to queues number order), all_runs (going_to queues number order), refl)

-- of the threads of the queue all transactions go to it, of others none
positions_kept : (queues number thread : ℕ) (order : List Place) → thread % queues ≡ number → positions_of thread (going_to queues number order) ≡ positions_of thread order
positions_kept queues number thread [] own = refl
positions_kept queues number thread (p ∷ order) own = elim (cases_eq p.0 thread) [
  | inl same ↦
      let to : goes_to queues number p ≡ true = eq-eqb (p.0 % queues) number (ap (λ (n : ℕ). n % queues) same ∙ own) in
      ap (λ (b : Bool). positions_of thread (cond b (p ∷ going_to queues number order) (going_to queues number order))) to
      ∙ ap (λ (l : List ℕ). if p.0 == thread then p.1 ∷ l else l) (positions_kept queues number thread order own)
  | inr other ↦ by (goes_to queues number p) (positions_kept queues number thread order own) (ne_eqb p.0 thread other)
]
  where
    by : (b : Bool) → positions_of thread (going_to queues number order) ≡ positions_of thread order → (p.0 == thread) ≡ false
        → positions_of thread (cond b (p ∷ going_to queues number order) (going_to queues number order)) ≡ positions_of thread (p ∷ order)
    by true k apart = ap (λ (l : List ℕ). if p.0 == thread then p.1 ∷ l else l) k
    by false k apart = k ∙ sym (ap (λ (b : Bool). if b then p.1 ∷ positions_of thread order else positions_of thread order) apart)

positions_dropped : (queues number thread : ℕ) (order : List Place) → (thread % queues ≡ number → ⊥) → positions_of thread (going_to queues number order) ≡ []
positions_dropped queues number thread [] other = refl
positions_dropped queues number thread (p ∷ order) other = elim (cases_eq p.0 thread) [
  | inl same ↦
      let to : goes_to queues number p ≡ false = ne_eqb (p.0 % queues) number (λ is. other (sym (ap (λ (n : ℕ). n % queues) same) ∙ is)) in
      ap (λ (b : Bool). positions_of thread (cond b (p ∷ going_to queues number order) (going_to queues number order))) to ∙ positions_dropped queues number thread order other
  | inr apart ↦ by (goes_to queues number p) (positions_dropped queues number thread order other) (ne_eqb p.0 thread apart)
]
  where
    by : (b : Bool) → positions_of thread (going_to queues number order) ≡ [] → (p.0 == thread) ≡ false
        → positions_of thread (cond b (p ∷ going_to queues number order) (going_to queues number order)) ≡ []
    by true k far = ap (λ (c : Bool). if c then p.1 ∷ positions_of thread (going_to queues number order) else positions_of thread (going_to queues number order)) far ∙ k
    by false k far = k

pub are_jobs : (file : File) (queues number : ℕ) (order : List Place) → IsOrder file order → AreJobs file queues number (jobs_for queues number order)
are_jobs file queues number order h = record {
  last = jobs_end queues number order;
  own = λ thread own. ap (positions_of thread) (jobs_name queues number order) ∙ positions_kept queues number thread order own ∙ h thread;
  others = λ thread other. ap (positions_of thread) (jobs_name queues number order) ∙ positions_dropped queues number thread order other;
}

-- one more place of an order
place_more : (queues number : ℕ) (ps : List code.TransactionPlace) (i : ℕ) (p : code.TransactionPlace) → i < length ps → p ≡ get_or ps i p
    → going_to queues number (map place_of (take (i + 1) ps)) ≡ going_to queues number (map place_of (take i ps)) ++ going_to queues number (place_of p ∷ [])
place_more queues number ps i p l is =
    ap (λ (xs : List code.TransactionPlace). going_to queues number (map place_of xs)) (take_more ps i p l ∙ ap (λ (x : code.TransactionPlace). take i ps ++ x ∷ []) (sym is))
    ∙ ap (going_to queues number) (map-append place_of (take i ps) (p ∷ []))
    ∙ filter-append (goes_to queues number) (map place_of (take i ps)) (place_of p ∷ [])

pub goes_more : (queues number : ℕ) (ps : List code.TransactionPlace) (i : ℕ) (p : code.TransactionPlace) → i < length ps → p ≡ get_or ps i p → p.thread % queues ≡ number
    → going_to queues number (map place_of (take (i + 1) ps)) ≡ going_to queues number (map place_of (take i ps)) ++ place_of p ∷ []
goes_more queues number ps i p l is own =
    place_more queues number ps i p l is
    ∙ ap (λ (b : Bool). going_to queues number (map place_of (take i ps)) ++ cond b (place_of p ∷ []) []) (eq-eqb (p.thread % queues) number own)

pub goes_not : (queues number : ℕ) (ps : List code.TransactionPlace) (i : ℕ) (p : code.TransactionPlace) → i < length ps → p ≡ get_or ps i p → (p.thread % queues ≡ number → ⊥)
    → going_to queues number (map place_of (take (i + 1) ps)) ≡ going_to queues number (map place_of (take i ps))
goes_not queues number ps i p l is other =
    place_more queues number ps i p l is
    ∙ ap (λ (b : Bool). going_to queues number (map place_of (take i ps)) ++ cond b (place_of p ∷ []) []) (ne_eqb (p.thread % queues) number other)
    ∙ append-nil (going_to queues number (map place_of (take i ps)))

-- A list of places has no more than the file, where none of its threads has more.
abbrev shifted : List Place → List Place
shifted [] = []
shifted ((zero, position) ∷ ps) = shifted ps
shifted ((suc thread, position) ∷ ps) = (thread, position) ∷ shifted ps

both_parts : (ps : List Place) → length ps ≡ length (positions_of 0 ps) + length (shifted ps)
both_parts [] = omega arith
both_parts ((zero, position) ∷ ps) = let k = both_parts ps in omega (arith, k)
both_parts ((suc thread, position) ∷ ps) =
    let k = both_parts ps in
    let e : length (positions_of 0 ((suc thread, position) ∷ ps)) ≡ length (positions_of 0 ps) =
    ap (λ (b : Bool). let n : ℕ = length (if b then position ∷ positions_of 0 ps else positions_of 0 ps) in n) (ne_eqb (suc thread) 0 (λ is. absurd (omega (arith, is)))) in
    omega (arith, k, e)

same_test : (a b : ℕ) → (a == b) ≡ (suc a == suc b)
same_test a b = elim (cases_eq a b) [
  | inl same ↦ eq-eqb a b same ∙ sym (eq-eqb (suc a) (suc b) (ap suc same))
  | inr other ↦ ne_eqb a b other ∙ sym (ne_eqb (suc a) (suc b) (λ is. other (omega (arith, is))))
]

shifted_positions : (thread : ℕ) (ps : List Place) → positions_of thread (shifted ps) ≡ positions_of (suc thread) ps
shifted_positions thread [] = refl
shifted_positions thread ((zero, position) ∷ ps) =
    shifted_positions thread ps
    ∙ sym (ap (λ (b : Bool). if b then position ∷ positions_of (suc thread) ps else positions_of (suc thread) ps) (ne_eqb 0 (suc thread) (λ is. absurd (omega (arith, is)))))
shifted_positions thread ((suc u, position) ∷ ps) =
    ap (λ (l : List ℕ). if u == thread then position ∷ l else l) (shifted_positions thread ps)
    ∙ ap (λ (b : Bool). if b then position ∷ positions_of (suc thread) ps else positions_of (suc thread) ps) (same_test u thread)

none_there : (ps : List Place) → ((thread : ℕ) → length (positions_of thread ps) ≤ 0) → length ps ≤ 0
none_there [] h = omega arith
none_there (p ∷ ps) h =
    let e = ap (λ (b : Bool). let n : ℕ = length (if b then p.1 ∷ positions_of p.0 ps else positions_of p.0 ps) in n) (eq-eqb p.0 p.0 refl) in
    let l = h p.0 in absurd (omega (arith, e, l))

pub few_places : (threads : List (List Script)) (ps : List Place) → ((thread : ℕ) → length (positions_of thread ps) ≤ count_in threads thread) → length ps ≤ scripts_from threads 0
few_places [] ps h = none_there ps h
few_places (scripts ∷ threads) ps h =
    let k = few_places threads (shifted ps) (λ thread. (let e = ap length (shifted_positions thread ps) in let l = h (suc thread) in omega (arith, e, l))) in
    let here = h 0 in let both = both_parts ps in omega (arith, k, here, both)
