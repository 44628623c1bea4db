-- The feeder sends the jobs of each queue in their order.
use Rattle.std.specs.Prelude.{◌%◌, nat_lt, if◌then◌else◌, Some, slice_get}
use Rattle.std.proofs.Common.{◌≡◌, ℕ, zero, suc, ◌+◌, ◌<◌, ◌≤◌, List, [], ◌∷◌, ◌++◌, map, take, drop, length, get_or, set, refl, sym, ap, ◌∙◌, subst, arith, Bool, true, false, inl, inr}
use Rattle.std.proofs.lemmas.Bool.{cases_eq}
use Rattle.std.proofs.lemmas.Bool.Decides.{nat_tests}
use Rattle.std.proofs.lemmas.List.{append_assoc, map-append, length-map, length-append, length_push, take-append-drop, take_all, drop_more}
use Rattle.std.proofs.lemmas.List.Elements.{filter-append}
use Rattle.sto_run_feed.specs.declared.job.Job.{Job}
use Rattle.sto_run_feed.specs.declared.job.Job.TheVariants.{Run, Last}
use Rattle.sto_run_feed.specs.declared.known.Known.{Known}
use Rattle.sto_run_feed.specs.declared.pass.JobQueue.{JobQueue}
use Rattle.sto_run_feed.specs.declared.pass.JobPass.{JobPass}
use Rattle.sto_run_feed.specs.Queues.{feeding}
use Rattle.sto_run_feed.specs.Passes.{IsPass, known}
use Rattle.sto_run_threads.specs.Orders.{TransactionPlace as Place}
use Rattle.sto_run_feed.specs.declared.order.TransactionPlace as code
use Rattle.sto_run_feed.specs.Orders.{place_of}
use Rattle.sto_run_feed.specs.Jobs.{run_of, goes_to, going_to, jobs_for}
use Rattle.sto_run_feed.specs.QueuePasses.{IsAt, AreAt, all_sent}
use Rattle.sto_run_feed.proofs.Going.{goes_more, goes_not}
use Rattle.sto_run_feed.proofs.Passes.{at_known, pass_at, set_at}

-- what the pass of a queue knows before the ith place of an order, and before the end mark of the ith queue
abbrev pub runs_sent : ℕ → List code.TransactionPlace → ℕ → ℕ → Known
runs_sent queues ps i n = feeding (jobs_for queues n (map place_of ps)) (length (going_to queues n (map place_of (take i ps))))

abbrev pub ends_sent : ℕ → List code.TransactionPlace → ℕ → ℕ → Known
ends_sent queues ps i n =
    feeding (jobs_for queues n (map place_of ps)) (if nat_lt n i then length (jobs_for queues n (map place_of ps)) else length (going_to queues n (map place_of ps)))

-- a pass that knows so much may send
pub may_send : (q : JobQueue) (p : JobPass) (jobs : List Job) (sent : ℕ) → IsPass q p (feeding jobs sent) → IsPass q p (feeding (known p).jobs (known p).sent)
may_send q p jobs sent h = subst (λ (v : Known). IsPass q p (feeding v.jobs v.sent)) (sym h.known) h

pub comes : (q : JobQueue) (p : JobPass) (jobs : List Job) (sent : ℕ) (job : Job) → IsPass q p (feeding jobs sent) → slice_get jobs sent ≡ Some job → slice_get (known p).jobs (known p).sent ≡ Some job
comes q p jobs sent job h at = subst (λ (v : Known). slice_get v.jobs v.sent ≡ Some job) (sym h.known) at

has_sent : (q : JobQueue) (p r : JobPass) (jobs : List Job) (sent : ℕ) → IsPass q p (feeding jobs sent) → IsPass q r (feeding (known p).jobs ((known p).sent + 1)) → IsPass q r (feeding jobs (sent + 1))
has_sent q p r jobs sent h k = subst (λ (v : Known). IsPass q r (feeding v.jobs (v.sent + 1))) h.known k

-- the item after the first ones
at_length : (xs : List Job) (y : Job) (ys : List Job) → slice_get (xs ++ y ∷ ys) (length xs) ≡ Some y
at_length [] y ys = refl
at_length (x ∷ xs) y ys = at_length xs y ys

going_split : (queues number : ℕ) (ps : List code.TransactionPlace) (i : ℕ) (p : code.TransactionPlace) → i < length ps → p ≡ get_or ps i p → p.thread % queues ≡ number
    → going_to queues number (map place_of ps) ≡ going_to queues number (map place_of (take i ps)) ++ place_of p ∷ going_to queues number (map place_of (drop (i + 1) ps))
going_split queues number ps i p l is own =
    ap (λ (xs : List code.TransactionPlace). going_to queues number (map place_of xs)) (sym (take-append-drop (i + 1) ps))
    ∙ ap (going_to queues number) (map-append place_of (take (i + 1) ps) (drop (i + 1) ps))
    ∙ filter-append (goes_to queues number) (map place_of (take (i + 1) ps)) (map place_of (drop (i + 1) ps))
    ∙ ap (λ (l : List Place). l ++ going_to queues number (map place_of (drop (i + 1) ps))) (goes_more queues number ps i p l is own)
    ∙ append_assoc (going_to queues number (map place_of (take i ps))) (place_of p ∷ []) (going_to queues number (map place_of (drop (i + 1) ps)))

pub next_run : (queues number : ℕ) (ps : List code.TransactionPlace) (i : ℕ) (p : code.TransactionPlace) → i < length ps → p ≡ get_or ps i p → p.thread % queues ≡ number
    → slice_get (jobs_for queues number (map place_of ps)) (length (going_to queues number (map place_of (take i ps)))) ≡ Some (Run p.thread p.position)
next_run queues number ps i p l is own =
    let before = going_to queues number (map place_of (take i ps)) in let after = going_to queues number (map place_of (drop (i + 1) ps)) in
    let e : jobs_for queues number (map place_of ps) ≡ map run_of before ++ run_of (place_of p) ∷ (map run_of after ++ Last ∷ []) =
    ap (λ (xs : List Place). map run_of xs ++ Last ∷ []) (going_split queues number ps i p l is own)
    ∙ ap (λ (xs : List Job). xs ++ Last ∷ []) (map-append run_of before (place_of p ∷ after))
    ∙ append_assoc (map run_of before) (run_of (place_of p) ∷ map run_of after) (Last ∷ []) in
    ap (λ (xs : List Job). slice_get xs (length before)) e
    ∙ ap (slice_get (map run_of before ++ run_of (place_of p) ∷ (map run_of after ++ Last ∷ []))) (sym (length-map before run_of))
    ∙ at_length (map run_of before) (run_of (place_of p)) (map run_of after ++ Last ∷ [])

pub next_last : (queues number : ℕ) (order : List Place) → slice_get (jobs_for queues number order) (length (going_to queues number order)) ≡ Some Last
next_last queues number order =
    ap (slice_get (jobs_for queues number order)) (sym (length-map (going_to queues number order) run_of)) ∙ at_length (map run_of (going_to queues number order)) Last []

pub jobs_many : (queues number : ℕ) (order : List Place) → length (jobs_for queues number order) ≡ length (going_to queues number order) + 1
jobs_many queues number order = length_push (map run_of (going_to queues number order)) Last ∙ ap (λ (n : ℕ). n + 1) (length-map (going_to queues number order) run_of)

-- a place was sent
pub run_sent : (queues : List JobQueue) (passes : List JobPass) (ps : List code.TransactionPlace) (i number : ℕ) (place : code.TransactionPlace) (q : JobQueue) (p r : JobPass)
    → AreAt queues passes (runs_sent (length queues) ps i) → i < length ps → place ≡ get_or ps i place → number ≡ place.thread % length queues
    → number < length queues → q ≡ get_or queues number q → p ≡ get_or passes number p → IsPass q r (feeding (known p).jobs ((known p).sent + 1))
    → AreAt queues (set passes number r) (runs_sent (length queues) ps (i + 1))
run_sent queues passes ps i number place q p r h l is goes low there too sent =
    set_at queues passes number r q (runs_sent (length queues) ps i) (runs_sent (length queues) ps (i + 1)) h low there
    (subst (λ (n : ℕ). IsPass q r (feeding (jobs_for (length queues) number (map place_of ps)) n)) (sym more)
    (has_sent q p r (jobs_for (length queues) number (map place_of ps)) (length (going_to (length queues) number (map place_of (take i ps))))
    (pass_at queues passes number p q (runs_sent (length queues) ps i) h low there too) sent))
    (λ n other low. ap (λ (xs : List Place). feeding (jobs_for (length queues) n (map place_of ps)) (length xs))
    (sym (goes_not (length queues) n ps i place l is (λ own. other (sym own ∙ sym goes)))))
  where
    more : length (going_to (length queues) number (map place_of (take (i + 1) ps))) ≡ length (going_to (length queues) number (map place_of (take i ps))) + 1
    more = ap length (goes_more (length queues) number ps i place l is (sym goes)) ∙ length_push (going_to (length queues) number (map place_of (take i ps))) (place_of place)

-- the same knowledge said otherwise
pub at_same : (queues : List JobQueue) (passes : List JobPass) (v w : ℕ → Known) → ((n : ℕ) → n < length queues → v n ≡ w n) → AreAt queues passes v → AreAt queues passes w
at_same queues passes v w same h = record { many = h.many; each = λ n p l. at_known queues n (get_or passes n p) (v n) (w n) (same n l) (h.each n p l) }

below_is : (n i : ℕ) → n < i → nat_lt n i ≡ true
below_is n i l = grind (arith, nat_tests, l)

past_is : (n i : ℕ) → i ≤ n → nat_lt n i ≡ false
past_is n i l = grind (arith, nat_tests, l)

pub all_runs_sent : (queues : List JobQueue) (passes : List JobPass) (ps : List code.TransactionPlace) (i : ℕ) → length ps ≤ i → AreAt queues passes (runs_sent (length queues) ps i)
    → AreAt queues passes (λ n. feeding (jobs_for (length queues) n (map place_of ps)) (length (going_to (length queues) n (map place_of ps))))
all_runs_sent queues passes ps i far h =
    at_same queues passes (runs_sent (length queues) ps i) (λ n. feeding (jobs_for (length queues) n (map place_of ps)) (length (going_to (length queues) n (map place_of ps))))
    (λ n l. ap (λ (xs : List code.TransactionPlace). feeding (jobs_for (length queues) n (map place_of ps)) (length (going_to (length queues) n (map place_of xs)))) (take_all i ps far)) h

pub no_end_sent : (queues : List JobQueue) (passes : List JobPass) (ps : List code.TransactionPlace)
    → AreAt queues passes (λ n. feeding (jobs_for (length queues) n (map place_of ps)) (length (going_to (length queues) n (map place_of ps)))) → AreAt queues passes (ends_sent (length queues) ps 0)
no_end_sent queues passes ps h =
    at_same queues passes (λ n. feeding (jobs_for (length queues) n (map place_of ps)) (length (going_to (length queues) n (map place_of ps)))) (ends_sent (length queues) ps 0)
    (λ n l. sym (ap (λ (b : Bool). feeding (jobs_for (length queues) n (map place_of ps)) (if b then length (jobs_for (length queues) n (map place_of ps)) else length (going_to (length queues) n (map place_of ps)))) (past_is n 0 (omega arith)))) h

pub all_ends_sent : (queues : List JobQueue) (passes : List JobPass) (ps : List code.TransactionPlace) (i : ℕ) → length queues ≤ i → AreAt queues passes (ends_sent (length queues) ps i)
    → AreAt queues passes (λ n. all_sent (jobs_for (length queues) n (map place_of ps)))
all_ends_sent queues passes ps i far h =
    at_same queues passes (ends_sent (length queues) ps i) (λ n. all_sent (jobs_for (length queues) n (map place_of ps)))
    (λ n l. ap (λ (b : Bool). feeding (jobs_for (length queues) n (map place_of ps)) (if b then length (jobs_for (length queues) n (map place_of ps)) else length (going_to (length queues) n (map place_of ps))))
    (below_is n i (omega (arith, l, far)))) h

-- the next end mark
pub end_comes : (queues : List JobQueue) (passes : List JobPass) (ps : List code.TransactionPlace) (number : ℕ) (q : JobQueue) (p : JobPass)
    → AreAt queues passes (ends_sent (length queues) ps number) → number < length queues → q ≡ get_or queues number q → p ≡ get_or passes number p
    → IsPass q p (feeding (jobs_for (length queues) number (map place_of ps)) (length (going_to (length queues) number (map place_of ps))))
end_comes queues passes ps number q p h low there too =
    subst (λ (b : Bool). IsPass q p (feeding (jobs_for (length queues) number (map place_of ps)) (if b then length (jobs_for (length queues) number (map place_of ps)) else length (going_to (length queues) number (map place_of ps)))))
    (past_is number number (omega arith)) (pass_at queues passes number p q (ends_sent (length queues) ps number) h low there too)

pub end_sent : (queues : List JobQueue) (passes : List JobPass) (ps : List code.TransactionPlace) (number : ℕ) (q : JobQueue) (p r : JobPass)
    → AreAt queues passes (ends_sent (length queues) ps number) → number < length queues → q ≡ get_or queues number q → p ≡ get_or passes number p
    → IsPass q r (feeding (known p).jobs ((known p).sent + 1)) → AreAt queues (set passes number r) (ends_sent (length queues) ps (number + 1))
end_sent queues passes ps number q p r h low there too sent =
    set_at queues passes number r q (ends_sent (length queues) ps number) (ends_sent (length queues) ps (number + 1)) h low there
    (subst (λ (b : Bool). IsPass q r (feeding (jobs number) (if b then length (jobs number) else runs number))) (sym (below_is number (number + 1) (omega arith)))
    (subst (λ (n : ℕ). IsPass q r (feeding (jobs number) n)) (sym (jobs_many (length queues) number (map place_of ps)))
    (has_sent q p r (jobs number) (runs number) (end_comes queues passes ps number q p h low there too) sent)))
    (λ n other low. ap (λ (b : Bool). feeding (jobs n) (if b then length (jobs n) else runs n)) (same n other))
  where
    jobs : ℕ → List Job
    jobs n = jobs_for (length queues) n (map place_of ps)

    runs : ℕ → ℕ
    runs n = length (going_to (length queues) n (map place_of ps))

    same : (n : ℕ) → (n ≡ number → ⊥) → nat_lt n number ≡ nat_lt n (number + 1)
    same n other = grind (arith, nat_tests, other)
