-- A run of two threads with a transaction each is not too long to be told.
use Rattle.std.specs.Prelude.{nat_lt, ◌==◌, ◌&&◌, if◌then◌else◌}
use Rattle.std.specs.List.{flat_map}
use Rattle.std.proofs.Common.{◌≡◌, ℕ, zero, suc, ◌+◌, ◌*◌, ◌<◌, ◌≤◌, List, [], ◌∷◌, ◌++◌, length, Bool, true, false, Option, None, Some, refl, sym, ap, ◌∙◌, subst, arith, inl, inr, length-append}
use Rattle.std.proofs.lemmas.Bool.Decides.{nat_tests}
use Rattle.std.proofs.lemmas.List.{length-set}
use Rattle.std.proofs.lemmas.List.Elements.{All-head, All-tail}
use Rattle.std.proofs.lemmas.Option.{slice_get_within, none-some}
use Rattle.std.specs.List.{All}
use Rattle.sto_model.specs.PlainReplies.{PlainReply}
use Rattle.sto_lang.specs.Scripts.{Script}
use Rattle.sto_lang.specs.Objects.{shapes_of}
use Rattle.sto_type.specs.Meaning.{Meaning}
use Rattle.sto_store.specs.ObjectShapes.{AreOf}
use Rattle.sto_store.proofs.ObjectMeanings.{objects_mean}
use Rattle.sto_store.specs.declared.objects.Objects.{Objects}
use Rattle.sto_core.specs.declared.view.View.{View}
use Rattle.sto_core.specs.Core.{Core}
use Rattle.sto_core.specs.History.{Validity}
use Rattle.sto_plain.specs.Passes.{view_of}
use Rattle.sto_report_spec.specs.Orders.{transaction_at, at_position, positions_of, count_in}
use Rattle.sto_history.specs.Records.{Record, Verdict, Wrote, Read, Cancelled, Locked, Changed}
use Rattle.sto_history.specs.Counted.{aborted_times, finished_places}
use Rattle.sto_trace.specs.declared.Step.{Step}
use Rattle.sto_transaction.specs.declared.machine.Machine.{Machine}
use Rattle.sto_transaction.specs.Pace.{most_steps}
use Rattle.sto_script.specs.declared.body.ScriptBody.{ScriptBody}
use Rattle.sto_journal.specs.declared.journal.Journal.{Journal}
use Rattle.sto_run_threads.specs.Orders.{TransactionPlace}
use Rattle.sto_run_threads.specs.Plans.{Plan, plan_of, pace_of}
use Rattle.sto_run_threads.specs.Running.{HasNone}
use Rattle.sto_run_threads.specs.Counts.{heaviest}
use Rattle.sto_run_steps.specs.Seated.{IsAt, IsBetween, BetweenAt, WithinAt, records_of}
use Rattle.sto_run_steps.specs.Logged.{RunLog, HasLogged, most_kept}
use Rattle.sto_run_steps.specs.Proceeding.{heard_by, script_left, ProceedsAt}
use Rattle.sto_run_steps.specs.Turning.{HaveTurns, entry_turns, round_turns}
use Rattle.sto_draw.specs.Drawn.{IsLong}
use Rattle.sto_run.specs.Traced.{of_objects, turns_in, IsTraceOf}
use Rattle.sto_serializability.specs.Finished.{IsRecord}
use Rattle.sto_test_premises.specs.Adding.{adding}
use Rattle.sto_test_program_refusals.specs.Inputs.{lost_update_file}
use Rattle.sto_test_program_refusals.proofs.Runs.{some_seat}

-- Each step is an event of one of the two passes

abbrev made_by : Core → ℕ
made_by c = (view_of c 0).steps + (view_of c 1).steps

-- there are enough events for what is kept: as many as steps; or more than are kept
abbrev Enough : RunLog → ℕ → Type 0
Enough None n = most_kept ≤ n
Enough (Some xs) n = length xs ≤ n

no_more : (log : RunLog) (n most : ℕ) → n ≤ most → Enough log n → Enough log most
no_more None n most few e = omega (arith, few, e)
no_more (Some xs) n most few e = omega (arith, few, e)

one_kept : (xs : List Step) (step : Step) (n : ℕ) → length xs ≤ n → (b : Bool) → nat_lt (length xs) most_kept ≡ b → Enough (if b then Some (xs ++ step ∷ []) else None) (n + 1)
one_kept xs step n few true is = omega (arith, few, length-append xs (step ∷ []))
one_kept xs step n few false is = let full : most_kept ≤ length xs = grind (arith, nat_tests, is) in omega (arith, full, few)

enough_more : (kind : Step → Type 0) (log next : RunLog) (n : ℕ) → HasLogged kind log next → Enough log n → Enough next (n + 1)
enough_more kind None next n h e = subst (λ (o : RunLog). Enough o (n + 1)) (sym h) (omega (arith, e))
enough_more kind (Some xs) next n h e =
    subst (λ (o : RunLog). Enough o (n + 1)) (sym h.2) (one_kept xs h.0 n e (nat_lt (length xs) most_kept) refl)

one_event_more : (thread : ℕ) (c d : Core) → thread < 2 → ((other : ℕ) → (other ≡ thread → ⊥) → view_of d other ≡ view_of c other)
    → (view_of d thread).steps ≡ (view_of c thread).steps + 1 → made_by d ≡ made_by c + 1
one_event_more zero c d less others more =
    let same = ap (λ (v : View). v.steps) (others 1 (λ e. omega (arith, e))) in omega (arith, more, same)
one_event_more (suc zero) c d less others more =
    let same = ap (λ (v : View). v.steps) (others 0 (λ e. omega (arith, e))) in omega (arith, more, same)
one_event_more (suc (suc thread)) c d less others more = absurd (omega (arith, less))

module _ {M : Type 0} (valid : Validity) (heard : M → List PlainReply) where
  enough : (threads : List ℕ) (c : Core) (seats : _) (log : RunLog) (d : Core) (later : _) (next : RunLog) → length seats ≡ 2
      → HaveTurns {M = M} valid heard threads c seats log d later next → Enough log (made_by c) → Enough next (made_by d) × (length later ≡ 2)
  enough [] c seats log d later next two h e = (
    subst (λ (o : RunLog). Enough o (made_by d)) (sym h.2) (subst (λ (x : Core). Enough log (made_by x)) (sym h.0) e),
    ap length h.1 ∙ two,
  )
  enough (thread ∷ threads) c seats log d later next two h e = elim h.3 [
    | inl one ↦
        let within = slice_get_within seats thread one.before one.at in
        let more = one_event_more thread c h.0 (omega (arith, within, two)) one.passes.3 one.steps.steps.tells.counts in
        enough threads h.0 h.1 h.2 d later next (ap length one.others ∙ length-set seats thread one.seat ∙ two) h.4
        (subst (λ (n : ℕ). Enough h.2 n) (sym more) (enough_more _ log h.2 (made_by c) one.logged e))
    | inr idle ↦
        enough threads h.0 h.1 h.2 d later next (ap length idle.2 ∙ two) h.4
        (subst (λ (o : RunLog). Enough o (made_by h.0)) (sym idle.3) (subst (λ (x : Core). Enough log (made_by x)) (sym idle.1) e))
  ]

-- A thread has few records

-- these are all of one transaction
abbrev AreAt : TransactionPlace → List Record → Type 0
AreAt place [] = Unit {0}
AreAt place (r ∷ rs) = (r.place ≡ place) × AreAt place rs

module _ (t : ℕ) (same : (t == t) ≡ true) where
  -- how many of its attempts ended it or were aborted
  abbrev told_of : List Record → ℕ
  told_of rs = length (positions_of t (finished_places rs)) + aborted_times (t, 1) rs

  ended_one : (xs : List ℕ) → length (if t == t then 1 ∷ xs else xs) ≡ suc (length xs)
  ended_one xs = ap (λ (b : Bool). length (if b then 1 ∷ xs else xs)) same

  aborted_one : ◌≡◌ {A = ℕ} (if (t == t) && ((1 == 1) && true) then 1 else 0) 1
  aborted_one = let count : Bool → ℕ = λ b. if b && ((1 == 1) && true) then 1 else 0 in ap count same

  abbrev told_by : List PlainReply → Verdict → Record
  told_by replies v = record { place = (t, 1); replies = replies; verdict = v }

  one_more : (replies : List PlainReply) (v : Verdict) (rs : List Record) → length rs ≤ told_of rs → suc (length rs) ≤ told_of (told_by replies v ∷ rs)
  one_more replies (Wrote ticket) rs h = let one = ended_one (positions_of t (finished_places rs)) in omega (arith, h, one)
  one_more replies (Read n) rs h = let one = ended_one (positions_of t (finished_places rs)) in omega (arith, h, one)
  one_more replies (Cancelled n) rs h = let one = ended_one (positions_of t (finished_places rs)) in omega (arith, h, one)
  one_more replies (Locked n part) rs h = let one = aborted_one in omega (arith, h, one)
  one_more replies (Changed n part ticket) rs h = let one = aborted_one in omega (arith, h, one)

  no_others : (rs : List Record) → AreAt (t, 1) rs → length rs ≤ told_of rs
  no_others [] a = omega arith
  no_others (r ∷ rs) a =
      subst (λ (p : TransactionPlace). suc (length rs) ≤ told_of (record { place = p; replies = r.replies; verdict = r.verdict } ∷ rs)) (sym a.0)
      (one_more r.replies r.verdict rs (no_others rs a.1))

-- a thread of the file has one transaction
first_position : (y : ℕ) (script : Script) → at_position y (adding ∷ []) ≡ Some script → y ≡ 1
first_position zero script e = absurd (none-some script e)
first_position (suc zero) script e = refl
first_position (suc (suc y)) script e = absurd (none-some script e)

only_place : (thread x y : ℕ) (script : Script) → thread < 2 → transaction_at lost_update_file (x, y) ≡ Some script → ((u : ℕ) → (thread ≡ u → ⊥) → x ≡ u → ⊥)
    → (x ≡ thread) × (y ≡ 1)
only_place zero zero y script less e own = (refl, first_position y script e)
only_place zero (suc x) y script less e own = absurd (own (suc x) (λ same. omega (arith, same)) refl)
only_place (suc thread) zero y script less e own = absurd (own 0 (λ same. omega (arith, same)) refl)
only_place (suc zero) (suc zero) y script less e own = (refl, first_position y script e)
only_place (suc zero) (suc (suc x)) y script less e own = absurd (own (suc (suc x)) (λ same. omega (arith, same)) refl)
only_place (suc (suc thread)) (suc x) y script less e own = absurd (omega (arith, less))

are_at : (m : Meaning) (v : View) (thread : ℕ) → thread < 2 → (rs : List Record) → All (IsRecord m lost_update_file v) rs
    → ((u : ℕ) → (thread ≡ u → ⊥) → HasNone u rs) → AreAt (thread, 1) rs
are_at m v thread less [] each own = tt
are_at m v thread less (r ∷ rs) each own =
    let it = All-head (IsRecord m lost_update_file v) r rs each in
    let place = only_place thread r.place.0 r.place.1 it.script less it.transaction (λ u other. All-head (λ (x : Record). x.place.0 ≡ u → ⊥) r rs (own u other)) in (
      (λ i. (place.0 i, place.1 i)),
      are_at m v thread less rs (All-tail (IsRecord m lost_update_file v) r rs each) (λ u other. All-tail (λ (x : Record). x.place.0 ≡ u → ⊥) r rs (own u other)),
    )

same_as_itself : (thread : ℕ) → thread < 2 → (thread == thread) ≡ true
same_as_itself zero less = refl
same_as_itself (suc zero) less = refl
same_as_itself (suc (suc thread)) less = absurd (omega (arith, less))

count_is : (thread : ℕ) → thread < 2 → count_in lost_update_file.threads thread ≡ 1
count_is zero less = refl
count_is (suc zero) less = refl
count_is (suc (suc thread)) less = absurd (omega (arith, less))

-- So its pass took few steps

module _ (objects : Objects) (kinds : AreOf objects (shapes_of lost_update_file.declarations)) where
  abbrev plan : Plan
  plan = plan_of of_objects objects lost_update_file 64

  pace_is : pace_of plan ≡ 88
  pace_is = ap (λ (m : Meaning). most_steps m (heaviest lost_update_file.threads)) (objects_mean objects (shapes_of lost_update_file.declarations) kinds)

  between_few : (passes thread ended left : ℕ) (rs : List Record) (v : View) → thread < 2 → ended ≤ 1 → IsBetween plan passes thread ended left rs v → v.steps ≤ 65 * 88
  between_few passes thread ended left rs v less one b =
      let places = are_at (of_objects.meaning objects) v thread less rs b.worked.so_far.each b.own in
      let told = no_others thread (same_as_itself thread less) rs places in
      let so_many : length (positions_of thread (finished_places rs)) ≡ ended = b.so_many in
      let aborted = b.worked.so_far.few (thread, 1) in
      let starts = b.starts in
      let paced : v.steps ≤ v.starts * 88 = subst (λ (n : ℕ). v.steps ≤ v.starts * n) pace_is b.worked.paced in
      omega (arith, told, so_many, aborted, starts, paced, one)

  at_few : (passes thread : ℕ) (s : _) (v : View) (trial : Option (Machine Objects ScriptBody)) → thread < 2
      → IsAt (BetweenAt {M = Machine Objects ScriptBody} plan passes thread s) (WithinAt plan (ProceedsAt of_objects lost_update_file objects) passes thread s) trial v
      → s.ended ≤ 1 → v.steps ≤ 66 * 88
  at_few passes thread s v None less at one = let few = between_few passes thread s.ended s.left (records_of s) v less one at in omega (arith, few)
  at_few passes thread s v (Some trial) less at one =
      let few = between_few passes thread s.ended s.left (records_of s) at.begun less one at.between in
      let pace : v.steps + script_left of_objects trial ≤ at.begun.steps + 88 =
      subst (λ (n : ℕ). v.steps + script_left of_objects trial ≤ at.begun.steps + n) pace_is at.fits_now.pace in
      omega (arith, few, pace)

-- so many events are made at most
abbrev pub most_events : ℕ
most_events = 2 * (66 * 88)

few_events : (journal : Journal) (homes : List (ℕ × ℕ)) (steps : RunLog) → IsTraceOf lost_update_file 64 journal homes steps → Enough steps most_events
few_events journal homes steps t =
    let w = t.traced.stepped in
    let done = enough of_objects.valid heard_by (flat_map entry_turns (turns_in lost_update_file.schedule) ++ round_turns (length w.seats) w.rounds) _ w.seats (Some []) w.stepped w.later steps
    w.many w.turns (omega arith) in
    let few : (thread : ℕ) → thread < 2 → (view_of w.stepped thread).steps ≤ 66 * 88 = λ thread less.
    let seat = some_seat thread w.later (subst (λ (n : ℕ). thread < n) (sym done.1) less) in
    let seated = w.still_seated.each thread seat.0 seat.1 in
    let within = seated.within in let counted = seated.counted in let count = count_is thread less in
    at_few t.objects t.kinds (length w.stepped.statuses) thread seat.0 (view_of w.stepped thread) seat.0.trial less seated.at (omega (arith, within, counted, count)) in
    let first = few 0 (omega arith) in let second = few 1 (omega arith) in
    no_more steps (made_by w.stepped) most_events (omega (arith, first, second)) done.0

pub not_long : (journal : Journal) (homes : List (ℕ × ℕ)) → IsTraceOf lost_update_file 64 journal homes None → ⊥
not_long journal homes t = let many : most_kept ≤ most_events = few_events journal homes None t in omega (arith, many)

pub not_long_for_a_picture : (journal : Journal) (homes : List (ℕ × ℕ)) (steps : RunLog) → IsTraceOf lost_update_file 64 journal homes steps → IsLong steps → ⊥
not_long_for_a_picture journal homes None t long = not_long journal homes t
not_long_for_a_picture journal homes (Some steps) t long =
    let few : length steps ≤ most_events = few_events journal homes (Some steps) t in omega (arith, few, long)
