-- What an attempt leads to, by how its transaction ended.
use Rattle.std.proofs.Common.{◌≡◌, ◌≤◌, ◌^◌, ℕ, true, false, List, [], ◌∷◌, map, length, Option, Some, None, Result, Ok, Err, refl, sym, ap, ◌∙◌, subst, arith, true≢false, inl, inr}
use Rattle.std.specs.Prelude.{IfOk}
use Rattle.sto_part.specs.declared.NoMemory.{NoMemory}
use Rattle.sto_model.specs.PlainReplies.{PlainReply}
use Rattle.sto_model.specs.Run.{Behaviour}
use Rattle.sto_model.specs.declared.call.Call.{Call}
use Rattle.sto_model.specs.declared.run.End.TheVariants as script_end
use Rattle.sto_model.specs.declared.shape.Shape.{Shape}
use Rattle.sto_type.specs.Meaning.{Meaning, IsLawful}
use Rattle.sto_type.specs.Traits.{OfType}
use Rattle.sto_core.specs.declared.cells.Cells as cells
use Rattle.sto_core.specs.declared.view.View.{View}
use Rattle.sto_history.specs.Records.{TransactionPlace, Record, is_abort}
use Rattle.sto_history.specs.Told.{IsFound}
use Rattle.sto_history.specs.Counted.{times_committed}
use Rattle.sto_history.specs.Tried.{HasTried}
use Rattle.sto_transaction.specs.Plain.{verdict}
use Rattle.sto_transaction.specs.Machines.{HasStopped, HasEnded}
use Rattle.sto_transaction.specs.declared.machine.FinishedAttempt.{FinishedAttempt}
use Rattle.sto_interactive.specs.Scripts.{script_of}
use Rattle.sto_interactive.specs.Bodies.{next_of, script_in, left_of, MayAskOf}
use Rattle.sto_interactive.specs.Lives.{IsLive, HasCommitted, HasCancelled}
use Rattle.sto_interactive.specs.declared.asked_calls.AskedCalls.{AskedCalls}
use Rattle.sto_interactive.specs.declared.live.Live.{Live}
use Rattle.sto_interactive.specs.declared.live.StepError.{StepError}
use Rattle.sto_interactive.specs.declared.live.StepError.TheVariants as stops
use Rattle.sto_action.specs.Shortened.{short_of}
use Rattle.sto_action.specs.declared.short_reply.ShortReply.{ShortReply}
use Rattle.sto_action.specs.Progs.{Prog, is_taken, IsGiven, IsCancelled, IsAsked}
use Rattle.sto_action.specs.declared.cause.AbortCause.{AbortCause}
use Rattle.sto_action.specs.declared.outcome.Attempted.{Attempted}
use Rattle.sto_action.specs.declared.outcome.Attempted.TheVariants.{Said, Aborted}
use Rattle.sto_action.specs.Causes.{IsCauseOf, NamesPart}
use Rattle.sto_action.specs.Atomic.{IsAtomic, HasSeen, HaveAbortedBy, TakesNoEffect, HasSaid, steps_of}
use Rattle.sto_history.specs.Added.{IsKnown}
use Rattle.sto_action.proofs.Counts.{abort_wrote}
use Rattle.sto_action.proofs.Causes.{cause_aborts, told_names}
use Rattle.sto_once.specs.declared.code.Halt.{Halt}
use Rattle.sto_once.specs.declared.code.Halt.TheVariants as halts
use Rattle.sto_once.specs.Once.{Gave, GaveUp, Wants}
use Rattle.sto_once.specs.Agreeing.{Agree}
use Rattle.sto_once.specs.Over.{OverKey, StandsBy}
use Rattle.sto_once.specs.Attempts.{After, WaitsSo, Says, HasTriedOnce, IsStopCause, StopNamesPart, is_aborted}
use Rattle.sto_once.proofs.Agreed.{told_same}
use Rattle.sto_once.proofs.Tied.{gave_agree, gave_up_agree, wants_agree, gave_given, gave_up_cancelled, wants_asked}
use Rattle.sto_once.proofs.Waited.{calls_are}

seen_known : (v : View) (n : ℕ) → HasSeen v n → IsKnown v n
seen_known v n (inl h) = inl h
seen_known v n (inr (inl h)) = inr (inl (record { entry = h.entry; there = h.there; ticket = h.ticket }))
seen_known v n (inr (inr h)) = inr (inr h)

-- a record of a script that the tree agrees with tells of the tree
pub tried_atomic : {E A : Type 0} (m : Meaning) (v w : View) (f : Behaviour) (place : TransactionPlace) (r : Record) (shapes : List Shape) (most : ℕ) (p : Prog E A) (says : List ShortReply → Type 0)
    → HasTried m v w f place r → is_abort r.verdict ≡ false → Agree f (steps_of shapes most p) r.replies → says (map short_of r.replies) → IsAtomic m v w shapes most p says
tried_atomic m v w f place r shapes most p says h ended agree said = record {
  replies = r.replies;
  verdict = r.verdict;
  ended = ended;
  told = told_same m w f (steps_of shapes most p) r.replies r.verdict agree h.added.told;
  since = λ n seen. h.added.since n (seen_known v n seen);
  entries = h.committed;
  starts = (let s = h.starts in omega (arith, s));
  said = said;
}

pub tried_none : (m : Meaning) (v w : View) (f : Behaviour) (place : TransactionPlace) (r : Record) → HasTried m v w f place r → is_abort r.verdict ≡ true → TakesNoEffect v w
tried_none m v w f place r h abort t = let e = h.committed t in let none = abort_wrote t r.verdict abort in omega (arith, e, none)

-- it is the one attempt that was aborted, and has its finding
pub tried_aborted : (m : Meaning) (v w : View) (f : Behaviour) (place : TransactionPlace) (r : Record) (cause : AbortCause) → HasTried m v w f place r → IsCauseOf m r.verdict cause → HaveAbortedBy m v w 1 cause
tried_aborted m v w f place r cause h is =
    let abort = cause_aborts m r.verdict cause is in
    record {
      aborted = record {
        none = tried_none m v w f place r h abort;
        verdicts = r.verdict ∷ [];
        all = refl;
        starts = h.starts;
        found = (abort, subst (λ (n : ℕ). IsFound w n r.verdict) h.starts h.found, tt);
      };
      before = [];
      last = r.verdict;
      ends = refl;
      is = is;
      found = h.found;
    }

module _ {T C E A : Type 0} (t : OfType T) (k : OverKey T C) (p : Prog E A) (passes : ℕ) (w : View) where
  -- the record of an end, at any place
  abbrev EndedBy : Behaviour → FinishedAttempt AskedCalls → Type 0
  EndedBy f e = HasEnded t.meaning t.valid t.sizes script_in next_of left_of MayAskOf passes k.ty f e k.begun w

  abbrev Once : Result (Attempted (Result A (Halt E))) NoMemory → Type 0
  Once r = HasTriedOnce (t.meaning k.ty) (t.sizes k.ty) passes k.begun w k.shapes p r

  ended_once : (f : Behaviour) (e : FinishedAttempt AskedCalls) (r : Result (Attempted (Result A (Halt E))) NoMemory) → EndedBy f e → Says (t.meaning k.ty) k.begun w k.shapes p r → (passes ≡ 1 → IfOk r HasSaid) → Once r
  ended_once f e r h says alone = record { rests = h.rests; draws = (h.tried (0, 1)).draws; grows = (h.tried (0, 1)).grows; says = says; alone = alone }

  pub aborted_once : (f : Behaviour) (e : FinishedAttempt AskedCalls) (cause : AbortCause) → EndedBy f e → IsCauseOf (t.meaning k.ty) (verdict e.verdict) cause → Once (Ok (Aborted cause))
  aborted_once f e cause h is =
      ended_once f e (Ok (Aborted cause)) h (tried_aborted (t.meaning k.ty) k.begun w f (0, 1) _ cause (h.tried (0, 1)) is)
      (λ one. absurd (true≢false (sym (cause_aborts (t.meaning k.ty) (verdict e.verdict) cause is) ∙ h.alone one)))

  -- the part that its verdict names is one of the type
  pub ended_names : IsLawful (t.meaning k.ty) → (f : Behaviour) (e : FinishedAttempt AskedCalls) → EndedBy f e → NamesPart (t.meaning k.ty) (verdict e.verdict)
  ended_names law f e h = told_names (t.meaning k.ty) law w f _ (verdict e.verdict) (h.tried (0, 1)).added.told

  pub stopped_once : (error : NoMemory) → HasStopped (t.meaning k.ty) (t.sizes k.ty) k.begun w → Once (Err error)
  stopped_once error h =
      record { rests = h.rests; draws = (let d = h.draws in omega (arith, d)); grows = h.grows; says = λ n. ap (times_committed n) h.entries; alone = λ one. tt }

  few_calls : (calls : List Call) (rs : List PlainReply) (l : Live T) (v : View) (most : ℕ) → IsLive t k.ty calls rs l k.begun v → 2 ^ 32 ≤ most → length calls ≤ most
  few_calls calls rs l v most live large =
      let few = l.attempt.log.body.few in let same = ap length (calls_are t k.ty calls rs l k.begun v live) in omega (arith, few, same, large)

  pub committed_once : (a : A) (l : Live T) (v : View) (s : WaitsSo t k (λ hs. Gave p hs a) l v) (e : FinishedAttempt AskedCalls) → HasCommitted t passes k.ty s.0 s.1 e k.begun w
      → is_abort (verdict e.verdict) ≡ false → Once (Ok (Said (Ok a)))
  committed_once a l v s e h ended =
      let calls = s.0 in let rs = s.1 in
      ended_once (script_of calls script_end.Commit) e (Ok (Said (Ok a))) h.ended
      (λ most large. tried_atomic (t.meaning k.ty) k.begun w (script_of calls script_end.Commit) (0, 1) _ k.shapes most p (λ hs. IsGiven p hs a) (h.ended.tried (0, 1)) ended
      (subst (Agree (script_of calls script_end.Commit) (steps_of k.shapes most p)) (sym h.replies) (gave_agree k.shapes most p calls rs a s.2.all (few_calls calls rs l v most s.2 large) s.3 s.4))
      (subst (λ (ss : List PlainReply). IsGiven p (map short_of ss) a) (sym h.replies) (gave_given p calls rs a s.2.all s.4)))
      (λ one. tt)

  pub commit_aborted : (a : A) (l : Live T) (v : View) (s : WaitsSo t k (λ hs. Gave p hs a) l v) (e : FinishedAttempt AskedCalls) → HasCommitted t passes k.ty s.0 s.1 e k.begun w
      → (cause : AbortCause) → IsCauseOf (t.meaning k.ty) (verdict e.verdict) cause → Once (Ok (Aborted cause))
  commit_aborted a l v s e h cause is = aborted_once (script_of s.0 script_end.Commit) e cause h.ended is

  pub cancelled_once : (reason : E) (l : Live T) (v : View) (s : WaitsSo t k (λ hs. GaveUp p hs reason) l v) (e : FinishedAttempt AskedCalls) → HasCancelled t passes k.ty s.0 s.1 e k.begun w → Once (Ok (Said (Err (halts.Cancels reason))))
  cancelled_once reason l v s e h =
      let calls = s.0 in let rs = s.1 in
      ended_once (script_of calls script_end.Cancel) e (Ok (Said (Err (halts.Cancels reason)))) h.ended
      (λ most large. tried_atomic (t.meaning k.ty) k.begun w (script_of calls script_end.Cancel) (0, 1) _ k.shapes most p (λ hs. IsCancelled p hs reason) (h.ended.tried (0, 1))
      (ap (λ x. is_abort (verdict x)) h.verdict)
      (subst (Agree (script_of calls script_end.Cancel) (steps_of k.shapes most p)) (sym h.replies) (gave_up_agree k.shapes most p calls rs reason s.2.all (few_calls calls rs l v most s.2 large) s.3 s.4))
      (subst (λ (ss : List PlainReply). IsCancelled p (map short_of ss) reason) (sym h.replies) (gave_up_cancelled p calls rs reason s.2.all s.4)))
      (λ one. tt)

  pub refused_once : (call : Call) (l : Live T) (v : View) (s : WaitsSo t k (λ hs. Wants p hs call) l v) → is_taken k.shapes call ≡ false → (e : FinishedAttempt AskedCalls)
      → HasCancelled t passes k.ty s.0 s.1 e k.begun w → Once (Ok (Said (Err (halts.Untaken call))))
  refused_once call l v s refused e h =
      let calls = s.0 in let rs = s.1 in
      ended_once (script_of calls script_end.Cancel) e (Ok (Said (Err (halts.Untaken call)))) h.ended
      (λ most large. tried_atomic (t.meaning k.ty) k.begun w (script_of calls script_end.Cancel) (0, 1) _ k.shapes most p (λ hs. IsAsked p hs call) (h.ended.tried (0, 1))
      (ap (λ x. is_abort (verdict x)) h.verdict)
      (subst (Agree (script_of calls script_end.Cancel) (steps_of k.shapes most p)) (sym h.replies)
      (wants_agree k.shapes most p calls rs call s.2.all (few_calls calls rs l v most s.2 large) s.3 s.4 refused))
      (subst (λ (ss : List PlainReply). IsAsked p (map short_of ss) call) (sym h.replies) (wants_asked p calls rs call s.2.all s.4)))
      (λ one. tt)

-- by why it stopped, or why its code did
module _ {T C E A : Type 0} (t : OfType T) (c : cells.Ghosts C T) (k : OverKey T C) (p : Prog E A) where
  pub abort_once : (passes : ℕ) (w : View) (stop : StepError) (cause : AbortCause) (l : Live T) → c.passes k.start ≡ passes → IsStopCause (t.meaning k.ty) stop cause → StandsBy t c k (Some stop) l w
      → HasTriedOnce (t.meaning k.ty) (t.sizes k.ty) passes k.begun w k.shapes p (Ok (Aborted cause))
  abort_once passes w (stops.Aborted x) cause l same is h =
      subst (λ (n : ℕ). HasTriedOnce (t.meaning k.ty) (t.sizes k.ty) n k.begun w k.shapes p (Ok (Aborted cause))) same
      (aborted_once t k p (c.passes k.start) w h.0 (record { body = l.attempt.log.body; replies = l.attempt.log.table.replies; verdict = x }) cause h.2 is)
  abort_once passes w stops.Untaken cause l same is h = absurd h
  abort_once passes w stops.NoMemory cause l same is h = absurd is

  pub stop_names : IsLawful (t.meaning k.ty) → (w : View) (stop : StepError) (l : Live T) → StandsBy t c k (Some stop) l w → StopNamesPart (t.meaning k.ty) stop
  stop_names law w (stops.Aborted x) l h = ended_names t k p (c.passes k.start) w law h.0 (record { body = l.attempt.log.body; replies = l.attempt.log.table.replies; verdict = x }) h.2
  stop_names law w stops.Untaken l h = tt
  stop_names law w stops.NoMemory l h = tt

  pub want_once : (passes : ℕ) (w : View) (stop : StepError) (l : Live T) (error : NoMemory) → is_aborted stop ≡ false → StandsBy t c k (Some stop) l w
      → HasTriedOnce (t.meaning k.ty) (t.sizes k.ty) passes k.begun w k.shapes p (Err error)
  want_once passes w (stops.Aborted x) l error is h = absurd (true≢false (sym h.1 ∙ is))
  want_once passes w stops.Untaken l error is h = absurd h
  want_once passes w stops.NoMemory l error is h = stopped_once t k p passes w error h

  pub live_of : (halt : Halt E) (l : Live T) (v : View) → After t c k p None (Err halt) l v → (ty : T) × (calls : List Call) × (rs : List PlainReply) × (begun : View) × (u : View) × IsLive t ty calls rs l begun u
  live_of halts.Over l v h = absurd h
  live_of (halts.Untaken call) l v h = (k.ty, h.0.0, h.0.1, k.begun, v, h.0.2)
  live_of (halts.Cancels reason) l v h = (k.ty, h.0, h.1, k.begun, v, h.2)

  pub cancel_once : (passes : ℕ) (halt : Halt E) (l : Live T) (v : View) (e : FinishedAttempt AskedCalls) → After t c k p None (Err halt) l v
      → ((calls : List Call) (rs : List PlainReply) → IsLive t k.ty calls rs l k.begun v → HasCancelled t passes k.ty calls rs e k.begun v)
      → HasTriedOnce (t.meaning k.ty) (t.sizes k.ty) passes k.begun v k.shapes p (Ok (Said (Err halt)))
  cancel_once passes halts.Over l v e h ends = absurd h
  cancel_once passes (halts.Untaken call) l v e h ends = refused_once t k p passes v call l v h.0 h.1 e (ends h.0.0 h.0.1 h.0.2)
  cancel_once passes (halts.Cancels reason) l v e h ends = cancelled_once t k p passes v reason l v h e (ends h.0 h.1 h.2)

  pub cancel_stopped : (passes : ℕ) (halt : Halt E) (l : Live T) (v : View) (error : NoMemory) → After t c k p None (Err halt) l v
      → ((calls : List Call) (rs : List PlainReply) → IsLive t k.ty calls rs l k.begun v → HasStopped (t.meaning k.ty) (t.sizes k.ty) k.begun v)
      → HasTriedOnce (t.meaning k.ty) (t.sizes k.ty) passes k.begun v k.shapes p (Err error)
  cancel_stopped passes halts.Over l v error h ends = absurd h
  cancel_stopped passes (halts.Untaken call) l v error h ends = stopped_once t k p passes v error (ends h.0.0 h.0.1 h.0.2)
  cancel_stopped passes (halts.Cancels reason) l v error h ends = stopped_once t k p passes v error (ends h.0 h.1 h.2)

  pub after_as : (o o' : Option StepError) (r r' : Result A (Halt E)) (l : Live T) (v : View) → o ≡ o' → r ≡ r' → After t c k p o r l v → After t c k p o' r' l v
  after_as o o' r r' l v e f h = subst (λ (x : Option StepError). After t c k p x r' l v) e (subst (λ (x : Result A (Halt E)). After t c k p o x l v) f h)
