-- What a step of an attempt, or of its commit, leaves for the next one.
use Rattle.std.proofs.Common.{◌≡◌, ◌≤◌, ◌<◌, ℕ, List, map, Some, None, Option, Result, Ok, Err, IfOk, OnOk, OnErr, refl, sym, ap, ◌∙◌, subst, arith}
use denote.Bor.{Bor}
use Rattle.sto_part.specs.declared.NoMemory.{NoMemory}
use Rattle.sto_part.specs.Listed.{Listed}
use Rattle.sto_model.specs.declared.reply.Reply.{Reply}
use Rattle.sto_model.specs.declared.body.Next.{Next}
use Rattle.sto_model.specs.declared.call.Call.{Call}
use Rattle.sto_model.specs.PlainReplies.{PlainReply, plain_reply}
use Rattle.sto_model.specs.Run.{Behaviour}
use Rattle.sto_type.specs.Meaning.{Meaning}
use Rattle.sto_core.specs.declared.view.View.{View}
use Rattle.sto_core.specs.History.{Validity}
use Rattle.sto_attempt.specs.declared.attempt.Attempt.{Attempt}
use Rattle.sto_attempt_log.specs.declared.log.Log.{Log}
use Rattle.sto_attempt_log.specs.Tables.{with_lists}
use Rattle.sto_attempt.specs.Commits.{lists_of, having_found}
use Rattle.sto_attempt.specs.declared.ready.Ready.{Ready}
use Rattle.sto_attempt_log.specs.declared.read_phase.ReadPhase.{ReadPhase}
use Rattle.sto_attempt_log.specs.declared.read_phase.ReadPhase.TheVariants as Stood
use Rattle.sto_attempt_log.specs.declared.verdict.Verdict.{Verdict}
use Rattle.sto_attempt_log.specs.declared.verdict.Turn.{Turn}
use Rattle.sto_attempt_log.specs.declared.verdict.Turn.TheVariants as Turns
use Rattle.sto_attempt_log.specs.Answers.{OneEvent, IsCommitEvent}
use Rattle.sto_attempt_log.specs.Log.{IsOnLog}
use Rattle.sto_attempt_log.specs.Standing.{Goes, Turned, Fits, Ends, Moves, IsFirst, IsLeft, IsUnaborted, next_event}
use Rattle.sto_attempt_log.specs.Bounds.{events_left}
use Rattle.sto_attempt_log.specs.CommitPhases.{Said, EndsBy, Stands, SpaceAt}
use Rattle.sto_attempt_log.specs.Verdicts.{IsUndisturbed}
use Rattle.sto_attempt_log.proofs.Reading.{idle_reading}
use Rattle.sto_attempt_log.proofs.Stepping.{ends_of}
use Rattle.sto_transaction.specs.Resting.{IsAtRest}
use Rattle.sto_transaction.specs.declared.machine.FinishedAttempt.{FinishedAttempt}
use Rattle.sto_transaction.specs.declared.machine.Machine.{Machine}
use Rattle.sto_transaction.specs.declared.machine.Machine.TheVariants.{Running, Committing}
use Rattle.sto_transaction.specs.Machines.{HasStopped, deal_of, IsOwnLog, RunsBody, IsReady, Commits, HasEnded, HasTurned, HasFinished, Proceeds, machine_left}
use Rattle.sto_transaction.proofs.Gone.{HasLed, HasMoved, has_led, gone_of, rests_after, stopped}
use Rattle.sto_transaction.proofs.Ends.{ended_reading, ended_commit, commit_runs, unaborted_turn, unaborted_wrote}

-- what the step of a commit says is to be done next
abbrev pub turn_of : Option Verdict → Turn
turn_of None = Turns.More
turn_of (Some x) = Turns.Ended x

module _ {T B : Type 0} (meaning : T → Meaning) (valid : Validity) (sizes : T → List ℕ) (script : B → Behaviour) (next : B → List PlainReply → Next) (left : B → ℕ) (may : B → Call → Type 0) where
  module _ (passes : ℕ) (a b : Attempt T B) (begun v w : View) (same_type : b.log.ty.now ≡ a.log.ty.now) (same_script : script b.log.body ≡ script a.log.body)
      (rest : IsAtRest (meaning a.log.ty.now) (sizes a.log.ty.now) begun)
      (led : HasLed (meaning a.log.ty.now) valid (sizes a.log.ty.now) (script a.log.body) a.at a.log.table.words.items a.log.table.extension a.log.table.base.items a.log.table.set.items a.log.table.set.updates (map plain_reply a.log.table.replies.items) passes begun v w a.read_phase)
    where
      OnLog : T → Behaviour → Type 0
      OnLog ty f = IsOnLog (meaning ty) (next b.log.body) f (left b.log.body) (may b.log.body) b.log.table.base.items b.log.table.set b.log.table.cache b.log.table.replies.items

      own : OnLog a.log.ty.now (script a.log.body) → IsOwnLog meaning valid sizes script next left may a.log.ty.now (script a.log.body) b
      unfolding OnLog
      own h = record {
        same_type = same_type;
        same_script = same_script;
        log = subst (λ (ty : T). OnLog ty (script b.log.body)) (sym same_type) (subst (λ (f : Behaviour). OnLog a.log.ty.now f) (sym same_script) h);
      }

      goes : T → Behaviour → Type 0
      goes ty f = Goes (meaning ty) valid (sizes ty) f b.at b.read_phase b.log.table.words.items b.log.table.extension b.log.table.base.items b.log.table.set.items b.log.table.set.updates (map plain_reply b.log.table.replies.items) w

      fits : ReadPhase → T → Behaviour → Type 0
      fits read_phase ty f = Fits (meaning ty) valid (sizes ty) f b.at read_phase b.log.table.words.items b.log.table.base.items b.log.table.set.updates (map plain_reply b.log.table.replies.items) w

      more : OnLog a.log.ty.now (script a.log.body) → goes a.log.ty.now (script a.log.body) → HasMoved begun w b.read_phase b.at → (passes ≡ 1 → IsFirst b.read_phase)
          → RunsBody meaning valid sizes script next left may passes a.log.ty.now (script a.log.body) b begun w
      unfolding goes
      more log h moved alone = record {
        own = own log;
        goes = subst (λ (ty : T). goes ty (script b.log.body)) (sym same_type) (subst (λ (f : Behaviour). goes a.log.ty.now f) (sym same_script) h);
        gone = gone_of begun w b.read_phase b.at moved;
        alone = alone;
      }

      ready : OnLog a.log.ty.now (script a.log.body) → fits b.read_phase a.log.ty.now (script a.log.body) → b.read_phase ≡ Stood.Committing → HasMoved begun w b.read_phase b.at
          → IsReady meaning valid sizes script next left may a.log.ty.now (script a.log.body) b begun w
      unfolding fits
      ready log h stands moved = record {
        own = own log;
        fits = subst (λ (ty : T). fits Stood.Committing ty (script b.log.body)) (sym same_type)
            (subst (λ (f : Behaviour). fits Stood.Committing a.log.ty.now f) (sym same_script) (subst (λ (s : ReadPhase). fits s a.log.ty.now (script a.log.body)) stands h));
        in_body = moved.in_body;
        committing = stands;
      }

      over : (x : Verdict) → OnLog a.log.ty.now (script a.log.body) → IsLeft w → b.at ≤ w.at → Ends (meaning a.log.ty.now) (script a.log.body) w b.at (map plain_reply b.log.table.replies.items) x
          → HasMoved begun w b.read_phase b.at → (passes ≡ 1 → IsUnaborted (Turns.Ended x))
          → HasEnded meaning valid sizes script next left may passes a.log.ty.now (script a.log.body) (record { body = b.log.body; replies = b.log.table.replies; verdict = x }) begun w
      unfolding OnLog
      over x log leaves within ends moved alone = record {
        same_script = same_script;
        taken = log.taken;
        tried = λ place. ended_reading (meaning a.log.ty.now) (script a.log.body) begun w b.at (map plain_reply b.log.table.replies.items) x moved.in_body leaves within ends place;
        rests = rests_after (meaning a.log.ty.now) (sizes a.log.ty.now) begun w rest led.read.running leaves;
        alone = λ one. unaborted_turn x (alone one);
      }

      turned_to : (r : Result Turn NoMemory) → OnOk r (OnLog a.log.ty.now (script a.log.body))
          → IfOk r (λ turn. Turned (meaning a.log.ty.now) valid (sizes a.log.ty.now) (script a.log.body) b.at b.read_phase b.log.table.words.items b.log.table.extension b.log.table.base.items b.log.table.set.items b.log.table.set.updates (map plain_reply b.log.table.replies.items) w turn)
          → (passes ≡ 1 → IfOk r (λ turn. IsFirst b.read_phase × IsUnaborted turn))
          → OnOk r (Moves a.read_phase a.at b.read_phase b.at w) → OnErr r (IsLeft w)
          → HasTurned meaning valid sizes script next left may passes a.log.ty.now (script a.log.body) r (Running b) begun w
      unfolding OnLog goes fits
      turned_to (Ok Turns.More) log turned alone moves err = (rest, more log turned (led.moved b.read_phase b.at moves) (λ one. (alone one).0))
      turned_to (Ok Turns.Ready) log turned alone moves err = (rest, ready log turned.0 turned.1 (led.moved b.read_phase b.at moves))
      turned_to (Ok (Turns.Ended x)) log turned alone moves err =
          let ends = ends_of (meaning a.log.ty.now) valid (sizes a.log.ty.now) (script a.log.body) b.at b.log.table.words.items b.log.table.base.items b.log.table.set.updates (map plain_reply b.log.table.replies.items) w x turned.3 in
          over x log turned.1 turned.2 ends (led.moved b.read_phase b.at moves) (λ one. (alone one).1)
      turned_to (Err e) log turned alone moves err = stopped (meaning a.log.ty.now) (sizes a.log.ty.now) begun w rest led.read err

  -- A step of an attempt whose body runs.
  pub reads_on : (passes : ℕ) (ty : T) (f : Behaviour) (a b : Attempt T B) (begun v w : View) (r : Result Turn NoMemory)
      → IsAtRest (meaning ty) (sizes ty) begun → RunsBody meaning valid sizes script next left may passes ty f a begun v
      → b.log.ty ≡ a.log.ty → script b.log.body ≡ script a.log.body
      → OneEvent (λ e. e ≡ next_event (meaning a.log.ty.now).widths a.read_phase a.log.table.words.items) valid passes v w
      → OnOk r (IsOnLog (meaning a.log.ty.now) (next b.log.body) (script a.log.body) (left b.log.body) (may b.log.body) b.log.table.base.items b.log.table.set b.log.table.cache b.log.table.replies.items)
      → IfOk r (λ turn. Turned (meaning a.log.ty.now) valid (sizes a.log.ty.now) (script a.log.body) b.at b.read_phase b.log.table.words.items b.log.table.extension b.log.table.base.items b.log.table.set.items b.log.table.set.updates (map plain_reply b.log.table.replies.items) w turn)
      → (passes ≡ 1 → IsFirst a.read_phase → IfOk r (λ turn. IsFirst b.read_phase × IsUnaborted turn))
      → OnOk r (Moves a.read_phase a.at b.read_phase b.at w) → OnErr r (IsLeft w)
      → HasTurned meaning valid sizes script next left may passes ty f r (Running b) begun w
  unfolding OnLog
  reads_on passes ty f a b begun v w r rest h same_ref same_script o log turned alone moves err =
      let types : a.log.ty.now ≡ ty = h.own.same_type in
      let scripts : script a.log.body ≡ f = h.own.same_script in
      let rest_there : IsAtRest (meaning a.log.ty.now) (sizes a.log.ty.now) begun = subst (λ (t : T). IsAtRest (meaning t) (sizes t) begun) (sym types) rest in
      let led = has_led (meaning a.log.ty.now) valid (sizes a.log.ty.now) (script a.log.body) a.at a.log.table.words.items a.log.table.extension a.log.table.base.items a.log.table.set.items a.log.table.set.updates (map plain_reply a.log.table.replies.items) passes begun v w a.read_phase h.goes h.gone o in
      subst (λ (t : T). HasTurned meaning valid sizes script next left may passes t f r (Running b) begun w) types
      (subst (λ (g : Behaviour). HasTurned meaning valid sizes script next left may passes a.log.ty.now g r (Running b) begun w) scripts
      (turned_to passes a b begun v w (ap (λ (k : Bor T). k.now) same_ref) same_script rest_there led r log turned (λ one. alone one (h.alone one)) moves err))

  -- A word that was read leads on.
  pub read_more : (passes : ℕ) (ty : T) (f : Behaviour) (r : Result Turn NoMemory) (machine : Machine T B) (begun w : View) (turn : Turn) → r ≡ Ok turn → IfOk r (λ t. t ≡ Turns.More)
      → HasTurned meaning valid sizes script next left may passes ty f r machine begun w → Proceeds meaning valid sizes script next left may passes ty f machine begun w
  read_more passes ty f r machine begun w turn is more h =
      let same : turn ≡ Turns.More = subst (λ (x : Result Turn NoMemory). IfOk x (λ t. t ≡ Turns.More)) is more in
      subst (λ (t : Turn). HasTurned meaning valid sizes script next left may passes ty f (Ok t) machine begun w) same
      (subst (λ (x : Result Turn NoMemory). HasTurned meaning valid sizes script next left may passes ty f x machine begun w) is h)

  -- The events left, by the type before the step.
  pub fewer_left : (a b : Attempt T B) → b.log.ty ≡ a.log.ty
      → events_left (left b.log.body) (meaning a.log.ty.now).widths b.read_phase b.log.table.words.items b.log.table.extension b.log.table.base.items < machine_left meaning valid sizes script next left may (Running a)
      → machine_left meaning valid sizes script next left may (Running b) < machine_left meaning valid sizes script next left may (Running a)
  fewer_left a b same h =
      subst (λ (k : Bor T). events_left (left b.log.body) (meaning k.now).widths b.read_phase b.log.table.words.items b.log.table.extension b.log.table.base.items < machine_left meaning valid sizes script next left may (Running a)) (sym same) h

  -- where a step of the commit leads
  abbrev HasCommitted : ℕ → T → Behaviour → Option Verdict → Ready T B → View → View → Type 0
  HasCommitted passes ty f None r begun w = Commits meaning valid sizes script next left may passes ty f r begun w
  HasCommitted passes ty f (Some x) r begun w =
      HasEnded meaning valid sizes script next left may passes ty f (record { body = r.log.body; replies = r.log.table.replies; verdict = x }) begun w

  module _ (passes : ℕ) (r s : Ready T B) (begun v w : View)
      (kept : s ≡ having_found r (lists_of s).found_tickets (lists_of s).loaded_words s.commit_phase)
      (rest : IsAtRest (meaning r.log.ty.now) (sizes r.log.ty.now) begun)
      (h : Commits meaning valid sizes script next left may passes r.log.ty.now (script r.log.body) r begun v)
      (o : OneEvent (IsCommitEvent (lists_of r).updates.items) valid passes v w)
    where
      now : Ready T B
      now = having_found r (lists_of s).found_tickets (lists_of s).loaded_words s.commit_phase

      committed_to : (x : Option Verdict) → Said (deal_of meaning valid sizes script next left may r) (lists_of s).found_tickets (lists_of s).loaded_words.items s.commit_phase w x
          → SpaceAt (meaning r.log.ty.now).widths (lists_of r).tasks.items (lists_of s).loaded_words s.commit_phase
          → (passes ≡ 1 → IsUndisturbed r.at (lists_of r).found_tickets.items None r.commit_phase → IsUndisturbed r.at (lists_of s).found_tickets.items x s.commit_phase)
          → EndsBy v.phase x
          → HasCommitted passes r.log.ty.now (script r.log.body) x now begun w
      unfolding now
      committed_to None said space alone by = record {
        same_type = refl;
        same_script = refl;
        taken = h.taken;
        stands = said;
        space = space;
        copy = h.copy;
        running = commit_runs (deal_of meaning valid sizes script next left may r) passes begun v w h.running o;
        late = h.late;
        alone = λ one. alone one (h.alone one);
      }
      committed_to (Some x) said space alone by = record {
        same_script = refl;
        taken = h.taken;
        tried = ended_commit (deal_of meaning valid sizes script next left may r) passes begun v w h.running h.late o said.1 said.2 x said.3 by;
        rests = rests_after (meaning r.log.ty.now) (sizes r.log.ty.now) begun w rest (commit_runs (deal_of meaning valid sizes script next left may r) passes begun v w h.running o) said.1;
        alone = λ one. unaborted_wrote x ((alone one (h.alone one)).unaborted x refl);
      }

      committed : (x : Option Verdict) → HasCommitted passes r.log.ty.now (script r.log.body) x now begun w → HasCommitted passes r.log.ty.now (script r.log.body) x s begun w
      unfolding now
      committed x it = subst (λ (k : Ready T B). HasCommitted passes r.log.ty.now (script r.log.body) x k begun w) (sym kept) it

  -- the same of the commit, whose type and script are the attempt's own
  commits_own : (passes : ℕ) (ty : T) (f : Behaviour) (r : Ready T B) (begun v : View) → Commits meaning valid sizes script next left may passes ty f r begun v
      → Commits meaning valid sizes script next left may passes r.log.ty.now (script r.log.body) r begun v
  commits_own passes ty f r begun v h = record {
    same_type = refl;
    same_script = refl;
    taken = h.taken;
    stands = h.stands;
    space = h.space;
    copy = h.copy;
    running = h.running;
    late = h.late;
    alone = h.alone;
  }

  turned_by : (passes : ℕ) (ty : T) (f : Behaviour) (s : Ready T B) (begun w : View) → IsAtRest (meaning ty) (sizes ty) begun → (x : Option Verdict) → HasCommitted passes ty f x s begun w
      → HasTurned meaning valid sizes script next left may passes ty f (Ok (turn_of x)) (Committing s) begun w
  turned_by passes ty f s begun w rest None h = (rest, h)
  turned_by passes ty f s begun w rest (Some x) h = h

  -- A step of the commit.
  pub commits_on : (passes : ℕ) (ty : T) (f : Behaviour) (r s : Ready T B) (begun v w : View) (x : Option Verdict)
      → IsAtRest (meaning ty) (sizes ty) begun → Commits meaning valid sizes script next left may passes ty f r begun v
      → s ≡ having_found r (lists_of s).found_tickets (lists_of s).loaded_words s.commit_phase
      → OneEvent (IsCommitEvent (lists_of r).updates.items) valid passes v w
      → Said (deal_of meaning valid sizes script next left may r) (lists_of s).found_tickets (lists_of s).loaded_words.items s.commit_phase w x
      → SpaceAt (meaning r.log.ty.now).widths (lists_of r).tasks.items (lists_of s).loaded_words s.commit_phase
      → (passes ≡ 1 → IsUndisturbed r.at (lists_of r).found_tickets.items None r.commit_phase → IsUndisturbed r.at (lists_of s).found_tickets.items x s.commit_phase)
      → EndsBy v.phase x
      → HasTurned meaning valid sizes script next left may passes ty f (Ok (turn_of x)) (Committing s) begun w
  commits_on passes ty f r s begun v w x rest h kept o said space alone by =
      let types : r.log.ty.now ≡ ty = h.same_type in
      let scripts : script r.log.body ≡ f = h.same_script in
      let rest_there : IsAtRest (meaning r.log.ty.now) (sizes r.log.ty.now) begun = subst (λ (t : T). IsAtRest (meaning t) (sizes t) begun) (sym types) rest in
      let own = commits_own passes ty f r begun v h in
      turned_by passes ty f s begun w rest x
      (subst (λ (t : T). HasCommitted passes t f x s begun w) types
      (subst (λ (g : Behaviour). HasCommitted passes r.log.ty.now g x s begun w) scripts
      (committed passes r s begun v w kept rest_there own o x (committed_to passes r s begun v w kept rest_there own o x said space alone by))))

  -- The commit of an attempt that is ready, as its seal makes it.
  pub seals : (passes : ℕ) (ty : T) (f : Behaviour) (a : Attempt T B) (r : Ready T B) (begun v : View)
      → IsReady meaning valid sizes script next left may ty f a begun v
      → r.log ≡ with_lists a.log (lists_of r) → r.at ≡ a.at
      → Stands (deal_of meaning valid sizes script next left may r) (lists_of r).found_tickets (lists_of r).loaded_words.items r.commit_phase v
      → SpaceAt (meaning r.log.ty.now).widths (lists_of r).tasks.items (lists_of r).loaded_words r.commit_phase
      → r.log.table.set.updates ≡ (lists_of r).updates.items
      → IsUndisturbed r.at (lists_of r).found_tickets.items None r.commit_phase
      → Commits meaning valid sizes script next left may passes ty f r begun v
  seals passes ty f a r begun v h same at stands space copy undisturbed = record {
    same_type = ap (λ (k : Log T B). k.ty.now) same ∙ h.own.same_type;
    same_script = ap (λ (k : Log T B). script k.body) same ∙ h.own.same_script;
    taken = subst (λ (k : Log T B). (call : Call) → may k.body call → (meaning k.ty.now).takes call) (sym same) h.own.log.taken;
    stands = stands;
    space = space;
    copy = copy;
    running = h.in_body.running;
    late = λ k known. (let l = h.in_body.late k known in omega (arith, l, at));
    alone = λ one. undisturbed;
  }

  -- Where the seal has met want of memory.
  pub stops_ready : (passes : ℕ) (ty : T) (f : Behaviour) (a : Attempt T B) (begun w : View) → IsAtRest (meaning ty) (sizes ty) begun → IsReady meaning valid sizes script next left may ty f a begun w
      → HasStopped (meaning ty) (sizes ty) begun w
  stops_ready passes ty f a begun w rest h =
      stopped (meaning ty) (sizes ty) begun w rest (record { running = h.in_body.running; undrawn = h.in_body.undrawn })
      (record { idle = idle_reading w h.fits.stands; unheld = h.fits.unheld; decided = h.fits.decided })

  -- What is left of the attempt is handed over.
  pub ended_as : (passes : ℕ) (ty : T) (f : Behaviour) (body mine : B) (replies heard : Listed Reply) (x : Verdict) (begun w : View) → mine ≡ body → heard ≡ replies
      → HasEnded meaning valid sizes script next left may passes ty f (record { body = body; replies = replies; verdict = x }) begun w
      → HasEnded meaning valid sizes script next left may passes ty f (record { body = mine; replies = heard; verdict = x }) begun w
  ended_as passes ty f body mine replies heard x begun w same_body same_replies h =
      subst (λ (y : B). HasEnded meaning valid sizes script next left may passes ty f (record { body = y; replies = heard; verdict = x }) begun w) (sym same_body)
      (subst (λ (l : Listed Reply). HasEnded meaning valid sizes script next left may passes ty f (record { body = body; replies = l; verdict = x }) begun w) (sym same_replies) h)

  -- What all steps have led to, by their answer.
  pub finished_ok : (passes : ℕ) (ty : T) (f : Behaviour) (r : Result (FinishedAttempt B) NoMemory) (begun w : View) → HasFinished meaning valid sizes script next left may passes ty f r begun w
      → IfOk r (λ e. HasEnded meaning valid sizes script next left may passes ty f e begun w)
  finished_ok passes ty f (Ok e) begun w h = h
  finished_ok passes ty f (Err error) begun w h = tt

  pub finished_err : (passes : ℕ) (ty : T) (f : Behaviour) (r : Result (FinishedAttempt B) NoMemory) (begun w : View) → HasFinished meaning valid sizes script next left may passes ty f r begun w
      → OnErr r (HasStopped (meaning ty) (sizes ty) begun w)
  finished_err passes ty f (Ok e) begun w h = tt
  finished_err passes ty f (Err error) begun w h = h
