-- Where a turn has led an attempt that may wait.
use Rattle.std.proofs.Common.{◌≡◌, ◌≤◌, ℕ, Result, Ok, Err, true≢false, ap, sym, ◌∙◌, subst}
use Rattle.std.specs.Result.{IsErr}
use denote.Bor.{Bor}
use Rattle.sto_part.specs.declared.NoMemory.{NoMemory}
use Rattle.sto_model.specs.Run.{Behaviour}
use Rattle.sto_model.specs.Bodies.{OfBody}
use Rattle.sto_model.specs.declared.call.Call.{Call}
use Rattle.sto_type.specs.Meaning.{Meaning}
use Rattle.sto_type.specs.Traits.{OfType}
use Rattle.sto_core.specs.declared.view.View.{View}
use Rattle.sto_attempt_log.specs.declared.read_phase.ReadPhase.{ReadPhase}
use Rattle.sto_attempt_log.specs.declared.verdict.Verdict.{Verdict}
use Rattle.sto_attempt_log.specs.declared.verdict.Verdict.TheVariants.{Wrote, Read, Cancelled, Locked, Changed}
use Rattle.sto_attempt_log.specs.declared.verdict.Turn.{Turn}
use Rattle.sto_attempt_log.specs.declared.verdict.Turn.TheVariants.{More, Ready, Ended}
use Rattle.sto_attempt_log.specs.Standing.{Fits, EndsAs, Turned, HasBegun, IsFirst, IsLeft, IsUnaborted, Ends}
use Rattle.sto_attempt_log.proofs.Stepping.{ends_of}
use Rattle.sto_history.specs.Records.{TransactionPlace}
use Rattle.sto_history.specs.Tried.{HasTried}
use Rattle.sto_attempt_log.specs.Log.{IsOnLog}
use Rattle.sto_attempt.specs.declared.attempt.Attempt.{Attempt}
use Rattle.sto_attempt.specs.Attempts.{IsLogOf, HasTurned, Steps, event_of, heard}
use Rattle.sto_transaction.specs.Going.{InBody}
use Rattle.sto_transaction.specs.Resting.{IsAtRest}
use Rattle.sto_transaction.specs.Plain.{verdict}
use Rattle.sto_transaction.specs.Machines.{HasStopped, IsOwnLog, IsReady, RunsBody}
use Rattle.sto_transaction.proofs.Gone.{gone_of, has_led, rests_after, stopped}
use Rattle.sto_transaction.proofs.Ends.{ended_reading, unaborted_turn}
use Rattle.sto_interactive.specs.Waiting.{IsWaiting, EndsSo, WaitsAfter, HasCome, HasRunOn}
use Rattle.sto_interactive.proofs.AtEnd.{may_go_on}

module _ {T B : Type 0} (t : OfType T) (b : OfBody B) where
  -- what is told of an attempt by the type and the script of the one before, is told by its own
  own_log : (old a : Attempt T B) → a.log.ty.now ≡ old.log.ty.now → b.script a.log.body ≡ b.script old.log.body → IsLogOf t b old a → IsLogOf t b a a
  own_log old a types scripts h =
      subst (λ (ty : T). IsOnLog (t.meaning ty) (b.then a.log.body) (b.script a.log.body) (b.left a.log.body) (b.may_ask a.log.body) a.log.table.base.items a.log.table.set a.log.table.cache a.log.table.replies.items) (sym types)
      (subst (λ (f : Behaviour). IsOnLog (t.meaning old.log.ty.now) (b.then a.log.body) f (b.left a.log.body) (b.may_ask a.log.body) a.log.table.base.items a.log.table.set a.log.table.cache a.log.table.replies.items) (sym scripts) h)

  pub own_turned : (old a : Attempt T B) (w : View) (turn : Turn) → a.log.ty ≡ old.log.ty → b.script a.log.body ≡ b.script old.log.body → HasTurned t b old a w turn → HasTurned t b a a w turn
  own_turned old a w turn types scripts h =
      subst (λ (ty : T). Turned (t.meaning ty) t.valid (t.sizes ty) (b.script a.log.body) a.at a.read_phase a.log.table.words.items a.log.table.extension a.log.table.base.items a.log.table.set.items a.log.table.set.updates (heard a) w turn)
      (sym (ap (λ (r : Bor T). r.now) types))
      (subst (λ (f : Behaviour). Turned (t.meaning old.log.ty.now) t.valid (t.sizes old.log.ty.now) f a.at a.read_phase a.log.table.words.items a.log.table.extension a.log.table.base.items a.log.table.set.items a.log.table.set.updates (heard a) w turn)
      (sym scripts) h)

  pub own_now : (ty : T) (f : Behaviour) (old a : Attempt T B) → IsOwnLog t.meaning t.valid t.sizes b.script b.then b.left b.may_ask ty f old
      → a.log.ty ≡ old.log.ty → b.script a.log.body ≡ b.script old.log.body → IsLogOf t b old a
      → IsOwnLog t.meaning t.valid t.sizes b.script b.then b.left b.may_ask ty f a
  own_now ty f old a own types scripts log = record {
    same_type = ap (λ (r : Bor T). r.now) types ∙ own.same_type;
    same_script = scripts ∙ own.same_script;
    log = own_log old a (ap (λ (r : Bor T). r.now) types) scripts log;
  }

  -- before its commit it waits, too
  pub ready_waits : (ty : T) (f : Behaviour) (a : Attempt T B) (begun v : View) → IsReady t.meaning t.valid t.sizes b.script b.then b.left b.may_ask ty f a begun v → IsWaiting t b ty f a begun v
  ready_waits ty f a begun v h = record { own = h.own; waits = may_go_on t b a v h.fits; in_body = h.in_body }

  -- an attempt that waits can be given up
  pub waiting_stops : (ty : T) (f : Behaviour) (a : Attempt T B) (begun v : View) → IsAtRest (t.meaning ty) (t.sizes ty) begun → IsWaiting t b ty f a begun v → HasStopped (t.meaning ty) (t.sizes ty) begun v
  waiting_stops ty f a begun v rest h =
      let k = h.waits.0 in
      stopped (t.meaning ty) (t.sizes ty) begun v rest (record { running = h.in_body.running; undrawn = h.in_body.undrawn }) (record { idle = k.stands; unheld = k.unheld; decided = k.decided })

  module _ (passes : ℕ) (ty : T) (f : Behaviour) (a : Attempt T B) (begun w : View) (rest : IsAtRest (t.meaning ty) (t.sizes ty) begun)
      (own : IsOwnLog t.meaning t.valid t.sizes b.script b.then b.left b.may_ask ty f a) (in_body : InBody begun w a.at) where
    told : (m : Meaning) (g : Behaviour) (x : Verdict) → t.meaning a.log.ty.now ≡ m → b.script a.log.body ≡ g → IsLeft w → a.at ≤ w.at → Ends (t.meaning a.log.ty.now) (b.script a.log.body) w a.at (heard a) x
        → (place : TransactionPlace) → HasTried m begun w g place (record { place = place; replies = heard a; verdict = verdict x })
    told m g x types scripts left within ends place =
        ended_reading m g begun w a.at (heard a) x in_body left within
        (subst (λ (n : Meaning). Ends n g w a.at (heard a) x) types (subst (λ (h : Behaviour). Ends (t.meaning a.log.ty.now) h w a.at (heard a) x) scripts ends)) place

    over : (x : Verdict) → IsLeft w → a.at ≤ w.at → Ends (t.meaning a.log.ty.now) (b.script a.log.body) w a.at (heard a) x → (passes ≡ 1 → IsUnaborted (Ended x)) → EndsSo t b passes ty f a x begun w
    over x left within ends alone = record {
      same_script = own.same_script;
      taken = subst (λ (y : T). (call : Call) → b.may_ask a.log.body call → (t.meaning y).takes call) own.same_type own.log.taken;
      tried = told (t.meaning ty) f x (ap t.meaning own.same_type) own.same_script left within ends;
      rests = rests_after (t.meaning ty) (t.sizes ty) begun w rest in_body.running left;
      alone = λ one. unaborted_turn x (alone one);
    }

    waits_after : (x : Verdict) → EndsAs (t.meaning a.log.ty.now) t.valid (t.sizes a.log.ty.now) (b.script a.log.body) a.at a.log.table.words.items a.log.table.base.items a.log.table.set.updates (heard a) w x → WaitsAfter t b x ty f a begun w
    waits_after (Wrote n) h = h
    waits_after (Read n) h = record { own = own; waits = h.1; in_body = in_body }
    waits_after (Cancelled n) h = tt
    waits_after (Locked n p) h = tt
    waits_after (Changed n p s) h = tt

    pub come : (turn : Turn) → HasBegun a.read_phase → HasTurned t b a a w turn → (passes ≡ 1 → IsFirst a.read_phase × IsUnaborted turn) → HasCome t b passes ty f turn a begun w
    come More begins turned alone = record { own = own; goes = turned; gone = gone_of begun w a.read_phase a.at (record { begins = begins; in_body = in_body }); alone = λ one. (alone one).0 }
    come Ready begins turned alone = record {
      own = own;
      fits = subst
          (λ (s : ReadPhase). Fits (t.meaning a.log.ty.now) t.valid (t.sizes a.log.ty.now) (b.script a.log.body) a.at s a.log.table.words.items a.log.table.base.items a.log.table.set.updates (heard a) w) turned.1 turned.0;
      in_body = in_body;
      committing = turned.1;
    }
    come (Ended x) begins turned alone = (
      over x turned.1 turned.2 (ends_of (t.meaning a.log.ty.now) t.valid (t.sizes a.log.ty.now) (b.script a.log.body) a.at a.log.table.words.items a.log.table.base.items a.log.table.set.updates (heard a) w x turned.3)
          (λ one. (alone one).1),
      waits_after x turned.3,
    )

  -- where a step has led it
  pub stepped : (passes : ℕ) (ty : T) (f : Behaviour) (old a : Attempt T B) (begun v w : View) (r : Result Turn NoMemory) → IsAtRest (t.meaning ty) (t.sizes ty) begun
      → RunsBody t.meaning t.valid t.sizes b.script b.then b.left b.may_ask passes ty f old begun v
      → Steps t b passes old.read_phase (event_of t b old) old a v w r → HasRunOn t b passes ty f r a begun w
  stepped passes ty f old a begun v w (Ok turn) rest h s =
      let led = has_led (t.meaning old.log.ty.now) t.valid (t.sizes old.log.ty.now) (b.script old.log.body) old.at old.log.table.words.items old.log.table.extension old.log.table.base.items old.log.table.set.items old.log.table.set.updates (heard old) passes begun v w
      old.read_phase h.goes h.gone s.event in
      let moved = led.moved a.read_phase a.at s.moves in
      come passes ty f a begun w rest (own_now ty f old a h.own s.ty s.script s.log) moved.in_body turn moved.begins (own_turned old a w turn s.ty s.script s.turned) (λ one. s.alone one (h.alone one))
  stepped passes ty f old a begun v w (Err error) rest h s =
      let led = has_led (t.meaning old.log.ty.now) t.valid (t.sizes old.log.ty.now) (b.script old.log.body) old.at old.log.table.words.items old.log.table.extension old.log.table.base.items old.log.table.set.items old.log.table.set.updates (heard old) passes begun v w
      old.read_phase h.goes h.gone s.event in
      stopped (t.meaning ty) (t.sizes ty) begun w rest led.read s.err

  -- where it is led that goes on from where it waits
  pub resumed : (passes : ℕ) (ty : T) (f : Behaviour) (old a : Attempt T B) (begun v : View) (turn : Turn) → IsAtRest (t.meaning ty) (t.sizes ty) begun → IsWaiting t b ty f old begun v
      → a.log.ty ≡ old.log.ty → b.script a.log.body ≡ b.script old.log.body → a.at ≡ old.at → IsLogOf t b old a → HasTurned t b old a v turn → HasBegun a.read_phase → IsFirst a.read_phase × IsUnaborted turn
      → HasCome t b passes ty f turn a begun v
  resumed passes ty f old a begun v turn rest h types scripts at log turned begins first =
      come passes ty f a begun v rest (own_now ty f old a h.own types scripts log) (subst (λ (n : ℕ). InBody begun v n) (sym at) h.in_body) turn begins (own_turned old a v turn types scripts turned) (λ one. first)

  -- want of memory, as `?` hands it on
  pub stops_on : (passes : ℕ) (ty : T) (f : Behaviour) (a : Attempt T B) (begun w : View) (r : Result Turn NoMemory) → IsErr r → HasStopped (t.meaning ty) (t.sizes ty) begun w → HasRunOn t b passes ty f r a begun w
  stops_on passes ty f a begun w (Ok turn) e h = absurd (true≢false (sym e))
  stops_on passes ty f a begun w (Err error) e h = h
