-- A step of a body that runs leaves the view as it is told of one that runs.
use Rattle.std.specs.Prelude.{nat_lt, if◌then◌else◌}
use Rattle.std.proofs.Common.{◌≡◌, ◌≤◌, ℕ, ℤ, List, Bool, true, false, length, slice_index_or, sym, ap, ◌∙◌, subst, arith}
use Rattle.sto_item.specs.declared.item.Item.{Item}
use Rattle.sto_item.specs.Pending.{Entry as Update}
use Rattle.sto_model.specs.PlainReplies.{PlainReply}
use Rattle.sto_model.specs.Run.{Behaviour}
use Rattle.sto_type.specs.Meaning.{Meaning}
use Rattle.sto_core.specs.declared.view.View.{View}
use Rattle.sto_core.specs.History.{Validity}
use Rattle.sto_core.specs.Event.{Event, Start, Open, Word, Close, Renew, Recheck}
use Rattle.sto_core.specs.Tells.{Tells}
use Rattle.sto_attempt_log.specs.declared.read_entry.ReadEntry.{ReadEntry}
use Rattle.sto_attempt_log.specs.declared.extension.Extension.{Extension}
use Rattle.sto_attempt_log.specs.declared.read_phase.ReadPhase.{ReadPhase}
use Rattle.sto_attempt_log.specs.declared.read_phase.ReadPhase.TheVariants.{Unstarted, Opening, Reading, Renewing, Rechecking, Reopening, Rereading, Committing, Over}
use Rattle.sto_attempt_log.specs.Answers.{OneEvent}
use Rattle.sto_attempt_log.specs.Standing.{Goes, HasBegun, Moves, IsLeft, next_event, reading_event}
use Rattle.sto_history.specs.Added.{IsKnown}
use Rattle.sto_history.specs.Running.{HasNoMore, IsRunning}
use Rattle.sto_history.proofs.Events.{covers_known}
use Rattle.sto_history.proofs.Progress.{begun_runs, keeps_running}
use Rattle.sto_history.proofs.Ended.{IsPlain, undrawn_keeps}
use Rattle.sto_transaction.specs.Going.{InBody, HasGone}
use Rattle.sto_transaction.specs.Resting.{IsAtRest}
use Rattle.sto_transaction.specs.Machines.{HasStopped}

-- an event of an attempt that has begun and reads
IsReadingEvent : Event → Type 0
IsReadingEvent (Open p) = Unit {0}
IsReadingEvent (Word p i) = Unit {0}
IsReadingEvent (Close p) = Unit {0}
IsReadingEvent Renew = Unit {0}
IsReadingEvent (Recheck p) = Unit {0}
IsReadingEvent _ = ⊥

plain_reading : (e : Event) → IsReadingEvent e → IsPlain e
unfolding IsReadingEvent
plain_reading (Open p) h = tt
plain_reading (Word p i) h = tt
plain_reading (Close p) h = tt
plain_reading Renew h = tt
plain_reading (Recheck p) h = tt
plain_reading _ h = absurd h

no_start : (e : Event) → IsReadingEvent e → e ≡ Start → ⊥
unfolding IsReadingEvent
no_start e h is = subst (λ (k : Event). IsReadingEvent k) is h

within_read : (widths : List ℕ) (p : ℕ) (ws : List ℤ) → IsReadingEvent (reading_event widths p ws)
unfolding IsReadingEvent
within_read widths p ws = by (nat_lt (length ws) (slice_index_or widths p 0))
  where
    by : (b : Bool) → IsReadingEvent (if b then Word p (length ws) else Close p)
    by true = tt
    by false = tt

-- a read phase from which the reading goes on
GoesOn : ReadPhase → Type 0
GoesOn Unstarted = ⊥
GoesOn Committing = ⊥
GoesOn Over = ⊥
GoesOn _ = Unit {0}

next_reads : (widths : List ℕ) (read_phase : ReadPhase) (ws : List ℤ) → GoesOn read_phase → IsReadingEvent (next_event widths read_phase ws)
unfolding GoesOn IsReadingEvent
next_reads widths Unstarted ws h = absurd h
next_reads widths (Opening p) ws h = tt
next_reads widths (Reading p t) ws h = within_read widths p ws
next_reads widths (Renewing p t) ws h = tt
next_reads widths (Rechecking p) ws h = tt
next_reads widths (Reopening p) ws h = tt
next_reads widths (Rereading p t) ws h = within_read widths p ws
next_reads widths Committing ws h = absurd h
next_reads widths Over ws h = absurd h

-- what is so after the step, whether or not memory was wanting
pub record HasRead (begun w : View) : Type 0 where
  pub running : IsRunning begun w
  pub undrawn : HasNoMore begun w.entries w.draws

-- the event is this one
told_of : (valid : Validity) (passes : ℕ) (e : Event) (v w : View) (o : OneEvent (λ k. k ≡ e) valid passes v w) → Tells valid passes e v o.number o.value w
told_of valid passes e v w o = subst (λ (k : Event). Tells valid passes k v o.number o.value w) o.of_kind o.tells

started : (valid : Validity) (passes : ℕ) (begun v w : View) → v ≡ begun → OneEvent (λ k. k ≡ Start) valid passes v w → HasRead begun w
started valid passes begun v w same o =
    let t = told_of valid passes Start v w o in
    subst (λ (u : View). HasRead u w) same (record {
      running = begun_runs valid passes v w o.number o.value t;
      undrawn = record { same = ap (λ (u : View). u.entries) t.after; left = ap (λ (u : View). u.draws) t.after };
    })

read_on : (valid : Validity) (passes : ℕ) (e : Event) (begun v w : View) (at : ℕ) → IsReadingEvent e → InBody begun v at → OneEvent (λ k. k ≡ e) valid passes v w → HasRead begun w
read_on valid passes e begun v w at reading h o =
    let t = told_of valid passes e v w o in record {
      running = keeps_running valid passes e begun v w o.number o.value (no_start e reading) t.allowed t h.running;
      undrawn = subst (λ (u : View). HasNoMore begun u.entries u.draws) (sym t.after) (undrawn_keeps e begun v o.number o.value (plain_reading e reading) h.undrawn);
    }

in_body : (read_phase : ReadPhase) → GoesOn read_phase → (begun v : View) (at : ℕ) → HasGone read_phase begun v at → InBody begun v at
unfolding GoesOn
in_body Unstarted on begun v at h = absurd on
in_body (Opening p) on begun v at h = h
in_body (Reading p t) on begun v at h = h
in_body (Renewing p t) on begun v at h = h
in_body (Rechecking p) on begun v at h = h
in_body (Reopening p) on begun v at h = h
in_body (Rereading p t) on begun v at h = h
in_body Committing on begun v at h = absurd on
in_body Over on begun v at h = absurd on

gone_in : (read_phase : ReadPhase) → HasBegun read_phase → (begun v : View) (at : ℕ) → InBody begun v at → HasGone read_phase begun v at
gone_in Unstarted on begun v at h = absurd on
gone_in (Opening p) on begun v at h = h
gone_in (Reading p t) on begun v at h = h
gone_in (Renewing p t) on begun v at h = h
gone_in (Rechecking p) on begun v at h = h
gone_in (Reopening p) on begun v at h = h
gone_in (Rereading p t) on begun v at h = h
gone_in Committing on begun v at h = h
gone_in Over on begun v at h = h

-- a later step never lowers the number
moved_late : (read_phase new : ReadPhase) (old at : ℕ) (w : View) → GoesOn read_phase → Moves read_phase old new at w → HasBegun new × (old ≤ at)
unfolding GoesOn
moved_late Unstarted new old at w on h = absurd on
moved_late (Opening p) new old at w on h = h
moved_late (Reading p t) new old at w on h = h
moved_late (Renewing p t) new old at w on h = h
moved_late (Rechecking p) new old at w on h = h
moved_late (Reopening p) new old at w on h = h
moved_late (Rereading p t) new old at w on h = h
moved_late Committing new old at w on h = absurd on
moved_late Over new old at w on h = absurd on

-- after a step that has not met want of memory
pub record HasMoved (begun w : View) (new : ReadPhase) (at : ℕ) : Type 0 where
  pub begins : HasBegun new
  pub in_body : InBody begun w at

pub gone_of : (begun w : View) (new : ReadPhase) (at : ℕ) → HasMoved begun w new at → HasGone new begun w at
gone_of begun w new at h = gone_in new h.begins begun w at h.in_body

module _ (m : Meaning) (valid : Validity) (sizes : List ℕ) (f : Behaviour) (old : ℕ) (ws : List ℤ) (extension : Extension) (base : List ReadEntry) (items : List Item) (es : List Update) (rs : List PlainReply) (passes : ℕ) (begun v w : View) where
  -- how a step leads on, by where the attempt stood
  pub record HasLed (read_phase : ReadPhase) : Type 0 where
    pub read : HasRead begun w
    pub moved : (new : ReadPhase) (at : ℕ) → Moves read_phase old new at w → HasMoved begun w new at

  first : HasGone Unstarted begun v old → OneEvent (λ k. k ≡ Start) valid passes v w → HasLed Unstarted
  first gone o =
      let r = started valid passes begun v w gone o in
      let t = told_of valid passes Start v w o in record {
        read = r;
        moved = λ new at moves. record {
          begins = moves.0;
          in_body = record {
            running = r.running;
            undrawn = r.undrawn;
            late = λ k known. (
                let known_there : IsKnown v k = subst (λ (u : View). IsKnown u k) (sym gone) known in
                let a = covers_known v o.number k t.learns.0 known_there in
                let b = ap (λ (u : View). u.at) t.after in
                let c = moves.1 in
                omega (arith, a, b, c)
                );
          };
        };
      }

  further : (read_phase : ReadPhase) → GoesOn read_phase → HasGone read_phase begun v old → OneEvent (λ k. k ≡ next_event m.widths read_phase ws) valid passes v w → HasLed read_phase
  further read_phase on gone o =
      let body = in_body read_phase on begun v old gone in
      let r = read_on valid passes (next_event m.widths read_phase ws) begun v w old (next_reads m.widths read_phase ws on) body o in record {
        read = r;
        moved = λ new at moves.
            let k = moved_late read_phase new old at w on moves in record {
              begins = k.0;
              in_body = record { running = r.running; undrawn = r.undrawn; late = λ n known. (let a = body.late n known in let b = k.1 in omega (arith, a, b)) };
            };
      }

  pub has_led : (read_phase : ReadPhase) → Goes m valid sizes f old read_phase ws extension base items es rs v → HasGone read_phase begun v old → OneEvent (λ k. k ≡ next_event m.widths read_phase ws) valid passes v w → HasLed read_phase
  unfolding GoesOn
  has_led Unstarted goes gone o = first gone o
  has_led (Opening p) goes gone o = further (Opening p) tt gone o
  has_led (Reading p t) goes gone o = further (Reading p t) tt gone o
  has_led (Renewing p t) goes gone o = further (Renewing p t) tt gone o
  has_led (Rechecking p) goes gone o = further (Rechecking p) tt gone o
  has_led (Reopening p) goes gone o = further (Reopening p) tt gone o
  has_led (Rereading p t) goes gone o = further (Rereading p t) tt gone o
  has_led Committing goes gone o = absurd goes
  has_led Over goes gone o = absurd goes

-- a pass that is left is at rest as it was before the attempt
pub rests_after : (m : Meaning) (sizes : List ℕ) (begun w : View) → IsAtRest m sizes begun → IsRunning begun w → IsLeft w → IsAtRest m sizes w
rests_after m sizes begun w rest r left = record {
  idle = left.idle;
  held = left.unheld;
  settled = left.decided;
  sized = r.sizes ∙ rest.sized;
  opened = r.opening ∙ rest.opened;
}

pub stopped : (m : Meaning) (sizes : List ℕ) (begun w : View) → IsAtRest m sizes begun → HasRead begun w → IsLeft w → HasStopped m sizes begun w
stopped m sizes begun w rest r left = record {
  rests = rests_after m sizes begun w rest r.running left;
  grows = r.running.grows;
  entries = r.undrawn.same;
  starts = r.running.starts;
  draws = r.undrawn.left;
}
