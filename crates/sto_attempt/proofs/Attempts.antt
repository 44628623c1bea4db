-- What is so before the event of a read phase is so at any name of that phase.
use Rattle.std.proofs.Common.{◌≡◌, ℕ, Result, sym, subst, map}
use Rattle.sto_part.specs.declared.NoMemory.{NoMemory}
use Rattle.sto_core.specs.declared.view.View.{View}
use Rattle.sto_core.specs.declared.cells.Cells as cells
use Rattle.sto_core.specs.Event.{Event}
use Rattle.sto_model.specs.PlainReplies.{plain_reply}
use Rattle.sto_attempt_log.specs.declared.read_phase.ReadPhase.{ReadPhase}
use Rattle.sto_attempt_log.specs.declared.read_phase.ReadPhase.TheVariants.{Renewing}
use Rattle.sto_attempt_log.specs.declared.verdict.Turn.{Turn}
use Rattle.sto_attempt_log.specs.Answers.{IsPrefix}
use Rattle.sto_attempt_log.specs.Log.{IsLog}
use Rattle.sto_attempt_log.specs.ReadSet.{words_in}
use Rattle.sto_attempt_log.specs.Standing.{IsLeft, next_event}
use Rattle.sto_attempt_log.proofs.Stepping.{any_prefix, ok_map}
use Rattle.sto_attempt_log.proofs.Causing.{err_both}
use Rattle.sto_type.specs.Traits.{OfType}
use Rattle.sto_model.specs.Bodies.{OfBody}
use Rattle.sto_attempt.specs.declared.attempt.Attempt.{Attempt}
use Rattle.sto_attempt.specs.Attempts.{IsUnderWay, Steps, IsLogOf, IsPrefixOf, HasStepped}

pub under_way_at : {T B : Type 0} (t : OfType T) (b : OfBody B) (a : Attempt T B) (v : View) (old s : ReadPhase) → old ≡ s → IsUnderWay t b old a v → IsUnderWay t b s a v
under_way_at t b a v old s e h = subst (λ (x : ReadPhase). IsUnderWay t b x a v) e h

pub steps_at : {T B : Type 0} (t : OfType T) (b : OfBody B) (passes : ℕ) (a c : Attempt T B) (v w : View) (r : Result Turn NoMemory) (old s : ReadPhase) → old ≡ s
    → Steps t b passes s (next_event (t.meaning a.log.ty.now).widths s a.log.table.words.items) a c v w r
    → Steps t b passes old (next_event (t.meaning a.log.ty.now).widths old a.log.table.words.items) a c v w r
steps_at t b passes a c v w r old s e h = subst (λ (x : ReadPhase). Steps t b passes x (next_event (t.meaning a.log.ty.now).widths x a.log.table.words.items) a c v w r) (sym e) h

-- where the event is the next one
pub steps_as : {T B : Type 0} (t : OfType T) (b : OfBody B) (passes : ℕ) (a c : Attempt T B) (v w : View) (r : Result Turn NoMemory) (old s : ReadPhase) → old ≡ s → (e : Event)
    → next_event (t.meaning a.log.ty.now).widths old a.log.table.words.items ≡ e → Steps t b passes s e a c v w r → Steps t b passes old (next_event (t.meaning a.log.ty.now).widths old a.log.table.words.items) a c v w r
steps_as t b passes a c v w r old s is e to h =
    subst (λ (x : ReadPhase). Steps t b passes x (next_event (t.meaning a.log.ty.now).widths old a.log.table.words.items) a c v w r) (sym is)
    (subst (λ (x : Event). Steps t b passes s x a c v w r) (sym to) h)

-- a renew is the same for each part
pub renew_steps : {T B : Type 0} (t : OfType T) (b : OfBody B) (passes : ℕ) (a c : Attempt T B) (v w : View) (r : Result Turn NoMemory) (e : Event) (p q n k : ℕ)
    → Steps t b passes (Renewing p q) e a c v w r → Steps t b passes (Renewing n k) e a c v w r
renew_steps t b passes a c v w r e p q n k h =
    record { event = h.event; log = h.log; turned = h.turned; grown = h.grown; alone = h.alone; reason = h.reason; renewed = h.renewed; moves = h.moves; left = h.left; err = h.err; script = h.script; left_at_reset = h.left_at_reset; ty = h.ty }

-- after each event the replies are a prefix
pub stepped_prefix : {T B C : Type 0} (t : OfType T) (b : OfBody B) (c : cells.Ghosts C T) (s : ReadPhase) (e : Event) (a d : Attempt T B) (x y : C) (r : Result Turn NoMemory)
    → HasStepped t b c s e a d x y r → IsPrefixOf t b a d (c.view y)
stepped_prefix t b c s e a d x y r h =
    let m = t.meaning a.log.ty.now in
    let f = b.script a.log.body in
    let now = map plain_reply d.log.table.replies.items in
    let w = c.view y in
    any_prefix m t.valid (t.sizes a.log.ty.now) f d.at d.log.table.words.items d.log.table.extension d.log.table.base.items d.log.table.set.items d.log.table.set.updates now w d.read_phase r (IsLeft w) h.steps.turned
    (ok_map r (IsLogOf t b a d) (IsLog m f (words_in d.log.table.base.items) d.log.table.set.items d.log.table.set.updates now) (λ k. k.log) h.steps.log)
    (err_both r (IsLeft w) (IsPrefix m f w d.at now) h.steps.err h.stopped)
