-- Where an attempt may be aborted: while a call runs, and in the commit of a run that has written.
use Rattle.std.proofs.Common.{◌≡◌, Bool, true, not, ℕ, ℤ, List, refl, ap, sym, ◌∙◌, subst}
use Rattle.sto_item.specs.declared.item.Item.{Item}
use Rattle.sto_item.specs.Pending.{Entry as Update}
use Rattle.sto_core.specs.declared.view.View.{View}
use Rattle.sto_core.specs.History.{Validity}
use Rattle.sto_model.specs.declared.body.Next.{Next}
use Rattle.sto_model.specs.declared.body.Next.TheVariants.{Ask, Commit, Cancel}
use Rattle.sto_model.specs.PlainReplies.{PlainReply}
use Rattle.sto_model.specs.Run.{Behaviour}
use Rattle.sto_model.specs.Serial.{has_written}
use Rattle.sto_model.specs.Asked.{MayAbort, IsUnsettled}
use Rattle.sto_type.specs.Meaning.{Meaning}
use Rattle.sto_type.specs.Touching.{NextTouches}
use Rattle.sto_attempt_log.specs.Committing.{IsSealed}
use Rattle.sto_attempt_log.specs.Standing.{IsCalling}
use Rattle.sto_attempt_log.specs.declared.read_entry.ReadEntry.{ReadEntry}

pub calling : (m : Meaning) (next : Next) (part : ℕ) → NextTouches m next part → IsCalling next
calling m (Ask call) part h = tt
calling m Commit part h = absurd h
calling m Cancel part h = absurd h

may_abort : (next : Next) (written : Bool) → IsCalling next → MayAbort next written
may_abort (Ask call) written h = tt
may_abort Commit written h = absurd h
may_abort Cancel written h = absurd h

pub unsettled_calling : (f : Behaviour) (rs : List PlainReply) → IsCalling (f rs) → IsUnsettled f rs
unsettled_calling f rs h = may_abort (f rs) (has_written f rs) h

pub unsettled_sealed : (m : Meaning) (valid : Validity) (sizes : List ℕ) (f : Behaviour) (at : ℕ) (base : List ReadEntry) (items : List Item) (us : List Update) (rs : List PlainReply) (v : View)
    → IsSealed m valid sizes f at base items us rs v → IsUnsettled f rs
unsettled_sealed m valid sizes f at base items us rs v h =
    subst (λ (n : Next). MayAbort n (has_written f rs)) (sym h.ends) (h.log.written ∙ ap not h.some)
