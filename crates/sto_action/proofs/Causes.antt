-- What the verdict of an attempt names, and why it is an abort.
use Rattle.std.proofs.Common.{◌≡◌, ◌<◌, ℕ, List, length, true, false, refl, arith}
use Rattle.sto_model.specs.PlainReplies.{PlainReply}
use Rattle.sto_model.specs.Run.{Behaviour}
use Rattle.sto_type.specs.Meaning.{Meaning, IsLawful}
use Rattle.sto_type.specs.Touching.{HasTouched}
use Rattle.sto_type.proofs.Touching.{touched_of}
use Rattle.sto_core.specs.declared.view.View.{View}
use Rattle.sto_history.specs.Records.{Verdict, Wrote, Read, Cancelled, Locked, Changed, is_abort}
use Rattle.sto_history.specs.Told.{IsTold}
use Rattle.sto_action.specs.declared.cause.AbortCause.{AbortCause}
use Rattle.sto_action.specs.Causes.{IsCauseOf, NamesPart}

-- a verdict that has a cause is that of an abort
pub cause_aborts : (m : Meaning) (v : Verdict) (cause : AbortCause) → IsCauseOf m v cause → is_abort v ≡ true
cause_aborts m (Wrote ticket) cause is = absurd is
cause_aborts m (Read at) cause is = absurd is
cause_aborts m (Cancelled at) cause is = absurd is
cause_aborts m (Locked at part) cause is = refl
cause_aborts m (Changed at part ticket) cause is = refl

touched_below : (m : Meaning) → IsLawful m → (f : Behaviour) (replies : List PlainReply) (part : ℕ) → HasTouched m f replies part → part < length m.widths
touched_below m law f replies part h =
    let k = (touched_of m law f replies part h).owned.in_range in let e = law.homes in omega (arith, k, e)

-- what is told of it has a call that may touch the part, and so it is one of the type
pub told_names : (m : Meaning) → IsLawful m → (w : View) (f : Behaviour) (replies : List PlainReply) (v : Verdict) → IsTold m w f replies v → NamesPart m v
told_names m law w f replies (Wrote ticket) told = tt
told_names m law w f replies (Read at) told = tt
told_names m law w f replies (Cancelled at) told = tt
told_names m law w f replies (Locked at part) told = touched_below m law f replies part told.touched
told_names m law w f replies (Changed at part ticket) told = touched_below m law f replies part told.aborted.touched
