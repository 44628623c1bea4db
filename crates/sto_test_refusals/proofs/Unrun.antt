-- What a worker and a store do not answer.
use Rattle.std.proofs.Common.{◌≡◌, ℕ, zero, suc, pos, List, [], ◌∷◌, ◌++◌, map, length, true, false, true≢false, Ok, Err, refl, sym, ap, ◌∙◌, subst, arith, inl, inr}
use Rattle.sto_model.specs.PlainReplies.{PlainReply}
use Rattle.sto_model.specs.Run.{IsRun}
use Rattle.sto_type.specs.Meaning.{Meaning, IsPartOfObject}
use Rattle.sto_type.specs.Traits.{OfType}
use Rattle.sto_core.specs.declared.view.View.{View}
use Rattle.sto_core.proofs.Lists.{each_one}
use Rattle.sto_history.specs.Records.{Verdict, Wrote, Read, Cancelled as CancelledAt, Locked, Changed, is_abort}
use Rattle.sto_history.specs.Told.{IsTold, IsFound}
use Rattle.sto_action.specs.Shortened.{short_of}
use Rattle.sto_action.specs.declared.short_reply.ShortReply.{ShortReply}
use Rattle.sto_action.specs.declared.short_reply.ShortReply.TheVariants as H
use Rattle.sto_action.specs.Progs.{Prog, Asks, Gives, Cancels, IsGiven, IsCancelled}
use Rattle.sto_action.specs.Atomic.{steps_of, HasLed}
use Rattle.sto_action.specs.Causes.{IsCauseOf}
use Rattle.sto_action.specs.declared.cause.AbortCause.{AbortCause}
use Rattle.sto_action.specs.declared.cause.AbortCause.TheVariants as causes
use Rattle.sto_action.specs.declared.outcome.Done.{Done}
use Rattle.sto_action.specs.declared.outcome.Done.TheVariants.{Gave, Cancelled}
use Rattle.sto_action.specs.declared.outcome.TransactionError.TheVariants.{Busy}
use Rattle.sto_library.specs.Values.{Stored, Working}
use Rattle.sto_library.specs.Looks.{HasLooked}
use Rattle.sto_library.specs.declared.store.LookError.TheVariants as look_error
use Rattle.sto_test_premises.specs.Adding.{box}
use Rattle.sto_test_premises.proofs.Adding.{box_opened}
use Rattle.sto_test_refusals.specs.Found.{HasFoundElsewhere, HasFoundFree, HasFoundLocked, object_of}
use Rattle.sto_test_refusals.specs.Runs.{HasRun, AlwaysGives, get_then, gets, gives_up, shapes, unused, has_read, opening_rows}
use Rattle.sto_test_refusals.proofs.Lists.{none_behind, last_same}

-- Code that always gives does not cancel

pub gives_no_cancel : {E A : Type 0} (p : Prog E A) (hs : List ShortReply) (reason : E) → AlwaysGives p → IsCancelled p hs reason → ⊥
gives_no_cancel (Asks call k) [] reason gives cancelled = cancelled
gives_no_cancel (Asks call k) (h ∷ hs) reason gives cancelled = gives_no_cancel (k h) hs reason (gives h) cancelled
gives_no_cancel (Gives value) hs reason gives cancelled = cancelled
gives_no_cancel (Cancels e) hs reason gives cancelled = gives

-- A get of a box that holds 0 does not give 1, and is no reason 1 to give up

-- what it is answered is 0
run_hears : {E A : Type 0} (k : ShortReply → Prog E A) (most : ℕ) (r : PlainReply) (rs : List PlainReply) → IsRun box.machines (steps_of shapes most (get_then k)) opening_rows (r ∷ rs) → H.Value (pos 1) ≡ short_of r → ⊥
run_hears k zero r rs run given = run.0
run_hears k (suc most) r rs run given =
    let one : H.Value (pos 1) ≡ H.Value (pos 0) = given ∙ ap short_of (sym run.0) in absurd cc

heard_by : {E A : Type 0} (k : ShortReply → Prog E A) (most : ℕ) (verdict : Verdict) (r : PlainReply) (rs : List PlainReply) → is_abort verdict ≡ false → IsTold box has_read (steps_of shapes most (get_then k)) (r ∷ rs) verdict
    → H.Value (pos 1) ≡ short_of r → ⊥
heard_by k most (Wrote ticket) r rs ended told given = absurd cc
heard_by k most (Read n) r rs ended told given = run_hears k most r rs (told.runs box.opened box_opened (each_one _ _ (λ same. refl))).run given
heard_by k most (CancelledAt n) r rs ended told given = run_hears k most r rs (told.runs box.opened box_opened (each_one _ _ (λ same. refl))) given
heard_by k most (Locked n part) r rs ended told given = absurd cc
heard_by k most (Changed n part ticket) r rs ended told given = absurd cc

given_by : (E : Type 0) (most : ℕ) (verdict : Verdict) (replies : List PlainReply) → is_abort verdict ≡ false → IsTold box has_read (steps_of shapes most (gets {E = E})) replies verdict
    → IsGiven (gets {E = E}) (map short_of replies) (H.Value (pos 1)) → ⊥
given_by E most verdict [] ended told given = given
given_by E most verdict (r ∷ rs) ended told given = heard_by {E = E} (λ h. Gives h) most verdict r rs ended told given

pub get_not_1 : (E : Type 0) (tries left most : ℕ) → HasLed box unused has_read tries left shapes most (gets {E = E}) (Ok (Gave (H.Value (pos 1)))) → ⊥
get_not_1 E tries left most led = given_by E most led.verdict led.replies led.ended led.told led.said

reason_by : (A : Type 0) (most : ℕ) (verdict : Verdict) (replies : List PlainReply) → is_abort verdict ≡ false → IsTold box has_read (steps_of shapes most (gives_up {A = A})) replies verdict
    → IsCancelled (gives_up {A = A}) (map short_of replies) (H.Value (pos 1)) → ⊥
reason_by A most verdict [] ended told given = given
reason_by A most verdict (r ∷ rs) ended told given = heard_by {A = A} (λ h. Cancels h) most verdict r rs ended told given

pub reason_not_1 : (A : Type 0) (tries left most : ℕ) → HasLed box unused has_read tries left shapes most (gives_up {A = A}) (Ok (Cancelled (H.Value (pos 1)))) → ⊥
reason_not_1 A tries left most led = reason_by A most led.verdict led.replies led.ended led.told led.said

-- A cause is one that the last attempt found

pub found_elsewhere : (m : Meaning) (w : View) (last : Verdict) (cause : AbortCause) → IsCauseOf m last cause → IsFound w w.starts last → HasFoundElsewhere m w (object_of cause) → ⊥
found_elsewhere m w (Wrote ticket) cause is found none = is
found_elsewhere m w (Read at) cause is found none = is
found_elsewhere m w (CancelledAt at) cause is found none = is
found_elsewhere m w (Locked at part) (causes.Locked object) is found none =
    none found.finding found.there found.begun (subst (IsPartOfObject m.homes object) (sym found.on) is)
found_elsewhere m w (Locked at part) (causes.Changed object) is found none = is
found_elsewhere m w (Changed at part ticket) (causes.Locked object) is found none = is
found_elsewhere m w (Changed at part ticket) (causes.Changed object) is found none =
    none found.finding found.there found.begun (subst (IsPartOfObject m.homes object) (sym found.on) is)

pub free_not_locked : (m : Meaning) (w : View) (last : Verdict) (object : ℕ) → IsCauseOf m last (causes.Locked object) → IsFound w w.starts last → HasFoundFree w → ⊥
free_not_locked m w (Wrote ticket) object is found free = is
free_not_locked m w (Read at) object is found free = is
free_not_locked m w (CancelledAt at) object is found free = is
free_not_locked m w (Locked at part) object is found free = absurd (true≢false (sym (free found.finding found.there found.begun) ∙ found.is.0))
free_not_locked m w (Changed at part ticket) object is found free = is

pub locked_not_changed : (m : Meaning) (w : View) (last : Verdict) (object : ℕ) → IsCauseOf m last (causes.Changed object) → IsFound w w.starts last → HasFoundLocked w → ⊥
locked_not_changed m w (Wrote ticket) object is found locked = is
locked_not_changed m w (Read at) object is found locked = is
locked_not_changed m w (CancelledAt at) object is found locked = is
locked_not_changed m w (Locked at part) object is found locked = is
locked_not_changed m w (Changed at part ticket) object is found locked =
    let other = locked found.finding found.there found.begun in
    elim found.is.1 [
      | inl free ↦ absurd (true≢false (sym free ∙ other.0))
      | inr held ↦ absurd (true≢false (sym held ∙ other.1))
    ]

-- Code that came to an end was begun

pub ended_begun : {T E A : Type 0} (t : OfType T) (before after : Working T) (most : ℕ) (p : Prog E A) (done : Done A E) → HasRun t before after most p (Ok done)
    → after.seat.me.0.view.starts ≡ before.seat.me.0.view.starts → ⊥
ended_begun t before after most p (Gave value) led same = let some = led.starts in omega (arith, some, same)
ended_begun t before after most p (Cancelled reason) led same = let some = led.starts in omega (arith, some, same)

-- A look of which nothing was begun is not refused as busy

pub look_not_busy : {T E A : Type 0} (t : OfType T) (old new : Stored T) (most told : ℕ) (p : Prog E A) (last : AbortCause) → HasLooked t old new most p (Err (look_error.Transaction (Busy told last)))
    → new.views ≡ old.views → ⊥
look_not_busy t old new most told p last looked same =
    let one : looked.from ≡ looked.to = last_same looked.others looked.from looked.to (sym looked.were ∙ sym same ∙ looked.are) in
    let from = looked.done.from in let to = looked.done.to in
    let many = looked.done.gave.1.1.aborted.starts in
    let alike = ap (λ (v : View). v.starts) (looked.done.to ∙ sym one ∙ sym looked.done.from) in
    omega (arith, many, alike)

pub look_not_done : (views others : List View) (v : View) → views ≡ others ++ v ∷ [] → views ≡ [] → ⊥
look_not_done views others v were none =
    let rest : [] ≡ v ∷ [] = none_behind others (v ∷ []) (sym none ∙ were) in let n : 0 ≡ 1 = ap length rest in omega (arith, n)
