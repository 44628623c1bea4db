-- What a transaction led to, by its attempts.
use Rattle.std.proofs.Common.{◌≤◌, ◌^◌, ℕ, List, Result, Ok, Err, sym, subst}
use Rattle.sto_model.specs.declared.shape.Shape.{Shape}
use Rattle.sto_type.specs.Meaning.{Meaning}
use Rattle.sto_core.specs.declared.view.View.{View}
use Rattle.sto_history.specs.Added.{Grows}
use Rattle.sto_action.specs.Progs.{Prog}
use Rattle.sto_action.specs.declared.outcome.Attempted.TheVariants.{Said}
use Rattle.sto_action.specs.declared.outcome.Done.{Done}
use Rattle.sto_action.specs.declared.outcome.TransactionError.{TransactionError}
use Rattle.sto_action.specs.Atomic.{HaveAborted, HasLed, IsUndisturbed}
use Rattle.sto_action.proofs.Led.{atomic_since}
use Rattle.sto_once.specs.declared.code.Halt.{Halt}
use Rattle.sto_once.specs.declared.code.Halt.TheVariants as halts
use Rattle.sto_once.specs.Attempts.{Says}
use Rattle.sto_once.specs.Telling.{IsEnd, IsToldOnce}

-- what an attempt says that was not aborted is an end of the code's own
pub said_end : {E A : Type 0} (m : Meaning) (v w : View) (shapes : List Shape) (p : Prog E A) (r : Result A (Halt E)) → Says m v w shapes p (Ok (Said r)) → IsEnd r
said_end m v w shapes p (Ok a) h = tt
said_end m v w shapes p (Err (halts.Cancels e)) h = tt
said_end m v w shapes p (Err (halts.Untaken call)) h = tt
said_end m v w shapes p (Err halts.Over) h = h

module _ {E A : Type 0} (m : Meaning) (shapes : List Shape) (p : Prog E A) (told : Result (Done A E) TransactionError) where
  -- the attempts before it saw more and took no effect
  pub led_by : (u v w : View) (many tries left : ℕ) (r : Result A (Halt E)) → Grows u v → HaveAborted u v many → Says m v w shapes p (Ok (Said r)) → IsToldOnce r told
      → (most : ℕ) → 2 ^ 32 ≤ most → HasLed m u w tries left shapes most p told
  led_by u v w many tries left (Ok a) g made h is most large =
      subst (λ (o : Result (Done A E) TransactionError). HasLed m u w tries left shapes most p o) (sym is) (atomic_since m u v w many shapes most p _ g made (h most large))
  led_by u v w many tries left (Err (halts.Cancels e)) g made h is most large =
      subst (λ (o : Result (Done A E) TransactionError). HasLed m u w tries left shapes most p o) (sym is) (atomic_since m u v w many shapes most p _ g made (h most large))
  led_by u v w many tries left (Err (halts.Untaken call)) g made h is most large =
      subst (λ (o : Result (Done A E) TransactionError). HasLed m u w tries left shapes most p o) (sym is) (atomic_since m u v w many shapes most p _ g made (h most large))
  led_by u v w many tries left (Err halts.Over) g made h is most large = absurd h

pub undisturbed_by : {E A : Type 0} (r : Result A (Halt E)) (told : Result (Done A E) TransactionError) → IsToldOnce r told → IsUndisturbed told
undisturbed_by (Ok a) told is = subst IsUndisturbed (sym is) tt
undisturbed_by (Err (halts.Cancels e)) told is = subst IsUndisturbed (sym is) tt
undisturbed_by (Err (halts.Untaken call)) told is = subst IsUndisturbed (sym is) tt
undisturbed_by (Err halts.Over) told is = absurd is
