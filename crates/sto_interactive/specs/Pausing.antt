-- A transaction whose calls come one by one, and that rests between two of them without the borrow of its type.
use Rattle.std.specs.Prelude.{◌≡◌, List}
use denote.Bor.{Bor}
use Rattle.sto_model.specs.declared.call.Call.{Call}
use Rattle.sto_model.specs.PlainReplies.{PlainReply}
use Rattle.sto_type.specs.Traits.{OfType}
use Rattle.sto_core.specs.declared.view.View.{View}
use Rattle.sto_attempt.specs.Pausing.{with_type as attempt_with_type}
use Rattle.sto_interactive.specs.declared.live.Live.{Live}
use Rattle.sto_interactive.specs.declared.pause.RestingTransaction.{RestingTransaction}
use Rattle.sto_interactive.specs.Lives.{IsLive}

-- the transaction that it is on a type
abbrev pub with_type : {T : Type 0} → Bor T → RestingTransaction → Live T
with_type y p = record { ty = y; attempt = attempt_with_type y p.attempt }

-- t is what the trait of the type says
module _ {T : Type 0} (t : OfType T) where
  -- on its type it is live as before: these calls were asked, and answered so
  abbrev pub IsPaused : T → List Call → List PlainReply → RestingTransaction → (begun v : View) → Type 0
  IsPaused ty calls rs p begun v = (y : Bor T) → y.now ≡ ty → IsLive t ty calls rs (with_type y p) begun v
