-- Why an attempt is aborted by a part that has changed. A part that is seen is found changed by its version alone.
use Rattle.std.specs.Prelude.{◌≡◌, ◌≢◌, ◌<◌, ◌⊎◌, ℕ, ℤ, true, Bool, List}
use Rattle.std.specs.List.{Contains}
use Rattle.sto_part.specs.declared.pred.Pred.{Pred}
use Rattle.sto_item.specs.declared.item.Item.{Item}
use Rattle.sto_item.specs.declared.item.Item.TheVariants.{Seen, Holds}
use Rattle.sto_core.specs.declared.view.Claim.{Claim}
use Rattle.sto_core.specs.declared.view.Held.{Held}
use Rattle.sto_core.specs.declared.view.View.{View}
use Rattle.sto_core.specs.Lists.{Among}
use Rattle.sto_core.specs.Reads.{words_read}
use Rattle.sto_core.specs.Views.{width_in}
use Rattle.sto_core.specs.Event.{Event, Open, Close, Recheck}
use Rattle.sto_attempt_log.specs.ReadSet.{IsTrueIn}
use Rattle.sto_attempt_log.specs.Answers.{HasFound}
use Rattle.sto_attempt_log.specs.declared.extension.Extension.{Extension}
use Rattle.sto_attempt_log.specs.declared.verdict.Turn.{Turn}
use Rattle.sto_attempt_log.specs.declared.verdict.Turn.TheVariants.{Ended}
use Rattle.sto_attempt_log.specs.declared.verdict.Verdict.TheVariants.{Changed}

-- the ticket was found by the close of a read, or by an open above the value of a renew that was made during the running call of the body
pub record IsByReading (event : Event) (part ticket : ℕ) (renewed : Bool) (bound : ℕ) : Type 0 where
  pub by : (event ≡ Close part) ⊎ ((event ≡ Open part) × (renewed ≡ true) × (bound < ticket))

-- these words were read of the part under the ticket, by the running attempt: a read or a test claims them, or they were read under the hold
pub record WasReadUnder (v : View) (part ticket : ℕ) (words : List ℤ) : Type 0 where
  pub claim : Claim
  pub among : Among claim v.claims
  pub start : claim.start ≡ v.starts
  pub on : claim.part ≡ part
  pub with_ticket : claim.ticket ≡ ticket
  pub with_words : claim.words ≡ words

pub record IsReadHeld (v : View) (part ticket : ℕ) (words : List ℤ) : Type 0 where
  pub hold : Held
  pub among : Among hold v.held
  pub on : hold.part ≡ part
  pub with_ticket : hold.ticket ≡ ticket
  pub with_words : words_read hold.reads (width_in v part) ≡ words

-- the part is not seen, and a predicate of the items on it is false of the words read under the ticket
pub record IsByPredicate (items : List Item) (v : View) (part ticket : ℕ) : Type 0 where
  pub unseen : Contains items (Seen part) → ⊥
  pub pred : Pred
  pub among : Contains items (Holds pred)
  pub on : pred.part ≡ part
  pub words : List ℤ
  pub were_read : WasReadUnder v part ticket words ⊎ IsReadHeld v part ticket words
  pub fails : IsTrueIn words pred → ⊥

-- the part is not seen, and its test had found another ticket
pub record IsByTest (items : List Item) (v : View) (part ticket : ℕ) : Type 0 where
  pub unseen : Contains items (Seen part) → ⊥
  pub before : ℕ
  pub found : HasFound v part before
  pub other : before ≢ ticket

-- the part is seen, and the ticket was found by its recheck
pub record IsByRecheck (event : Event) (items : List Item) (part : ℕ) : Type 0 where
  pub seen : Contains items (Seen part)
  pub by : event ≡ Recheck part

-- why a read or an extension ends: one of three reasons; v is the view at the step that found the ticket
abbrev pub IsReason : Event → List Item → View → ℕ → ℕ → Bool → ℕ → Type 0
IsReason event items v part ticket renewed bound =
    IsByReading event part ticket renewed bound ⊎ (IsByRecheck event items part ⊎ IsByPredicate items v part ticket)

-- a turn that ends with a change has one of them; the extension is that before the step
abbrev pub IsCaused : Event → List Item → View → Extension → Turn → Type 0
IsCaused event items v extension (Ended (Changed n p t)) = IsReason event items v p t extension.extended extension.bound
IsCaused event items v extension _ = Unit {0}
