-- What is read of lines.
use Rattle.std.specs.Prelude.{◌≡◌, ℕ, ◌<◌, ◌≤◌, ◌^◌, List, [], ◌∷◌, length, Bool, false, Option, None, Some}
use Rattle.sto_report_spec.specs.Orders.{TransactionPlace as Place}
use Rattle.sto_report_spec.specs.Aborts.{Cause, Locked, Changed, Abort}
use Rattle.sto_report_spec.specs.Named.{is_digit}
use Rattle.sto_report_spec.specs.NamedAborts.{Heard}
use Rattle.sto_checker.specs.declared.transaction.TransactionPlace.{TransactionPlace}
use Rattle.sto_checker.specs.declared.told.ToldCause.{ToldCause}
use Rattle.sto_checker.specs.declared.told.ToldAbort.{ToldAbort}

abbrev pub place_of : TransactionPlace → Place
place_of t = (t.thread, t.position)

-- the transaction is the one that is named; none is read where none is named, or one whose position is no number of 32 bits
abbrev pub IsReadAs : List Place → Option TransactionPlace → Type 0
IsReadAs places (Some t) = places ≡ place_of t ∷ []
IsReadAs places None = (place : Place) → places ≡ place ∷ [] → 2 ^ 32 ≤ place.1

abbrev pub begins_with_digit : List ℕ → Bool
begins_with_digit [] = false
begins_with_digit (b ∷ bytes) = is_digit b

-- the numbers of a cause are of 32 bits
abbrev pub IsSmallCause : Cause → Type 0
IsSmallCause (Locked part) = part.part < 2 ^ 32
IsSmallCause (Changed part by) = (part.part < 2 ^ 32) × (by < 2 ^ 32)

-- so are those of an aborted attempt
pub record IsSmall (abort : Abort) : Type 0 where
  pub position : abort.place.1 < 2 ^ 32
  pub seen : abort.seen < 2 ^ 32
  pub cause : IsSmallCause abort.cause

-- what was read is the cause
abbrev pub IsCauseRead : Cause → ToldCause → Type 0
IsCauseRead (Locked part) told = (told.object.now ≡ part.object) × (told.part ≡ part.part) × (told.by ≡ None)
IsCauseRead (Changed part by) told = (told.object.now ≡ part.object) × (told.part ≡ part.part) × (told.by ≡ Some by)

-- what was read is a cause, with no reply before it
abbrev pub IsOnlyCause : Heard → Option ToldCause → Type 0
IsOnlyCause heard None = ⊥
IsOnlyCause heard (Some told) = (length heard.replies ≡ 0) × IsCauseRead heard.cause told

-- what was read is a cause, with so many replies before it
abbrev pub IsHeardRead : Heard → Option (ℕ × ToldCause) → Type 0
IsHeardRead heard None = ⊥
IsHeardRead heard (Some told) = (length heard.replies ≡ told.0) × IsCauseRead heard.cause told.1

-- how many writers an attempt knew of at its end, by the one that changed the part, where one did, and by those that it saw
abbrev pub known_of : Option ℕ → ℕ → ℕ
known_of (Some by) seen = by
known_of None seen = seen

-- what was read tells of the aborted attempt all but what its replies are
pub record IsTold (abort : Abort) (told : ToldAbort) : Type 0 where
  pub place : abort.place ≡ place_of told.place
  pub seen : abort.seen ≡ told.seen
  pub heard : length abort.replies ≡ told.heard
  pub cause : IsCauseRead abort.cause told.cause

abbrev pub IsAbortRead : Abort → Option ToldAbort → Type 0
IsAbortRead abort None = ⊥
IsAbortRead abort (Some told) = IsTold abort told

-- the words are five, of which two are not looked at, and others
pub record HasHead (words : List (List ℕ)) (first place seen : List ℕ) (others : List (List ℕ)) : Type 0 where
  pub at : List ℕ
  pub saw : List ℕ
  pub are : words ≡ first ∷ place ∷ at ∷ seen ∷ saw ∷ others
