-- What a worker did at its store: the transactions of one code or of a family, and what one of them led to.
use Rattle.std.specs.Prelude.{◌≡◌, ◌≤◌, ◌<◌, ℕ, List, length, map, Result, Ok, Err, OnOk}
use Rattle.std.specs.List.{All}
use Rattle.sto_type.specs.Traits.{OfType}
use Rattle.sto_core.specs.Lists.{Among}
use Rattle.sto_history.specs.Records.{IsSince}
use Rattle.sto_history.specs.History.{Transaction}
use Rattle.sto_history.specs.Done.{HasDone}
use Rattle.sto_action.specs.Shortened.{short_of}
use Rattle.sto_action.specs.declared.short_reply.ShortReply.{ShortReply}
use Rattle.sto_action.specs.Progs.{Prog, IsGiven, IsCancelled, IsAsked}
use Rattle.sto_action.specs.declared.outcome.Done.{Done}
use Rattle.sto_action.specs.declared.outcome.Done.TheVariants.{Gave, Cancelled}
use Rattle.sto_action.specs.declared.outcome.TransactionError.{TransactionError}
use Rattle.sto_action.specs.declared.outcome.TransactionError.TheVariants.{Busy, Refused, Worn, NoMemory}
use Rattle.sto_action.specs.Atomic.{steps_of, HasSeen, HaveAborted, IsBusy}
use Rattle.sto_library.specs.Values.{Working}

-- from one time to a later one the worker ran code of this family again and again, each time another one, and nothing else
pub record HasRunOnly {T I E A : Type 0} (t : OfType T) (before after : Working T) (most : ℕ) (p : I → Prog E A) : Type 0 where
  pub words : after.words ≡ before.words
  pub shapes : after.shapes ≡ before.shapes
  pub did : List Transaction
  pub done : HasDone (t.meaning before.words.ty) before.seat.me.0.view after.seat.me.0.view did
  pub each : All (λ x. (i : I) × (x.steps ≡ steps_of before.shapes most (p i))) did

-- it ran this code, some number of times, and nothing else
abbrev pub HasRepeated : {T E A : Type 0} → OfType T → (before after : Working T) → ℕ → Prog E A → Type 0
HasRepeated t before after most p = HasRunOnly t before after most (λ (once : Unit {0}). p)

-- one of the transactions, which stands after all that the worker had seen before, heard replies of which this is so
pub record HasHeard {T : Type 0} (before : Working T) (did : List Transaction) (says : List ShortReply → Type 0) : Type 0 where
  pub transaction : Transaction
  pub there : Among transaction did
  pub since : (n : ℕ) → HasSeen before.seat.me.0.view n → IsSince n transaction.verdict
  pub said : says (map short_of transaction.replies)

-- one of the transactions, which were of this code, led to this
abbrev pub IsLedBy : {T E A : Type 0} → Working T → List Transaction → Prog E A → Result (Done A E) TransactionError → Type 0
IsLedBy before did p (Ok (Gave value)) = HasHeard before did (λ hs. IsGiven p hs value)
IsLedBy before did p (Ok (Cancelled reason)) = HasHeard before did (λ hs. IsCancelled p hs reason)
IsLedBy before did p (Err (Refused call)) = HasHeard before did (λ hs. IsAsked p hs call)
IsLedBy before did p (Err (Busy told last)) = Unit {0}
IsLedBy before did p (Err Worn) = Unit {0}
IsLedBy before did p (Err NoMemory) = Unit {0}

-- the worker ran this code alone, at most so many times, and so many where none of them was in vain; and one of the runs led to this
pub record HasGiven {T E A : Type 0} (t : OfType T) (before after : Working T) (times most : ℕ) (p : Prog E A) (outcome : Result (Done A E) TransactionError) : Type 0 where
  pub repeated : HasRepeated t before after most p
  pub at_most : length repeated.did ≤ times
  pub each_time : OnOk outcome (times ≤ length repeated.did)
  pub led : IsLedBy before repeated.did p outcome

-- why it was not run to its end, where it had so many tries: each was made and aborted, the last one by the cause that is told; or fewer were
-- made, and no attempt is left to the worker
abbrev pub HasCause : {T E A : Type 0} → OfType T → (before after : Working T) → (tries : ℕ) → Result (Done A E) TransactionError → Type 0
HasCause t before after tries (Err (Busy told last)) = IsBusy (t.meaning before.words.ty) before.seat.me.0.view after.seat.me.0.view tries told last
HasCause t before after tries (Err Worn) = (after.left ≡ 0) × ((many : ℕ) × (many < tries) × HaveAborted before.seat.me.0.view after.seat.me.0.view many)
HasCause t before after tries (Err NoMemory) = Unit {0}
HasCause t before after tries (Err (Refused call)) = Unit {0}
HasCause t before after tries (Ok done) = Unit {0}
