-- What a transaction that was run atomically tells of its value.
use Rattle.std.specs.Prelude.{◌≡◌, ◌⊎◌, ◌≤◌, ◌<◌, ◌+◌, ℕ, List, [], ◌∷◌, ◌++◌, length, map, true, false, Result, Ok, Err}
use Rattle.sto_part.specs.declared.NoMemory.{NoMemory}
use Rattle.sto_model.specs.declared.shape.Shape.{Shape}
use Rattle.sto_model.specs.PlainReplies.{PlainReply}
use Rattle.sto_model.specs.Run.{Behaviour}
use Rattle.sto_type.specs.Meaning.{Meaning}
use Rattle.sto_core.specs.declared.view.View.{View}
use Rattle.sto_core.specs.declared.view.Entry.{Entry}
use Rattle.sto_core.specs.declared.view.Fate.TheVariants.{Committed}
use Rattle.sto_core.specs.Lists.{Among}
use Rattle.sto_history.specs.Records.{Verdict, IsSince, is_abort, wrote_with}
use Rattle.sto_history.specs.Counted.{times_committed}
use Rattle.sto_history.specs.Told.{IsTold, IsFound}
use Rattle.sto_history.specs.Added.{IsSeenTicket}
use Rattle.sto_action.specs.Shortened.{short_of}
use Rattle.sto_action.specs.declared.short_reply.ShortReply.{ShortReply}
use Rattle.sto_action.specs.declared.tx.Stop.{Stop}
use Rattle.sto_action.specs.declared.tx.Stop.TheVariants as stops
use Rattle.sto_action.specs.Progs.{Prog, next_within, Runs, IsGiven, IsCancelled, IsAsked}
use Rattle.sto_action.specs.Causes.{IsCauseOf}
use Rattle.sto_action.specs.declared.cause.AbortCause.{AbortCause}
use Rattle.sto_action.specs.declared.outcome.Attempted.{Attempted}
use Rattle.sto_action.specs.declared.outcome.Attempted.TheVariants.{Said, Aborted}
use Rattle.sto_action.specs.declared.outcome.Done.{Done}
use Rattle.sto_action.specs.declared.outcome.Done.TheVariants.{Gave, Cancelled}
use Rattle.sto_action.specs.declared.outcome.TransactionError.{TransactionError}
use Rattle.sto_action.specs.declared.outcome.TransactionError.TheVariants.{Busy, Refused, Worn, NoMemory as WantsMemory}

-- the number is that of a transaction that the pass committed
pub record IsCommittedTicket (v : View) (n : ℕ) : Type 0 where
  pub entry : Entry
  pub there : Among entry v.entries
  pub committed : entry.fate ≡ Committed
  pub ticket : entry.ticket ≡ n

-- the pass saw the number of the history: by its clock, by a transaction of its own, or by the writer of what it found
abbrev pub HasSeen : View → ℕ → Type 0
HasSeen v n = (n ≤ v.at) ⊎ IsCommittedTicket v n ⊎ IsSeenTicket v n

-- aborted attempts, the first one of this start: each has its finding
abbrev pub EachFound : View → ℕ → List Verdict → Type 0
EachFound w start [] = Unit {0}
EachFound w start (v ∷ vs) = (is_abort v ≡ true) × IsFound w start v × EachFound w (start + 1) vs

-- no transaction of the pass took effect in between
abbrev pub TakesNoEffect : View → View → Type 0
TakesNoEffect v w = (t : ℕ) → times_committed t w.entries ≡ times_committed t v.entries

-- so many attempts were made from v to w, one after the other, and each was aborted: it has its finding under the number of its start, of
-- a part that was locked, or that was free or its own, with the ticket that it had. None took effect
pub record HaveAborted (v w : View) (many : ℕ) : Type 0 where
  pub none : TakesNoEffect v w
  pub verdicts : List Verdict
  pub all : length verdicts ≡ many
  pub starts : w.starts ≡ v.starts + many
  pub found : EachFound w (v.starts + 1) verdicts

-- they were aborted, and the last one by this cause: its verdict names a part of that object, and it has its finding
pub record HaveAbortedBy (m : Meaning) (v w : View) (many : ℕ) (cause : AbortCause) : Type 0 where
  pub aborted : HaveAborted v w many
  pub before : List Verdict
  pub last : Verdict
  pub ends : aborted.verdicts ≡ before ++ last ∷ []
  pub is : IsCauseOf m last cause
  pub found : IsFound w w.starts last

-- of so many tries all were made and aborted, as many as are told, and the last one by the cause that is told
abbrev pub IsBusy : Meaning → (v w : View) → (tries told : ℕ) → AbortCause → Type 0
IsBusy m v w tries told cause = (told ≡ tries) × HaveAbortedBy m v w tries cause

-- what code does next after each list of replies, on objects of these shapes, where it may ask so many calls
abbrev pub steps_of : {E A : Type 0} → List Shape → ℕ → Prog E A → Behaviour
steps_of shapes most p = λ rs. next_within shapes most p (map short_of rs)

-- The code, run alone, hears these replies and then says this. It is run on all valid contents that have what the pass w looked at: for
-- a writer those right before its ticket, for a reader those as of its number (`IsTold`). It stands after all that the pass had seen, and
-- is all that the pass committed from v to w. An attempt was begun for it
pub record IsAtomic {E A : Type 0} (m : Meaning) (v w : View) (shapes : List Shape) (most : ℕ) (p : Prog E A) (says : List ShortReply → Type 0) : Type 0 where
  pub replies : List PlainReply
  pub verdict : Verdict
  pub ended : is_abort verdict ≡ false
  pub told : IsTold m w (steps_of shapes most p) replies verdict
  pub since : (n : ℕ) → HasSeen v n → IsSince n verdict
  pub entries : (t : ℕ) → times_committed t w.entries ≡ times_committed t v.entries + wrote_with t verdict
  pub starts : v.starts < w.starts
  pub said : says (map short_of replies)

-- what one attempt led to: the code said this at its end; or it was aborted by this cause, or memory was wanting
abbrev pub HasTried : {E A : Type 0} → Meaning → (v w : View) → List Shape → ℕ → Prog E A → Result (Attempted (Result A (Stop E))) NoMemory → Type 0
HasTried m v w shapes most p (Ok (Said said)) = IsAtomic m v w shapes most p (λ hs. Runs p hs said)
HasTried m v w shapes most p (Ok (Aborted cause)) = HaveAbortedBy m v w 1 cause
HasTried m v w shapes most p (Err error) = TakesNoEffect v w

-- by its verdict: it was not aborted, and the code said this; or it was aborted by this cause
abbrev pub IsTriedBy : {S : Type 0} → Meaning → Verdict → (S → Type 0) → Attempted S → Type 0
IsTriedBy m verdict says (Said said) = (is_abort verdict ≡ false) × says said
IsTriedBy m verdict says (Aborted cause) = IsCauseOf m verdict cause

-- it was not aborted
abbrev pub HasSaid : {S : Type 0} → Attempted S → Type 0
HasSaid (Said said) = Unit {0}
HasSaid (Aborted cause) = ⊥

-- what a transaction led to, which had so many tries and left so many tickets: all tries were made and aborted; or tries were made, fewer,
-- and no ticket is left
abbrev pub HasLed : {E A : Type 0} → Meaning → (v w : View) → (tries left : ℕ) → List Shape → ℕ → Prog E A → Result (Done A E) TransactionError → Type 0
HasLed m v w tries left shapes most p (Ok (Gave value)) = IsAtomic m v w shapes most p (λ hs. IsGiven p hs value)
HasLed m v w tries left shapes most p (Ok (Cancelled reason)) = IsAtomic m v w shapes most p (λ hs. IsCancelled p hs reason)
HasLed m v w tries left shapes most p (Err (Refused call)) = IsAtomic m v w shapes most p (λ hs. IsAsked p hs call)
HasLed m v w tries left shapes most p (Err (Busy told last)) = IsBusy m v w tries told last
HasLed m v w tries left shapes most p (Err Worn) = (left ≡ 0) × ((many : ℕ) × (many < tries) × HaveAborted v w many)
HasLed m v w tries left shapes most p (Err WantsMemory) = TakesNoEffect v w

-- others were not in its way
abbrev pub IsUndisturbed : {E A : Type 0} → Result (Done A E) TransactionError → Type 0
IsUndisturbed (Err (Busy tries last)) = ⊥
IsUndisturbed r = Unit {0}

-- what a transaction gave by what its code said at its end
abbrev pub told_by : {E A : Type 0} → Result A (Stop E) → Result (Done A E) TransactionError
told_by (Ok value) = Ok (Gave value)
told_by (Err (stops.Cancels e)) = Ok (Cancelled e)
told_by (Err (stops.Asks call)) = Err (Refused call)
