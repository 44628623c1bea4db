-- What a whole transaction leads to, which is run in one call.
use Rattle.std.specs.Prelude.{◌≡◌, Bool, true, false, ◌<◌, ◌≤◌, ◌⊎◌, ◌++◌, ℕ, zero, suc, List, [], ◌∷◌, length, Result, Ok, Err}
use Rattle.sto_c.specs.declared.crossing.CallIn.{CallIn}
use Rattle.sto_c.specs.declared.crossing.ReplyOut.{ReplyOut}
use Rattle.sto_c.specs.declared.content.WorkerHandle.{WorkerHandle}
use Rattle.sto_c.specs.declared.status.Status.{Status}
use Rattle.sto_c.specs.declared.status.Status.TheVariants as status
use Rattle.sto_c.specs.Steps.{IsOfSameStore, HasBegun, HasAnswered, HasAsked, HasCommitted, HasCancelled}

-- the calls were asked one after the other, and the first replies are those that were told
abbrev pub HaveAsked : List CallIn → List ReplyOut → WorkerHandle → WorkerHandle → Type 0
HaveAsked [] replies h k = k ≡ h
HaveAsked (call ∷ calls) [] h k = ⊥
HaveAsked (call ∷ calls) (reply ∷ replies) h k = (next : WorkerHandle) × HasAsked call reply h (Ok tt) next × HaveAsked calls replies next k

-- the worker h began a transaction, was asked all these calls, and has it committed at this place
pub record HasDoneWhole (calls : List CallIn) (replies : List ReplyOut) (place : ℕ) (h k : WorkerHandle) : Type 0 where
  pub begun : WorkerHandle
  pub asked : WorkerHandle
  pub begins : HasBegun h (Ok tt) begun
  pub asks : HaveAsked calls replies begun asked
  pub commits : HasCommitted place asked (Ok tt) k

-- one of the calls was not answered, for this reason; those before it were
pub record HasNotAnswered (calls : List CallIn) (h : WorkerHandle) (why : Status) (k : WorkerHandle) : Type 0 where
  pub before : List CallIn
  pub given : CallIn
  pub after : List CallIn
  pub replies : List ReplyOut
  pub at : WorkerHandle
  pub all : calls ≡ before ++ given ∷ after
  pub asked : HaveAsked before replies h at
  pub unanswered : HasAnswered given at (Err why) k

-- a transaction was begun, one of its calls was not answered, for this reason, and it was given up, where it had not ended by that
pub record HasGivenUp (calls : List CallIn) (h : WorkerHandle) (why : Status) (k : WorkerHandle) : Type 0 where
  pub begun : WorkerHandle
  pub failed : WorkerHandle
  pub ended : Result (Unit {0}) Status
  pub begins : HasBegun h (Ok tt) begun
  pub fails : HasNotAnswered calls begun why failed
  pub ends : HasCancelled failed ended k

-- a transaction was begun and asked all these calls, and was not committed, for this reason
pub record HasNotCommitted (calls : List CallIn) (h : WorkerHandle) (why : Status) (k : WorkerHandle) : Type 0 where
  pub replies : List ReplyOut
  pub place : ℕ
  pub begun : WorkerHandle
  pub asked : WorkerHandle
  pub begins : HasBegun h (Ok tt) begun
  pub asks : HaveAsked calls replies begun asked
  pub fails : HasCommitted place asked (Err why) k

-- why the transaction failed: it was not begun, one of its calls was not answered, or it was not committed
abbrev pub HasFailedWhole : List CallIn → WorkerHandle → Status → WorkerHandle → Type 0
HasFailedWhole calls h why k = HasBegun h (Err why) k ⊎ (HasGivenUp calls h why k ⊎ HasNotCommitted calls h why k)

-- the transaction was tried once
abbrev pub HasTriedWhole : List CallIn → List ReplyOut → ℕ → WorkerHandle → Result (Unit {0}) Status → WorkerHandle → Type 0
HasTriedWhole calls replies place h (Ok done) k = HasDoneWhole calls replies place h k
HasTriedWhole calls replies place h (Err why) k = HasFailedWhole calls h why k

-- so many tries were aborted, one after the other
abbrev pub HaveAborted : ℕ → List CallIn → WorkerHandle → WorkerHandle → Type 0
HaveAborted zero calls h k = k ≡ h
HaveAborted (suc count) calls h k = (at : WorkerHandle) × HaveAborted count calls h at × HasFailedWhole calls at status.Aborted k

-- it says that a try was aborted
abbrev pub is_aborted : Result (Unit {0}) Status → Bool
is_aborted (Err status.Aborted) = true
is_aborted _ = false

-- after fewer than eight tries that were aborted one was not
pub record HasEndedWhole (calls : List CallIn) (replies : List ReplyOut) (place : ℕ) (h : WorkerHandle) (done : Result (Unit {0}) Status) (k : WorkerHandle) : Type 0 where
  pub aborted : ℕ
  pub few : aborted < 8
  pub at : WorkerHandle
  pub before : HaveAborted aborted calls h at
  pub last : HasTriedWhole calls replies place at done k
  pub unaborted : is_aborted done ≡ false

-- of the same store; there is less room for replies than there are calls, and nothing was done; or a try has ended, or eight were aborted
abbrev pub HasRunWhole : List CallIn → ℕ → List ReplyOut → ℕ → WorkerHandle → Result (Unit {0}) Status → WorkerHandle → Type 0
HasRunWhole calls room replies place h done k =
    IsOfSameStore h k × (((room < length calls) × (done ≡ Err status.NoRoom) × (k ≡ h))
    ⊎ ((length calls ≤ room) × (HasEndedWhole calls replies place h done k ⊎ ((done ≡ Err status.Busy) × HaveAborted 8 calls h k))))
