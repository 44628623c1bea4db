-- What a walk over the keys of a tree leads to: it asks for the next key and for the value there, in turn.
use Rattle.std.specs.Prelude.{◌≡◌, ◌≤◌, ◌⊎◌, ◌++◌, ◌+ℤ◌, ℕ, ℤ, pos, nat_eq, if◌then◌else◌, List, [], ◌∷◌, length, drop, Result, Ok, Err, Option, Some, None, OnOk}
use Rattle.std.specs.Ordering.{int_eq}
use Rattle.sto_model.specs.Objects.{greatest}
use Rattle.sto_model.specs.Operations.{code_of}
use Rattle.sto_model.specs.declared.call.Call.{Call}
use Rattle.sto_model.specs.declared.operation.Operation.{Operation}
use Rattle.sto_model.specs.declared.operation.Operation.TheVariants.{Get, Next}
use Rattle.sto_c.specs.declared.crossing.CallIn.{CallIn}
use Rattle.sto_c.specs.declared.crossing.PairOut.{PairOut}
use Rattle.sto_c.specs.declared.crossing.ReplyOut.{ReplyOut}
use Rattle.sto_c.specs.declared.content.WorkerHandle.{WorkerHandle}
use Rattle.sto_c.specs.declared.status.Status.{Status}
use Rattle.sto_c.specs.Calls.{IsLawfulCall}
use Rattle.sto_c.specs.Steps.{HasAnswered, HasAsked}

-- the call of an operation of a tree at a key
abbrev pub call_at : ℕ → Operation → ℤ → CallIn
call_at object operation key = record { object = object; operation = code_of operation; numbers = 1; unused = 0; a = key; b = pos 0 }

-- the value of a reply that has one
abbrev pub value_in : ReplyOut → Option ℤ
value_in reply = if nat_eq reply.answer 1 then Some reply.value else None

-- the key behind this one, if it is one of 64 bits
abbrev pub key_after : ℤ → Option ℤ
key_after key = if int_eq key greatest then None else Some (key +ℤ pos 1)

module _ (object : ℕ) where
  -- the least key from this one on was asked for, and then the value there
  pub record HasFound (from : ℤ) (pair : PairOut) (h k : WorkerHandle) : Type 0 where
    pub at : WorkerHandle
    pub key : ReplyOut
    pub value : ReplyOut
    pub asked_key : HasAsked (call_at object Next from) key h (Ok tt) at
    pub asked_value : HasAsked (call_at object Get pair.key) value at (Ok tt) k
    pub is_key : value_in key ≡ Some pair.key
    pub is_value : pair.value ≡ value.value

  -- there is no key from this one on: it is behind the last one of 64 bits, or the tree answered so
  abbrev pub HasNone : Option ℤ → WorkerHandle → WorkerHandle → Type 0
  HasNone None h k = k ≡ h
  HasNone (Some from) h k = (reply : ReplyOut) × HasAsked (call_at object Next from) reply h (Ok tt) k × (value_in reply ≡ None)

  -- one of the two calls was not answered, for this reason
  abbrev pub HasNotFound : ℤ → WorkerHandle → Status → WorkerHandle → Type 0
  HasNotFound from h why k = HasAnswered (call_at object Next from) h (Err why) k
      ⊎ ((reply : ReplyOut) × (key : ℤ) × (at : WorkerHandle) × HasAsked (call_at object Next from) reply h (Ok tt) at
      × (value_in reply ≡ Some key) × HasAnswered (call_at object Get key) at (Err why) k)

  -- these are the pairs from one key on to another, one behind the other
  abbrev pub HaveFound : Option ℤ → List PairOut → Option ℤ → WorkerHandle → WorkerHandle → Type 0
  HaveFound from [] to h k = (k ≡ h) × (to ≡ from)
  HaveFound None (pair ∷ pairs) to h k = ⊥
  HaveFound (Some from) (pair ∷ pairs) to h k = (next : WorkerHandle) × HasFound from pair h next × HaveFound (key_after pair.key) pairs to next k

  -- how a walk ends that has found these pairs, where there is room for so many: it has found as many, or all; or it failed, for this reason
  abbrev pub HasStopped : List PairOut → Option ℤ → (room count : ℕ) → WorkerHandle → Result (Unit {0}) Status → WorkerHandle → Type 0
  HasStopped pairs to room count at (Ok done) k = (count ≡ length pairs) × (((length pairs ≡ room) × (k ≡ at)) ⊎ HasNone to at k)
  HasStopped pairs None room count at (Err why) k = ⊥
  HasStopped pairs (Some from) room count at (Err why) k = HasNotFound from at why k

  -- the pairs from a key on were written to the front of what there was before
  pub record HasWalkedOn (from : ℤ) (old new : List PairOut) (count : ℕ) (h : WorkerHandle) (done : Result (Unit {0}) Status) (k : WorkerHandle) : Type 0 where
    pub pairs : List PairOut
    pub to : Option ℤ
    pub at : WorkerHandle
    pub found : HaveFound (Some from) pairs to h at
    pub fits : length pairs ≤ length old
    pub written : new ≡ pairs ++ drop (length pairs) old
    pub stopped : HasStopped pairs to (length old) count at done k

  -- nothing is wrong with a call for the next key
  abbrev pub MayAskNext : ℤ → WorkerHandle → Type 0
  MayAskNext from h = (call : Call) × IsLawfulCall (call_at object Next from) h call

  -- a worker may walk where it may ask for the next key, also where there is no room for a pair
  pub record HasWalked (from : ℤ) (old new : List PairOut) (count : ℕ) (h : WorkerHandle) (done : Result (Unit {0}) Status) (k : WorkerHandle) : Type 0 where
    pub may_ask : OnOk done (MayAskNext from h)
    pub walked : HasWalkedOn from old new count h done k
