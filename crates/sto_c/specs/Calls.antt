-- Which calls C may ask of a worker, and what is wrong with one that it may not.
use Rattle.std.specs.Prelude.{◌≡◌, ◌≢◌, ◌<◌, ◌≤◌, ℕ, nat_lt, Bool, true, false, Some, None}
use Rattle.std.specs.Arc.{arc_value}
use Rattle.sto_model.specs.declared.call.Call.{Call}
use Rattle.sto_model.specs.declared.operation.Operation.{Operation}
use Rattle.sto_model.specs.declared.operation.Operation.TheVariants.{Get, Set, Add, Test as TestWord, Take, Put, Remove, Has, Len, Next, Count, Scan, Push, Pop}
use Rattle.sto_shared_store.specs.Owned.{replies_of}
use Rattle.sto_c.specs.declared.content.WorkerHandle.{WorkerHandle}
use Rattle.sto_c.specs.declared.crossing.CallIn.{CallIn}
use Rattle.sto_c.specs.declared.status.Status.{Status}
use Rattle.sto_c.specs.declared.status.Status.TheVariants as status
use Rattle.sto_c.specs.Content.{objects}
use Rattle.sto_c.specs.Crossing.{call_in}

-- how many numbers an operation wants of a scalar, which has neither places nor keys (true), or of another object
abbrev pub wanted : Bool → Operation → ℕ
wanted true Get = 0
wanted false Get = 1
wanted true Set = 1
wanted false Set = 2
wanted true Add = 1
wanted false Add = 2
wanted s TestWord = 2
wanted s Take = 1
wanted s Put = 2
wanted s Remove = 1
wanted s Has = 1
wanted s Len = 0
wanted s Next = 1
wanted s Count = 2
wanted s Scan = 2
wanted s Push = 1
wanted s Pop = 0

-- the objects of the worker's store take the call
abbrev pub Takes : WorkerHandle → Call → Type 0
Takes h call = (objects.meaning (arc_value h.worker.store).ty).takes call

-- a call that C gives to the worker h
module _ (given : CallIn) (h : WorkerHandle) where
  -- the worker is in a transaction
  abbrev pub IsWithin : Type 0
  IsWithin = replies_of h.worker ≢ None

  -- and the object is there
  abbrev pub HasObject : Type 0
  HasObject = IsWithin × (given.object < h.objects.all)

  -- and its object takes it
  abbrev pub IsTakenCall : Call → Type 0
  IsTakenCall call = HasObject × (call_in given ≡ Some call) × Takes h call

  -- so many numbers are wanted
  abbrev pub wanted_by : Call → ℕ
  wanted_by call = wanted (nat_lt given.object h.objects.scalars) call.operation

  -- and it has as many numbers as its operation wants: so it may be asked
  abbrev pub IsLawfulCall : Call → Type 0
  IsLawfulCall call = IsTakenCall call × (given.numbers ≡ wanted_by call)

  -- what is wrong with it first, in this order
  abbrev pub IsFault : Status → Type 0
  IsFault status.NoTransaction = replies_of h.worker ≡ None
  IsFault status.NoObject = IsWithin × (h.objects.all ≤ given.object)
  IsFault status.NoCall = HasObject × ((call : Call) → call_in given ≡ Some call → Takes h call → ⊥)
  IsFault status.BadNumbers = (call : Call) × IsTakenCall call × (given.numbers ≢ wanted_by call)
  IsFault _ = ⊥
