-- How the body of a log goes on. Where two logs are named, they are the one before and the one after.
use Rattle.std.specs.Prelude.{◌≡◌, ◌≤◌, ◌<◌, ◌+◌, ℤ, List, length, map, Result, OnOk, OnErr, IfOk}
use Rattle.sto_part.specs.declared.NoMemory.{NoMemory}
use Rattle.sto_item.specs.Recorded.{Recorded}
use Rattle.sto_model.specs.declared.call.Call.{Call}
use Rattle.sto_model.specs.PlainReplies.{PlainReply, plain_reply}
use Rattle.sto_model.specs.Run.{IsRun}
use Rattle.sto_model.specs.Bodies.{OfBody}
use Rattle.sto_type.specs.Known.{IsPartOf}
use Rattle.sto_type.specs.Traits.{OfType}
use Rattle.sto_attempt_log.specs.declared.log.Log.{Log}
use Rattle.sto_attempt_log.specs.declared.log.Reached.{Reached}
use Rattle.sto_attempt_log.specs.ReadSet.{words_in}
use Rattle.sto_attempt_log.specs.Log.{IsOnLog}
use Rattle.sto_attempt_log.specs.Tables.{run_to}
use Rattle.sto_attempt_log.specs.Growing.{HasHeard}
use Rattle.sto_attempt_log.specs.Doing.{Reader, RanTo, HasComeTo}
use Rattle.sto_attempt_log.specs.Reached.{IsReached, IsByCall}

-- the replies that the body has heard
abbrev pub replies_of : {T B : Type 0} → Log T B → List PlainReply
replies_of l = map plain_reply l.table.replies.items

-- t and b are what the traits of the type and of the body say
module _ {T B : Type 0} (t : OfType T) (b : OfBody B) where
  -- some valid contents have the parts that were read
  abbrev pub CanBe : Log T B → Type 0
  CanBe l = (d : List (List ℤ)) × (t.meaning l.ty.now).valid d × IsPartOf (words_in l.table.base.items) d

  -- what a log keeps is in order: on the type, the script and the parts read of the one before
  abbrev pub IsInOrder : Log T B → Log T B → Type 0
  IsInOrder old new = IsOnLog (t.meaning old.ty.now) (b.then new.body) (b.script old.body) (b.left new.body) (b.may_ask new.body) old.table.base.items new.table.set new.table.cache new.table.replies.items

  -- from these replies and this set the body has heard on, while the parts of the log before were read
  abbrev pub HasHeardSince : List PlainReply → Recorded → Log T B → Log T B → Type 0
  HasHeardSince rs set old l = HasHeard (t.meaning old.ty.now) (b.script old.body) (words_in old.table.base.items) rs set (replies_of l) l.table.set

  -- a reader stands where the log does
  abbrev pub StandsAt : Reader → Log T B → Type 0
  StandsAt r l = (r.base ≡ l.table.base.items) × (r.set ≡ l.table.set) × (r.heard ≡ replies_of l)

  -- the body was run on what is known, up to the next part that has to be read, or to its end
  pub record HasRunOn (old new : Log T B) (result : Result Reached NoMemory) : Type 0 where
    pub log : OnOk result (IsInOrder old new)
    pub reached : IfOk result (λ r. IsReached (t.meaning old.ty.now) (b.script old.body) old.table.base.items new.table.set.updates (replies_of new) r)
    pub grown : OnOk result (HasHeardSince (replies_of old) old.table.set old new)
    -- the replies are the first ones of the serial run on all valid contents that have the parts read, also after want of memory
    pub runs : (d : List (List ℤ)) → (t.meaning old.ty.now).valid d → IsPartOf (words_in old.table.base.items) d → IsRun (t.meaning old.ty.now).machines (b.script old.body) ((t.meaning old.ty.now).rows d) (replies_of new)
    -- it is the run of the plain data
    pub comes : (r : Reader) → StandsAt r old → IfOk result (HasComeTo (t.meaning old.ty.now) (b.script old.body) r new.table.set (replies_of new))
    pub left : length new.table.replies.items + b.left new.body ≤ length old.table.replies.items + b.left old.body
    pub asks : IfOk result (IsByCall (b.left new.body))
    pub script : b.script new.body ≡ b.script old.body
    pub left_at_reset : b.left_at_reset new.body ≡ b.left_at_reset old.body
    pub may : (call : Call) → b.may_ask new.body call → b.may_ask old.body call
    pub ty : new.ty ≡ old.ty
    pub base : new.table.base ≡ old.table.base
    -- all else is as it was
    pub rest : new ≡ run_to old new

  -- the body has heard one reply more, and its items and updates were noted
  pub record HasTakenIn {A : Type 0} (old new : Log T B) (result : Result A NoMemory) : Type 0 where
    pub log : OnOk result (IsInOrder old new)
    pub grown : OnOk result ((rs : List PlainReply) → (set : Recorded) → HasHeardSince rs set old old → HasHeardSince rs set old new)
    -- from where the body of a reader has run to, it has run on
    pub ran : (r : Reader) → r.base ≡ old.table.base.items → RanTo (t.meaning old.ty.now) (b.script old.body) r old.table.set (replies_of old)
        → OnOk result (RanTo (t.meaning old.ty.now) (b.script old.body) r new.table.set (replies_of new))
    pub fewer : OnOk result (b.left new.body < b.left old.body)
    pub kept : OnErr result (new.table.replies ≡ old.table.replies)
    pub left : length new.table.replies.items + b.left new.body ≤ length old.table.replies.items + b.left old.body
    pub script : b.script new.body ≡ b.script old.body
    pub left_at_reset : b.left_at_reset new.body ≡ b.left_at_reset old.body
    pub may : (call : Call) → b.may_ask new.body call → b.may_ask old.body call
    pub ty : new.ty ≡ old.ty
    pub base : new.table.base ≡ old.table.base
    -- all else is as it was
    pub rest : new ≡ run_to old new
