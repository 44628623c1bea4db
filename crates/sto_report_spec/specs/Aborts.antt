-- Aborted attempts, as plain data.
use Rattle.std.specs.Prelude.{ℕ, List, [], Option, None, Some}
use Rattle.sto_model.specs.PlainReplies.{PlainReply}
use Rattle.sto_lang.specs.Objects.{Declaration, with_number}
use Rattle.sto_report_spec.specs.Orders.{TransactionPlace}

-- a part, by the name of its object and its number there
pub record LocalPart : Type 0 where
  pub object : List ℕ
  pub part : ℕ

-- the name of an object, where it is declared
abbrev pub name_of : Option Declaration → List ℕ
name_of None = []
name_of (Some d) = d.name

-- a part by the name of its object, from the object's number and the part's number there
abbrev pub part_by_home : List Declaration → ℕ × ℕ → LocalPart
part_by_home declarations home = record { object = name_of (with_number home.0 declarations); part = home.1 }

-- why an attempt was aborted: a part was locked, or it was changed by the writer with this number
pub data Cause : Type 0 where
  Locked : (part : LocalPart) → Cause
  Changed : (part : LocalPart) (by : ℕ) → Cause

-- an aborted attempt: its transaction, the number of writers whose state it saw, the replies that it heard, and its cause
pub record Abort : Type 0 where
  pub place : TransactionPlace
  pub seen : ℕ
  pub replies : List PlainReply
  pub cause : Cause

-- the part that a cause names
abbrev pub part_in : Cause → LocalPart
part_in (Locked part) = part
part_in (Changed part by) = part
