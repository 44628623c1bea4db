-- What a deed tells, but for which load of a version that led no further it was.
use Rattle.std.specs.Prelude.{ℕ, Option, None, Some, if◌then◌else◌}
use Rattle.sto_core.specs.Core.{Core, number_found, value_found}
use Rattle.sto_core.specs.Event.{Event}
use Rattle.sto_core.specs.Versions.{is_free}
use Rattle.sto_trace.specs.Deeds.{deed_of}
use Rattle.sto_trace.specs.declared.Deed.{Deed}
use Rattle.sto_trace.specs.declared.Deed.TheVariants.{Start, Renew, Open, Word, Close, Recheck, Lock, Test, Draw, Check, Decide, Put, Release, Unlock}

-- the deed of an event in a core state
abbrev pub made : Event → Core → Deed
made e c = deed_of e (number_found e c) (value_found e c)

-- the same deed, where a recheck, a test and a lock that did not take its part are an open
abbrev pub plain : Deed → Deed
plain (Start clock) = Start clock
plain (Renew clock) = Renew clock
plain (Open part version) = Open part version
plain (Word part word value) = Word part word value
plain (Close part version) = Close part version
plain (Recheck part version) = Open part version
plain (Lock part version) = if is_free version.0 then Lock part version else Open part version
plain (Test part version) = Open part version
plain (Draw ticket) = Draw ticket
plain (Check part version) = Check part version
plain (Decide commit) = Decide commit
plain (Put part word value) = Put part word value
plain (Release part) = Release part
plain (Unlock part) = Unlock part

-- the part and the version that a deed found
abbrev pub version_told : Deed → Option (ℕ × ℕ)
version_told (Open part version) = Some (part, version.0)
version_told (Close part version) = Some (part, version.0)
version_told (Recheck part version) = Some (part, version.0)
version_told (Lock part version) = Some (part, version.0)
version_told (Test part version) = Some (part, version.0)
version_told (Check part version) = Some (part, version.0)
version_told deed = None

-- the clock of a start
abbrev pub start_told : Deed → Option ℕ
start_told (Start clock) = Some clock
start_told deed = None

-- the ticket that was drawn
abbrev pub ticket_told : Deed → Option ℕ
ticket_told (Draw ticket) = Some ticket
ticket_told deed = None
