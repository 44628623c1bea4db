-- The JSON of a trace: an object for each event, written compactly, each on a line.
use Rattle.std.specs.Prelude.{ℕ, ℤ, List, ◌++◌, Bool, not, Option, None, Some, codes}
use Rattle.std.specs.List.{flat_map}
use Rattle.std.specs.Fmt.{signed_decimal}
use Rattle.serde_json.specs.Data.{Data, null, boolean, string, object, no_members, member}
use Rattle.serde_json.specs.Written.{compact_text}
use Rattle.sto_version.specs.Versions.{ticket_of, is_free}
use Rattle.sto_version.specs.declared.Version.{Version}
use Rattle.sto_model.specs.declared.call.Call.{Call}
use Rattle.sto_attempt_log.specs.declared.verdict.Verdict.{Verdict}
use Rattle.sto_attempt_log.specs.declared.verdict.Verdict.TheVariants.{Wrote, Read, Cancelled, Locked, Changed}
use Rattle.sto_lang.specs.Objects.{Declaration}
use Rattle.sto_write.specs.Texts.{call_text}
use Rattle.sto_report_spec.specs.Json.{listed, numeral, reply_data}
use Rattle.sto_report_spec.specs.Report.{name_at}
use Rattle.sto_trace.specs.declared.Deed.{Deed}
use Rattle.sto_trace.specs.declared.Deed.TheVariants.{Start, Renew, Open, Word, Close, Recheck, Lock, Test, Draw, Check, Decide, Put, Release, Unlock}
use Rattle.sto_trace.specs.declared.Step.{Step}
use Rattle.sto_trace_text.specs.Events.{Answer, Event, events_of}
use Rattle.sto_trace_text.specs.Texts.{Names, named_part}

-- an event that found the clock
abbrev pub clock_data : List ℕ → ℕ → Data
clock_data name clock = object (member (codes "clock") (numeral clock) (member (codes "name") (string name) no_members))

-- an event that found the version of a part
abbrev pub version_data : Names → List ℕ → ℕ → Version → Data
version_data names name part version =
    object
    (member (codes "locked") (boolean (not (is_free version.0)))
    (member (codes "name") (string name)
    (member (codes "object") (string (named_part names part).object)
    (member (codes "part") (numeral (named_part names part).part)
    (member (codes "ticket") (numeral (ticket_of version.0)) no_members)))))

-- an event on a word of a part; its value is a text, as a reply is
abbrev pub word_data : Names → List ℕ → ℕ → ℕ → ℤ → Data
word_data names name part word value =
    object
    (member (codes "name") (string name)
    (member (codes "object") (string (named_part names part).object)
    (member (codes "part") (numeral (named_part names part).part)
    (member (codes "value") (string (signed_decimal value))
    (member (codes "word") (numeral word) no_members)))))

-- an event that let a part go
abbrev pub part_data : Names → List ℕ → ℕ → Data
part_data names name part =
    object
    (member (codes "name") (string name)
    (member (codes "object") (string (named_part names part).object)
    (member (codes "part") (numeral (named_part names part).part) no_members)))

abbrev pub ticket_data : ℕ → Data
ticket_data ticket = object (member (codes "name") (string (codes "draw")) (member (codes "ticket") (numeral ticket) no_members))

abbrev pub decision_data : Bool → Data
decision_data commit = object (member (codes "commit") (boolean commit) (member (codes "name") (string (codes "decide")) no_members))

-- what an event did, and what it found
abbrev pub deed_data : Names → Deed → Data
deed_data names (Start clock) = clock_data (codes "start") clock
deed_data names (Renew clock) = clock_data (codes "renew") clock
deed_data names (Open part version) = version_data names (codes "open") part version
deed_data names (Word part word value) = word_data names (codes "word") part word value
deed_data names (Close part version) = version_data names (codes "close") part version
deed_data names (Recheck part version) = version_data names (codes "recheck") part version
deed_data names (Lock part version) = version_data names (codes "lock") part version
deed_data names (Test part version) = version_data names (codes "test") part version
deed_data names (Draw ticket) = ticket_data ticket
deed_data names (Check part version) = version_data names (codes "check") part version
deed_data names (Decide commit) = decision_data commit
deed_data names (Put part word value) = word_data names (codes "put") part word value
deed_data names (Release part) = part_data names (codes "release") part
deed_data names (Unlock part) = part_data names (codes "unlock") part

-- the call that a reply answers
abbrev pub call_data : List Declaration → Option Call → Data
call_data declarations None = null
call_data declarations (Some call) = string (call_text declarations call)

-- a reply with its call
abbrev pub answer_data : Names → Answer → Data
answer_data names answer =
    object (member (codes "call") (call_data names.file.declarations answer.call) (member (codes "reply") (reply_data answer.reply) no_members))

-- how an attempt ended that read as of a number
abbrev pub ended_data : ℕ → List ℕ → Data
ended_data at end = object (member (codes "at") (numeral at) (member (codes "end") (string end) no_members))

-- an aborted attempt that found a part locked
abbrev pub locked_data : Names → ℕ → ℕ → Data
locked_data names at part =
    object
    (member (codes "at") (numeral at)
    (member (codes "cause") (string (codes "locked"))
    (member (codes "end") (string (codes "abort"))
    (member (codes "object") (string (named_part names part).object)
    (member (codes "part") (numeral (named_part names part).part) no_members)))))

-- one that found it changed
abbrev pub changed_data : Names → ℕ → ℕ → ℕ → Data
changed_data names at part ticket =
    object
    (member (codes "at") (numeral at)
    (member (codes "cause") (string (codes "changed"))
    (member (codes "end") (string (codes "abort"))
    (member (codes "object") (string (named_part names part).object)
    (member (codes "part") (numeral (named_part names part).part)
    (member (codes "ticket") (numeral ticket) no_members))))))

-- how the attempt ended, and why
abbrev pub verdict_data : Names → Verdict → Data
verdict_data names (Wrote ticket) = object (member (codes "end") (string (codes "commit")) (member (codes "ticket") (numeral ticket) no_members))
verdict_data names (Read at) = ended_data at (codes "read")
verdict_data names (Cancelled at) = ended_data at (codes "cancel")
verdict_data names (Locked at part) = locked_data names at part
verdict_data names (Changed at part ticket) = changed_data names at part ticket

abbrev pub end_data : Names → Option Verdict → Data
end_data names None = null
end_data names (Some verdict) = verdict_data names verdict

-- an event
abbrev pub event_data : Names → Event → Data
event_data names event =
    object
    (member (codes "attempt") (end_data names event.step.end)
    (member (codes "calls") (listed (answer_data names) event.answers)
    (member (codes "event") (deed_data names event.step.deed)
    (member (codes "number") (numeral event.number)
    (member (codes "position") (numeral event.step.position)
    (member (codes "thread") (string (name_at names.file.names event.step.thread)) no_members))))))

-- its line
abbrev pub json_line : Names → Event → List ℕ
json_line names event = compact_text (event_data names event) ++ codes "\n"

-- the JSON of a trace
abbrev pub trace_json : Names → List Step → List ℕ
trace_json names steps = flat_map (json_line names) (events_of names.file steps)
