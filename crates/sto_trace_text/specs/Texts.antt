-- The text of a trace: a line for each event.
use Rattle.std.specs.Prelude.{ℕ, ℤ, List, [], ◌++◌, true, false, Bool, Option, None, Some, unwrap_or, slice_get, codes, decimal}
use Rattle.std.specs.List.{flat_map}
use Rattle.std.specs.Fmt.{signed_decimal}
use Rattle.sto_version.specs.Versions.{ticket_of, is_free}
use Rattle.sto_version.specs.declared.Version.{Version}
use Rattle.sto_model.specs.declared.call.Call.{Call}
use Rattle.sto_attempt_log.specs.declared.verdict.Verdict.{Verdict}
use Rattle.sto_attempt_log.specs.declared.verdict.Verdict.TheVariants.{Wrote, Read, Cancelled, Locked, Changed}
use Rattle.sto_lang.specs.Objects.{Declaration}
use Rattle.sto_lang.specs.Scripts.{File}
use Rattle.sto_write.specs.Texts.{call_text}
use Rattle.sto_report_spec.specs.Aborts.{LocalPart, part_by_home}
use Rattle.sto_report_spec.specs.Report.{name_at, part_text, reply_text}
use Rattle.sto_trace.specs.declared.Deed.{Deed}
use Rattle.sto_trace.specs.declared.Deed.TheVariants.{Start, Renew, Open, Word, Close, Recheck, Lock, Test, Draw, Check, Decide, Put, Release, Unlock}
use Rattle.sto_trace.specs.declared.Step.{Step}
use Rattle.sto_trace_text.specs.Events.{Answer, Event, events_of}

-- the names in a trace: those of the file that was run, and the homes of all parts: an object's number, and the part's number there
pub record Names : Type 0 where
  pub file : File
  pub homes : List (ℕ × ℕ)

-- the name of a part: its object's, and its number there
abbrev pub named_part : Names → ℕ → LocalPart
named_part names part = part_by_home names.file.declarations (unwrap_or (slice_get names.homes part) (0, 0))

abbrev pub part_at : Names → ℕ → List ℕ
part_at names part = part_text (named_part names part)

-- a word of a part, and its value
abbrev pub word_text : Names → ℕ → ℕ → ℤ → List ℕ
word_text names part word value = part_at names part ++ (codes "." ++ (decimal word ++ (codes " = " ++ signed_decimal value)))

-- whether a part is free, and the ticket of its last writer
abbrev pub lock_text : Bool → List ℕ
lock_text true = codes " free "
lock_text false = codes " locked "

abbrev pub version_text : Names → ℕ → Version → List ℕ
version_text names part version = part_at names part ++ (lock_text (is_free version.0) ++ decimal (ticket_of version.0))

abbrev pub decision_text : Bool → List ℕ
decision_text true = codes "decide commit"
decision_text false = codes "decide drop"

-- what an event did, and what it found
abbrev pub deed_text : Names → Deed → List ℕ
deed_text names (Start clock) = codes "start at " ++ decimal clock
deed_text names (Renew clock) = codes "renew at " ++ decimal clock
deed_text names (Open part version) = codes "open " ++ version_text names part version
deed_text names (Word part word value) = codes "word " ++ word_text names part word value
deed_text names (Close part version) = codes "close " ++ version_text names part version
deed_text names (Recheck part version) = codes "recheck " ++ version_text names part version
deed_text names (Lock part version) = codes "lock " ++ version_text names part version
deed_text names (Test part version) = codes "test " ++ version_text names part version
deed_text names (Draw ticket) = codes "draw " ++ decimal ticket
deed_text names (Check part version) = codes "check " ++ version_text names part version
deed_text names (Decide commit) = decision_text commit
deed_text names (Put part word value) = codes "put " ++ word_text names part word value
deed_text names (Release part) = codes "release " ++ part_at names part
deed_text names (Unlock part) = codes "unlock " ++ part_at names part

-- the call that a reply answers
abbrev pub asked_text : List Declaration → Option Call → List ℕ
asked_text declarations None = []
asked_text declarations (Some call) = call_text declarations call ++ codes " "

-- a reply behind its call
abbrev pub answer_text : Names → Answer → List ℕ
answer_text names answer = codes "; " ++ (asked_text names.file.declarations answer.call ++ (codes "heard " ++ reply_text answer.reply))

-- how the attempt ended, and why
abbrev pub verdict_text : Names → Verdict → List ℕ
verdict_text names (Wrote ticket) = codes "; commit " ++ decimal ticket
verdict_text names (Read at) = codes "; read at " ++ decimal at
verdict_text names (Cancelled at) = codes "; cancel at " ++ decimal at
verdict_text names (Locked at part) = codes "; abort at " ++ (decimal at ++ (codes " locked " ++ part_at names part))
verdict_text names (Changed at part ticket) =
    codes "; abort at " ++ (decimal at ++ (codes " changed " ++ (part_at names part ++ (codes " by ticket " ++ decimal ticket))))

abbrev pub end_text : Names → Option Verdict → List ℕ
end_text names None = []
end_text names (Some verdict) = verdict_text names verdict

-- the line of an event
abbrev pub event_text : Names → Event → List ℕ
event_text names event =
    decimal event.number ++ (codes " " ++ (name_at names.file.names event.step.thread ++ (codes "." ++ (decimal event.step.position ++ (codes " "
    ++ (deed_text names event.step.deed ++ (flat_map (answer_text names) event.answers ++ (end_text names event.step.end ++ codes "\n"))))))))

-- the text of a trace
abbrev pub trace_text : Names → List Step → List ℕ
trace_text names steps = flat_map (event_text names) (events_of names.file steps)
