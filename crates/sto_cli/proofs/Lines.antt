-- The lines of a trace are ASCII.
use Rattle.std.proofs.Common.{List, Bool, true, false}
use Rattle.std.specs.Str.{IsAscii}
use Rattle.sto_lang.specs.Sound.{IsSound}
use Rattle.sto_run.proofs.Printed.{names_of_sound}
use Rattle.sto_trace.specs.declared.Step.{Step}
use Rattle.sto_trace_text.specs.Texts.{Names}
use Rattle.sto_trace_text.proofs.Ascii.{trace_ascii}
use Rattle.sto_trace_text.proofs.JsonAscii.{json_ascii}
use Rattle.sto_cli.specs.Traces.{lines_in}

pub lines_ascii : (json : Bool) (names : Names) (steps : List Step) → IsSound names.file → IsAscii (lines_in json names steps)
lines_ascii true names steps sound = json_ascii names sound.named (names_of_sound names.file sound) steps
lines_ascii false names steps sound = trace_ascii names sound.named (names_of_sound names.file sound) steps
