-- The fault of bytes that are no script.
use Rattle.std.specs.Prelude.{◌≡◌, ℕ, List, Err}
use Rattle.sto_lang.specs.Files.{file_of}
use Rattle.sto_console.specs.declared.refusal.InputFault.{InputFault}
use Rattle.sto_console.specs.declared.refusal.InputFault.TheVariants.{Script, NoReport, LongTrace, LongRun, ManySchedules, ManyStates, Schedule, Question}

-- the bytes are no script, for this fault
abbrev pub IsScriptFault : List ℕ → InputFault → Type 0
IsScriptFault bytes (Script fault) = file_of bytes ≡ Err fault
IsScriptFault bytes NoReport = ⊥
IsScriptFault bytes LongTrace = ⊥
IsScriptFault bytes LongRun = ⊥
IsScriptFault bytes (ManySchedules counts) = ⊥
IsScriptFault bytes (ManyStates count) = ⊥
IsScriptFault bytes (Schedule kind) = ⊥
IsScriptFault bytes (Question fault) = ⊥
