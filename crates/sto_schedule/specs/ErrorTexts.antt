-- How errors print themselves.
use Rattle.std.specs.Prelude.{ℕ, List, codes}
use Rattle.sto_lang.specs.FaultTexts.{kind_text}
use Rattle.sto_schedule.specs.declared.read.ScheduleError.{ScheduleError}
use Rattle.sto_schedule.specs.declared.read.ScheduleError.TheVariants.{Fault, NoMemory}

abbrev pub schedule_error_text : ScheduleError → List ℕ
schedule_error_text (Fault kind) = kind_text kind
schedule_error_text NoMemory = codes "out of memory"
