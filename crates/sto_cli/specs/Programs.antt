-- What the program does with a command.
use Rattle.std.specs.Prelude.{◌≡◌, ℕ, List, Bool, true, false}
use Rattle.sto_args.specs.declared.command.Command.{Command}
use Rattle.sto_args.specs.declared.command.Command.TheVariants.{Run, Step, Trace, Draw, Explore, Schedules, Upgrade, Gen, Bench, Help}
use Rattle.sto_console.specs.Programs.{Program}
use Rattle.sto_cli.specs.Orders.{same_by, IsExplored}
use Rattle.sto_cli.specs.Outputs.{IsOutput, HasFault}
use Rattle.sto_cli.specs.declared.told.Answer.{Answer}
use Rattle.sto_cli.specs.declared.told.Answer.TheVariants.{Done, Found}

-- `run`, `step`, `trace`, `draw`, `explore`, `schedules` and `upgrade` read a script, `gen`, `bench` and `--help` nothing
abbrev pub reads_script : Command → Bool
reads_script (Run threads tries json) = true
reads_script (Step tries json schedule) = true
reads_script (Trace tries json schedule) = true
reads_script (Draw tries schedule) = true
reads_script (Explore by states json asked) = true
reads_script (Schedules switches tries json) = true
reads_script Upgrade = true
reads_script (Gen number) = false
reads_script (Bench number threads) = false
reads_script (Help page) = false

-- `explore` answers whether an outcome was found that must never be; the others say no more than that all is done
abbrev pub IsAnswer : Command → List ℕ → Answer → List ℕ → Type 0
IsAnswer (Run threads tries json) bytes answer text = (answer ≡ Done) × IsOutput (Run threads tries json) bytes text
IsAnswer (Step tries json schedule) bytes answer text = (answer ≡ Done) × IsOutput (Step tries json schedule) bytes text
IsAnswer (Trace tries json schedule) bytes answer text = (answer ≡ Done) × IsOutput (Trace tries json schedule) bytes text
IsAnswer (Draw tries schedule) bytes answer text = (answer ≡ Done) × IsOutput (Draw tries schedule) bytes text
IsAnswer (Explore by states json asked) bytes answer text = IsExplored (same_by by) states json asked bytes answer text
IsAnswer (Schedules switches tries json) bytes answer text = (answer ≡ Done) × IsOutput (Schedules switches tries json) bytes text
IsAnswer Upgrade bytes answer text = (answer ≡ Done) × IsOutput Upgrade bytes text
IsAnswer (Gen number) bytes answer text = (answer ≡ Done) × IsOutput (Gen number) bytes text
IsAnswer (Bench number threads) bytes answer text = (answer ≡ Done) × IsOutput (Bench number threads) bytes text
IsAnswer (Help page) bytes answer text = (answer ≡ Done) × IsOutput (Help page) bytes text

-- the exit status of an answer
abbrev pub answer_status : Answer → ℕ
answer_status Done = 0
answer_status Found = 1

abbrev pub program : Program Command Answer
program = record { reads = reads_script; HasFault = HasFault; IsAnswer = IsAnswer }
