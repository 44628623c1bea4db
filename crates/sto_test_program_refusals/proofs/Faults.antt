-- `trace` and `draw` tell no fault of two threads with a transaction each.
use Rattle.std.proofs.Common.{◌≡◌, ◌<◌, [], Bool, None, Some, Ok, sym, ◌∙◌, subst, arith}
use Rattle.sto_lang.specs.Scripts.{File}
use Rattle.sto_lang.specs.Drafts.{transaction_count}
use Rattle.sto_draw.specs.Drawn.{IsTooLong}
use Rattle.sto_args.specs.declared.command.Command.TheVariants.{Trace, Draw}
use Rattle.sto_console.specs.declared.refusal.InputFault.{InputFault}
use Rattle.sto_console.specs.declared.refusal.InputFault.TheVariants.{Script, NoReport, LongTrace, LongRun, ManySchedules, ManyStates, Schedule, Question}
use Rattle.sto_console.specs.Outcomes.{IsFaulty}
use Rattle.sto_cli.specs.Schedules.{IsScheduled}
use Rattle.sto_cli.specs.Traces.{HasLongRun, IsRunFault, NeverMany}
use Rattle.sto_cli.specs.Programs.{program}
use Rattle.sto_test_program_refusals.specs.Inputs.{lost_update, lost_update_file}
use Rattle.sto_test_program_refusals.proofs.Scheduled.{scheduled_as}
use Rattle.sto_test_program_refusals.proofs.Traces.{reads_lost_update}
use Rattle.sto_test_program_refusals.proofs.NotLong.{not_long, not_long_for_a_picture}

read_as : (file : File) → IsScheduled None lost_update file → file ≡ lost_update_file
read_as file is = scheduled_as lost_update lost_update_file file reads_lost_update is

module _ (IsLong : File → Type 0) (is_not : IsLong lost_update_file → ⊥) where
  no_fault : (fault : InputFault) → IsRunFault IsLong NeverMany None lost_update fault → ⊥
  no_fault (Script fault) h = let e = sym h ∙ reads_lost_update in absurd cc
  no_fault NoReport h = h
  no_fault LongTrace h =
      let many : 256 < 2 = subst (λ (f : File). 256 < transaction_count f.threads) (read_as h.0 h.1) h.2 in omega (arith, many)
  no_fault LongRun h = is_not (subst IsLong (read_as h.0 h.1.0) h.2)
  no_fault (ManySchedules counts) h = h.2
  no_fault (ManyStates count) h = h
  no_fault (Schedule kind) h = let e = h.refused in absurd cc
  no_fault (Question fault) h = h

trace_not_long : HasLongRun 64 lost_update_file → ⊥
trace_not_long h = not_long h.0 h.1 h.2

picture_not_long : IsTooLong 64 lost_update_file → ⊥
picture_not_long h = not_long_for_a_picture h.journal h.homes h.steps h.run h.long

pub trace_fault : (json : Bool) → IsFaulty program (Some (Trace 64 json None)) (Some lost_update) (Some []) → ⊥
trace_fault json faulty = no_fault (HasLongRun 64) trace_not_long faulty.0 faulty.1.1

pub draw_fault : IsFaulty program (Some (Draw 64 None)) (Some lost_update) (Some []) → ⊥
draw_fault faulty = no_fault (IsTooLong 64) picture_not_long faulty.0 faulty.1.1
