use Rattle.sto_run.specs.Meanings.{updating_by}
use Rattle.sto_run.specs.Stores.{means}
use Rattle.sto_test_refusals.specs.Texts.{left_out, other_reply}
use Rattle.sto_test_refusals.proofs.Unlawful.{left_out_is_none, other_reply_is_none}
use Rattle.sto_test_program_refusals.proofs.Outputs.{step_lawful, step_nothing, explore_nothing, explore_beyond, schedules_nothing, schedules_beyond, trace_beyond, draw_beyond, schedules_no_script}
use Rattle.sto_test_program_refusals.proofs.Faults.{trace_fault, draw_fault}
use Rattle.sto_test_program_refusals.proofs.Traces.{trace_nothing, no_event_drawn}
use Rattle.sto_test_program_refusals.proofs.sto.not_stepped.Goals as goal

pub returns-clause-left_out : goal.returns-clause-left_out
returns-clause-left_out c = λ o. left_out_is_none (updating_by means) (step_lawful left_out o)

pub returns-clause-other_reply : goal.returns-clause-other_reply
returns-clause-other_reply c = λ o. other_reply_is_none (updating_by means) (step_lawful other_reply o)

pub returns-clause-step_nothing : goal.returns-clause-step_nothing
returns-clause-step_nothing c = step_nothing

pub returns-clause-trace_nothing : goal.returns-clause-trace_nothing
returns-clause-trace_nothing c = trace_nothing

pub returns-clause-explore_nothing : goal.returns-clause-explore_nothing
returns-clause-explore_nothing c = explore_nothing

pub returns-clause-explore_beyond : goal.returns-clause-explore_beyond
returns-clause-explore_beyond c = explore_beyond

pub returns-clause-schedules_nothing : goal.returns-clause-schedules_nothing
returns-clause-schedules_nothing c = schedules_nothing

pub returns-clause-no_event : goal.returns-clause-no_event
returns-clause-no_event c = no_event_drawn

pub returns-clause-trace_fault : goal.returns-clause-trace_fault
returns-clause-trace_fault c = trace_fault

pub returns-clause-draw_fault : goal.returns-clause-draw_fault
returns-clause-draw_fault c = draw_fault

pub returns-clause-schedules_beyond : goal.returns-clause-schedules_beyond
returns-clause-schedules_beyond c = schedules_beyond

pub returns-clause-trace_beyond : goal.returns-clause-trace_beyond
returns-clause-trace_beyond c = trace_beyond

pub returns-clause-draw_beyond : goal.returns-clause-draw_beyond
returns-clause-draw_beyond c = draw_beyond

pub returns-clause-schedules_no_script : goal.returns-clause-schedules_no_script
returns-clause-schedules_no_script c = schedules_no_script
