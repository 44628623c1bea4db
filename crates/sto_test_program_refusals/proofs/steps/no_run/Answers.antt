use Rattle.sto_run.specs.Traced.{of_objects}
use Rattle.sto_test_program_refusals.proofs.FirstEvents.{clock_same, parts_same}
use Rattle.sto_test_program_refusals.proofs.InTurn.{not_first}
use Rattle.sto_test_program_refusals.proofs.Traces.{no_events, one_event, not_still_words}
use Rattle.sto_test_program_refusals.proofs.steps.no_run.Goals as goal

pub returns-clause-nothing : goal.returns-clause-nothing
returns-clause-nothing c = no_events

pub returns-clause-one_event : goal.returns-clause-one_event
returns-clause-one_event c = one_event

pub returns-clause-still : goal.returns-clause-still
returns-clause-still c = not_still_words

pub returns-clause-invented_clock : goal.returns-clause-invented_clock
returns-clause-invented_clock c = λ sizes opening many seats later log next d one changed. changed (clock_same of_objects.valid sizes opening many d one.steps)

pub returns-clause-invented_parts : goal.returns-clause-invented_parts
returns-clause-invented_parts c = λ sizes opening many seats later log next d one changed. changed (parts_same of_objects.valid sizes opening many d one.steps)

pub returns-clause-other_thread_first : goal.returns-clause-other_thread_first
returns-clause-other_thread_first c = not_first
