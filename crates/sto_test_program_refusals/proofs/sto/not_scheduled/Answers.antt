use Rattle.sto_test_program_refusals.proofs.Scheduled.{led_elsewhere, no_schedule, own_kept, no_thread, no_steps}
use Rattle.sto_test_program_refusals.proofs.sto.not_scheduled.Goals as goal

pub returns-clause-led_elsewhere : goal.returns-clause-led_elsewhere
returns-clause-led_elsewhere c = led_elsewhere

pub returns-clause-no_schedule : goal.returns-clause-no_schedule
returns-clause-no_schedule c = no_schedule

pub returns-clause-own_kept : goal.returns-clause-own_kept
returns-clause-own_kept c = own_kept

pub returns-clause-no_thread : goal.returns-clause-no_thread
returns-clause-no_thread c = no_thread

pub returns-clause-no_steps : goal.returns-clause-no_steps
returns-clause-no_steps c = no_steps
