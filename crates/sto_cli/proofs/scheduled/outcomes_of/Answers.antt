use Rattle.sto_cli.proofs.scheduled.outcomes_of.Goals as goal

pub many_schedules-requires-clause-many : goal.many_schedules-requires-clause-many
many_schedules-requires-clause-many g c = c.in-Err-TooMany.ensures.too_many c.in-Err-TooMany.field-0-is

pub returns-in-Err-TooLong-clause-fault : goal.returns-in-Err-TooLong-clause-fault
returns-in-Err-TooLong-clause-fault g c = c.in-Err-TooLong.ensures.too_long c.in-Err-TooLong.field-0-is
