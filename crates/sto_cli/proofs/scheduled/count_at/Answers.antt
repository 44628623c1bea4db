use Rattle.std.proofs.Common.{refl}
use Rattle.sto_cli.proofs.scheduled.count_at.Goals as goal

pub returns-then-are_many-clause-count : goal.returns-then-are_many-clause-count
returns-then-are_many-clause-count g c = c.requires.many c.if-are_many.true

pub returns-in-Err-TooMany-clause-count : goal.returns-in-Err-TooMany-clause-count
returns-in-Err-TooMany-clause-count g c = c.in-Err-TooMany.ensures.too_many c.in-Err-TooMany.field-0-is

pub returns-in-Err-TooLong-clause-fault : goal.returns-in-Err-TooLong-clause-fault
returns-in-Err-TooLong-clause-fault g c = (refl, c.in-Err-TooLong.ensures.too_long c.in-Err-TooLong.field-0-is)
