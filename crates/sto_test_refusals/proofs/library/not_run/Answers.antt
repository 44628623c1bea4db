use Rattle.std.proofs.Common.{arith}
use Rattle.sto_type.specs.Traits.{of_type}
use Rattle.sto_test_refusals.proofs.Unrun.{gives_no_cancel, get_not_1, reason_not_1, found_elsewhere, free_not_locked, locked_not_changed, ended_begun}
use Rattle.sto_test_refusals.proofs.library.not_run.Goals as goal

pub returns-clause-busy_after_fewer_starts : goal.returns-clause-busy_after_fewer_starts
returns-clause-busy_after_fewer_starts g c = λ before after most told p last led fewer. let many = led.1.aborted.starts in omega (arith, many, fewer)

pub returns-clause-busy_by_other_tries : goal.returns-clause-busy_by_other_tries
returns-clause-busy_by_other_tries g c = λ before after most told p last led other. other led.0

pub returns-clause-busy_by_other_object : goal.returns-clause-busy_by_other_object
returns-clause-busy_by_other_object g c = λ before after most told p last led none.
    found_elsewhere (g.T.TxType.meaning before.words.ty) after.seat.me.0.view led.1.last last led.1.is led.1.found none

pub returns-clause-busy_by_lock : goal.returns-clause-busy_by_lock
returns-clause-busy_by_lock g c = λ before after most told object p led free.
    free_not_locked (g.T.TxType.meaning before.words.ty) after.seat.me.0.view led.1.last object led.1.is led.1.found free

pub returns-clause-busy_by_change : goal.returns-clause-busy_by_change
returns-clause-busy_by_change g c = λ before after most told object p led locked.
    locked_not_changed (g.T.TxType.meaning before.words.ty) after.seat.me.0.view led.1.last object led.1.is led.1.found locked

pub returns-clause-ended_after_no_start : goal.returns-clause-ended_after_no_start
returns-clause-ended_after_no_start g c = ended_begun (of_type g.T.Naming g.T.TxType)

pub returns-clause-worn_with_tickets_left : goal.returns-clause-worn_with_tickets_left
returns-clause-worn_with_tickets_left g c = λ before after most p led left. left led.0

pub returns-clause-cancelled : goal.returns-clause-cancelled
returns-clause-cancelled g c = λ before after most p reason led gives. gives_no_cancel p _ reason gives led.said

pub returns-clause-other_value : goal.returns-clause-other_value
returns-clause-other_value g c = get_not_1 g.row.E.Denot

pub returns-clause-other_reason : goal.returns-clause-other_reason
returns-clause-other_reason g c = reason_not_1 g.row.A.Denot
