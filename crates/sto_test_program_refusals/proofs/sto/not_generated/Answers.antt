use Rattle.sto_test_program_refusals.proofs.Outputs.{upgrade_same, upgrade_other, gen_nothing, gen_other}
use Rattle.sto_test_program_refusals.proofs.Summaries.{not_one_less, not_one_left_out}
use Rattle.sto_test_program_refusals.proofs.sto.not_generated.Goals as goal

pub returns-clause-upgrade_same : goal.returns-clause-upgrade_same
returns-clause-upgrade_same c = upgrade_same

pub returns-clause-gen_nothing : goal.returns-clause-gen_nothing
returns-clause-gen_nothing c = gen_nothing

pub returns-clause-gen_other : goal.returns-clause-gen_other
returns-clause-gen_other c = gen_other

pub returns-clause-one_less : goal.returns-clause-one_less
returns-clause-one_less c = not_one_less

pub returns-clause-one_left_out : goal.returns-clause-one_left_out
returns-clause-one_left_out c = not_one_left_out

pub returns-clause-upgrade_other : goal.returns-clause-upgrade_other
returns-clause-upgrade_other c = upgrade_other
