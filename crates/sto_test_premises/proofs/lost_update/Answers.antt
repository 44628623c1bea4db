use Rattle.std.specs.Fmt.{digits}
use Rattle.std.specs.Int.{int_wrap}
use Rattle.std.proofs.Common.{refl}
use Rattle.sto_test_premises.proofs.Adding.{reads_file, lawful}
use Rattle.sto_test_premises.proofs.LostUpdate.{premises}
use Rattle.sto_test_premises.proofs.lost_update.Goals as goal

pub returns-clause-script : goal.returns-clause-script
returns-clause-script c = reads_file

pub returns-clause-premises : goal.returns-clause-premises
returns-clause-premises c = premises

pub returns-clause-lawful : goal.returns-clause-lawful
returns-clause-lawful c = lawful premises

pub returns-clause-text : goal.returns-clause-text
unfolding digits int_wrap
returns-clause-text c = refl
