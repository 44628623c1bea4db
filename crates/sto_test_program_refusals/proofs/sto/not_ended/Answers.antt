use Rattle.sto_cli.specs.Programs.{program}
use Rattle.sto_test_program_refusals.proofs.Endings.{no_usage, not_written}
use Rattle.sto_test_program_refusals.proofs.sto.not_ended.Goals as goal

pub returns-clause-usage : goal.returns-clause-usage
returns-clause-usage c = λ command left rest held now ends. no_usage program command left rest held now ends.0 ends.1 ends.2

pub returns-clause-written : goal.returns-clause-written
returns-clause-written c = λ command left rest held now ends more. more (not_written program command left rest held now ends.0 ends.1 ends.2)
