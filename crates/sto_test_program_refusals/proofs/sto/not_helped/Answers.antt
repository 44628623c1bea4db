use Rattle.std.proofs.Common.{refl}
use Rattle.sto_test_program_refusals.proofs.Helps.{help_nothing, other_page, help_usage, help_silent, help_read}
use Rattle.sto_test_program_refusals.proofs.sto.not_helped.Goals as goal

pub returns-clause-nothing : goal.returns-clause-nothing
returns-clause-nothing c = help_nothing

pub returns-clause-other_page : goal.returns-clause-other_page
returns-clause-other_page c = other_page

pub returns-clause-usage : goal.returns-clause-usage
returns-clause-usage c = help_usage

pub returns-clause-silent : goal.returns-clause-silent
returns-clause-silent c = help_silent

pub returns-clause-read : goal.returns-clause-read
returns-clause-read c = help_read

pub returns-clause-behind : goal.returns-clause-behind
returns-clause-behind c = refl

pub returns-clause-twice : goal.returns-clause-twice
returns-clause-twice c = refl

pub returns-clause-nonsense : goal.returns-clause-nonsense
returns-clause-nonsense c = refl

pub returns-clause-more : goal.returns-clause-more
returns-clause-more c = refl
