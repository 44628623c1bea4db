use Rattle.sto_run.specs.Traced.{of_objects}
use Rattle.sto_test_program_refusals.proofs.MadeDeeds.{not_left_out, not_forgotten, told_kind, told_plain}
use Rattle.sto_test_program_refusals.proofs.steps.no_deed.Goals as goal

pub returns-clause-left_out : goal.returns-clause-left_out
returns-clause-left_out c = λ thread before after seats later steps m. not_left_out _ steps m.logged

pub returns-clause-forgotten : goal.returns-clause-forgotten
returns-clause-forgotten c = λ thread before after seats later steps others m. not_forgotten _ steps others m.logged

pub returns-clause-other_thread : goal.returns-clause-other_thread
returns-clause-other_thread c = λ thread before after seats later steps told m other. other (told_kind _ steps told m.logged).last.of_thread

pub returns-clause-other_deed : goal.returns-clause-other_deed
returns-clause-other_deed c = λ thread before after seats later steps told m other.
    other (told_plain of_objects.valid before thread after told m.steps (told_kind _ steps told m.logged).done)
