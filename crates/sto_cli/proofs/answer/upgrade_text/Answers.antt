use Rattle.sto_lang.specs.Views.{file as view}
use Rattle.sto_cli.proofs.answer.upgrade_text.Goals as goal

pub returns-clause-text : goal.returns-clause-text
returns-clause-text c = (view c.in_ok-file.file, c.in_ok-file.ensures.file, c.in_ok-write.ensures.text)
