use Rattle.sto_lang.specs.Views.{file as view}
use Rattle.sto_lang.proofs.SoundFiles.{readable_sound}
use Rattle.sto_test_orders.proofs.puzzles.file_of.Goals as goal

pub returns-in-Ok : goal.returns-in-Ok
returns-in-Ok c = readable_sound c.as_bytes.result.now (view c.in-Ok.file) c.in-Ok.ensures.given
