use Rattle.sto_lang.specs.Views.{file as view}
use Rattle.sto_schedule.proofs.Sound.{schedule_sound, with_sound}
use Rattle.sto_schedule.proofs.read.with_schedule.Goals as goal

pub returns-clause-sound : goal.returns-clause-sound
returns-clause-sound c =
    let file = view c.args.file in
    let turns = c.in_ok-schedule.schedule.items in
    with_sound file turns c.requires (schedule_sound file c.args.words.now turns c.requires c.in_ok-schedule.ensures.schedule)
