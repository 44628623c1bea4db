use Rattle.std.proofs.Common.{Ok, Err}
use Rattle.sto_attempt_log.proofs.Finding.{found_or_place}
use Rattle.sto_attempt_log.proofs.lists.find_part.Goals as goal

pub returns-in-Ok : goal.returns-in-Ok
returns-in-Ok c = found_or_place c.args.parts.now c.args.part (Ok c.in-Ok.place) c.requires.rising c.in-Ok.ensures.position

pub returns-in-Err : goal.returns-in-Err
returns-in-Err c = found_or_place c.args.parts.now c.args.part (Err c.in-Err.place) c.requires.rising c.in-Err.ensures.position
