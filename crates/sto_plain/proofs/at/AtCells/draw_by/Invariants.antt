use Rattle.sto_core.specs.Event.{Draw}
use Rattle.sto_plain.proofs.at.AtCells.draw_by.Given as goal

abbrev pub ghosts-raise_clock : goal.ghosts-raise_clock
ghosts-raise_clock g a = record { event = Draw (g.L.CommitLists.updates a.lists.now) (g.L.CommitLists.seen a.lists.now) (g.L.CommitLists.loaded a.lists.now) }
