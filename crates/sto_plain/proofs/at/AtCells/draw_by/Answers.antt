use Rattle.sto_core.specs.Event.{Draw}
use Rattle.sto_plain.proofs.Walking.{on_by}
use Rattle.sto_plain.proofs.at.AtCells.draw_by.Goals as goal

pub returns-clause-same : goal.returns-clause-same
returns-clause-same g c =
    let drawn = Draw (g.L.CommitLists.updates c.args.lists.now) (g.L.CommitLists.seen c.args.lists.now) (g.L.CommitLists.loaded c.args.lists.now) in
    on_by g.T.Naming.valid drawn c.args.self.now.plain c.args.self.now.pass _ _ c.raise_clock.new.self c.raise_clock.ensures.steps
