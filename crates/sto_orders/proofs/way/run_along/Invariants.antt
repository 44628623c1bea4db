use Rattle.std.proofs.Common.{◌≡◌, length, take}
use Rattle.sto_lang.specs.Views.{file as view}
use Rattle.sto_journal.specs.Journals.{places}
use Rattle.sto_checker.specs.Runs.{IsSoFar}
use Rattle.sto_orders.specs.Ways.{along}
use Rattle.sto_orders.proofs.way.run_along.Given as goal

abbrev pub invariant-loop-at : goal.invariant-loop-at
invariant-loop-at l = record {
  so_far : IsSoFar (view l.file) l.run.lines.items l.run.writers l.run.state.items;
  placed : places l.run.lines.items ≡ along (take l.at-index l.order);
  counted : length l.run.lines.items ≡ l.at-index;
}
