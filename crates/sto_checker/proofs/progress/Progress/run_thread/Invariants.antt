use Rattle.std.proofs.Common.{◌≡◌, ◌+◌, ◌++◌, length}
use Rattle.sto_lang.specs.Views.{file as view}
use Rattle.sto_journal.specs.Journals.{places}
use Rattle.sto_checker.specs.Runs.{IsSoFar, places_of}
use Rattle.sto_checker.proofs.progress.Progress.run_thread.Given as goal

abbrev pub invariant-loop-earlier : goal.invariant-loop-earlier
invariant-loop-earlier l = record {
  so_far : IsSoFar (view l.file) l.self.lines.items l.self.writers l.self.state.items;
  placed : places l.self.lines.items ≡ places l.fn.self.lines.items ++ places_of l.thread l.earlier;
  counted : length l.self.lines.items ≡ length l.fn.self.lines.items + l.earlier;
}
