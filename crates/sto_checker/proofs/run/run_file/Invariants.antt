use Rattle.std.proofs.Common.{◌≡◌, ◌*◌, ◌≤◌, take, length}
use Rattle.sto_lang.specs.Views.{file as view, threads_of}
use Rattle.sto_journal.specs.Journals.{places}
use Rattle.sto_checker.specs.Runs.{IsSoFar, places_from}
use Rattle.sto_checker.proofs.run.run_file.Given as goal

abbrev pub invariant-loop-thread : goal.invariant-loop-thread
invariant-loop-thread l = record {
  so_far : IsSoFar (view l.file) l.run.lines.items l.run.writers l.run.state.items;
  placed : places l.run.lines.items ≡ places_from 0 (take l.thread (threads_of l.file.threads.items));
  few : length l.run.lines.items ≤ 10000 * l.thread;
}
