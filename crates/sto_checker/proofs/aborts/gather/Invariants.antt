use Rattle.std.proofs.Common.{◌≡◌, ◌-◌, length}
use Rattle.sto_lang.specs.Views.{file as view}
use Rattle.sto_journal.specs.Journals.{places}
use Rattle.sto_checker.specs.Lines.{lines_of}
use Rattle.sto_checker.specs.Gathered.{AreGathered}
use Rattle.sto_checker.proofs.Gathering.{IsLastRead}
use Rattle.sto_checker.proofs.aborts.gather.Given as goal

abbrev pub invariant-loop-line : goal.invariant-loop-line
invariant-loop-line l = record {
  bytes : l.reader.bytes.now ≡ l.fn.reader.bytes.now;
  gathered : AreGathered (view l.file) l.tries (lines_of l.fn.reader.bytes.now) (places l.replayed.past.run.lines.items) l.aborts.items l.reader.read;
  last : IsLastRead (view l.file) l.tries (lines_of l.fn.reader.bytes.now) l.reader.read l.last;
}

abbrev pub decreases-loop-line : goal.decreases-loop-line
decreases-loop-line l = length (lines_of l.reader.bytes.now) - l.reader.read
