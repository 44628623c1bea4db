use Rattle.std.proofs.Common.{◌≡◌, ℕ, length}
use Rattle.sto_lang.specs.Views.{file as view}
use Rattle.sto_checker.specs.Lines.{lines_of}
use Rattle.sto_checker.specs.Reached.{AreRead}
use Rattle.sto_checker.specs.Replayed.{IsReplayed}
use Rattle.sto_checker.proofs.journal.read_journal.Given as goal

abbrev pub invariant-loop : goal.invariant-loop
invariant-loop l = record {
  bytes : l.reader.bytes.now ≡ l.fn.reader.bytes.now;
  read : l.reader.read ≡ l.counter;
  lines : (tries : ℕ) → AreRead (view l.file) tries (lines_of l.fn.reader.bytes.now) l.replayed.past l.reader.read;
  replayed : IsReplayed (view l.file) l.replayed;
  count : length l.replayed.past.run.lines.items ≡ l.counter;
}
