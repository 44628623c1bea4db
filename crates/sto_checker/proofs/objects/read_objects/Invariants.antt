use Rattle.std.proofs.Common.{◌≡◌, ℕ}
use Rattle.sto_lang.specs.Views.{file as view}
use Rattle.sto_checker.specs.Lines.{lines_of}
use Rattle.sto_checker.specs.Reached.{AreObjectsRead}
use Rattle.sto_checker.proofs.objects.read_objects.Given as goal

abbrev pub invariant-loop-decl : goal.invariant-loop-decl
invariant-loop-decl l = record {
  bytes : l.reader.bytes.now ≡ l.fn.reader.bytes.now;
  read : (tries : ℕ) → AreObjectsRead (view l.file) tries (lines_of l.fn.reader.bytes.now) l.past l.fn.reader.read 0 → AreObjectsRead (view l.file) tries (lines_of l.fn.reader.bytes.now) l.past l.reader.read l.decl-index;
}
