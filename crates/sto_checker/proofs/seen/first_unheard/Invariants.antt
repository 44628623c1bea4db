use Rattle.std.proofs.Common.{◌≡◌, ◌+◌, length}
use Rattle.sto_lang.specs.Views.{file as view}
use Rattle.sto_journal.specs.Journals.{places}
use Rattle.sto_checker.specs.Shown.{IsAlong}
use Rattle.sto_checker.specs.Seen.{IsFirstUnheard}
use Rattle.sto_checker.proofs.seen.first_unheard.Given as goal

abbrev pub invariant-loop-line : goal.invariant-loop-line
invariant-loop-line l = record {
  along : IsAlong (view l.file) (places l.lines) l.run;
  count : length l.run.lines.items ≡ l.line-index;
  first : IsFirstUnheard (view l.file) (places l.lines) l.aborts (l.run.writers + 1) l.wrong;
}
