use Rattle.std.proofs.Common.{◌≡◌, ◌++◌, take, flat_map, map}
use Rattle.sto_lang.specs.Views.{names_of}
use Rattle.sto_journal.specs.Journals.{entry}
use Rattle.sto_picture.specs.Views.{bytes_of}
use Rattle.sto_draw.specs.Scenes.{late_line}
use Rattle.sto_draw.proofs.late.add_each.Given as goal

abbrev pub invariant-loop-line : goal.invariant-loop-line
invariant-loop-line l =
    bytes_of l.out.items ≡ bytes_of l.initial.out.items ++ flat_map (late_line (names_of l.threads) l.steps) (map entry (take l.line-index l.lines))
