use Rattle.std.proofs.Common.{◌≡◌, ◌++◌, take, map, string_bytes}
use Rattle.std.specs.List.{flat_map, AllWithin}
use Rattle.sto_lang.specs.Views.{names_of}
use Rattle.sto_report_spec.specs.Report.{line_text}
use Rattle.sto_report_spec.specs.Short.{IsShortEntry}
use Rattle.sto_journal.specs.Journals.{entry}
use Rattle.sto_journal.proofs.line.push_lines.Given as goal

abbrev pub invariant-loop-line : goal.invariant-loop-line
invariant-loop-line l = (string_bytes l.out ≡ string_bytes l.initial.out ++ flat_map (line_text (names_of l.threads)) (map entry (take l.line-index l.lines)))
    × AllWithin (λ m. IsShortEntry (names_of l.threads) (entry m)) l.lines 0 l.line-index
