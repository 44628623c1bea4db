use Rattle.std.proofs.Common.{◌≡◌, ◌++◌, take, map, string_bytes}
use Rattle.std.specs.List.{flat_map, AllWithin}
use Rattle.sto_lang.specs.Views.{declaration, names_of}
use Rattle.sto_report_spec.specs.Report.{abort_text}
use Rattle.sto_report_spec.specs.Short.{IsShortAbort}
use Rattle.sto_journal.specs.Journals.{abort}
use Rattle.sto_journal.proofs.abort.push_aborts.Given as goal

abbrev pub invariant-loop-line : goal.invariant-loop-line
invariant-loop-line l = (string_bytes l.out ≡ string_bytes l.initial.out ++ flat_map (abort_text (names_of l.threads)) (map (abort (map declaration l.decls)) (take l.line-index l.lines)))
    × AllWithin (λ m. IsShortAbort (names_of l.threads) (abort (map declaration l.decls) m)) l.lines 0 l.line-index
