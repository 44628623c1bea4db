use Rattle.std.proofs.Common.{◌≡◌, take, map}
use Rattle.std.specs.List.{AllWithin}
use Rattle.serde_json.specs.View.{view}
use Rattle.sto_lang.specs.Views.{declaration, names_of}
use Rattle.sto_report_spec.specs.Json.{abort_data}
use Rattle.sto_report_spec.specs.Short.{IsShortAbort}
use Rattle.sto_journal.specs.Journals.{abort}
use Rattle.sto_journal.proofs.object.abort_values.Given as goal

abbrev pub invariant-loop-line : goal.invariant-loop-line
invariant-loop-line l = (map view l.items.items ≡ map (abort_data (names_of l.threads)) (map (abort (map declaration l.decls)) (take l.line-index l.lines)))
    × AllWithin (λ m. IsShortAbort (names_of l.threads) (abort (map declaration l.decls) m)) l.lines 0 l.line-index
