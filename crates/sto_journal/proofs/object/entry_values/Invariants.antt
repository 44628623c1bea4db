use Rattle.std.proofs.Common.{◌≡◌, take, map}
use Rattle.std.specs.List.{AllWithin}
use Rattle.serde_json.specs.View.{view}
use Rattle.sto_lang.specs.Views.{names_of}
use Rattle.sto_report_spec.specs.Json.{entry_data}
use Rattle.sto_report_spec.specs.Short.{IsShortEntry}
use Rattle.sto_journal.specs.Journals.{entry}
use Rattle.sto_journal.proofs.object.entry_values.Given as goal

abbrev pub invariant-loop-line : goal.invariant-loop-line
invariant-loop-line l = (map view l.items.items ≡ map (entry_data (names_of l.threads)) (map entry (take l.line-index l.lines)))
    × AllWithin (λ m. IsShortEntry (names_of l.threads) (entry m)) l.lines 0 l.line-index
