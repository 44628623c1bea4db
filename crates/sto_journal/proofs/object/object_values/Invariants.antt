use Rattle.std.proofs.Common.{◌≡◌, take, map}
use Rattle.std.specs.List.{AllWithin}
use Rattle.serde_json.specs.View.{view}
use Rattle.sto_lang.specs.Views.{declaration}
use Rattle.sto_report_spec.specs.Json.{object_data}
use Rattle.sto_journal.proofs.object.object_values.Given as goal

abbrev pub invariant-loop-decl : goal.invariant-loop-decl
invariant-loop-decl l = (map view l.items.items ≡ map (object_data l.state.items) (map declaration (take l.decl-index l.decls)))
