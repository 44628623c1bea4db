use Rattle.std.specs.List.{All}
use Rattle.std.proofs.Common.{◌≡◌, [], sym, subst}
use Rattle.sto_core.specs.declared.view.View.{View}
use Rattle.sto_library.proofs.Opened.{all_fresh_new}
use Rattle.sto_library.proofs.schema.Schema.open.Goals as goal

pub returns-in-Ok-clause-fresh : goal.returns-in-Ok-clause-fresh
returns-in-Ok-clause-fresh c = subst (All (λ (v : View). v.entries ≡ [])) (sym c.new.ensures.2) (all_fresh_new c.in-Ok.field-0.workers.items c.in-Ok.ensures.fresh)
