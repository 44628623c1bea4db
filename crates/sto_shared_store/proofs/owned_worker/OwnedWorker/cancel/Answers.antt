-- It is of the same store as before, and knows what it knew.
use Rattle.std.proofs.Common.{Option, sym, ◌∙◌, subst}
use Rattle.std.specs.Arc.{arc_value}
use Rattle.sto_type.specs.Traits.{of_type}
use Rattle.sto_table.specs.declared.shared.Shared.{Shared}
use Rattle.sto_interactive.specs.declared.session.Session.{Session}
use Rattle.sto_interactive.specs.Steps.{HasEndedBy, HasCancelledAfter}
use Rattle.sto_shared_store.specs.Owned.{IsAt, view_at}
use Rattle.sto_shared_store.proofs.Same.{of_one}
use Rattle.sto_shared_store.proofs.Since.{cancelled_since}
use Rattle.sto_shared_store.proofs.owned_worker.OwnedWorker.cancel.Goals as goal

pub returns-clause-worker : goal.returns-clause-worker
returns-clause-worker g c =
    let t = of_type g.T.Naming g.T.TxType in
    let s = arc_value c.args.self.now.store in
    let v = view_at c.args.self.now.slot in
    let x = c.in-Some.session in
    let before = subst (λ (o : Option (Session g.row.T.Denot g.T.Naming)). IsAt t s v o) (sym c.replace.ensures.value ∙ c.in-Some.is) c.requires.at in
    record {
      at = cancelled_since t s v x c.cancel-session.result.0 c.cancel-session.result.1 before
          (of_one (λ (y : g.row.T.Denot) (z : Shared g.row.T.Denot). HasEndedBy t y z x c.cancel-session.result.1 c.cancel-session.result.0 (HasCancelledAfter t y z)) c.deref.result.now c.deref-2.result.now s c.deref.ensures c.deref-2.ensures c.cancel-session.ensures);
      home = c.requires.home;
    }
