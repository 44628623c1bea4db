-- The worker is the one that rested last.
use Rattle.std.proofs.Common.{◌∷◌, ◌++◌, [], sym, ap, ◌∙◌}
use Rattle.std.specs.Arc.{arc_value}
use Rattle.sto_part.specs.Listed.{Listed}
use Rattle.sto_shared_store.specs.declared.worker.CountedRest.{CountedRest}
use Rattle.sto_shared_store.proofs.owned_store.OwnedStore.hire.Goals as goal

pub returns-in-Ok-lend_slot-clause-out : goal.returns-in-Ok-lend_slot-clause-out
returns-in-Ok-lend_slot-clause-out g c =
    let lent = c.in-Ok-lend_slot.ensures.lent in
    record {
      hired = record { store = c.in-Ok.store; worker = c.in-Some.worker };
      idle = c.in-Some.ensures.0 ∙ ap (λ (l : Listed (CountedRest g.row.T.Denot g.T.Naming)). l.items ++ c.in-Some.worker ∷ []) (sym c.lend_slot.ensures.kept.1);
      lent = record { slot = lent.slot; to = lent.to; slots = lent.slots };
      slot = ap arc_value c.new-in-Ok-lend_slot.ensures.store.1 ∙ c.in-Ok-lend_slot.ensures.slot;
      session = c.new-in-Ok-lend_slot.ensures.session;
    }
