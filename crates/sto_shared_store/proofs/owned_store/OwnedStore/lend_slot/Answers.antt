-- The slot that the store keeps is one of its own, lent to the worker that is given out.
use Rattle.std.specs.List.{All}
use Rattle.std.specs.Arc.{arc_value}
use Rattle.std.specs.declared.alloc.Global.{Global}
use Rattle.std.specs.declared.sync.Arc.{Arc}
use Rattle.std.proofs.Common.{◌≡◌, List, sym, ap, ◌∙◌, subst}
use Rattle.sto_shared_store.specs.declared.given.Hired.{Hired}
use Rattle.sto_shared_store.proofs.Lists.{All-with}
use Rattle.sto_shared_store.proofs.owned_store.OwnedStore.lend_slot.Goals as goal

pub returns-in-Ok-push-clause-lent : goal.returns-in-Ok-push-clause-lent
returns-in-Ok-push-clause-lent g c =
    record { slot = c.in-Ok-try_clone.kept; to = c.in-Ok-try_clone.ensures ∙ c.in-Ok.ensures.ok ∙ c.new.ensures; slots = c.in-Ok-push.ensures.ok }

pub returns-in-Ok-push-clause-owned : goal.returns-in-Ok-push-clause-owned
returns-in-Ok-push-clause-owned g c =
    let H : Type 0 = Hired g.row.T.Denot g.T.Naming in
    let A : Type 0 = Arc H Global in
    let Q : A → Type 0 = λ a. arc_value (arc_value a).store ≡ arc_value c.args.self.now.store in
    let own : Q c.in-Ok-try_clone.kept = ap (λ (h : H). arc_value h.store) (c.in-Ok-try_clone.ensures ∙ c.in-Ok.ensures.ok ∙ c.new.ensures) ∙ c.requires.home in
    record {
      rest = c.requires.owned.rest;
      home = subst (λ (l : List A). All Q l) (sym c.in-Ok-push.ensures.ok) (All-with Q c.args.self.now.slots.items c.in-Ok-try_clone.kept c.requires.owned.home own);
    }
