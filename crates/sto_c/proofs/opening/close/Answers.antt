-- The rows of a store that was closed are told of the store that was to be closed, to which its workers came back.
use Rattle.std.proofs.Common.{subst}
use Rattle.sto_store.specs.declared.objects.Objects.{Objects}
use Rattle.sto_store.specs.contracts.objects.ObjectsNaming.TheImpl.{ghosts as naming_ghosts}
use Rattle.sto_shared_store.specs.declared.owned_store.OwnedStore.{OwnedStore}
use Rattle.sto_shared_store.specs.Endings.{HasGathered}
use Rattle.sto_c.specs.Content.{objects}
use Rattle.sto_c.proofs.opening.close.Goals as goal

pub returns-in-Ok-all_rows-clause-closed : goal.returns-in-Ok-all_rows-clause-closed
returns-in-Ok-all_rows-clause-closed c =
    let back = c.gather.ensures.gathered in
    record {
      state = c.in-Ok.state.items;
      many = back.0;
      last = c.gather.new.self;
      gathered = subst (λ (o : OwnedStore Objects naming_ghosts). HasGathered objects back.0 o c.gather.new.self) c.into_parts-store.ensures.0 back.1;
      own = c.gather.ensures.owned.rest;
      all = c.in-Ok.ensures.all;
      leave = c.in-Ok.ensures.rows;
      history = c.in-Ok.ensures.history;
      told = c.in-Ok-all_rows.ensures;
    }
