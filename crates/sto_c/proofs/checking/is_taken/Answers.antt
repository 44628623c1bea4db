-- The objects tell it.
use Rattle.std.proofs.Common.{◌↔◌, IsTrue, subst}
use Rattle.sto_store.specs.declared.objects.Objects.{Objects}
use Rattle.sto_shared_store.specs.declared.store.Store.{Store}
use Rattle.sto_c.specs.Content.{objects}
use Rattle.sto_c.specs.Calls.{Takes}
use Rattle.sto_c.proofs.Asking.{by_test}
use Rattle.sto_c.proofs.checking.is_taken.Goals as goal

pub returns : goal.returns
returns c =
    let call = c.args.call.now in
    by_test c.takes.result (Takes c.args.held.now call) (subst (λ (s : Store Objects). IsTrue c.takes.result ↔ (objects.meaning s.ty).takes call) c.deref.ensures c.takes.ensures)
