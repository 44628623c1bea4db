-- What is so of the type and of the words of one store that was read twice.
use Rattle.std.proofs.Common.{◌≡◌, subst}
use Rattle.sto_table.specs.declared.shared.Shared.{Shared}
use Rattle.sto_shared_store.specs.declared.store.Store.{Store}

pub of_one : {T : Type 0} (P : T → Shared T → Type 0) (q r s : Store T) → q ≡ s → r ≡ s → P q.ty r.shared → P s.ty s.shared
of_one P q r s a b h = subst (λ (x : Store _). P x.ty s.shared) a (subst (λ (x : Store _). P q.ty x.shared) b h)
