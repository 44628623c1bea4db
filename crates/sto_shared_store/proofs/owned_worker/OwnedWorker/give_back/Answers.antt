-- It is in no transaction, and as it was.
use Rattle.std.proofs.Common.{◌≡◌, ◌≢◌, Bool, true, false, true≢false, Option, Some, None, refl, sym, ap, ◌∙◌, subst}
use Rattle.sto_part.specs.declared.naming.Naming as naming
use Rattle.std.specs.Prelude.{is_some, IfSome}
use Rattle.std.specs.Arc.{arc_value}
use Rattle.sto_type.specs.Traits.{of_type}
use Rattle.sto_shared_store.specs.declared.worker.CountedRest.{CountedRest}
use Rattle.sto_interactive.specs.declared.session.Session.{Session}
use Rattle.sto_interactive.specs.Steps.{IsUnchanged}
use Rattle.sto_shared_store.specs.declared.given.Hired.{Hired}
use Rattle.sto_shared_store.specs.Owned.{Leads, IsAt, view_at}
use Rattle.sto_shared_store.proofs.Since.{unchanged_since, comes_back}
use Rattle.sto_interactive.specs.Sessions.{live_of}
use Rattle.sto_shared_store.proofs.owned_worker.OwnedWorker.give_back.Goals as goal

not_some : {X : Type 0} (o : Option X) → is_some o ≡ false → o ≡ None
not_some None e = refl
not_some (Some x) e = cc

is_in : {X : Type 0} (b : Bool) (o : Option X) → b ≡ true → b ≡ is_some o → o ≢ None
is_in b None on same e = true≢false (sym on ∙ same)
is_in b (Some x) on same e = true≢false (ap is_some e)

in_transaction : {T : Type 0} {n : naming.Ghosts T} (b : Bool) (o : Option (Session T n)) → b ≡ true → IfSome o (λ x. b ≡ is_some (live_of x)) → IfSome o (λ x. live_of x ≢ None)
in_transaction b None on h = tt
in_transaction b (Some x) on h = is_in b (live_of x) on h

pub returns-then-is_in_transaction-clause-worker : goal.returns-then-is_in_transaction-clause-worker
returns-then-is_in_transaction-clause-worker g c = c.requires

pub returns-then-is_in_transaction-clause-out : goal.returns-then-is_in_transaction-clause-out
returns-then-is_in_transaction-clause-out g c = (refl, in_transaction c.is_in_transaction.result c.args.self.session c.if-is_in_transaction.true c.is_in_transaction.ensures)

-- what comes back is what was given out, and knows more
pub give-requires : goal.give-requires
give-requires g c =
    let t = of_type g.T.Naming g.T.TxType in
    let s = arc_value c.args.self.store in
    let v = view_at c.args.self.slot in
    let x = c.in-Some.session in
    let told : c.is_in_transaction.result ≡ is_some (live_of x) =
    subst (λ (o : Option (Session g.row.T.Denot g.T.Naming)). IfSome o (λ z. c.is_in_transaction.result ≡ is_some (live_of z))) c.in-Some.is c.is_in_transaction.ensures in
    let free : live_of x ≡ None = not_some (live_of x) (sym told ∙ c.if-is_in_transaction.false) in
    let at : IsAt t s v (Some x) = subst (λ (o : Option (Session g.row.T.Denot g.T.Naming)). IsAt t s v o) c.in-Some.is c.requires.at in
    comes_back t s v c.deref.result.now x _ (ap (λ (h : Hired g.row.T.Denot g.T.Naming). arc_value h.store) c.deref.ensures ∙ c.requires.home)
    (ap (λ (h : Hired g.row.T.Denot g.T.Naming). h.worker.rest.seat.me.0.view) c.deref.ensures) c.idle_of-worker.ensures.worker.0 free at

pub returns-in-Ok-clause-free : goal.returns-in-Ok-clause-free
returns-in-Ok-clause-free g c =
    let x = c.in-Some.session in
    let told : c.is_in_transaction.result ≡ is_some (live_of x) =
    subst (λ (o : Option (Session g.row.T.Denot g.T.Naming)). IfSome o (λ z. c.is_in_transaction.result ≡ is_some (live_of z))) c.in-Some.is c.is_in_transaction.ensures in
    subst (λ (o : Option (Session g.row.T.Denot g.T.Naming)). IfSome o (λ z. live_of z ≡ None)) (sym c.in-Some.is) (not_some (live_of x) (sym told ∙ c.if-is_in_transaction.false))

pub returns-in-Err-clause-worker : goal.returns-in-Err-clause-worker
returns-in-Err-clause-worker g c =
    let t = of_type g.T.Naming g.T.TxType in
    let s = arc_value c.args.self.store in
    let x = c.in-Some.session in
    let y = c.new.result in
    let told : c.is_in_transaction.result ≡ is_some (live_of x) =
    subst (λ (o : Option (Session g.row.T.Denot g.T.Naming)). IfSome o (λ z. c.is_in_transaction.result ≡ is_some (live_of z))) c.in-Some.is c.is_in_transaction.ensures in
    let free : live_of x ≡ None = not_some (live_of x) (sym told ∙ c.if-is_in_transaction.false) in
    let rest : y.rest ≡ x.rest = c.new.ensures.rest ∙ ap (λ (w : CountedRest g.row.T.Denot g.T.Naming). w.rest) c.in-Err.ensures ∙ c.idle_of-worker.ensures.worker.0 in
    let left : y.left ≡ x.left = c.new.ensures.left ∙ ap (λ (w : CountedRest g.row.T.Denot g.T.Naming). w.left) c.in-Err.ensures ∙ c.idle_of-worker.ensures.worker.1 in
    let v = view_at c.args.self.slot in
    let at : IsAt t s v (Some x) = subst (λ (o : Option (Session g.row.T.Denot g.T.Naming)). IsAt t s v o) c.in-Some.is c.requires.at in
    record {
      at = unchanged_since t s v x y (rest, left, rw (c.new.ensures.room, c.idle_of-worker.ensures.room) refl) at;
      home = c.requires.home;
    }

pub returns-in-Err-clause-out : goal.returns-in-Err-clause-out
returns-in-Err-clause-out g c =
    let x = c.in-Some.session in
    let y = c.new.result in
    let told : c.is_in_transaction.result ≡ is_some (live_of x) =
    subst (λ (o : Option (Session g.row.T.Denot g.T.Naming)). IfSome o (λ z. c.is_in_transaction.result ≡ is_some (live_of z))) c.in-Some.is c.is_in_transaction.ensures in
    let free : live_of x ≡ None = not_some (live_of x) (sym told ∙ c.if-is_in_transaction.false) in
    let rest : y.rest ≡ x.rest = c.new.ensures.rest ∙ ap (λ (w : CountedRest g.row.T.Denot g.T.Naming). w.rest) c.in-Err.ensures ∙ c.idle_of-worker.ensures.worker.0 in
    let left : y.left ≡ x.left = c.new.ensures.left ∙ ap (λ (w : CountedRest g.row.T.Denot g.T.Naming). w.left) c.in-Err.ensures ∙ c.idle_of-worker.ensures.worker.1 in (
      refl,
      refl,
      subst (λ (o : Option (Session g.row.T.Denot g.T.Naming)). Leads IsUnchanged o (Some y)) (sym c.in-Some.is) (rest, left, rw (c.new.ensures.room, c.idle_of-worker.ensures.room) refl),
      subst (λ (o : Option (Session g.row.T.Denot g.T.Naming)). IfSome o (λ z. live_of z ≡ None)) (sym c.in-Some.is) free,
    )
