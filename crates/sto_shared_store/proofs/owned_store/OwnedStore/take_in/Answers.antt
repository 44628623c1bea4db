-- What lies in a slot of the store is the worker that was given out with it.
use Rattle.std.specs.List.{All}
use Rattle.std.proofs.Common.{◌≡◌, List, refl, sym, ap, ◌∙◌, subst, inr}
use Rattle.std.specs.Arc.{arc_value}
use Rattle.std.specs.declared.alloc.Global.{Global}
use Rattle.std.specs.declared.sync.Arc.{Arc}
use Rattle.sto_part.specs.Listed.{Listed}
use Rattle.sto_shared_store.specs.declared.store.Store.{Store}
use Rattle.sto_shared_store.specs.declared.worker.CountedRest.{CountedRest}
use Rattle.sto_shared_store.specs.Working.{IsWorker}
use Rattle.sto_shared_store.specs.declared.given.Hired.{Hired}
use Rattle.sto_shared_store.specs.Back.{HasComeBack}
use Rattle.sto_shared_store.proofs.Lists.{All-at, All-with, All-without}
use Rattle.sto_shared_store.proofs.owned_store.OwnedStore.take_in.Goals as goal

pub returns-in-Some-clause-owned : goal.returns-in-Some-clause-owned
returns-in-Some-clause-owned g c =
    let T : Type 0 = g.row.T.Denot in
    let H : Type 0 = Hired T g.T.Naming in
    let old = c.args.self.now in
    let s = arc_value old.store in
    let W : Type 0 = CountedRest T g.T.Naming in
    let A : Type 0 = Arc H Global in
    let Of : Store T → W → Type 0 = λ z w. IsWorker {T = T} (g.T.TxType.meaning z.ty) (g.T.Naming.sizes z.ty) z.shared w.rest.seat in
    let Q : A → Type 0 = λ slot. arc_value (arc_value slot).store ≡ s in
    let same : arc_value c.deref.result.now.store ≡ s =
    ap (λ (h : H). arc_value h.store) c.deref.ensures ∙ All-at Q old.slots.items c.args.place c.get.result.now c.get.ensures c.requires.owned.home in
    let own : Of s c.in-Some.worker = subst (λ (z : Store T). Of z c.in-Some.worker) same c.in-Some.ensures.own in
    record {
      rest = subst (λ (l : List W). All (Of s) l) (sym (ap (λ (l : Listed W). l.items) c.push_spare.ensures)) (All-with (Of s) old.idle.items c.in-Some.worker c.requires.owned.rest own);
      home = subst (λ (l : List A). All Q l) (sym (ap (λ (l : Listed A). l.items) c.remove.ensures.rest)) (All-without Q old.slots.items c.args.place c.requires.owned.home);
    }

pub returns-in-Some-clause-taken : goal.returns-in-Some-clause-taken
returns-in-Some-clause-taken g c =
    let T : Type 0 = g.row.T.Denot in
    let H : Type 0 = Hired T g.T.Naming in
    let old = c.args.self.now in
    let s = arc_value old.store in
    let slot = c.get.result.now in
    let W : Type 0 = CountedRest T g.T.Naming in
    let A : Type 0 = Arc H Global in
    let Back : Store T → H → Type 0 = λ z h. HasComeBack {T = T} (g.T.TxType.meaning z.ty) (g.T.Naming.sizes z.ty) z.shared h.worker c.in-Some.worker in
    let Q : A → Type 0 = λ a. arc_value (arc_value a).store ≡ s in
    let here : Back (arc_value (arc_value slot).store) (arc_value slot) = subst (λ (h : H). Back (arc_value h.store) h) c.deref.ensures c.in-Some.ensures in
    inr (record {
      place = c.args.place;
      slot = slot;
      worker = c.in-Some.worker;
      out = c.get.ensures;
      back = subst (λ (z : Store T). Back z (arc_value slot)) (All-at Q old.slots.items c.args.place slot c.get.ensures c.requires.owned.home) here;
      idle = ap (λ (l : Listed W). l.items) c.push_spare.ensures;
      slots = ap (λ (l : Listed A). l.items) c.remove.ensures.rest;
      store = refl;
    })
