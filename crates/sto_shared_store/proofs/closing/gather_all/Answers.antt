use Rattle.std.proofs.Common.{rules, ◌≡◌, [], ◌∷◌, ◌++◌, Some, length, ap, sym, ◌∙◌, subst, arith, length-append}
use Rattle.std.proofs.lemmas.List.Elements.{All-pop}
use Rattle.sto_core.specs.declared.view.View.{View}
use Rattle.sto_transaction.specs.Resting.{IsAtRest}
use Rattle.sto_shared_store.specs.declared.worker.CountedRest.{CountedRest}
use Rattle.sto_shared_store.specs.Working.{IsWorker}
use Rattle.sto_transaction.proofs.Resting.{gathered_rests}
use Rattle.sto_shared_store.proofs.Gathered.{gathered_next}
use Rattle.sto_shared_store.proofs.closing.gather_all.Goals as goal

pub loop-other-preserved : goal.loop-other-preserved
loop-other-preserved g c =
    let m = g.T.TxType.meaning c.args.ty.now in let sizes = g.T.Naming.sizes c.args.ty.now in
    let W : Type 0 = CountedRest g.row.T.Denot g.T.Naming in
    let P : W → Type 0 = λ w. IsWorker {T = g.row.T.Denot} m sizes c.args.shared.now w.rest.seat in
    let V : W → View = λ w. w.rest.seat.me.0.view in
    let all : c.loop-other.others.items ≡ c.pop.new.self.items ++ c.in-Some.other ∷ [] = search rules in
    let inv = c.loop-other.invariant in
    let both = All-pop P c.loop-other.others.items c.pop.new.self.items (Some c.in-Some.other) all inv.others in
    let view = c.gather-rest.ensures.view in
    record {
      worker = record {
        of = c.gather-rest.ensures.of;
        rests = subst (IsAtRest m sizes) (sym view) (gathered_rests m sizes _ _ inv.worker.rests both.1.rests);
      };
      others = both.0;
      view = gathered_next V c.loop-other.others.items c.pop.new.self.items c.in-Some.other c.loop-other.rest.seat.me.0.view _ all view ∙ inv.view;
      gathered = omega (arith, inv.gathered, ap (λ (v : View). v.gathered) view, c.in-Some.other.one, ap length all, length-append c.pop.new.self.items (c.in-Some.other ∷ []));
    }
