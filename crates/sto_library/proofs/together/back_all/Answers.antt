use Rattle.std.specs.List.{All}
use Rattle.std.proofs.Common.{rules, ◌≡◌, [], ◌∷◌, ◌++◌, Some, sym, ◌∙◌, subst}
use Rattle.std.proofs.lemmas.List.Elements.{All-pop}
use Rattle.sto_core.specs.declared.view.View.{View}
use Rattle.sto_type.specs.Traits.{of_type}
use Rattle.sto_shared_store.specs.declared.store.Store.{Store as Words}
use Rattle.sto_shared_store.specs.declared.worker.CountedRest.{CountedRest}
use Rattle.sto_library.specs.Values.{Serves}
use Rattle.sto_library.proofs.SideBySide.{next_back}
use Rattle.sto_library.proofs.together.back_all.Goals as goal

pub back-requires : goal.back-requires
back-requires g c =
    let t = of_type g.T.Naming g.T.TxType in
    let P : CountedRest g.row.T.Denot g.T.Naming → Type 0 = λ w. Serves t c.args.store.now.words w.rest.seat in
    let all : c.loop-worker.workers.items ≡ c.pop.new.self.items ++ c.in-Some.worker ∷ [] = search rules in
    let i = c.loop-worker.invariant in
    subst (λ (o : Words g.row.T.Denot). Serves t o c.in-Some.worker.rest.seat) (sym i.same.0) (All-pop P c.loop-worker.workers.items c.pop.new.self.items (Some c.in-Some.worker) all i.serve).1

pub loop-worker-preserved : goal.loop-worker-preserved
loop-worker-preserved g c =
    let t = of_type g.T.Naming g.T.TxType in
    let V : CountedRest g.row.T.Denot g.T.Naming → View = λ w. w.rest.seat.me.0.view in
    let P : CountedRest g.row.T.Denot g.T.Naming → Type 0 = λ w. Serves t c.args.store.now.words w.rest.seat in
    let all : c.loop-worker.workers.items ≡ c.pop.new.self.items ++ c.in-Some.worker ∷ [] = search rules in
    let i = c.loop-worker.invariant in
    record {
      same = search rules;
      serve = (All-pop P c.loop-worker.workers.items c.pop.new.self.items (Some c.in-Some.worker) all i.serve).0;
      more = next_back V c.loop-worker.store.views c.back.new.self.views c.loop-worker.workers.items c.pop.new.self.items c.in-Some.worker all (search rules) ∙ i.more;
    }
