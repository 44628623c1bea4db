use Rattle.std.specs.Prelude.{IfOk}
use Rattle.std.proofs.Common.{rules, ◌≡◌, List, ◌++◌, ◌∷◌, [], Some, map, sym, ap, ◌∙◌, subst}
use Rattle.std.proofs.lemmas.List.{map-append}
use Rattle.std.proofs.lemmas.List.Elements.{All-pop}
use Rattle.std.proofs.lemmas.Result.{IfOk-weaker}
use Rattle.sto_core.specs.declared.view.View.{View}
use Rattle.sto_history.specs.Done.{AreAllDone, AreDoneBy}
use Rattle.sto_shared_store.specs.declared.worker.CountedRest.{CountedRest}
use Rattle.sto_shared_store.specs.Working.{IsWorker}
use Rattle.sto_shared_store.proofs.Gathered.{gathered_doings}
use Rattle.sto_shared_store.proofs.store.Store.close.Goals as goal

pub gather_all-rest-requires-clause-others : goal.gather_all-rest-requires-clause-others
gather_all-rest-requires-clause-others g c =
    let m = g.T.TxType.meaning c.args.self.ty in let sizes = g.T.Naming.sizes c.args.self.ty in
    let P : CountedRest g.row.T.Denot g.T.Naming → Type 0 = λ w. IsWorker {T = g.row.T.Denot} m sizes c.args.self.shared w.rest.seat in
    let all : c.args.workers.items ≡ c.pop.new.self.items ++ c.in-Some.last ∷ [] = search rules in
    (All-pop P c.args.workers.items c.pop.new.self.items (Some c.in-Some.last) all c.requires).0

pub returns-in-Ok-clause-history : goal.returns-in-Ok-clause-history
returns-in-Ok-clause-history g c = λ ts done.
    let m = g.T.TxType.meaning c.args.self.ty in
    let V : CountedRest g.row.T.Denot g.T.Naming → View = λ w. w.rest.seat.me.0.view in
    let all : c.args.workers.items ≡ c.pop.new.self.items ++ c.in-Some.last ∷ [] = search rules in
    let views : map V c.args.workers.items ≡ map V c.pop.new.self.items ++ V c.in-Some.last ∷ [] = ap (map V) all ∙ map-append V c.pop.new.self.items (c.in-Some.last ∷ []) in
    let gathered = gathered_doings m (map V c.pop.new.self.items) (V c.in-Some.last) ts (subst (λ (l : List View). AreDoneBy m l ts) views done) in
    c.in-Ok.ensures.history ts (subst (λ (v : View). AreAllDone m v ts) (sym c.gather_all-rest.ensures.view) gathered)
