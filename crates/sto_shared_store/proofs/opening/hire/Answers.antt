use Rattle.std.specs.Prelude.{◌^◌}
use Rattle.std.specs.List.{All}
use Rattle.std.proofs.Common.{◌≡◌, [], ◌∷◌, ◌++◌, sym, subst, arith}
use Rattle.std.proofs.lemmas.List.Elements.{All-push, All-pop}
use Rattle.std.proofs.Common.{Some, refl, rules}
use Rattle.sto_table.specs.declared.shared.Rest.{Rest}
use Rattle.sto_shared_store.specs.declared.worker.CountedRest.{CountedRest}
use Rattle.sto_shared_store.proofs.Gathered.{one_longer}
use Rattle.sto_shared_store.specs.Working.{IsFresh}
use Rattle.sto_shared_store.proofs.opening.hire.Goals as goal

pub loop-rest-preserved : goal.loop-rest-preserved
loop-rest-preserved g c =
    let m = g.T.TxType.meaning c.args.ty.now in let sizes = g.T.Naming.sizes c.args.ty.now in
    let P : Rest g.row.T.Denot g.T.Naming → Type 0 = λ r. IsFresh {T = g.row.T.Denot} m sizes c.args.shared.now r.seat in
    let Q : CountedRest g.row.T.Denot g.T.Naming → Type 0 = λ w. IsFresh {T = g.row.T.Denot} m sizes c.args.shared.now w.rest.seat in
    let L : CountedRest g.row.T.Denot g.T.Naming → Type 0 = λ w. w.left ≡ 2 ^ 40 in
    let all : c.loop-rest.rests.items ≡ c.pop.new.self.items ++ c.in-Some.rest ∷ [] = search rules in
    let inv = c.loop-rest.invariant in
    let both = All-pop P c.loop-rest.rests.items c.pop.new.self.items (Some c.in-Some.rest) all inv.fresh in
    let made = c.in_ok-push.ensures.ok in
    record {
      fresh = both.0;
      made = subst (All Q) (sym made) (All-push Q c.loop-rest.workers.items _ inv.made both.1);
      left = subst (All L) (sym made) (All-push L c.loop-rest.workers.items _ inv.left refl);
      many = (let a = one_longer _ _ _ all in let b = one_longer _ _ _ made in let n = inv.many in omega (arith, a, b, n));
    }
