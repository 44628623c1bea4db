use Rattle.std.proofs.Common.{rules, ◌≡◌, map, length, ℕ, List, [], ◌∷◌, ◌++◌, sum_by, sym, ap, ◌∙◌, subst, arith, append-nil}
use Rattle.std.specs.List.{All}
use Rattle.std.proofs.lemmas.List.{map-append}
use Rattle.std.proofs.lemmas.List.Elements.{All-append}
use Rattle.sto_core.specs.declared.view.View.{View}
use Rattle.sto_run_threads.specs.Accounts.{HasGathered}
use Rattle.sto_run_threads.proofs.Accounts.{gathered_moved}
use Rattle.sto_table.specs.declared.taken.Taken.{Taken}
use Rattle.sto_table.specs.declared.numbers.Claimer.{Claimer}
use Rattle.sto_table.specs.declared.shared.Rest.{Rest}
use Rattle.sto_run_threads.specs.declared.worker.ScriptWorker.{ScriptWorker}
use Rattle.sto_run_threads.specs.Teams.{IsReady, IsHired, view_at, IsNew}
use Rattle.sto_run_threads.proofs.Claiming.{all_one, snoc_last, snoc_sum, snoc_length}
use Rattle.sto_run_threads.proofs.all.hire.Goals as goal

pub loop-rest-preserved : goal.loop-rest-preserved
loop-rest-preserved g c =
    let plan = g.W.Work.plan c.args.work.now in
    let inv = c.loop-rest.invariant in
    let rests : c.loop-rest.rests.items ≡ c.pop.new.self.items ++ c.in-Some.rest ∷ [] = search rules in
    let claimers : c.loop-rest.claimers.items ≡ c.pop-in-Some.new.self.items ++ c.in-Some-pop.claimer ∷ [] = search rules in
    let P : Rest g.row.T.Denot g.T.Naming → Type 0 = IsReady c.args.shared.now plan in
    let Q : Claimer → Type 0 = IsNew c.args.claims.now in
    let H : ScriptWorker g.row.T.Denot g.T.Naming → Type 0 = IsHired c.args.shared.now c.args.claims.now plan in
    let r = snoc_last P c.pop.new.self.items c.in-Some.rest (subst (All P) rests inv.ready) in
    let k = snoc_last Q c.pop-in-Some.new.self.items c.in-Some-pop.claimer (subst (All Q) claimers inv.new) in
    let w : ScriptWorker g.row.T.Denot g.T.Naming = record { rest = c.in-Some.rest; claimer = c.in-Some-pop.claimer } in
    let pushed : c.push.new.self.items ≡ c.loop-rest.workers.items ++ w ∷ [] = c.in-Ok.ensures.items in
    let a = ap length rests ∙ snoc_length c.pop.new.self.items c.in-Some.rest in
    let b = ap length claimers ∙ snoc_length c.pop-in-Some.new.self.items c.in-Some-pop.claimer in
    let many = inv.many in let all = inv.all in let len = c.in-Ok.ensures.len in
    let V : ScriptWorker g.row.T.Denot g.T.Naming → View = λ v. view_at v.rest in
    let U : Rest g.row.T.Denot g.T.Naming → View = view_at in
    let S : ScriptWorker g.row.T.Denot g.T.Naming → ℕ = λ v. v.claimer.seat.me.0.seats in
    let p = ap (map V) pushed ∙ map-append V c.loop-rest.workers.items (w ∷ []) in
    let q = ap (map U) rests ∙ map-append U c.pop.new.self.items (c.in-Some.rest ∷ []) in
    let t = ap (sum_by S) pushed ∙ snoc_sum S c.loop-rest.workers.items w in
    let one = ap (λ (v : Taken). v.seats) k.1.1 in
    let seats = inv.seats in
    record {
      many = omega (arith, a, b, many);
      ready = r.0;
      new = k.0;
      hired = subst (All H) (sym pushed) (All-append H c.loop-rest.workers.items (w ∷ []) inv.hired (all_one H w (record { ready = r.1; new = k.1 })));
      all = omega (arith, a, all, len);
      gathered = λ need u rs h. inv.gathered need u rs
          (subst (λ (l : List View). HasGathered need (map V c.loop-rest.workers.items ++ l) u rs) (sym q)
          (gathered_moved need (map V c.loop-rest.workers.items) (map U c.pop.new.self.items) (view_at c.in-Some.rest) u rs
          (subst (λ (l : List View). HasGathered need (l ++ map U c.pop.new.self.items) u rs) p h)));
      seats = omega (arith, t, b, one, seats);
    }

pub returns-clause-gathered : goal.returns-clause-gathered
returns-clause-gathered g c = λ need w rs h.
    let V : ScriptWorker g.row.T.Denot g.T.Naming → View = λ v. view_at v.rest in
    let U : Rest g.row.T.Denot g.T.Naming → View = view_at in
    let none : map U c.loop-rest.rests.items ≡ [] = ap (map U) c.in_default.ensures.0 in
    c.loop-rest.invariant.gathered need w rs
    (subst (λ (l : List View). HasGathered need (map V c.loop-rest.workers.items ++ l) w rs) (sym none)
    (subst (λ (l : List View). HasGathered need l w rs) (sym (append-nil (map V c.loop-rest.workers.items))) h))
