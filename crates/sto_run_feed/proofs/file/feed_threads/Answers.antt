use Rattle.std.proofs.Common.{◌≡◌, map, length, ℕ, List, [], subst, sym, ap, ◌∙◌, arith}
use Rattle.std.proofs.lemmas.List.{length-map}
use Rattle.std.proofs.lemmas.Result.{IfOk-weaker}
use Rattle.sto_table.specs.declared.shared.Rest.{Rest}
use Rattle.sto_table.specs.Openings.{opened_down}
use Rattle.sto_table.specs.Rests.{IsOf}
use Rattle.sto_serializability.proofs.Chains.{every}
use Rattle.sto_serializability.proofs.Pairs.{all_of}
use Rattle.sto_run_threads.specs.Accounts.{HasAll}
use Rattle.sto_run_threads.specs.Teams.{IsReady, view_at}
use Rattle.sto_run_threads.proofs.Accounts.{opened_new, opened_all}
use Rattle.sto_run_threads.proofs.Scripts.{aborts_none_through}
use Rattle.sto_run_threads.proofs.Opened.{all_ready}
use Rattle.sto_run_threads.specs.Plans.{draws_of}
use Rattle.sto_run_threads.specs.Told.{told_in}
use Rattle.sto_run_feed.proofs.file.feed_threads.Goals as goal

pub open-requires-clause-valid : goal.open-requires-clause-valid
open-requires-clause-valid g c = c.requires.opens.lawful

pub serve_all-requires-clause-some : goal.serve_all-requires-clause-some
serve_all-requires-clause-some g c =
    let o = c.in_ok-shared.field-0 in
    let n = opened_new (g.T.Naming.sizes c.args.ty.now) c.args.contents.now.items c.args.workers in
    let a = ap length c.in_ok-shared.ensures.views in let k = n.many in
    let l = length-map o.rests.items (λ (r : Rest g.row.T.Denot g.T.Naming). view_at r) in
    let some = c.requires.workers.0 in omega (arith, k, some, a, l)

pub serve_all-requires-clause-rests : goal.serve_all-requires-clause-rests
serve_all-requires-clause-rests g c =
    let o = c.in_ok-shared.field-0 in
    let plan = g.W.Work.plan c.args.work.now in
    let opens = c.requires.opens in let few = opens.few in
    let views = subst (λ (l : List ℕ). map view_at o.rests.items ≡ opened_down l c.args.contents.now.items c.args.workers) opens.sized c.in_ok-shared.ensures.views in
    let all = all_of (IsReady o.shared plan) o.rests.items (all_ready o.shared plan c.args.contents.now.items o.rests.items c.args.workers opens.opened (omega (arith, few)) views
    (every (λ (r : Rest g.row.T.Denot g.T.Naming). IsOf {T = g.row.T.Denot} o.shared r.seat) o.rests.items c.in_ok-shared.ensures.of)) in
    λ κs within. all

pub run_rest-requires-clause-made : goal.run_rest-requires-clause-made
run_rest-requires-clause-made g c = c.in_ok-worked.ensures.worked.made

pub run_rest-requires-clause-all : goal.run_rest-requires-clause-all
run_rest-requires-clause-all g c =
    let need = draws_of (g.W.Work.plan c.args.work.now) in
    let v = view_at c.in_ok-worked.worked.rest in let rs = told_in c.in_ok-worked.worked.records in
    subst (λ (n : ℕ). HasAll need n v rs) (sym c.in_ok-shared.ensures.shared.0)
    (opened_all need (g.T.Naming.sizes c.args.ty.now) c.args.contents.now.items c.args.workers _ v rs c.in_ok-shared.ensures.views c.requires.workers.0 c.requires.opens.few c.in_ok-worked.ensures.worked.gathered)

pub returns-clause-alone : goal.returns-clause-alone
returns-clause-alone g c =
    IfOk-weaker c.run_rest.result _ _
    (λ e none one. aborts_none_through [] (told_in c.in_ok-worked.worked.records) (told_in e.records)
    (c.in_ok-worked.ensures.worked.alone (c.in_ok-shared.ensures.shared.0 ∙ one)) none) c.run_rest.ensures.none
