use Rattle.std.proofs.Common.{List, ◌++◌, map, length, sym, ap, ◌∙◌, subst}
use Rattle.sto_explore.specs.Legs.{turns_of, schedule_of, AreTold}
use Rattle.sto_explore.specs.Branches.{offer_of, offered}
use Rattle.sto_explore.specs.declared.leg.Leg.{Leg}
use Rattle.sto_explore.proofs.Visiting.{visited, many_ends}
use Rattle.sto_explore.proofs.exploration.visit.Goals as goal

pub offer_all-requires : goal.offer_all-requires
offer_all-requires g c =
    many_ends c.args.order.now c.in_ok-ran.ran.legs.items c.in_ok-ran.ensures.ends ∙ ap (λ (ls : List Leg). length ls) (sym c.as_slice-made.ensures.value)

pub returns-clause-visited : goal.returns-clause-visited
returns-clause-visited g c = λ start ordered.
    let tells = g.R.Runs.tells c.args.runs.now in
    let reports = g.R.Runs.reports c.args.runs.now in
    let made = c.in_ok-ran.ran.legs.items in
    visited start tells reports (g.G.Gathers.holds c.args.found.now) (g.G.Gathers.holds c.add.new.self)
    c.args.decided.items made c.in_ok-all.all.items c.args.left c.args.order.now c.in_ok-ran.ran.report
    (map offer_of c.args.todo.now.items) (map offer_of c.offer_all.new.todo.items)
    ordered c.in_ok-ran.ensures.ends
    (subst (λ (ls : List Leg). AreTold tells (schedule_of ls) (turns_of made)) c.as_slice-first.ensures.value c.in_ok-ran.ensures.told)
    (subst (λ (ls : List Leg). reports (schedule_of ls ++ schedule_of made) c.in_ok-ran.ran.report) c.as_slice-first.ensures.value c.in_ok-ran.ensures.report)
    (c.in_ok-all.ensures.legs ∙ ap (λ (ls : List Leg). c.args.decided.items ++ ls) c.as_slice-made.ensures.value)
    (c.in_ok-all.ensures.todo ∙ ap (λ (ls : List Leg). map offer_of c.args.todo.now.items ++ offered c.args.decided.items c.args.left c.args.order.now ls) c.as_slice-made.ensures.value)
    c.in_ok-add.ensures
