use Rattle.std.specs.List.{AllByRecursion}
use Rattle.std.proofs.Common.{ℕ, List, [], ◌++◌, map, drop, sym, ◌∙◌, subst}
use Rattle.sto_explore.specs.Legs.{IsAmong}
use Rattle.sto_explore.specs.Explored.{start_of}
use Rattle.sto_explore.specs.Exploring.{IsOrdered, HasVisited}
use Rattle.sto_explore.specs.Branches.{offer_of, offers_to}
use Rattle.sto_explore.specs.declared.leg.Leg.{Leg}
use Rattle.sto_explore.proofs.Visiting.{first_run}
use Rattle.sto_explore.proofs.Ordering.{start_ordered, all_among}
use Rattle.sto_explore.proofs.exploration.begin.Goals as goal

pub visit-requires-clause-decided : goal.visit-requires-clause-decided
visit-requires-clause-decided g c =
    subst (λ (ls : List Leg). AllByRecursion (λ (leg : Leg). IsAmong (g.R.Runs.threads c.args.runs.now) leg.thread) ls) (sym c.new-none.ensures.items) tt

pub visit-requires-clause-order : goal.visit-requires-clause-order
visit-requires-clause-order g c =
    let threads = g.R.Runs.threads c.args.runs.now in
    subst (λ (us : List ℕ). AllByRecursion (IsAmong threads) us) (sym c.threads-all.ensures.threads) (all_among threads threads (λ u h. h))

pub returns-clause-begun : goal.returns-clause-begun
returns-clause-begun g c =
    let threads = g.R.Runs.threads c.args.runs.now in
    let tells = g.R.Runs.tells c.args.runs.now in
    let reports = g.R.Runs.reports c.args.runs.now in
    let start = start_of c.args.switches threads in
    let holds = g.G.Gathers.holds c.args.found.now in
    let held = g.G.Gathers.holds c.visit.new.found in
    let was = map offer_of c.offer_others.new.todo.items in
    let now = map offer_of c.visit.new.todo.items in
    let empty = c.new-none.ensures.items in
    let all = c.threads-all.ensures.threads in
    let ordered = subst (λ (ls : List Leg). IsOrdered start tells ls c.args.switches c.threads-all.result.now) (sym empty)
    (subst (λ (us : List ℕ). IsOrdered start tells [] c.args.switches us) (sym all) (start_ordered c.args.switches threads tells c.threads-all.ensures.apart)) in
    first_run c.args.switches threads tells reports holds held was now c.requires.none
    (c.in_ok-offer_others.ensures ∙ (λ i. map offer_of (c.new-todo.ensures.items i) ++ offers_to ((c.as_slice.ensures.value ∙ empty) i) c.args.switches (drop 1 (all i))))
    c.threads-all.ensures.apart
    (subst (λ (ls : List Leg). HasVisited start tells reports holds held ls threads was now) empty
    (subst (λ (us : List ℕ). HasVisited start tells reports holds held c.new-none.result.items us was now) all
    (c.in_ok-visit.ensures.visited start ordered)))
