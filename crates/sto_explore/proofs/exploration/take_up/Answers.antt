use Rattle.std.specs.List.{AllByRecursion}
use Rattle.std.proofs.Common.{◌≡◌, ℕ, List, map, sym, ap, ◌∙◌, subst}
use Rattle.sto_explore.specs.Legs.{IsAmong, AreApart}
use Rattle.sto_explore.specs.Exploring.{IsOrdered, HasVisited, order_after}
use Rattle.sto_explore.specs.Branches.{offer_of}
use Rattle.sto_explore.specs.declared.leg.Leg.{Leg}
use Rattle.sto_explore.proofs.Ordering.{offer_ordered, legs_among, order_among}
use Rattle.sto_explore.proofs.exploration.take_up.Goals as goal

pub visit-requires-clause-decided : goal.visit-requires-clause-decided
visit-requires-clause-decided g c =
    let legs = c.args.branch.decided.items in
    subst (λ (ts : List ℕ). AllByRecursion (λ (leg : Leg). IsAmong ts leg.thread) legs) c.requires.offered.1 (legs_among c.requires.offered.0.going legs c.requires.offered.2.begun.fit)

pub visit-requires-clause-order : goal.visit-requires-clause-order
visit-requires-clause-order g c =
    let start = c.requires.offered.0 in
    let same = c.requires.offered.1 in
    let next = c.args.branch.next in
    let is : c.as_slice-ordered.result.now ≡ order_after start.going c.args.branch.decided.items next =
    c.as_slice-ordered.ensures.value ∙ c.in_ok-order.ensures ∙ (λ i. order_after ((c.threads-all.ensures.threads ∙ sym same) i) (c.as_slice-legs.ensures.value i) next) in
    subst (λ (ts : List ℕ). AllByRecursion (IsAmong ts) c.as_slice-ordered.result.now) same
    (subst (λ (us : List ℕ). AllByRecursion (IsAmong start.going) us) (sym is)
    (order_among start (g.R.Runs.tells c.args.runs.now) (offer_of c.args.branch) (subst AreApart (sym same) c.threads-all.ensures.apart) c.requires.offered.2))

pub returns-clause-visited : goal.returns-clause-visited
returns-clause-visited g c = λ start same offer.
    let tells = g.R.Runs.tells c.args.runs.now in
    let legs = c.args.branch.decided.items in
    let next = c.args.branch.next in
    let is : c.as_slice-ordered.result.now ≡ order_after (g.R.Runs.threads c.args.runs.now) legs next =
    c.as_slice-ordered.ensures.value ∙ c.in_ok-order.ensures ∙ (λ i. order_after (c.threads-all.ensures.threads i) (c.as_slice-legs.ensures.value i) next) in
    let here : order_after start.going legs next ≡ order_after (g.R.Runs.threads c.args.runs.now) legs next = ap (λ (ts : List ℕ). order_after ts legs next) same in
    let ordered = subst (IsOrdered start tells legs c.args.branch.left) (here ∙ sym is) (offer_ordered start tells (offer_of c.args.branch) (subst AreApart (sym same) c.threads-all.ensures.apart) offer) in
    subst (λ (us : List ℕ). HasVisited start tells (g.R.Runs.reports c.args.runs.now) (g.G.Gathers.holds c.args.found.now) (g.G.Gathers.holds c.visit.new.found) legs us
    (map offer_of c.args.todo.now.items) (map offer_of c.visit.new.todo.items)) is
    (c.in_ok-visit.ensures.visited start ordered)
