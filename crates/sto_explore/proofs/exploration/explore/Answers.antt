use Rattle.std.proofs.Common.{rules, ◌≡◌, ◌≤◌, [], ◌∷◌, ◌++◌, map, length, max, vec_len, refl, sym, ap, ◌∙◌, subst, arith}
use Rattle.std.proofs.lemmas.List.{map-append, length-map, nil_from_length}
use Rattle.std.proofs.lemmas.Bool.{eqb-true}
use Rattle.sto_explore.specs.Explored.{start_of}
use Rattle.sto_explore.specs.Branches.{offer_of}
use Rattle.sto_explore.proofs.Visiting.{going_on, last_offer, all_explored, too_many}
use Rattle.sto_explore.proofs.exploration.explore.Goals as goal

pub take_up-requires-clause-offered : goal.take_up-requires-clause-offered
take_up-requires-clause-offered g c =
    let start = start_of c.args.switches (g.R.Runs.threads c.args.runs.now) in
    let popped : c.loop-made.todo.items ≡ c.pop.new.self.items ++ c.in-Some.branch ∷ [] = search rules in (
      start,
      refl,
      last_offer start (g.R.Runs.tells c.args.runs.now) (g.R.Runs.reports c.args.runs.now) (map offer_of c.loop-made.todo.items) (map offer_of c.pop.new.self.items) (offer_of c.in-Some.branch)
          (ap (map offer_of) popped ∙ map-append offer_of c.pop.new.self.items (c.in-Some.branch ∷ [])) c.loop-made.invariant.under_way.offers,
    )

pub loop-made-preserved : goal.loop-made-preserved
loop-made-preserved g c =
    let start = start_of c.args.switches (g.R.Runs.threads c.args.runs.now) in
    let tells = g.R.Runs.tells c.args.runs.now in
    let reports = g.R.Runs.reports c.args.runs.now in
    let was = c.loop-made.invariant.under_way in
    let more = c.loop-made-test.true in
    let popped : c.loop-made.todo.items ≡ c.pop.new.self.items ++ c.in-Some.branch ∷ [] = search rules in
    let is = ap (map offer_of) popped ∙ map-append offer_of c.pop.new.self.items (c.in-Some.branch ∷ []) in
    let offer = last_offer start tells reports (map offer_of c.loop-made.todo.items) (map offer_of c.pop.new.self.items) (offer_of c.in-Some.branch) is was.offers in
    record {
      under_way = going_on start tells reports (g.G.Gathers.holds c.loop-made.found) (g.G.Gathers.holds c.take_up.new.found) c.loop-made._made (map offer_of c.loop-made.todo.items)
          (map offer_of c.pop.new.self.items) (map offer_of c.take_up.new.todo.items) (offer_of c.in-Some.branch) is was (c.in_ok-take_up-in-Some.ensures.visited start refl offer);
      keeps = c.in_ok-take_up-in-Some.ensures.keeps;
      within = omega (arith, more);
    }

pub returns-in-None-clause-explored : goal.returns-in-None-clause-explored
returns-in-None-clause-explored g c =
    let start = start_of c.args.switches (g.R.Runs.threads c.args.runs.now) in
    let none : c.loop-made.todo.items ≡ [] = search rules in
    all_explored start (g.R.Runs.tells c.args.runs.now) (g.R.Runs.reports c.args.runs.now) (g.G.Gathers.holds c.loop-made.found) c.loop-made._made (max 1 c.args.limit)
    (map offer_of c.loop-made.todo.items) (ap (map offer_of) none) c.loop-made.invariant.within c.loop-made.invariant.under_way

pub returns-then-is_empty-clause-explored : goal.returns-then-is_empty-clause-explored
returns-then-is_empty-clause-explored g c =
    let start = start_of c.args.switches (g.R.Runs.threads c.args.runs.now) in
    let zero : vec_len c.loop-made.todo ≡ 0 = eqb-true (vec_len c.loop-made.todo) 0 (sym c.is_empty.ensures ∙ c.if-is_empty.true) in
    let short : length c.loop-made.todo.items ≡ 0 = search rules in
    let none : c.loop-made.todo.items ≡ [] = nil_from_length c.loop-made.todo.items short in
    all_explored start (g.R.Runs.tells c.args.runs.now) (g.R.Runs.reports c.args.runs.now) (g.G.Gathers.holds c.loop-made.found) c.loop-made._made (max 1 c.args.limit)
    (map offer_of c.loop-made.todo.items) (ap (map offer_of) none) c.loop-made.invariant.within c.loop-made.invariant.under_way

pub returns-clause-too_many : goal.returns-clause-too_many
returns-clause-too_many g c = λ is.
    let start = start_of c.args.switches (g.R.Runs.threads c.args.runs.now) in
    let low = c.loop-made.auto._made in let high = c.loop-made.invariant.within in let past = c.loop-made-test.false in
    let all : c.loop-made._made ≡ max 1 c.args.limit = omega (arith, low, high, past) in
    let some : 1 ≤ length c.loop-made.todo.items = search rules in
    too_many start (g.R.Runs.tells c.args.runs.now) (g.R.Runs.reports c.args.runs.now) (g.G.Gathers.holds c.loop-made.found) c.loop-made._made c.args.limit
    (map offer_of c.loop-made.todo.items) (subst (λ n. 1 ≤ n) (sym (length-map c.loop-made.todo.items offer_of)) some) all c.loop-made.invariant.under_way
