use Rattle.std.proofs.Common.{◌≡◌, ℕ, List, [], ◌∷◌, ◌++◌, length, take, take_all, Some, slice_get, refl, subst, rules, arith}
use Rattle.std.proofs.lemmas.Option.{slice_get_read}
use Rattle.sto_lang.specs.Views.{file as view}
use Rattle.sto_orders.specs.declared.level.Node.{Node}
use Rattle.sto_orders.specs.Levels.{AreOutcomesAt}
use Rattle.sto_orders.proofs.Gathering.{outcomes_none, outcomes_more}
use Rattle.sto_orders.proofs.outcome.outcomes_at.Goals as goal

pub outcome_at-requires-clause-node : goal.outcome_at-requires-clause-node
outcome_at-requires-clause-node c =
    let nodes = c.args.nodes.now in
    let at : slice_get nodes c.loop-node.node-index ≡ Some c.node-item.result = slice_get_read nodes (length nodes) c.loop-node.node-index c.node-item.result refl c.loop-node-test.true c.node-item.is in
    record { count = c.requires.level.count; few = c.requires.level.few; ways = c.requires.level.level.ways c.loop-node.node-index c.node-item.result at }

pub loop-node-init : goal.loop-node-init
loop-node-init c = λ count level. outcomes_none c.args.by (view c.args.file.now) count c.new-outcomes.result.items c.new-outcomes.ensures.items

pub loop-node-preserved : goal.loop-node-preserved
loop-node-preserved c = λ count level.
    let nodes = c.args.nodes.now in
    let i = c.loop-node.node-index in
    let node = c.node-item.result in
    let at : slice_get nodes i ≡ Some node = slice_get_read nodes (length nodes) i node refl c.loop-node-test.true c.node-item.is in
    let added : c.push.new.self.items ≡ c.loop-node.outcomes.items ++ c.in_ok-outcome.outcome ∷ [] = search rules in
    outcomes_more c.args.by (view c.args.file.now) count nodes i node c.loop-node.outcomes.items c.push.new.self.items c.in_ok-outcome.outcome at (c.loop-node.invariant count level)
    (c.in_ok-outcome.ensures count (level.ways i node at)) added

pub returns : goal.returns
returns c = λ count level.
    subst (λ (ns : List Node). AreOutcomesAt c.args.by (view c.args.file.now) count ns c.loop-node.outcomes.items) (take_all c.loop-node.node-index c.args.nodes.now (omega (arith, c.loop-node-test.false)))
    (c.loop-node.invariant count level)
