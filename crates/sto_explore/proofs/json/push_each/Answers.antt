use Rattle.std.proofs.Common.{◌∷◌, ◌++◌, flat_map, take, drop, length, ◌-◌, List, ℕ, ap, ◌∙◌, append_assoc}
use Rattle.sto_lang.specs.Views.{file as view}
use Rattle.sto_explore.specs.declared.outcome.Outcome.{Outcome}
use Rattle.sto_explore.specs.Texts.{outcome_json}
use Rattle.sto_explore.proofs.AddedText.{added_more, joined}
use Rattle.sto_explore.proofs.json.push_each.Goals as goal

pub loop-outcome-preserved : goal.loop-outcome-preserved
loop-outcome-preserved c =
    added_more (λ (o : Outcome). 44 ∷ outcome_json (view c.args.file.now) o) (take (length c.args.outcomes.now - 1) (drop 1 c.args.outcomes.now)) c.loop-outcome.outcome-index c.outcome-item.result
    c.push_outcome.new.out.items c.loop-outcome.out.items c.push_next.new.out.items
    c.loop-outcome-test.true c.outcome-item.is c.loop-outcome.invariant c.in_ok-push_next.ensures

pub returns : goal.returns
returns c =
    let text = outcome_json (view c.args.file.now) in
    let others : List ℕ = flat_map (λ (o : Outcome). 44 ∷ outcome_json (view c.args.file.now) o) (take c.loop-outcome.outcome-index (take (length c.args.outcomes.now - 1) (drop 1 c.args.outcomes.now))) in
    c.loop-outcome.invariant
    ∙ ap (λ l. l ++ others) c.in_ok-push_outcome.ensures
    ∙ append_assoc c.args.out.now.items (text c.first-item.result) others
    ∙ ap (λ l. c.args.out.now.items ++ l) (joined text c.args.outcomes.now c.first-item.result c.loop-outcome.outcome-index c.in-len1-up.len_at_least c.first-item.is c.loop-outcome-test.false)
