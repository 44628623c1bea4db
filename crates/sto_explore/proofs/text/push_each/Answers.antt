use Rattle.sto_lang.specs.Views.{file as view}
use Rattle.sto_explore.specs.Texts.{outcome_text}
use Rattle.sto_explore.proofs.AddedText.{numbered_more}
use Rattle.sto_explore.proofs.text.push_each.Goals as goal

pub loop-place-preserved : goal.loop-place-preserved
loop-place-preserved c =
    numbered_more (outcome_text (view c.args.file.now)) c.args.outcomes.now c.loop-place.place c.index-outcomes-place.result c.args.out.now.items c.loop-place.out.items c.push_outcome.new.out.items
    c.loop-place-test.true c.index-outcomes-place.is c.loop-place.invariant c.in_ok-push_outcome.ensures
