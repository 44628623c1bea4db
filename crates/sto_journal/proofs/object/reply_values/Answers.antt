use Rattle.std.proofs.Common.{◌≤◌, ◌++◌, [], ◌∷◌, List, map, take, length, ap, sym, ◌∙◌, arith}
use Rattle.std.proofs.lemmas.List.{map-append}
use Rattle.serde_json.specs.Data.{Data, array}
use Rattle.serde_json.specs.View.{view, items_of}
use Rattle.serde_json.proofs.Views.{view-Array}
use Rattle.sto_journal.specs.Journals.{IsShortlyTold, told_data}
use Rattle.sto_journal.proofs.Steps.{held_more, mapped_more, all_taken}
use Rattle.sto_journal.proofs.object.reply_values.Goals as goal

pub loop-reply-preserved : goal.loop-reply-preserved
loop-reply-preserved c = (
  ap (map view) c.in_ok-push.ensures.items
      ∙ map-append view c.loop-reply.items.items (c.in_ok-reply_value.field-0 ∷ [])
      ∙ ap (λ (ds : List Data). ds ++ view c.in_ok-reply_value.field-0 ∷ []) c.loop-reply.invariant.0
      ∙ ap (λ (d : Data). map told_data (take c.loop-reply.reply-index c.args.replies.now) ++ d ∷ []) c.in_ok-reply_value.ensures.value
      ∙ sym (mapped_more told_data c.args.replies.now c.loop-reply.reply-index c.reply-item.result c.loop-reply-test.true c.reply-item.is),
  held_more IsShortlyTold c.args.replies.now c.loop-reply.reply-index c.reply-item.result c.loop-reply-test.true c.reply-item.is c.loop-reply.invariant.1 c.in_ok-reply_value.ensures.short,
)

pub returns-clause-value : goal.returns-clause-value
returns-clause-value c =
    let past : length c.args.replies.now ≤ c.loop-reply.reply-index = omega (arith, c.loop-reply-test.false) in
    view-Array c.loop-reply.items
    ∙ ap (λ (ds : List Data). array (items_of ds)) (c.loop-reply.invariant.0 ∙ ap (map told_data) (all_taken c.args.replies.now c.loop-reply.reply-index past))
