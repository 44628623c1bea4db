use Rattle.std.proofs.Common.{List, [], ◌∷◌, ◌++◌, take, ap, sym, ◌∙◌, append-nil}
use Rattle.sto_part.specs.declared.pred.Pred.{Pred}
use Rattle.sto_item.specs.declared.item.Item.{Item}
use Rattle.sto_item.specs.declared.item.Item.TheVariants.{Seen}
use Rattle.sto_attempt_log.specs.Predicates.{preds_in}
use Rattle.sto_attempt_log.proofs.Preds.{preds_more}
use Rattle.sto_attempt_log.proofs.predicates.preds_of.Goals as goal
use Rattle.sto_attempt_log.proofs.predicates.preds_of.Goals.{in-Holds+in_ok-push, in_default}

pub loop-item-preserved : goal.loop-item-preserved
loop-item-preserved c =
    let i = c.loop-item.item-index in
    let front : List Pred = preds_in (take i c.args.items.now) in
    let more = preds_more c.args.items.now i (Seen 0) c.loop-item-test.true in
    elim c.match-item.branch [
      | in-Holds+in_ok-push w ↦
          ap (λ v. v.items) w.found-is
          ∙ w.in_ok-push.ensures.items
          ∙ ap (λ (l : List Pred). l ++ w.in-Holds.pred ∷ []) c.loop-item.invariant
          ∙ ap (λ (x : Item). front ++ preds_in (x ∷ [])) (sym w.in-Holds.is)
          ∙ sym more
      | in_default w ↦
          ap (λ v. v.items) w.found-is
          ∙ c.loop-item.invariant
          ∙ sym (append-nil front)
          ∙ ap (λ (x : Item). front ++ preds_in (x ∷ [])) (sym w.in_default.is)
          ∙ sym more
    ]
