use Rattle.std.proofs.Common.{List, ap, sym, ◌∙◌}
use Rattle.std.specs.List.{list_all}
use Rattle.sto_part.specs.declared.pred.Pred.{Pred}
use Rattle.sto_part.specs.Preds.{holds_of}
use Rattle.sto_core.specs.Reads.{value_read}
use Rattle.sto_attempt_log.specs.CommitPhases.{reads_of}
use Rattle.sto_attempt_log.proofs.Preds.{is_true_of, preds_so}
use Rattle.sto_attempt_log.proofs.predicates.Predicates.are_true.Goals as goal

pub returns : goal.returns
returns g c =
    let p = c.args.part in
    let loaded_words = c.args.loaded_words.now.items in
    λ items same. c.all_true.ensures ∙ sym (c.on_part.ensures (λ (q : Pred). holds_of q (value_read (reads_of loaded_words p) q.word)))
    ∙ ap (λ (l : List Pred). list_all (is_true_of p loaded_words) l) (c.as_slice.ensures.value ∙ c.self.view_is) ∙ same (is_true_of p loaded_words) ∙ preds_so p loaded_words items
