use Rattle.std.proofs.Common.{◌∙◌, ap, sym, arith, ◌++◌, ◌∷◌, [], ◌+◌, drop}
use Rattle.std.proofs.lemmas.List.{append_assoc}
use Rattle.sto_attempt_log.specs.Gathering.{places_at}
use Rattle.sto_attempt_log.proofs.Gathering.{place_kept, place_more}
use Rattle.sto_attempt_log.proofs.lists.add_places.Goals as goal
use Rattle.sto_attempt_log.proofs.lists.add_places.Goals.{then-not-is_keep+else-len-eq4294967295+in_ok-push, else-not-is_keep}

pub loop-word-preserved : goal.loop-word-preserved
loop-word-preserved c =
    let p = c.args.part in
    let w = c.loop-word.word in
    let cs = c.args.update.now.items in
    let was = c.loop-word.made.items in
    elim c.if-not-is_keep.branch [
      | then-not-is_keep+else-len-eq4294967295+in_ok-push b ↦
          let more = place_more p w cs c.get.result.now (omega arith) c.get.ensures (sym c.is_keep.ensures ∙ b.if-not-is_keep.true) (w + 1) (omega arith) in
          let now = ap (λ l. l.items) b.made-is ∙ b.in_ok-push.ensures.ok in
          ap (λ l. l ++ places_at p (w + 1) (drop (w + 1) cs)) now ∙ append_assoc was ((p, w) ∷ []) (places_at p (w + 1) (drop (w + 1) cs)) ∙ ap (λ l. was ++ l) (sym more) ∙ c.loop-word.invariant
      | else-not-is_keep b ↦
          let kept = place_kept p w cs c.get.result.now (omega arith) c.get.ensures (sym c.is_keep.ensures ∙ b.if-not-is_keep.false) (w + 1) (omega arith) in
          ap (λ l. l.items ++ places_at p (w + 1) (drop (w + 1) cs)) b.made-is ∙ ap (λ l. was ++ l) (sym kept) ∙ c.loop-word.invariant
    ]
