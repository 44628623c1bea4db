use Rattle.std.proofs.Common.{ℤ, pos, w64, FitsSigned, slice_index_or, rules, sym, ◌∙◌}
use Rattle.std.proofs.lemmas.Int.{to_z-of_z}
use Rattle.std.proofs.lemmas.List.Sorted.{IsPartitionPoint-from_clause}
use Rattle.sto_attempt_log.specs.declared.commit_phase.LoadedWord.{LoadedWord}
use Rattle.sto_attempt_log.specs.Ordered.{is_before}
use Rattle.sto_attempt_log.proofs.Orders.{parted_by_order, value_there, value_absent, value_past_all}
use Rattle.sto_attempt_log.proofs.loaded_words.value_in.Goals as goal
use Rattle.sto_attempt_log.proofs.loaded_words.value_in.Goals.{else-place-loaded_words-via-then-place-loaded_words+else-is_at, else-place-loaded_words-via-else-place-loaded_words}

pub returns-then-is_at : goal.returns-then-is_at
returns-then-is_at c =
    let xs = c.args.loaded_words.now in
    let p = c.args.part in
    let w = c.args.word in
    let i = c.partition_point-place.result in
    let none : LoadedWord = record { part = 0; word = 0; value = pos 0 } in
    let point = IsPartitionPoint-from_clause (λ (x : LoadedWord). is_before p w x) _ _ c.partition_point-place.ensures.partitioned (parted_by_order xs p w c.requires) (λ a r q k. search rules) in
    let value : ℤ = (slice_index_or xs i none).value in
    let fit : FitsSigned w64 value = search rules in
    λ rest. value_there xs p w i c.requires point none c.if-place-loaded_words.true (sym c.is_at.ensures ∙ c.if-is_at.true) rest ∙ sym (to_z-of_z w64 value fit)

pub returns-else-place-loaded_words : goal.returns-else-place-loaded_words
returns-else-place-loaded_words c =
    let xs = c.args.loaded_words.now in
    let p = c.args.part in
    let w = c.args.word in
    let i = c.partition_point-place.result in
    let none : LoadedWord = record { part = 0; word = 0; value = pos 0 } in
    let point = IsPartitionPoint-from_clause (λ (x : LoadedWord). is_before p w x) _ _ c.partition_point-place.ensures.partitioned (parted_by_order xs p w c.requires) (λ a r q k. search rules) in
    elim c.else-place-loaded_words.branch [
      | else-place-loaded_words-via-then-place-loaded_words+else-is_at b ↦ value_absent xs p w i c.requires point none b.if-place-loaded_words.true (sym b.is_at.ensures ∙ b.if-is_at.false)
      | else-place-loaded_words-via-else-place-loaded_words b ↦ value_past_all xs p w i c.requires point b.if-place-loaded_words.false
    ]
