-- How an attempt whose commit found no memory does not come back.
use Rattle.std.proofs.Common.{◌≡◌, ◌<◌, List, [], ◌∷◌, sym, ap, ◌∙◌, arith}
use Rattle.sto_model.specs.declared.reply.Reply.{Reply}
use Rattle.sto_attempt.specs.declared.attempt.Attempt.{Attempt}
use Rattle.sto_attempt.specs.Attempts.{with_lists_of}

module _ {T B : Type 0} (a back : Attempt T B) where
  -- it has lost no reply
  pub reply_lost : (r : Reply) (rs : List Reply) → a.log.table.replies.items ≡ r ∷ rs → back.log.table.replies.items ≡ [] → back ≡ with_lists_of a back → ⊥
  reply_lost r rs some none h = let no = sym none ∙ ap (λ (x : Attempt T B). x.log.table.replies.items) h ∙ some in cc

  -- and reads as of no later number
  pub read_later : a.at < back.at → back ≡ with_lists_of a back → ⊥
  read_later later h = omega (arith, later, ap (λ (x : Attempt T B). x.at) h)
