-- What a body of the generated file means.
use Rattle.std.specs.Prelude.{ℕ, List, [], ◌∷◌}
use Rattle.sto_model.specs.PlainReplies.{PlainReply}
use Rattle.sto_model.specs.declared.call.Call.{Call}
use Rattle.sto_model.specs.declared.body.Next.{Next}
use Rattle.sto_script.specs.Meaning.{meaning_of}
use Rattle.sto_script.specs.Asks.{Asks}
use Rattle.sto_gen.specs.Generated.{statements, transaction}
use Rattle.sto_bench.specs.Stages.{doing_from, left_from}
use Rattle.sto_bench.specs.declared.body.GeneratedBody.{GeneratedBody}

-- what is done next after these further replies
abbrev pub then_of : GeneratedBody → List PlainReply → Next
then_of body replies = doing_from body.stage body.thread body.position body.transfer (body.balance ∷ []) replies

-- what is done next after these replies from the beginning: what the generated transaction says
abbrev pub script_of : GeneratedBody → List PlainReply → Next
script_of body replies = meaning_of (transaction body.thread body.position body.transfer) replies

-- how many calls may still be asked
abbrev pub left_of : GeneratedBody → ℕ
left_of body = left_from body.stage

abbrev pub left_at_reset_of : GeneratedBody → ℕ
left_at_reset_of body = 6

-- the calls of the generated transaction
abbrev pub MayAskOf : GeneratedBody → Call → Type 0
MayAskOf body call = Asks (statements body.thread body.position body.transfer) call
