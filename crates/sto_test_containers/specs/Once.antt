-- What a transaction of one call does.
use Rattle.std.specs.Prelude.{List, [], ◌∷◌}
use Rattle.sto_model.specs.PlainReplies.{PlainReply}
use Rattle.sto_model.specs.declared.call.Call.{Call}
use Rattle.sto_model.specs.declared.body.Next.{Next}
use Rattle.sto_model.specs.declared.body.Next.TheVariants.{Ask, Commit}

-- it asks the call, and commits when it has heard a reply
abbrev pub asks_once : Call → List PlainReply → Next
asks_once call [] = Ask call
asks_once call (r ∷ rs) = Commit
