-- Replies that answer calls.
use Rattle.std.specs.Prelude.{List, [], ◌∷◌}
use Rattle.sto_model.specs.PlainReplies.{PlainReply}
use Rattle.sto_model.specs.Run.{Behaviour, IsAsk}

-- each reply answers a call that is asked where it is heard
abbrev pub AreHeard : Behaviour → List PlainReply → Type 0
AreHeard steps [] = Unit {0}
AreHeard steps (reply ∷ replies) = IsAsk (steps []) × AreHeard (λ others. steps (reply ∷ others)) replies
