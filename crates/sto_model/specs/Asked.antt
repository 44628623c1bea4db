-- Which calls a body makes along some replies, and whether its attempt may be aborted after them.
use Rattle.std.specs.Prelude.{◌≡◌, ◌⊎◌, ℕ, Bool, true, List, [], ◌∷◌}
use Rattle.sto_model.specs.PlainReplies.{PlainReply}
use Rattle.sto_model.specs.Run.{Behaviour}
use Rattle.sto_model.specs.Serial.{has_written}
use Rattle.sto_model.specs.declared.call.Call.{Call}
use Rattle.sto_model.specs.declared.body.Next.{Next}
use Rattle.sto_model.specs.declared.body.Next.TheVariants.{Ask, Commit, Cancel}

-- the next is a call of which P is so
abbrev pub AsksSuch : (Call → Type 0) → Next → Type 0
AsksSuch P (Ask call) = P call
AsksSuch P Commit = ⊥
AsksSuch P Cancel = ⊥

-- P is so of one of the calls that the replies answer, or of the next after them
abbrev pub HasAskedSuch : (Call → Type 0) → Behaviour → List PlainReply → Type 0
HasAskedSuch P script [] = AsksSuch P (script [])
HasAskedSuch P script (reply ∷ replies) = AsksSuch P (script []) ⊎ HasAskedSuch P (λ others. script (reply ∷ others)) replies

-- the next is a call on the object
abbrev pub AsksOf : ℕ → Next → Type 0
AsksOf object next = AsksSuch (λ call. call.object ≡ object) next

-- one of the calls that the replies answer is one on the object, or the next after them is
abbrev pub HasAsked : ℕ → Behaviour → List PlainReply → Type 0
HasAsked object script replies = HasAskedSuch (λ call. call.object ≡ object) script replies

-- what comes next may end in an abort: a call, or the commit of a run that has written
abbrev pub MayAbort : Next → Bool → Type 0
MayAbort (Ask call) written = Unit {0}
MayAbort Commit written = written ≡ true
MayAbort Cancel written = ⊥

-- an attempt that has heard the replies may still be aborted: not where it has only read and is at its end
abbrev pub IsUnsettled : Behaviour → List PlainReply → Type 0
IsUnsettled script replies = MayAbort (script replies) (has_written script replies)
