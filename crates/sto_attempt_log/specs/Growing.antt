-- How the items and updates of an attempt grow: with each reply by those that the type says of its call on the parts then known, and by no others.
use Rattle.std.specs.Prelude.{List, [], ◌∷◌}
use Rattle.sto_item.specs.Pending.{Entry, with_updates}
use Rattle.sto_item.specs.Recorded.{Recorded}
use Rattle.sto_model.specs.PlainReplies.{PlainReply}
use Rattle.sto_model.specs.Run.{Behaviour}
use Rattle.sto_type.specs.Known.{Known}
use Rattle.sto_type.specs.Meaning.{Meaning}
use Rattle.sto_type.specs.Runs.{Answered}
use Rattle.sto_type.specs.Growing.{HasGrown}
use Rattle.sto_attempt_log.specs.Log.{IsCache}

-- each call was planned on what was then known, where es were pending before the first: parts that were read or put whole, with the updates pending before it applied
abbrev pub AreKnown : Meaning → Known → List Entry → List Answered → Type 0
AreKnown m base es [] = Unit {0}
AreKnown m base es (a ∷ ans) = IsCache m base es a.known × AreKnown m base (with_updates es (m.updates a.call a.found)) ans

-- after the replies rs and one set come further replies and another set, while these parts were read
pub record HasHeard (m : Meaning) (f : Behaviour) (base : Known) (rs : List PlainReply) (old : Recorded) (all : List PlainReply) (new : Recorded) : Type 0 where
  pub grown : HasGrown m f rs old all new
  pub known : AreKnown m base old.updates grown.calls
