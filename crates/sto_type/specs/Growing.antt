-- How the items and updates of a set grow with the replies of a run, and in no other way.
use Rattle.std.specs.Prelude.{◌≡◌, List, ◌++◌}
use Rattle.sto_item.specs.Recorded.{Recorded, AddsItems}
use Rattle.sto_model.specs.PlainReplies.{PlainReply}
use Rattle.sto_model.specs.Run.{Behaviour}
use Rattle.sto_type.specs.Meaning.{Meaning}
use Rattle.sto_type.specs.Runs.{Answered, AreAnswers, updates_along, items_along}

-- after the replies rs and one set come further replies and another set, which has besides exactly the items of their calls and their updates
pub record HasGrown (m : Meaning) (f : Behaviour) (rs : List PlainReply) (old : Recorded) (all : List PlainReply) (new : Recorded) : Type 0 where
  pub more : List PlainReply
  pub calls : List Answered
  pub replies : all ≡ rs ++ more
  pub answers : AreAnswers m f rs more calls
  pub items : AddsItems old (items_along m old.updates calls) (record new { updates = old.updates })
  pub updates : new.updates ≡ updates_along m old.updates calls
