-- A body in the midst of its run over contents.
use Rattle.std.specs.Prelude.{◌≡◌, ◌<◌, ◌+◌, ◌^◌, ℕ, List, ◌++◌, length}
use Rattle.sto_item.specs.declared.item.Item.{Item}
use Rattle.sto_item.specs.Pending.{Entry}
use Rattle.sto_model.specs.declared.body.Next.{Next}
use Rattle.sto_model.specs.PlainReplies.{PlainReply}
use Rattle.sto_model.specs.Run.{Behaviour}
use Rattle.sto_type.specs.Known.{Parts}
use Rattle.sto_type.specs.Meaning.{Meaning}
use Rattle.sto_type.specs.Runs.{IsCarried}
use Rattle.sto_test_alone.specs.Trials.{whole, ObservesCalls}

-- the body waits where the replies have led its script; the items and updates carry the replies, and are those of the calls; and with those that it may still hear the replies fit a list
pub record IsAlong (m : Meaning) (next : List PlainReply → Next) (f : Behaviour) (left : ℕ) (c : Parts) (items : List Item) (es : List Entry) (rs : List PlainReply) : Type 0 where
  pub then : (xs : List PlainReply) → next xs ≡ f (rs ++ xs)
  pub carried : IsCarried m f (whole c) items es rs
  pub observes : ObservesCalls m f c rs items es
  pub few : length rs + left < 2 ^ 32
