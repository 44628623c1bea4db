-- Which parts the calls of an attempt may touch.
use Rattle.std.specs.Prelude.{◌≡◌, ◌⊎◌, ℕ, Some, None, List, map}
use Rattle.std.specs.List.{Contains}
use Rattle.sto_item.specs.Observed.{parts_of_items}
use Rattle.sto_model.specs.declared.call.Call.{Call}
use Rattle.sto_model.specs.declared.body.Next.{Next}
use Rattle.sto_model.specs.PlainReplies.{PlainReply}
use Rattle.sto_model.specs.Run.{Behaviour}
use Rattle.sto_model.specs.Asked.{AsksSuch, HasAskedSuch}
use Rattle.sto_type.specs.Known.{Parts, Known, IsPartOf}
use Rattle.sto_type.specs.Meaning.{Meaning}

-- a call may touch the part: the type takes it, and on some valid contents, and what is known of them, it needs the part, observes it
-- or updates it
pub record Touches (m : Meaning) (part : ℕ) (call : Call) : Type 0 where
  pub takes : m.takes call
  pub contents : Parts
  pub valid : m.valid contents
  pub knowledge : Known
  pub known : IsPartOf knowledge contents
  pub does : (m.need call knowledge ≡ Some part)
      ⊎ (((m.need call knowledge ≡ None) × Contains (parts_of_items (m.items call knowledge)) part)
      ⊎ Contains (map (λ e. e.0) (m.updates call contents)) part)

-- the call that is next may touch the part
abbrev pub NextTouches : Meaning → Next → ℕ → Type 0
NextTouches m next part = AsksSuch (Touches m part) next

-- one of the calls that the replies answer may touch the part, or the next after them
abbrev pub HasTouched : Meaning → Behaviour → List PlainReply → ℕ → Type 0
HasTouched m script replies part = HasAskedSuch (Touches m part) script replies
