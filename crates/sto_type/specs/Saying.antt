-- What a call says into a buffer, where its parts are numbered from some part on.
use Rattle.std.specs.Prelude.{◌≡◌, ℕ, Option, Some, None}
use Rattle.sto_model.specs.declared.call.Call.{Call}
use Rattle.sto_model.specs.PlainReplies.{plain_reply}
use Rattle.sto_type.specs.Known.{Known, beyond}
use Rattle.sto_type.specs.Meaning.{Meaning}
use Rattle.sto_type.specs.Plans.{Plan, Ask, Say, IsPlan}
use Rattle.sto_type.specs.Joined.{plan_moved}
use Rattle.sto_type.specs.declared.said.Said.{Said}

-- the part that is needed, or what stands in the buffer
abbrev pub said_plan : Option ℕ → Said → Plan
said_plan (Some p) s = Ask p
said_plan None s = Say (plain_reply s.reply) s.items.items s.updates.items

-- what is said is what the type plans on the parts that are known from the first on, under the numbers of all parts
pub record IsSaidFrom (m : Meaning) (first : ℕ) (call : Call) (k : Known) (p : Plan) : Type 0 where
  pub own : Plan
  pub is : IsPlan m call (beyond first k) own
  pub moved : p ≡ plan_moved first own
