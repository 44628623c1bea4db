-- What a type says of the call that is next.
use Rattle.std.specs.Prelude.{◌≡◌, List, None}
use Rattle.sto_model.specs.declared.call.Call.{Call}
use Rattle.sto_model.specs.declared.body.Next.TheVariants.{Ask}
use Rattle.sto_model.specs.PlainReplies.{PlainReply}
use Rattle.sto_model.specs.Run.{Behaviour}
use Rattle.sto_type.specs.Known.{Known}
use Rattle.sto_type.specs.Meaning.{Meaning}
use Rattle.sto_type.specs.Plans.{IsPlan}
use Rattle.sto_type.specs.Saying.{said_plan}
use Rattle.sto_type.specs.declared.said.Said.{Said}

-- the type says this of the call that is next, on what is known
pub record SaysNext (m : Meaning) (f : Behaviour) (k : Known) (rs : List PlainReply) (said : Said) : Type 0 where
  pub call : Call
  pub taken : m.takes call
  pub asks : f rs ≡ Ask call
  pub plan : IsPlan m call k (said_plan None said)
