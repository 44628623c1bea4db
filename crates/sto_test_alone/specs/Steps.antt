-- What one call of a run gives.
use Rattle.sto_model.specs.declared.call.Call.{Call}
use Rattle.sto_model.specs.PlainReplies.{plain_reply}
use Rattle.sto_type.specs.Known.{Parts, Known, IsPartOf}
use Rattle.sto_type.specs.Meaning.{Meaning}
use Rattle.sto_type.specs.Plans.{Say, IsPlan}
use Rattle.sto_test_alone.specs.declared.asking.AnsweredCall.{AnsweredCall}

-- the step is what the type says of the call, on what is known of these contents
pub record IsStep (m : Meaning) (call : Call) (d : Parts) (step : AnsweredCall) : Type 0 where
  pub known : Known
  pub part : IsPartOf known d
  pub plan : IsPlan m call known (Say (plain_reply step.reply) step.items.items step.updates.items)
