-- The script of calls that are asked one after the other, whatever is answered, and of what is done after them.
use Rattle.std.specs.Prelude.{List, [], ◌∷◌}
use Rattle.sto_model.specs.PlainReplies.{PlainReply}
use Rattle.sto_model.specs.declared.call.Call.{Call}
use Rattle.sto_model.specs.declared.body.Next.{Next}
use Rattle.sto_model.specs.declared.body.Next.TheVariants.{Ask}
use Rattle.sto_model.specs.declared.run.End.{End}
use Rattle.sto_model.specs.Serial.{end_step}

abbrev pub script_of : List Call → End → List PlainReply → Next
script_of [] end rs = end_step end
script_of (call ∷ calls) end [] = Ask call
script_of (call ∷ calls) end (r ∷ rs) = script_of calls end rs
