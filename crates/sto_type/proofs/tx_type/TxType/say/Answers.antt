use Rattle.std.proofs.Common.{◌∙◌}
use Rattle.sto_type.specs.Known.{known, beyond}
use Rattle.sto_type.specs.Plans.{planned}
use Rattle.sto_type.proofs.Answering.{plan_below}
use Rattle.sto_type.proofs.tx_type.TxType.say.Goals as goal

pub move_answer-requires-clause-below : goal.move_answer-requires-clause-below
move_answer-requires-clause-below g c =
    let m = g.Self.TxType.meaning c.args.self.now in
    let law = g.met.Self.TxType.lawful c.args.self.now in
    let k = beyond c.args.first (known c.args.cache.now) in
    let h = rw c.beyond-own.ensures at c.in_ok-answer.ensures in
    rw c.parts.ensures (plan_below m law c.args.call.now k c.requires.part.0 (planned c.in_ok-answer.answer) c.requires.takes c.requires.part.1 c.requires.part.2 h)

pub returns : goal.returns
returns g c = record {
  own = planned c.in_ok-answer.answer;
  is = rw c.beyond-own.ensures at c.in_ok-answer.ensures;
  moved = c.pour.ensures ∙ c.move_answer.ensures;
}
