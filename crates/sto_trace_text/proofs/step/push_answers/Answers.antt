use Rattle.std.proofs.Common.{string_bytes}
use Rattle.sto_journal.proofs.Steps.{told_more}
use Rattle.sto_trace_text.specs.Bodies.{answer_of}
use Rattle.sto_trace_text.specs.Named.{named}
use Rattle.sto_trace_text.specs.Texts.{answer_text}
use Rattle.sto_trace_text.proofs.step.push_answers.Goals as goal

pub loop-answer-preserved : goal.loop-answer-preserved
loop-answer-preserved c =
    told_more (answer_text (named c.args.names.now)) answer_of c.args.answers.now c.loop-answer.answer-index c.answer-item.result (string_bytes c.args.out.now) (string_bytes c.loop-answer.out)
    (string_bytes c.push_answer.new.out) c.loop-answer-test.true c.answer-item.is c.loop-answer.invariant c.in_ok-push_answer.ensures
