use Rattle.std.proofs.Common.{◌≡◌, length, map, take}
use Rattle.sto_model.specs.PlainReplies.{plain_reply}
use Rattle.sto_trace_text.specs.Bodies.{HearsReplies, answer_of}
use Rattle.sto_trace_text.proofs.attempts.answered.Given as goal

abbrev pub invariant-loop-reply : goal.invariant-loop-reply
invariant-loop-reply l =
    (length l.answers.items ≡ l.reply-index)
    × HearsReplies (map plain_reply (take l.reply-index l.replies)) l.fn.attempt (map answer_of l.answers.items) l.attempt
