use Rattle.std.proofs.Common.{◌≡◌, length, map, take}
use Rattle.sto_model.specs.PlainReplies.{plain_reply}
use Rattle.sto_trace.proofs.replies.all_copied.Given as goal

abbrev pub invariant-loop-reply : goal.invariant-loop-reply
invariant-loop-reply l = record {
  many : length l.copies.items ≡ l.reply-index;
  same : map plain_reply l.copies.items ≡ map plain_reply (take l.reply-index l.replies);
}
