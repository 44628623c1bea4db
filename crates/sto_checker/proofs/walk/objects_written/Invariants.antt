use Rattle.std.proofs.Common.{◌≡◌, ◌≤◌, ◌++◌, map, drop, length}
use Rattle.sto_model.specs.PlainReplies.{plain_reply}
use Rattle.sto_checker.specs.Written.{objects_along}
use Rattle.sto_checker.proofs.walk.objects_written.Given as goal

abbrev pub invariant-loop-reply : goal.invariant-loop-reply
invariant-loop-reply g l = record {
  same : l.objects.items ++ objects_along (g.B.Body.then l.body) (map plain_reply (drop l.reply-index l.replies)) ≡ objects_along (g.B.Body.script l.fn.body) (map plain_reply l.fn.replies);
  few : length l.objects.items ≤ l.reply-index;
}
