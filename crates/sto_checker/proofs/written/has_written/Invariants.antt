use Rattle.std.proofs.Common.{◌≡◌, map, drop}
use Rattle.sto_model.specs.PlainReplies.{plain_reply}
use Rattle.sto_model.specs.Serial.{has_written}
use Rattle.sto_checker.specs.Heard.{AreHeard}
use Rattle.sto_checker.proofs.written.has_written.Given as goal

abbrev pub invariant-loop-reply : goal.invariant-loop-reply
invariant-loop-reply g l = record {
  same : has_written (g.B.Body.then l.body) (map plain_reply (drop l.reply-index l.replies)) ≡ has_written (g.B.Body.script l.fn.body) (map plain_reply l.fn.replies);
  heard : AreHeard (g.B.Body.then l.body) (map plain_reply (drop l.reply-index l.replies));
}
