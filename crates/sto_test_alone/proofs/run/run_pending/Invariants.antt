use Rattle.std.proofs.Common.{◌≡◌, map}
use Rattle.sto_model.specs.declared.call.Call.{Call}
use Rattle.sto_model.specs.PlainReplies.{plain_reply}
use Rattle.sto_test_alone.specs.Along.{IsAlong}
use Rattle.sto_test_alone.proofs.run.run_pending.Given as goal

abbrev pub invariant-loop-call : goal.invariant-loop-call
invariant-loop-call g l = record {
  along : IsAlong (g.T.TxType.meaning l.ty) (g.B.Body.then l.body) (g.B.Body.script l.fn.body) (g.B.Body.left l.body) l.contents.items l.heard.items.items l.heard.pending.updates (map plain_reply l.heard.replies.items);
  script : g.B.Body.script l.body ≡ g.B.Body.script l.fn.body;
  left_at_reset : g.B.Body.left_at_reset l.body ≡ g.B.Body.left_at_reset l.fn.body;
  may : (call : Call) → g.B.Body.may_ask l.body call → g.B.Body.may_ask l.fn.body call;
}

abbrev pub decreases-loop-call : goal.decreases-loop-call
decreases-loop-call g l = g.B.Body.left l.body
