use Rattle.std.proofs.Common.{◌≡◌, ◌≤◌, ◌+◌, List, ℤ, map, length}
use Rattle.sto_model.specs.PlainReplies.{plain_reply}
use Rattle.sto_attempt_log.specs.Growing.{HasHeard}
use Rattle.sto_type.specs.Known.{IsPartOf}
use Rattle.sto_attempt_log.specs.ReadSet.{words_in}
use Rattle.sto_model.specs.declared.call.Call.{Call}
use Rattle.sto_attempt_log.specs.Log.{IsOnLog}
use Rattle.sto_attempt_log.specs.Tables.{run_to}
use Rattle.sto_attempt_log.specs.Doing.{Reader, RanTo}
use Rattle.sto_attempt_log.proofs.log.Log.go_on.Given as goal

abbrev pub invariant-loop-call : goal.invariant-loop-call
invariant-loop-call g l = record {
  log :
      IsOnLog (g.T.TxType.meaning l.self.ty.now) (g.B.Body.then l.self.body) (g.B.Body.script l.fn.self.body) (g.B.Body.left l.self.body) (g.B.Body.may_ask l.self.body)
      l.self.table.base.items l.self.table.set l.self.table.cache l.self.table.replies.items;
  some : (d : List (List ℤ)) × (g.T.TxType.meaning l.self.ty.now).valid d × IsPartOf (words_in l.self.table.base.items) d;
  grown : HasHeard (g.T.TxType.meaning l.self.ty.now) (g.B.Body.script l.fn.self.body) (words_in l.self.table.base.items) (map plain_reply l.fn.self.table.replies.items) l.fn.self.table.set (map plain_reply l.self.table.replies.items) l.self.table.set;
  ran : (r : Reader) → r.base ≡ l.self.table.base.items → r.set ≡ l.fn.self.table.set → r.heard ≡ map plain_reply l.fn.self.table.replies.items
      → RanTo (g.T.TxType.meaning l.self.ty.now) (g.B.Body.script l.fn.self.body) r l.self.table.set (map plain_reply l.self.table.replies.items);
  left : length l.self.table.replies.items + g.B.Body.left l.self.body ≤ length l.fn.self.table.replies.items + g.B.Body.left l.fn.self.body;
  script : g.B.Body.script l.self.body ≡ g.B.Body.script l.fn.self.body;
  left_at_reset : g.B.Body.left_at_reset l.self.body ≡ g.B.Body.left_at_reset l.fn.self.body;
  may : (call : Call) → g.B.Body.may_ask l.self.body call → g.B.Body.may_ask l.fn.self.body call;
  ty : l.self.ty ≡ l.fn.self.ty;
  base : l.self.table.base ≡ l.fn.self.table.base;
  rest : l.self ≡ run_to l.fn.self l.self;
}

abbrev pub decreases-loop-call : goal.decreases-loop-call
decreases-loop-call g l = g.B.Body.left l.self.body
