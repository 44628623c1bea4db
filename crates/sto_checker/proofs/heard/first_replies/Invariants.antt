use Rattle.std.proofs.Common.{◌≡◌, ◌≤◌, ◌++◌, List, length}
use Rattle.sto_checker.proofs.heard.first_replies.Given as goal

abbrev pub invariant-loop-replies : goal.invariant-loop-replies
invariant-loop-replies l = record {
  front : (others : List _) × (l.initial.replies.items ≡ l.replies.items ++ others);
  enough : l.count ≤ length l.replies.items;
}

abbrev pub decreases-loop-replies : goal.decreases-loop-replies
decreases-loop-replies l = length l.replies.items
