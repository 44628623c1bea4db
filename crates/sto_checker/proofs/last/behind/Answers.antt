use Rattle.std.proofs.Common.{refl}
use Rattle.sto_checker.proofs.Truth.{no_truth}
use Rattle.sto_checker.proofs.Order.{again_either, later_some, later_none}
use Rattle.sto_checker.proofs.last.behind.Goals as goal
use Rattle.sto_checker.proofs.last.behind.Goals.{else-last-at-via-then-last-at+else-last-at-2, else-last-at-via-else-last-at}

pub returns-then-last-at-2 : goal.returns-then-last-at-2
returns-then-last-at-2 c = λ before a h p s n.
    again_either before a c.args.last c.args.at c.args.seen c.args.known c.args.tries h p s n c.if-last-at.true c.if-last-at-2.true c.again.result c.again.ensures.none c.again.ensures.some

pub returns-then-may_follow : goal.returns-then-may_follow
returns-then-may_follow c = λ before a h p s n. later_some before a c.args.last c.args.at c.args.seen c.args.known c.args.tries h p s n c.requires (c.if-may_follow.ensures.0 refl)

pub returns-else-may_follow : goal.returns-else-may_follow
returns-else-may_follow c = λ before a h p s n.
    later_none before a c.args.last c.args.at c.args.seen c.args.known c.args.tries h p s n
    (λ t q. elim c.else-last-at.branch [ else-last-at-via-then-last-at+else-last-at-2 w ↦ w.if-last-at-2.false q | else-last-at-via-else-last-at w ↦ w.if-last-at.false t ])
    (λ k. no_truth (c.if-may_follow.ensures.1 k))
