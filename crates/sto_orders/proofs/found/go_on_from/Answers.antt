use Rattle.std.proofs.Common.{◌≡◌, length, subst, arith}
use Rattle.sto_lang.specs.Views.{file as view}
use Rattle.sto_checker.proofs.Places.{length-threads}
use Rattle.sto_orders.specs.Levels.{HasNextBelow}
use Rattle.sto_orders.proofs.Levelling.{keeps_all, below_more}
use Rattle.sto_orders.proofs.found.go_on_from.Goals as goal

pub loop-thread-init : goal.loop-thread-init
loop-thread-init c = record { found = λ count ways h. h; keeps = λ order has. has; next = λ order is t l. absurd (omega (arith, l)) }

pub loop-thread-preserved : goal.loop-thread-preserved
loop-thread-preserved c =
    let f = view c.args.file.now in
    let before = c.loop-thread.invariant in
    let more = c.in_ok-go_on.ensures in
    record {
      found = λ count ways h. more.found count ways (before.found count ways h);
      keeps = keeps_all c.args.by f c.args.found.now c.loop-thread.found c.go_on.new.found before.keeps more.keeps;
      next = below_more c.args.by f c.loop-thread.found c.go_on.new.found c.args.node.now.key c.loop-thread.thread more.keeps before.next more.next;
    }

pub returns-clause-next : goal.returns-clause-next
returns-clause-next c =
    let all : c.loop-thread.thread ≡ length (view c.args.file.now).threads =
    omega (arith, c.loop-thread-test.false, c.loop-thread.auto.thread-end, c.len-thread-end.ensures, length-threads c.args.file.now.threads.items) in
    subst (HasNextBelow c.args.by (view c.args.file.now) c.loop-thread.found c.args.node.now.key) all c.loop-thread.invariant.next
