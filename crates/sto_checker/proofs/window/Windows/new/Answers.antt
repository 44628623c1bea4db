use Rattle.std.proofs.Common.{[], ◌∷◌, length, ap, arith, length-append}
use Rattle.sto_part.specs.Listed.{Listed}
use Rattle.sto_checker.specs.declared.window.Window.{Window}
use Rattle.sto_checker.proofs.Lists.{empty_more}
use Rattle.sto_checker.proofs.window.Windows.new.Goals as goal

pub loop-preserved : goal.loop-preserved
loop-preserved c = record {
  empty = empty_more c.loop.made.items c.push.new.self.items c.new-none.result c.loop.counter c.in_ok-push.ensures.ok (ap (λ (l : Listed Window). l.items) c.new-none.ensures) c.loop.invariant.empty;
  count = let e = ap length c.in_ok-push.ensures.ok in let l = length-append c.loop.made.items (c.new-none.result ∷ []) in omega (arith, e, l, c.loop.invariant.count);
}
