use Rattle.std.proofs.Common.{arith, sym, subst, ◌≡◌, ◌<◌, ◌≤◌, ◌∙◌, false, true, nat_lt, length, drop}
use Rattle.std.proofs.lemmas.Bool.Decides.{nat_tests}
use Rattle.sto_type.specs.Known.{known, beyond, Known, IsPartOf}
use Rattle.sto_type.specs.Joined.{call_beyond, plan_moved}
use Rattle.sto_type.specs.Moved.{IsPartOf-drop}
use Rattle.sto_type.specs.Plans.{IsPlan}
use Rattle.sto_type.proofs.Answering.{IfOk-mapped}
use Rattle.sto_type.proofs.Placed.{plan_first, plan_second, plan_twice, beyond_twice}
use Rattle.sto_type.proofs.both.BothTxType.say.Goals as goal

pub say-requires-else-call-objects-clause-part : goal.say-requires-else-call-objects-clause-part
say-requires-else-call-objects-clause-part g c =
    let n = length (g.A.TxType.meaning c.args.self.now.first).widths in
    let d = c.requires.part.0 in
    let f = c.args.first in
    let k = known c.args.cache.now in
    rw c.parts-parts.ensures (drop n d, c.requires.part.1.second, subst (λ (k : Known). IsPartOf k (drop n d)) (beyond_twice f n k) (IsPartOf-drop n (beyond f k) d c.requires.part.2))

pub returns-then-call-objects : goal.returns-then-call-objects
returns-then-call-objects g c =
    let ma = g.A.TxType.meaning c.args.self.now.first in
    let mb = g.B.TxType.meaning c.args.self.now.second in
    let la = g.met.A.TxType.lawful c.args.self.now.first in
    let lb = g.met.B.TxType.lawful c.args.self.now.second in
    let k = beyond c.args.first (known c.args.cache.now) in
    let below : c.args.call.now.object < length ma.machines = omega (arith, c.objects-objects.ensures, c.if-call-objects.true) in
    let low : nat_lt c.args.call.now.object (length ma.machines) ≡ true = grind (arith, nat_tests) in
    IfOk-mapped c.say.result _ _
    (λ need s. record { own = s.own; is = plan_first ma mb la lb c.args.call.now k low s.own s.is; moved = s.moved })
    c.say.ensures

pub returns-else-call-objects : goal.returns-else-call-objects
returns-else-call-objects g c =
    let ma = g.A.TxType.meaning c.args.self.now.first in
    let mb = g.B.TxType.meaning c.args.self.now.second in
    let la = g.met.A.TxType.lawful c.args.self.now.first in
    let lb = g.met.B.TxType.lawful c.args.self.now.second in
    let n = length ma.widths in
    let f = c.args.first in
    let k = known c.args.cache.now in
    let past : length ma.machines ≤ c.args.call.now.object = omega (arith, c.objects-objects.ensures, c.if-call-objects.false) in
    let high : nat_lt c.args.call.now.object (length ma.machines) ≡ false = grind (arith, nat_tests) in
    let call = rw c.objects-objects.ensures at c.call_from.ensures in
    let said = rw (call, c.parts-parts.ensures) at c.say-else-call-objects.ensures in
    IfOk-mapped c.say-else-call-objects.result _ _
    (λ need s. record {
      own = plan_moved n s.own;
      is = plan_second ma mb la lb c.args.call.now (beyond f k) high s.own
          (subst (λ (x : Known). IsPlan mb (call_beyond (length ma.machines) c.args.call.now) x s.own) (sym (beyond_twice f n k)) s.is);
      moved = s.moved ∙ sym (plan_twice f n s.own);
    })
    said
