use Rattle.std.proofs.Common.{arith, sym, subst, ◌∙◌, length, map, take, drop}
use Rattle.sto_type.specs.Known.{Known, known, beyond, IsPartOf}
use Rattle.sto_type.specs.Plans.{IsPlan}
use Rattle.sto_type.specs.Joined.{call_beyond, plan_moved}
use Rattle.sto_type.specs.JoinedLaw.{all_lawful}
use Rattle.sto_type.specs.Members.{objects_of, parts_of}
use Rattle.sto_type.proofs.Answering.{IfOk-mapped}
use Rattle.sto_type.proofs.Members.{takes_at, valid_at, part_at, planned_at, parts_around}
use Rattle.sto_type.proofs.Placed.{plan_twice, beyond_twice}
use Rattle.sto_type.proofs.many.ManyTxType.say.Goals as goal

pub place_of_object-place-requires : goal.place_of_object-place-requires
place_of_object-place-requires g c =
    ((all_lawful g.A.TxType.meaning g.met.A.TxType.lawful c.args.self.now).object c.args.call.now c.requires.takes)

pub overflow_add-from : goal.overflow_add-from
overflow_add-from g c =
    let p = c.place_of_object-place.ensures.place in
    let x = c.place_of_object-place.result.member.now in
    let there = p.there in
    let before = p.parts_before in
    omega (arith, before, parts_around g.A.TxType.meaning c.args.self.now p.number x there, c.requires.few)

pub say-requires-clause-takes : goal.say-requires-clause-takes
say-requires-clause-takes g c =
    let p = c.place_of_object-place.ensures.place in
    let x = c.place_of_object-place.result.member.now in
    let there = p.there in
    let o = p.objects_before in
    let same = takes_at g.A.TxType.meaning g.met.A.TxType.lawful c.args.self.now p.number x there c.args.call.now
    (omega (arith, o, c.place_of_object-place.ensures.first)) (omega (arith, o, c.place_of_object-place.ensures.last)) in
    rw (c.call_from.ensures, o) (subst (λ (T : Type 0). T) same c.requires.takes)

pub say-requires-clause-part : goal.say-requires-clause-part
say-requires-clause-part g c =
    let p = c.place_of_object-place.ensures.place in
    let x = c.place_of_object-place.result.member.now in
    let m = g.A.TxType.meaning x in
    let there = p.there in
    let before = p.parts_before in
    let d = c.requires.part.0 in
    let f = c.args.first in
    let k = known c.args.cache.now in
    let n = parts_of (map g.A.TxType.meaning (take p.number c.args.self.now)) in
    let own = take (length m.widths) (drop n d) in
    rw before (
      own,
      valid_at g.A.TxType.meaning g.met.A.TxType.lawful c.args.self.now p.number x there d c.requires.part.1,
      subst (λ (j : Known). IsPartOf j own) (beyond_twice f n k)
          (part_at g.A.TxType.meaning g.met.A.TxType.lawful c.args.self.now p.number x there (beyond f k) d c.requires.part.1 c.requires.part.2),
    )

pub say-requires-clause-few : goal.say-requires-clause-few
say-requires-clause-few g c =
    let p = c.place_of_object-place.ensures.place in
    let x = c.place_of_object-place.result.member.now in
    let there = p.there in
    let before = p.parts_before in
    omega (arith, before, parts_around g.A.TxType.meaning c.args.self.now p.number x there, c.requires.few)

pub returns : goal.returns
returns g c =
    let p = c.place_of_object-place.ensures.place in
    let x = c.place_of_object-place.result.member.now in
    let m = g.A.TxType.meaning x in
    let there = p.there in
    let o = p.objects_before in
    let before = p.parts_before in
    let f = c.args.first in
    let k = known c.args.cache.now in
    let n = parts_of (map g.A.TxType.meaning (take p.number c.args.self.now)) in
    let call = call_beyond (objects_of (map g.A.TxType.meaning (take p.number c.args.self.now))) c.args.call.now in
    let said = rw (c.call_from.ensures, o, before) at c.say.ensures in
    IfOk-mapped c.say.result _ _
    (λ need s. record {
      own = plan_moved n s.own;
      is = planned_at g.A.TxType.meaning g.met.A.TxType.lawful c.args.self.now p.number x there c.args.call.now (beyond f k) s.own
          (omega (arith, o, c.place_of_object-place.ensures.first)) (omega (arith, o, c.place_of_object-place.ensures.last))
          (subst (λ (j : Known). IsPlan m call j s.own) (sym (beyond_twice f n k)) s.is);
      moved = s.moved ∙ sym (plan_twice f n s.own);
    })
    said
