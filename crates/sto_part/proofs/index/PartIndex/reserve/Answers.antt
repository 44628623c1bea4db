use Rattle.std.proofs.Common.{◌≡◌, ◌∙◌, ◌-◌, ◌+◌, ◌<◌, sym, ap, subst, nat_eq, nat_lt, true, false, arith, length, replicate, unwrap_or}
use Rattle.std.proofs.lemmas.List.{length-append, length-replicate}
use Rattle.std.proofs.lemmas.Bool.Decides.{nat_tests}
use Rattle.std.specs.Map.{lookup}
use Rattle.sto_part.specs.Index.{near_end, place_at, HasRoom}
use Rattle.sto_part.specs.Stamps.{fresh, places_by}
use Rattle.sto_part.proofs.Stamped.{told, stamp_of, place_told, near_room, near_longer, far_added, far_room, there_added, room_longer, room_more}
use Rattle.sto_part.proofs.index.PartIndex.reserve.Goals as goal

pub returns-then-part-ge-NEAR_END-clause-same : goal.returns-then-part-ge-NEAR_END-clause-same
returns-then-part-ge-NEAR_END-clause-same c q =
    let i = c.self.inside in
    place_told i.generation i.near.items c.add_far.new.far.entries q
    ∙ far_added i.generation i.near.items i.far.entries c.add_far.new.far.entries c.args.part q c.self.invariant.0 c.in_ok-add_far.ensures.ok
    ∙ sym (place_told i.generation i.near.items i.far.entries q)
    ∙ ap (λ v. place_at v q) c.self.view_is

pub returns-then-part-ge-NEAR_END-clause-ok : goal.returns-then-part-ge-NEAR_END-clause-ok
returns-then-part-ge-NEAR_END-clause-ok c =
    let i = c.self.inside in
    let far : nat_lt c.args.part near_end ≡ false = grind (arith, nat_tests, c.if-part-ge-NEAR_END.true) in
    far_room i.generation i.near.items c.add_far.new.far.entries c.args.part far (there_added i.far.entries c.add_far.new.far.entries c.args.part c.in_ok-add_far.ensures.ok)

pub returns-then-part-have-clause-ok : goal.returns-then-part-have-clause-ok
returns-then-part-have-clause-ok c =
    let i = c.self.inside in
    let near : nat_lt c.args.part near_end ≡ true = grind (arith, nat_tests, c.if-part-ge-NEAR_END.false) in
    subst (λ v. HasRoom v c.args.part) c.self.view_is (near_room i.generation i.near.items i.far.entries c.args.part near (omega (arith, c.if-part-have.true, c.len-have.ensures)))

pub returns-then-part-ge-NEAR_END-clause-room : goal.returns-then-part-ge-NEAR_END-clause-room
returns-then-part-ge-NEAR_END-clause-room c q room =
    let i = c.self.inside in
    room_more i.generation i.near.items i.far.entries c.add_far.new.far.entries c.args.part q (unwrap_or (lookup (nat_eq c.args.part) i.far.entries) fresh) c.in_ok-add_far.ensures.ok (subst (λ v. HasRoom v q) (sym c.self.view_is) room)

pub returns-clause-room : goal.returns-clause-room
returns-clause-room c q room =
    let i = c.self.inside in
    subst (λ ss. HasRoom (places_by i.generation ss i.far.entries) q) (sym c.in_ok-lengthen.ensures.ok) (room_longer i.generation i.near.items i.far.entries (c.args.part + 1 - c.len-have.result) q (subst (λ v. HasRoom v q) (sym c.self.view_is) room))

pub returns-clause-same : goal.returns-clause-same
returns-clause-same c q =
    let i = c.self.inside in
    let more = c.args.part + 1 - c.len-have.result in
    place_told i.generation c.lengthen.new.stamps.items i.far.entries q
    ∙ ap (λ ss. told i.generation (stamp_of ss i.far.entries q)) c.in_ok-lengthen.ensures.ok
    ∙ near_longer i.generation more i.near.items i.far.entries q c.self.invariant.0
    ∙ sym (place_told i.generation i.near.items i.far.entries q)
    ∙ ap (λ v. place_at v q) c.self.view_is

pub returns-clause-ok : goal.returns-clause-ok
returns-clause-ok c =
    let i = c.self.inside in
    let near : nat_lt c.args.part near_end ≡ true = grind (arith, nat_tests, c.if-part-ge-NEAR_END.false) in
    let more = c.args.part + 1 - c.len-have.result in
    let longer : length c.lengthen.new.stamps.items ≡ length i.near.items + more = ap length c.in_ok-lengthen.ensures.ok ∙ length-append i.near.items (replicate more fresh) ∙ ap (λ n. length i.near.items + n) (length-replicate more fresh) in
    near_room i.generation c.lengthen.new.stamps.items i.far.entries c.args.part near (omega (arith, longer, c.len-have.ensures))
