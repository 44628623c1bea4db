use Rattle.std.proofs.Common.{◌≡◌, ◌∙◌, sym, ap, subst, nat_eq, nat_lt, if◌then◌else◌, true, false, Some, arith}
use Rattle.std.proofs.lemmas.Bool.Decides.{nat_tests}
use Rattle.sto_part.specs.Index.{near_end, place_at, HasRoom}
use Rattle.sto_part.specs.declared.index.Stamp.{Stamp}
use Rattle.sto_part.specs.Stamps.{places_by}
use Rattle.sto_part.proofs.Stamped.{told, stamp_of, place_told, near_put, near_known, far_put, far_known, room_set, room_more}
use Rattle.sto_part.proofs.index.PartIndex.put.Goals as goal

pub set_far-requires : goal.set_far-requires
set_far-requires c =
    let i = c.self.inside in
    let far : nat_lt c.args.part near_end ≡ false = grind (arith, nat_tests, c.if-part-lt-NEAR_END.false) in
    far_known i.generation i.near.items i.far.entries c.args.part far (subst (λ v. HasRoom v c.args.part) (sym c.self.view_is) c.requires)

pub returns-then-part-lt-NEAR_END-clause-at : goal.returns-then-part-lt-NEAR_END-clause-at
returns-then-part-lt-NEAR_END-clause-at c q =
    let i = c.self.inside in
    let near : nat_lt c.args.part near_end ≡ true = grind (arith, nat_tests, c.if-part-lt-NEAR_END.true) in
    place_told i.generation c.set.new.self.items i.far.entries q
    ∙ ap (λ ss. told i.generation (stamp_of ss i.far.entries q)) (ap (λ l. l.items) c.set.ensures)
    ∙ near_put i.generation i.near.items i.far.entries c.args.part c.args.place q near (near_known i.generation i.near.items i.far.entries c.args.part near (subst (λ v. HasRoom v c.args.part) (sym c.self.view_is) c.requires))
    ∙ ap (λ o. if nat_eq c.args.part q then Some c.args.place else o) (sym (place_told i.generation i.near.items i.far.entries q) ∙ ap (λ v. place_at v q) c.self.view_is)

pub returns-else-part-lt-NEAR_END-clause-at : goal.returns-else-part-lt-NEAR_END-clause-at
returns-else-part-lt-NEAR_END-clause-at c q =
    let i = c.self.inside in
    let far : nat_lt c.args.part near_end ≡ false = grind (arith, nat_tests, c.if-part-lt-NEAR_END.false) in
    place_told i.generation i.near.items c.set_far.new.far.entries q
    ∙ far_put i.generation i.near.items i.far.entries c.set_far.new.far.entries c.args.part c.args.place q far c.set_far.ensures
    ∙ ap (λ o. if nat_eq c.args.part q then Some c.args.place else o) (sym (place_told i.generation i.near.items i.far.entries q) ∙ ap (λ v. place_at v q) c.self.view_is)

pub returns-then-part-lt-NEAR_END-clause-room : goal.returns-then-part-lt-NEAR_END-clause-room
returns-then-part-lt-NEAR_END-clause-room c q room =
    let i = c.self.inside in
    let s : Stamp = record { generation = i.generation; place = c.args.place } in
    subst (λ ss. HasRoom (places_by i.generation ss i.far.entries) q) (sym (ap (λ l. l.items) c.set.ensures)) (room_set i.generation i.near.items i.far.entries c.args.part q s (subst (λ v. HasRoom v q) (sym c.self.view_is) room))

pub returns-else-part-lt-NEAR_END-clause-room : goal.returns-else-part-lt-NEAR_END-clause-room
returns-else-part-lt-NEAR_END-clause-room c q room =
    let i = c.self.inside in
    let s : Stamp = record { generation = i.generation; place = c.args.place } in
    room_more i.generation i.near.items i.far.entries c.set_far.new.far.entries c.args.part q s c.set_far.ensures (subst (λ v. HasRoom v q) (sym c.self.view_is) room)
