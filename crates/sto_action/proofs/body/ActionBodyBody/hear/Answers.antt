-- A body that asks has heard fewer than it may, so there is room for one reply more.
use Rattle.std.proofs.Common.{◌++◌, [], ◌∷◌, length, arith, length-append, ap, ◌∙◌}
use Rattle.sto_action.proofs.Stepping.{asks_few}
use Rattle.sto_action.proofs.body.ActionBodyBody.hear.Goals as goal

pub push_spare-requires-clause-few : goal.push_spare-requires-clause-few
push_spare-requires-clause-few g c =
    let b = c.args.self.now in
    let k = asks_few b.shapes.now.items b.most (g.K.Action.does b.code.now) (b.heard.items ++ []) c.requires in
    omega (arith, k, length-append b.heard.items [], b.small)

pub push_spare-requires-clause-room : goal.push_spare-requires-clause-room
push_spare-requires-clause-room g c =
    let b = c.args.self.now in
    let k = asks_few b.shapes.now.items b.most (g.K.Action.does b.code.now) (b.heard.items ++ []) c.requires in
    omega (arith, k, length-append b.heard.items [], b.room)

pub invariant_of-self-clause-room : goal.invariant_of-self-clause-room
invariant_of-self-clause-room g c =
    let b = c.args.self.now in
    let k = asks_few b.shapes.now.items b.most (g.K.Action.does b.code.now) (b.heard.items ++ []) c.requires in
    let longer = ap (λ l. length l.items) c.push_spare.ensures ∙ length-append b.heard.items (c.shortened.result ∷ []) in
    let room = ap (λ l. l.spare) c.push_spare.ensures in
    omega (arith, k, length-append b.heard.items [], b.room, longer, room)

pub invariant_of-self-clause-few : goal.invariant_of-self-clause-few
invariant_of-self-clause-few g c =
    let b = c.args.self.now in
    let k = asks_few b.shapes.now.items b.most (g.K.Action.does b.code.now) (b.heard.items ++ []) c.requires in
    let longer = ap (λ l. length l.items) c.push_spare.ensures ∙ length-append b.heard.items (c.shortened.result ∷ []) in
    omega (arith, k, length-append b.heard.items [], longer)
