use Rattle.std.proofs.Common.{◌≡◌, ◌≤◌, ◌<◌, ℕ, List, [], Bool, true, false, pos, suc, sym, refl, ap, ◌∙◌, subst, arith, rules, ℤ, not, w64, to_z, of_z}
use Rattle.sto_core.specs.declared.view.View.{View}
use Rattle.sto_core.specs.Event.{Draw, after}
use Rattle.sto_core.specs.History.{Updates}
use Rattle.sto_test_layers.specs.Counter.{always, one_more, Rests}
use Rattle.sto_core.specs.Event.{Lock, Word, Decide}
use Rattle.sto_core.specs.Versions.{is_free, ticket_of}
use Rattle.sto_part.specs.Changes.{wrapped_sum}
use Rattle.std.proofs.Math.Bool.{not-not}
use Rattle.std.proofs.lemmas.Int.{to_z-of_z}
use Rattle.sto_test_layers.proofs.Additions.{counter_after, started_held, started_counter}
use Rattle.sto_test_layers.proofs.Additions.{may_decide, may_put, held_after}
use Rattle.sto_test_layers.proofs.counting.add.Goals as goal

pub decide-requires : goal.decide-requires
decide-requires g c =
    let view = g.C.Cells.view in
    let t = c.draw-ticket.ensures.tells in
    may_decide (view c.word-value.new.self) (view c.draw-ticket.new.self) t.0
    (t.2.after ∙ (λ j. after (Draw (c.requires.updates.0 j) (c.requires.updates.1 j) (c.requires.updates.1 j)) (view c.word-value.new.self) t.0 (pos 0)))
    t.2.learns.0.entries

pub put-requires : goal.put-requires
put-requires g c =
    let view = g.C.Cells.view in
    let t = c.draw-ticket.ensures.tells in
    let v = view c.args.pass.now in let w = view c.start.new.self in let l = view c.lock-found.new.self in
    let u = view c.word-value.new.self in let d = view c.draw-ticket.new.self in let z = view c.decide.new.self in
    let n = c.lock-found.result.0 in
    let x = c.word-value.result in
    let free : is_free n ≡ true = sym (not-not (is_free n)) ∙ sym (ap not c.if-is_locked.ensures) in
    let x_is = to_z-of_z w64 x (record { sfits = c.word-value.type_inv }) in
    let y_is = to_z-of_z w64 c.wrapping_sum.result (record { sfits = c.wrapping_sum.type_inv }) in
    let held = held_after w l u n x c.lock-found.ensures.tells.after free
    (started_held v w c.start.result c.start.ensures.tells.after 1 c.requires.pass) c.word-value.ensures.tells.after in
    let drawn_is = t.2.after ∙ (λ j. after (Draw (c.requires.updates.0 j) (c.requires.updates.1 j) (c.requires.updates.1 j)) u t.0 (pos 0)) in
    let counter = counter_after (Lock 0) w n (pos 0) l c.lock-found.ensures.tells.after
    (started_counter v w c.start.result c.start.ensures.tells.after 1 c.requires.pass) in
    let counter' = counter_after (Word 0 0) l 0 x u c.word-value.ensures.tells.after counter in
    let counter'' = counter_after (Draw one_more [] []) u t.0 (pos 0) d drawn_is counter' in
    may_put u d t.0 drawn_is t.2.learns.0.entries z c.decide.ensures.tells.after (ticket_of n) x
    (to_z w64 (of_z w64 c.wrapping_sum.result)) held
    (counter_after (Decide true) d 0 (pos 0) z c.decide.ensures.tells.after counter'')
    (y_is ∙ (c.wrapping_sum.ensures ∙ ap (λ (q : ℤ). wrapped_sum q (pos 1)) x_is))

pub returns-clause-same : goal.returns-clause-same
returns-clause-same g c =
    let t = g.met.C.Cells.same_through in
    t _ _ _ c.start.ensures.same (t _ _ _ c.lock-found.ensures.same (t _ _ _ c.word-value.ensures.same
    (t _ _ _ c.draw-ticket.ensures.same (t _ _ _ c.decide.ensures.same
    (t _ _ _ c.put.ensures.same c.release.ensures.same)))))
