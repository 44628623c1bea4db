use Rattle.std.proofs.Common.{rules, ◌≡◌, ◌≤◌, ◌+◌, ◌++◌, [], ◌∷◌, map, take, drop, length, append_assoc, get_or, sym, ap, ◌∙◌}
use Rattle.sto_explore.specs.Branches.{offer_of, part_of, switches_in, offers_to}
use Rattle.sto_explore.specs.declared.leg.Leg.{Leg}
use Rattle.std.proofs.lemmas.List.{take_rest, take_more}
use Rattle.sto_explore.proofs.Offers.{legs_more}
use Rattle.sto_explore.proofs.branch.offer_all.Goals as goal

pub loop-place-preserved : goal.loop-place-preserved
loop-place-preserved c =
    let place = c.loop-place.place in
    let was = c.loop-place.invariant in
    let inside : place + 1 ≤ length c.args.order.now = search rules in
    let leg : Leg = get_or c.args.legs.now place (part_of 0 0) in
    let here : leg ≡ get_or c.args.legs.now place leg = search rules in
    let pushed : c.push.new.self.items ≡ c.loop-place.decided.items ++ leg ∷ [] = search rules in
    let switches : map offer_of c.offer_switches.new.todo.items ≡ map offer_of c.loop-place.todo.items ++ switches_in c.loop-place.decided.items c.args.left (drop (place + 1) c.args.order.now) leg = search (rules, take_rest) in
    let others : map offer_of c.offer_others.new.todo.items ≡ map offer_of c.offer_switches.new.todo.items ++ offers_to c.push.new.self.items c.args.left (drop 1 (drop (place + 1) c.args.order.now)) = search (rules, take_rest) in
    record {
      todo = legs_more c.loop-place.decided.items c.push.new.self.items c.args.legs.now c.args.left place c.args.order.now leg _
          (map offer_of c.loop-place.todo.items) (map offer_of c.offer_switches.new.todo.items) (map offer_of c.offer_others.new.todo.items) 0
          inside c.requires here pushed switches others was.todo;
      legs = pushed ∙ ap (λ ls. ls ++ leg ∷ []) was.legs ∙ append_assoc c.args.decided.items (take place c.args.legs.now) (leg ∷ []) ∙ ap (λ ls. c.args.decided.items ++ ls) (sym (take_more c.args.legs.now place (part_of 0 0) (search rules)));
    }
