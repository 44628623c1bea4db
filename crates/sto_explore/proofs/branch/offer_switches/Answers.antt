use Rattle.std.proofs.Common.{rules, ◌≡◌, ◌≤◌, ◌-◌, ◌++◌, [], ◌∷◌, map, length, take, ap, ◌∙◌, arith}
use Rattle.std.proofs.Math.Seq.{take-append_seam}
use Rattle.sto_explore.specs.Branches.{offer_of, part_of}
use Rattle.sto_explore.proofs.Offers.{within_more, within_all}
use Rattle.sto_explore.proofs.branch.offer_switches.Goals as goal

pub loop-turns-preserved : goal.loop-turns-preserved
loop-turns-preserved c =
    let was = c.loop-turns.invariant in
    let legs = c.args.decided.now.items in
    let part = part_of c.args.leg.now.thread c.loop-turns.turns in
    let some : 1 ≤ c.loop-turns.turns = search rules in
    let added : c.push.new.self.items ≡ c.loop-turns.decided.items ++ part ∷ [] = search rules in
    let pushed : c.push.new.self.items ≡ legs ++ part ∷ [] = added ∙ ap (λ ls. ls ++ part ∷ []) was.same in
    let long : c.len-count.result ≡ length legs = search rules in
    record {
      todo = within_more legs c.push.new.self.items (c.args.left - 1) c.args.threads.now c.args.leg.now.thread c.loop-turns.turns
          (map offer_of c.args.todo.now.items) (map offer_of c.loop-turns.todo.items) (map offer_of c.offer.new.todo.items)
          some pushed was.todo (search rules);
      same = c.truncate.ensures.items ∙ (λ i. take (long i) (pushed i)) ∙ take-append_seam legs (part ∷ []);
      within = search rules;
    }

pub returns-clause-todo : goal.returns-clause-todo
returns-clause-todo c =
    let was = c.loop-turns.invariant in
    let some : 1 ≤ c.args.left = search rules in
    let past : c.args.leg.now.turns ≤ c.loop-turns.turns = search rules in
    let within = was.within in
    was.todo ∙ ap (λ os. map offer_of c.args.todo.now.items ++ os)
    (within_all c.args.decided.now.items c.args.left c.args.threads.now c.args.leg.now (c.loop-turns.turns - 1) some (omega (arith, past, within)))
