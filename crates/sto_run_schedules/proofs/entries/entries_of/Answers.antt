use Rattle.std.proofs.Common.{◌≡◌, ◌∷◌, ◌++◌, [], rules, map, take, get_or, sym, ap, ◌∙◌, refl, false}
use Rattle.std.proofs.lemmas.List.{take_more, map-append}
use Rattle.sto_lang.specs.declared.file.Turns.{Turns}
use Rattle.sto_explore.specs.declared.leg.Leg.{Leg}
use Rattle.sto_run_schedules.proofs.Inside.{legs_more, threads_more}
use Rattle.sto_run_schedules.proofs.entries.entries_of.Goals as goal

pub loop-leg-preserved : goal.loop-leg-preserved
loop-leg-preserved c =
    let legs = c.args.legs.now in
    let i = c.loop-leg.leg-index in
    let none : Leg = record { thread = 0; turns = 0; over = false } in
    let entry : Turns = record { thread = (get_or legs i none).thread; steps = c.in-Ok-try_from.steps } in
    let added : c.push.new.self.items ≡ c.loop-leg.entries.items ++ entry ∷ [] = search rules in
    record {
      turns = legs_more c.loop-leg.entries.items c.push.new.self.items legs i none entry c.loop-leg-test.true added refl c.in-Ok-try_from.ensures.1 c.loop-leg.invariant.turns;
      threads = threads_more c.loop-leg.entries.items c.push.new.self.items (map (λ (leg : Leg). leg.thread) (take i legs)) entry added c.loop-leg.invariant.threads
          ∙ sym (ap (map (λ (leg : Leg). leg.thread)) (take_more legs i none c.loop-leg-test.true) ∙ map-append (λ (leg : Leg). leg.thread) (take i legs) (get_or legs i none ∷ []));
    }
