use Rattle.std.specs.Prelude.{nat_eq}
use Rattle.std.proofs.Common.{arith}
use Rattle.std.proofs.lemmas.List.Sums.{prefix_len-le-length}
use Rattle.sto_trace.specs.declared.Step.{Step}
use Rattle.sto_run_schedules.proofs.legs.front.Goals as goal

pub returns-clause-within : goal.returns-clause-within
returns-clause-within c =
    let few = prefix_len-le-length (λ (step : Step). nat_eq step.thread c.args.thread) c.args.steps.now in
    let counted = c.own_front.ensures in
    let least = c.min.ensures in
    omega (arith, few, counted, least)
