-- All shapes are planned.
use Rattle.std.proofs.Common.{length, Some, sym, ap, ◌∙◌}
use Rattle.std.proofs.lemmas.List.{length-map}
use Rattle.sto_store.specs.declared.objects.Objects.{Objects}
use Rattle.sto_store.specs.contracts.objects.ObjectsNaming.TheImpl.{ghosts as naming_ghosts}
use Rattle.sto_part.specs.Listed.{Listed}
use Rattle.sto_shared_store.specs.declared.store.Store.{Store}
use Rattle.sto_shared_store.specs.declared.worker.CountedRest.{CountedRest}
use Rattle.sto_c.specs.Content.{objects}
use Rattle.sto_c.specs.Crossing.{shape_in}
use Rattle.sto_c.proofs.Planned.{opened_new}
use Rattle.sto_c.proofs.opening.open.Goals as goal

pub returns-in-Ok-clause-shapes : goal.returns-in-Ok-clause-shapes
returns-in-Ok-clause-shapes c =
    let gs = c.args.shapes.now in
    let plan = c.in_ok-plan.plan in
    let all = c.in_ok-plan.ensures.plan.0 in
    record {
      planned = plan;
      all = all;
      machines = ap (λ (s : Store Objects). (objects.meaning s.ty).machines) c.in-Ok.ensures.store ∙ c.in_ok-opened.ensures.machines;
      scalars = c.in_ok-plan.ensures.scalars;
      count = c.len.ensures ∙ sym (length-map plan Some) ∙ ap length (sym all) ∙ length-map gs shape_in;
      passes = ap (λ (s : Store Objects). s.shared.table.shared.key.passes) c.in-Ok.ensures.store ∙ c.in_ok-opened.ensures.passes;
      rest = ap (λ (l : Listed (CountedRest Objects naming_ghosts)). length l.items) c.in-Ok.ensures.idle ∙ c.in_ok-opened.ensures.many;
      new =
          opened_new _ _ _ _ c.in-Ok.ensures.store (ap (λ (l : Listed (CountedRest Objects naming_ghosts)). l.items) c.in-Ok.ensures.idle)
          c.in_ok-opened.ensures.fresh c.in_ok-opened.ensures.left;
      none_out = c.in-Ok.ensures.slots;
    }
