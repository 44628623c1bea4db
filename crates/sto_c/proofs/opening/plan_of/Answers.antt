-- The next shape is planned, or is the first that cannot stand behind those before it.
use Rattle.std.proofs.Common.{◌≡◌, ℕ, get_or, List, [], Result, Ok, Err, pos, sym, subst, arith}
use Rattle.std.specs.Prelude.{IfErr}
use Rattle.std.specs.Result.{IsErrAnd}
use Rattle.std.proofs.lemmas.Option.{slice_get-get_or}
use Rattle.sto_model.specs.declared.shape.Shape.{Shape}
use Rattle.sto_shared_store.specs.declared.plan_error.PlanError.{PlanError}
use Rattle.sto_shared_store.specs.Plans.{AllStand}
use Rattle.sto_c.specs.declared.crossing.ShapeIn.{ShapeIn}
use Rattle.sto_c.specs.declared.status.Status.{Status}
use Rattle.sto_c.specs.declared.status.Status.TheVariants.{BadKind}
use Rattle.sto_c.specs.Statuses.{of_unplanned}
use Rattle.sto_c.specs.Stores.{IsUnplanned}
use Rattle.sto_c.proofs.Scalars.{few_scalars, scalars_next}
use Rattle.sto_c.proofs.Planned.{refused_at, unplanned_at, stand_more, planned_next}
use Rattle.sto_c.proofs.opening.plan_of.Goals as goal

abbrev any_shape : ShapeIn
any_shape = record { kind = 0; size = 0; places = 0; unused = 0; value = pos 0 }

by_error : (r : Result (List Shape × ℕ) Status) (error : PlanError) (P : Status → Type 0) → IsErrAnd r (λ why. why ≡ of_unplanned error) → P (of_unplanned error) → IfErr r P
by_error (Ok plan) error P is h = absurd is
by_error (Err why) error P is h = subst P (sym is) h

pub returns-in_default-clause-refused : goal.returns-in_default-clause-refused
returns-in_default-clause-refused c =
    let gs = c.args.shapes.now in
    let i = c.loop-given.given-index in
    refused_at gs (get_or gs i any_shape) c.loop-given.plan i BadKind (slice_get-get_or gs i any_shape (omega arith)) c.loop-given.invariant.planned c.loop-given.invariant.stand (sym c.in_default.ensures)

pub returns-in_err-add-clause-refused : goal.returns-in_err-add-clause-refused
returns-in_err-add-clause-refused c =
    let gs = c.args.shapes.now in
    let i = c.loop-given.given-index in
    let error = c.in_err-add.field-0.0 in
    by_error c.from_residual.result error (λ why. IsUnplanned gs why) c.from_residual.ensures.1
    (unplanned_at gs (get_or gs i any_shape) c.loop-given.plan c.in-Some.shape i error (slice_get-get_or gs i any_shape (omega arith)) c.loop-given.invariant.planned c.loop-given.invariant.stand c.in-Some.ensures c.in_err-add.ensures.reason)

pub count_scalar-scalars-requires : goal.count_scalar-scalars-requires
count_scalar-scalars-requires c =
    let few = few_scalars c.loop-given.scalars c.loop-given.plan c.loop-given.invariant.scalars in
    let more = c.in_ok-add.ensures.stands.few in
    omega (arith, few, more)

pub loop-given-preserved : goal.loop-given-preserved
loop-given-preserved c =
    let gs = c.args.shapes.now in
    let i = c.loop-given.given-index in
    record {
      planned = planned_next gs (get_or gs i any_shape) c.loop-given.plan c.add.new.self c.in-Some.shape i (slice_get-get_or gs i any_shape (omega arith)) c.loop-given.invariant.planned c.in-Some.ensures c.in_ok-add.ensures.added;
      stand = subst (λ (l : List Shape). AllStand [] l) (sym c.in_ok-add.ensures.added) (stand_more [] c.loop-given.plan c.in-Some.shape c.loop-given.invariant.stand c.in_ok-add.ensures.stands);
      scalars =
          scalars_next c.loop-given.scalars c.count_scalar-scalars.result c.loop-given.plan c.add.new.self c.in-Some.shape c.loop-given.invariant.scalars
          c.in_ok-add.ensures.stands.order c.in_ok-add.ensures.added c.count_scalar-scalars.ensures.scalar c.count_scalar-scalars.ensures.other;
    }
