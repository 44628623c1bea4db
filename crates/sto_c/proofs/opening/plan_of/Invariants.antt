-- All that were taken are planned, each behind those before it.
use Rattle.std.proofs.Common.{◌≡◌, [], map, take, Some}
use Rattle.sto_shared_store.specs.Plans.{AllStand}
use Rattle.sto_c.specs.Crossing.{shape_in}
use Rattle.sto_c.specs.Stores.{AreScalars}
use Rattle.sto_c.proofs.opening.plan_of.Given as goal

abbrev pub invariant-loop-given : goal.invariant-loop-given
invariant-loop-given l = record {
  planned : map shape_in (take l.given-index l.shapes) ≡ map Some l.plan;
  stand : AllStand [] l.plan;
  scalars : AreScalars l.scalars l.plan;
}
