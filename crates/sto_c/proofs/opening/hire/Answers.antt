-- The worker is the one that rested last, once some had come back.
use Rattle.std.proofs.Common.{ap, ◌∙◌}
use Rattle.std.specs.Arc.{arc_value}
use Rattle.sto_c.proofs.opening.hire.Goals as goal

pub returns-in-Ok-hire-clause-hired : goal.returns-in-Ok-hire-clause-hired
returns-in-Ok-hire-clause-hired c = record {
  same = c.in-Ok-hire.ensures.same ∙ ap arc_value c.in-Ok.ensures.same.0;
  objects_same = c.in-Ok.ensures.same.1;
  before = c.refill.new.held;
  back = c.in-Ok.ensures.gathered;
  out = c.in-Ok-hire.ensures.out;
}
