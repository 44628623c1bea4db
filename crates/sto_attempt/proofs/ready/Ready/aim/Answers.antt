use Rattle.std.proofs.Common.{true, false, refl, sym, subst, List, arith}
use Rattle.sto_item.specs.Pending.{Entry, IsRising}
use Rattle.sto_attempt_log.proofs.Aiming.{written_is}
use Rattle.sto_attempt.proofs.ready.Ready.aim.Goals as goal

pub is_written-requires : goal.is_written-requires
is_written-requires g c = subst (λ (l : List Entry). IsRising l) (sym c.as_slice.ensures.items) c.as_slice.ensures.ordered.0

pub returns-then-is_written : goal.returns-then-is_written
returns-then-is_written g c = (
  refl,
  refl,
  omega (arith, c.requires, c.len.ensures, c.if-place-len.false),
  written_is c.as_slice.result.now c.args.self.now.log.table.lists.updates.items c.args.self.now.log.table.lists.tasks.items c.args.place c.get.result.now c.is_written.result true c.as_slice.ensures.items c.get.ensures c.is_written.ensures c.if-is_written.true,
)

pub returns-else-is_written : goal.returns-else-is_written
returns-else-is_written g c = (
  refl,
  omega (arith, c.requires, c.len.ensures, c.if-place-len.false),
  written_is c.as_slice.result.now c.args.self.now.log.table.lists.updates.items c.args.self.now.log.table.lists.tasks.items c.args.place c.get.result.now c.is_written.result false c.as_slice.ensures.items c.get.ensures c.is_written.ensures c.if-is_written.false,
)
