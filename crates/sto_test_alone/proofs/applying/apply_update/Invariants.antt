use Rattle.std.proofs.Common.{◌≡◌, take}
use Rattle.sto_item.specs.Pending.{applied_update}
use Rattle.sto_test_alone.proofs.applying.apply_update.Given as goal

abbrev pub invariant-loop-word : goal.invariant-loop-word
invariant-loop-word g l = l.contents ≡ record l.fn.contents { items = applied_update (l.part, take l.word l.update.items) l.fn.contents.items }
