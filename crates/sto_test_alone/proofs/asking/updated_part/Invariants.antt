use Rattle.std.proofs.Common.{◌≡◌, take}
use Rattle.sto_part.specs.Parts.{part_of}
use Rattle.sto_item.specs.Pending.{applied_updates}
use Rattle.sto_test_alone.proofs.asking.updated_part.Given as goal

abbrev pub invariant-loop-word : goal.invariant-loop-word
invariant-loop-word g l = l.made.items ≡ take l.word (part_of (applied_updates l.pending.updates l.contents.items) l.part)
