use Rattle.std.proofs.Common.{◌≡◌, ◌++◌, ◌+◌, ◌^◌, ◌<◌, true, map, length}
use Rattle.std.specs.List.{list_all}
use Rattle.sto_syntax.specs.Views.{entries}
use Rattle.sto_lang.specs.Views.{names_of}
use Rattle.sto_lang.specs.Limits.{is_in_range}
use Rattle.sto_lang.specs.Drafts.{turns_of}
use Rattle.sto_schedule.proofs.entry.turns.Given as goal

abbrev pub invariant-loop-entry : goal.invariant-loop-entry
invariant-loop-entry l =
    (list_all is_in_range (entries l.rest) ≡ true) × (l.made.items ++ map (turns_of (names_of l.threads)) (entries l.rest) ≡ map (turns_of (names_of l.threads)) (entries l.initial.rest)) × (length l.made.items + length l.rest.bytes.now < 2 ^ 32)

abbrev pub decreases-loop-entry : goal.decreases-loop-entry
decreases-loop-entry l = length l.rest.bytes.now
