use Rattle.std.proofs.Common.{◌≡◌, length}
use Rattle.std.specs.List.{list_all}
use Rattle.sto_syntax.specs.Views.{entries}
use Rattle.sto_lang.specs.Limits.{is_turn}
use Rattle.sto_schedule.proofs.entry.are_turns.Given as goal

abbrev pub invariant-loop-entry : goal.invariant-loop-entry
invariant-loop-entry l = list_all (is_turn l.threads) (entries l.rest) ≡ list_all (is_turn l.threads) (entries l.initial.rest)

abbrev pub decreases-loop-entry : goal.decreases-loop-entry
decreases-loop-entry l = length l.rest.bytes.now
