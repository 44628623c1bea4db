use Rattle.std.proofs.Common.{◌≡◌, length}
use Rattle.std.specs.List.{list_all}
use Rattle.sto_syntax.specs.Views.{entries}
use Rattle.sto_lang.specs.Uses.{is_known_thread}
use Rattle.sto_lang.specs.Views.{names_of}
use Rattle.sto_schedule.proofs.entry.are_known_threads.Given as goal

abbrev pub invariant-loop-entry : goal.invariant-loop-entry
invariant-loop-entry l =
    list_all (λ entry. is_known_thread (names_of l.threads) entry.thread) (entries l.rest)
    ≡ list_all (λ entry. is_known_thread (names_of l.threads) entry.thread) (entries l.initial.rest)

abbrev pub decreases-loop-entry : goal.decreases-loop-entry
decreases-loop-entry l = length l.rest.bytes.now
