use Rattle.std.proofs.Common.{◌≡◌, length}
use Rattle.sto_lang.specs.Views.{threads_of, names_of}
use Rattle.sto_lang.specs.Sound.{numbered_from}
use Rattle.sto_gen.specs.Generated.{state_before, threads}
use Rattle.sto_gen.proofs.file.threads.Given as goal

abbrev pub invariant-loop-thread : goal.invariant-loop-thread
invariant-loop-thread l = (threads_of l.threads.items ≡ threads l.number l.thread)
    × (names_of l.threads.items ≡ numbered_from 0 l.thread)
    × (l.draws.state ≡ state_before l.thread l.number) × (length l.threads.items ≡ l.thread)
