use Rattle.std.proofs.Common.{◌≡◌, map, length}
use Rattle.sto_lang.specs.Views.{script}
use Rattle.sto_gen.specs.Draws.{state_after}
use Rattle.sto_gen.specs.Generated.{transactions}
use Rattle.sto_gen.proofs.file.transactions.Given as goal

abbrev pub invariant-loop-earlier : goal.invariant-loop-earlier
invariant-loop-earlier l = (map script l.scripts.items ≡ transactions l.thread l.initial.draws.state l.earlier)
    × (l.draws.state ≡ state_after l.earlier l.initial.draws.state) × (length l.scripts.items ≡ l.earlier)
