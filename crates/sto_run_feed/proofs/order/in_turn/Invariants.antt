use Rattle.std.specs.Prelude.{min}
use Rattle.std.specs.List.{All, AllPairs}
use Rattle.std.proofs.Common.{◌≡◌, ℕ, ◌+◌, ◌<◌, map}
use Rattle.sto_run_threads.specs.Orders.{positions_of, numbers_from, count_in}
use Rattle.sto_run_feed.specs.declared.order.TransactionPlace as code
use Rattle.sto_run_feed.specs.Orders.{place_of, Precedes}
use Rattle.sto_run_feed.proofs.order.in_turn.Given as goal

abbrev pub invariant-loop-earlier : goal.invariant-loop-earlier
invariant-loop-earlier g l = record {
  rising : AllPairs Precedes (map place_of l.order.items);
  before : All (λ (p : code.TransactionPlace). p.position < l.earlier + 1) l.order.items;
  each : (u : ℕ) → positions_of u (map place_of l.order.items) ≡ numbers_from 1 (min (count_in (g.W.Work.plan l.work).file.threads u) l.earlier);
}
