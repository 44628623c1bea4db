use Rattle.std.proofs.Common.{◌≤◌, ◌<◌, ◌+◌, ◌++◌, ℕ, List, ap, ◌∙◌, arith}
use Rattle.std.proofs.lemmas.List.Elements.{All-weaker}
use Rattle.sto_run_threads.specs.Orders.{count_in}
use Rattle.sto_run_feed.specs.declared.order.TransactionPlace as code
use Rattle.sto_run_feed.proofs.Orders.{one_at, next_position}
use Rattle.sto_run_feed.proofs.order.in_turn.Goals as goal

pub loop-earlier-preserved : goal.loop-earlier-preserved
loop-earlier-preserved g c =
    let count : ℕ → ℕ = count_in (g.W.Work.plan c.args.work.now).file.threads in
    let earlier = c.loop-earlier.earlier in
    record {
      rising = c.in_ok-add_round.ensures.rising;
      before = All-weaker (λ (p : code.TransactionPlace). p.position ≤ earlier + 1) (λ (p : code.TransactionPlace). p.position < earlier + 1 + 1) (λ p l. omega (arith, l)) c.add_round.new.order.items c.in_ok-add_round.ensures.later;
      each = λ u. c.in_ok-add_round.ensures.each u ∙ ap (λ (l : List ℕ). l ++ one_at (earlier + 1) (count u)) (c.loop-earlier.invariant.each u) ∙ next_position (count u) earlier;
    }
