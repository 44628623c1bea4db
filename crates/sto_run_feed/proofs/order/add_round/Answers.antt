use Rattle.std.proofs.Common.{rules, ◌≡◌, ◌+◌, ◌++◌, ℕ, List, [], ◌∷◌, sym, ap, ◌∙◌, subst, arith, inl, inr}
use Rattle.sto_run_threads.specs.Orders.{count_in}
use Rattle.sto_run_threads.proofs.Claiming.{count_case}
use Rattle.sto_run_feed.specs.declared.order.TransactionPlace as code
use Rattle.sto_run_feed.proofs.Orders.{HasCome, round_adds, round_passes, round_each}
use Rattle.sto_run_feed.proofs.order.add_round.Goals as goal
use Rattle.sto_run_feed.proofs.order.add_round.Goals.{then-position-count+in-Ok, else-position-count}

pub loop-thread-preserved : goal.loop-thread-preserved
loop-thread-preserved g c =
    let count : ℕ → ℕ = count_in (g.W.Work.plan c.args.work.now).file.threads in
    let first = c.args.order.now.items in let items = c.loop-thread.order.items in let thread = c.loop-thread.thread in
    let p : code.TransactionPlace = record { thread = thread; position = c.args.position } in
    elim c.if-position-count.branch [
      | then-position-count+in-Ok w ↦
          (let more : c.if-position-count.order.items ≡ items ++ p ∷ [] = ap (λ v. v.items) w.order-is ∙ w.in-Ok.ensures.items in
          let low = w.if-position-count.true in let is = c.count.ensures in
          record { come = subst (λ (l : List code.TransactionPlace). HasCome first l c.args.position (thread + 1) count) (sym more) (round_adds first items p count c.loop-thread.invariant.come (omega (arith, low, is))) })
      | else-position-count w ↦
          (let same : c.if-position-count.order.items ≡ items = ap (λ v. v.items) w.order-is in
          let past = w.if-position-count.false in let is = c.count.ensures in
          record { come = subst (λ (l : List code.TransactionPlace). HasCome first l c.args.position (thread + 1) count) (sym same) (round_passes first items c.args.position thread count c.loop-thread.invariant.come (omega (arith, past, is))) })
    ]

pub returns : goal.returns
returns g c =
    let threads = (g.W.Work.plan c.args.work.now).file.threads in
    let end = c.threads-thread-end.ensures in let far = c.loop-thread-test.false in
    record {
      later = search rules;
      rising = search rules;
      each = round_each c.args.order.now.items c.loop-thread.order.items c.args.position c.loop-thread.thread (count_in threads) c.loop-thread.invariant.come c.requires.some
          (λ u l. elim (count_case threads u) [
            | inl low ↦ absurd (omega (arith, low, l, end, far))
            | inr none ↦ none
          ]);
    }
