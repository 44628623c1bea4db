use Rattle.std.proofs.Common.{◌≡◌, ◌+◌, ◌≤◌, List, length, take, sum_by, sym, ap, ◌∙◌, subst, arith}
use Rattle.std.proofs.lemmas.List.{take_all}
use Rattle.sto_lang.specs.declared.file.Thread.{Thread}
use Rattle.sto_lang.specs.Drafts.{transaction_count}
use Rattle.sto_lang.specs.Views.{threads_of}
use Rattle.sto_checker.proofs.Taken.{count_some, count_next, count_fits}
use Rattle.sto_orders.proofs.explored.transaction_count.Goals as goal

pub overflow_add-count : goal.overflow_add-count
overflow_add-count c =
    let ts = c.as_slice-thread-items.result.now in
    let next = count_next ts c.loop-thread.thread-index c.thread-item.result c.loop-thread-test.true c.thread-item.is in
    let fits = count_fits ts (c.loop-thread.thread-index + 1) in
    let same = ap (λ (l : List Thread). transaction_count (threads_of l)) c.as_slice-thread-items.ensures.items in
    omega (arith, next, fits, same, c.loop-thread.invariant, c.len-count.ensures, c.requires.few_transactions)

pub loop-thread-preserved : goal.loop-thread-preserved
loop-thread-preserved c =
    let next = count_next c.as_slice-thread-items.result.now c.loop-thread.thread-index c.thread-item.result c.loop-thread-test.true c.thread-item.is in
    omega (arith, next, c.loop-thread.invariant, c.len-count.ensures)

pub returns : goal.returns
returns c =
    let ts = c.as_slice-thread-items.result.now in
    c.loop-thread.invariant
    ∙ ap (sum_by (λ (t : Thread). length t.scripts.items)) (take_all c.loop-thread.thread-index ts (omega (arith, c.loop-thread-test.false)))
    ∙ count_some ts
    ∙ ap (λ (l : List Thread). transaction_count (threads_of l)) c.as_slice-thread-items.ensures.items
