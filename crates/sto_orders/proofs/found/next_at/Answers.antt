use Rattle.std.proofs.Common.{◌≡◌, ℕ, suc, ◌+◌, ◌<◌, List, length, get_or, slice_index_or, ap, arith}
use Rattle.sto_lang.specs.Views.{file as view}
use Rattle.sto_report_spec.specs.Orders.{TransactionPlace as Place}
use Rattle.sto_checker.proofs.Places.{count_at, length-threads}
use Rattle.sto_orders.specs.Keys.{done_in}
use Rattle.sto_orders.proofs.Nexts.{done_is}
use Rattle.sto_orders.proofs.found.next_at.Goals as goal

pub returns-then-count-done-clause-none : goal.returns-then-count-done-clause-none
returns-then-count-done-clause-none c = λ none by order is.
    let f = view c.args.file.now in
    let t = c.args.thread in
    let inside : t < length f.threads = omega (arith, c.requires.thread, length-threads c.args.file.now.threads.items) in
    let done : slice_index_or c.as_slice-all.result.now t 0 ≡ done_in order t =
    done_is by f order c.args.key.now t (slice_index_or c.as_slice-all.result.now t 0) is inside (ap (λ (ns : List ℕ). get_or ns t 0) c.as_slice-all.ensures.value) in
    let count = count_at c.args.file.now.threads.items t c.get.result.now c.get.ensures in
    omega (arith, c.if-count-done.true, c.len-count.ensures, done, count)

pub returns-clause-some : goal.returns-clause-some
returns-clause-some c = λ by order is.
    let f = view c.args.file.now in
    let t = c.args.thread in
    let inside : t < length f.threads = omega (arith, c.requires.thread, length-threads c.args.file.now.threads.items) in
    let done : slice_index_or c.as_slice-all.result.now t 0 ≡ done_in order t =
    done_is by f order c.args.key.now t (slice_index_or c.as_slice-all.result.now t 0) is inside (ap (λ (ns : List ℕ). get_or ns t 0) c.as_slice-all.ensures.value) in
    let count = count_at c.args.file.now.threads.items t c.get.result.now c.get.ensures in
    let next : suc (done_in order t) ≡ slice_index_or c.as_slice-all.result.now t 0 + 1 = omega (arith, done) in (
      ap (λ (n : ℕ). let p : Place = (t, n) in p) next,
      omega (arith, c.if-count-done.false, c.len-count.ensures, done, count),
    )
