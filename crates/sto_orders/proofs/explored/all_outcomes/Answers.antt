use Rattle.std.proofs.Common.{◌≡◌, ℕ, suc, ◌+◌, List, sym, subst, arith}
use Rattle.std.proofs.lemmas.Result.{err_from_is_err_and}
use Rattle.sto_lang.specs.Drafts.{transaction_count}
use Rattle.sto_lang.specs.Views.{file as view, threads_of}
use Rattle.sto_orders.specs.declared.level.Node.{Node}
use Rattle.sto_orders.specs.Levels.{AreLevel, AreSeen}
use Rattle.sto_orders.proofs.Gathering.{are_outcomes}
use Rattle.sto_orders.proofs.Limiting.{least_some}
use Rattle.sto_orders.proofs.Refusing.{seen_first, seen_more, cause_of}
use Rattle.sto_orders.proofs.explored.all_outcomes.Goals as goal

pub next_level-requires-clause-level : goal.next_level-requires-clause-level
next_level-requires-clause-level c = record {
  count = c.loop-done._done;
  few = omega (arith, c.loop-done-test.true, c.transaction_count-count.ensures, c.requires.few_transactions);
  level = subst (λ (ns : List Node). AreLevel c.args.by (view c.args.file.now) c.loop-done._done ns) (sym c.as_slice-before.ensures.value) c.loop-done.invariant.level;
}

pub loop-done-init : goal.loop-done-init
loop-done-init c =
    let f = view c.args.file.now in
    let some = least_some (threads_of c.as_slice.result.now) in
    record {
      level = c.in_ok-nodes.ensures;
      seen = seen_first c.args.by f c.args.most c.saturating_sub-room.result (omega (arith, some, c.least_nodes-least.ensures, c.if-most-least.false)) c.saturating_sub-room.ensures;
    }

pub loop-done-preserved : goal.loop-done-preserved
loop-done-preserved c =
    let f = view c.args.file.now in
    let by = c.args.by in
    let next : suc c.loop-done._done ≡ c.loop-done._done + 1 = omega arith in
    let before : AreLevel by f c.loop-done._done c.as_slice-before.result.now =
    subst (λ (ns : List Node). AreLevel by f c.loop-done._done ns) (sym c.as_slice-before.ensures.value) c.loop-done.invariant.level in
    let level = c.in_ok-next.ensures.level c.loop-done._done before in
    record {
      level = subst (λ (n : ℕ). AreLevel by f n c.in_ok-next.next.items) next level;
      seen = subst (λ (n : ℕ). AreSeen by f n c.args.most c.saturating_sub-room-in-loop-done.result) next
          (seen_more by f c.loop-done._done c.args.most c.loop-done.room c.saturating_sub-room-in-loop-done.result c.in_ok-next.next.items c.loop-done.invariant.seen level c.in_ok-next.ensures.few
          (omega (arith, c.saturating_sub-room-in-loop-done.ensures, c.len.ensures)));
    }

pub returns-in_err-next-clause-cause : goal.returns-in_err-next-clause-cause
returns-in_err-next-clause-cause c =
    let f = view c.args.file.now in
    let by = c.args.by in
    let p = err_from_is_err_and c.from_residual-in_err-next.result c.from_residual-in_err-next.ensures.1 in
    let before : AreLevel by f c.loop-done._done c.as_slice-before.result.now =
    subst (λ (ns : List Node). AreLevel by f c.loop-done._done ns) (sym c.as_slice-before.ensures.value) c.loop-done.invariant.level in
    rw (p.1, p.2) (cause_of by f c.loop-done._done c.args.most c.loop-done.room c.as_slice-before.result.now c.in_err-next.field-0.0 before c.loop-done.invariant.seen c.in_err-next.ensures.cause)

pub outcomes_at-requires-clause-level : goal.outcomes_at-requires-clause-level
outcomes_at-requires-clause-level c = record {
  count = c.loop-done._done;
  few = omega (arith, c.loop-done.auto._done-end, c.transaction_count-count.ensures, c.requires.few_transactions);
  level = subst (λ (ns : List Node). AreLevel c.args.by (view c.args.file.now) c.loop-done._done ns) (sym c.as_slice-last.ensures.value) c.loop-done.invariant.level;
}

pub returns-clause-outcomes : goal.returns-clause-outcomes
returns-clause-outcomes c =
    let f = view c.args.file.now in
    let all : c.loop-done._done ≡ transaction_count f.threads = omega (arith, c.loop-done-test.false, c.loop-done.auto._done-end, c.transaction_count-count.ensures) in
    let level : AreLevel c.args.by f (transaction_count f.threads) c.as_slice-last.result.now =
    subst (λ (n : ℕ). AreLevel c.args.by f n c.as_slice-last.result.now) all
    (subst (λ (ns : List Node). AreLevel c.args.by f c.loop-done._done ns) (sym c.as_slice-last.ensures.value) c.loop-done.invariant.level) in
    are_outcomes c.args.by f c.as_slice-last.result.now c.in_ok-outcomes.outcomes.items level (c.in_ok-outcomes.ensures (transaction_count f.threads) level)
