use Rattle.std.proofs.Common.{◌≡◌, ◌≤◌, ℕ, List, ap, sym, ◌∙◌, subst, length, map, arith}
use Rattle.std.specs.Prelude.{filter}
use Rattle.std.specs.List.Sorted.{IsPermutation, IsStableByKey}
use Rattle.std.specs.Ordering.{nat_cmp}
use Rattle.std.proofs.lemmas.List.Sorted.{length_permutation}
use Rattle.sto_transaction.specs.Records.{writers_up_to}
use Rattle.sto_transaction.specs.declared.record.Record.{Record}
use Rattle.sto_transaction.specs.Plain.{plain}
use Rattle.sto_run.specs.Splits.{has_ended, was_aborted}
use Rattle.sto_run.proofs.MergedLines.{merged_records, parted_few, plain_length}
use Rattle.sto_run.proofs.merging.arrange.Goals as goal

pub returns : goal.returns
returns c =
    let ended : c.in_ok-ended.field-0.ended.items ≡ filter has_ended c.args.records.items = c.in_ok-ended.ensures.ended in
    let aborted : c.in_ok-ended.field-0.aborted.items ≡ filter was_aborted c.args.records.items = c.in_ok-ended.ensures.aborted in
    record {
      rising = c.in_ok-tickets.ensures.rising;
      few = (let a = c.in_ok-tickets.ensures.few in let b = ap length c.deref.ensures.value in omega (arith, a, b));
      counts = λ n. c.in_ok-tickets.ensures.counts n ∙ ap (λ (rs : List Record). writers_up_to n (map plain rs)) c.deref.ensures.value;
      few_ended = parted_few has_ended c.args.records.items c.in_ok-ended.field-0.ended.items c.sort.new.records.items ended
          (plain_length c.in_ok-ended.field-0.ended.items c.sort.new.records.items c.in_ok-sort.ensures.same);
      few_aborted = parted_few was_aborted c.args.records.items c.in_ok-ended.field-0.aborted.items c.sort_by_thread.new.records.items aborted
          (sym (length_permutation c.in_ok-ended.field-0.aborted.items c.sort_by_thread.new.records.items c.in_ok-sort_by_thread.ensures.same));
      merged = merged_records c.args.records.items c.in_ok-ended.field-0.ended.items c.sort.new.records.items ended c.in_ok-sort.ensures.same c.in_ok-sort.ensures.order;
      by_thread = c.in_ok-sort_by_thread.ensures.rising;
      stable = subst (λ (xs : List Record). IsStableByKey (λ (r : Record). r.thread) nat_cmp xs c.sort_by_thread.new.records.items) aborted c.in_ok-sort_by_thread.ensures.stable;
      same = subst (λ (xs : List Record). IsPermutation xs c.sort_by_thread.new.records.items) aborted c.in_ok-sort_by_thread.ensures.same;
    }
