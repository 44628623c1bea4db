use Rattle.std.proofs.Common.{◌≡◌, ℕ, List, ap, sym, ◌∙◌, subst, length, map, refl, arith, ◌<◌}
use Rattle.std.specs.Prelude.{filter}
use Rattle.std.specs.List.{All}
use Rattle.std.proofs.lemmas.List.Elements.{All-filter}
use Rattle.std.proofs.lemmas.List.Sorted.{All-permutation}
use Rattle.sto_transaction.specs.Records.{writers_up_to}
use Rattle.sto_serializability.proofs.Chains.{every}
use Rattle.sto_journal.specs.Journals.{home_pair}
use Rattle.sto_transaction.specs.declared.record.Record.{Record}
use Rattle.sto_transaction.specs.Plain.{plain}
use Rattle.sto_run.specs.Tickets.{up_to}
use Rattle.sto_run.specs.Splits.{was_aborted}
use Rattle.sto_run.specs.PlainAborts.{IsInRange}
use Rattle.sto_run.proofs.MergedLines.{merged_lines}
use Rattle.sto_run.proofs.Threads.{merged_aborts}
use Rattle.sto_run.proofs.merging.merge.Goals as goal

pub abort_lines-requires-clause-parts : goal.abort_lines-requires-clause-parts
abort_lines-requires-clause-parts c =
    All-permutation (IsInRange (length c.args.homes.now)) (filter was_aborted c.args.records.items) c.in-Ok.field-0.parted.aborted.items c.in-Ok.ensures.same
    (All-filter was_aborted (IsInRange (length c.args.homes.now)) c.args.records.items c.requires.parts)

pub returns-clause-lines : goal.returns-clause-lines
returns-clause-lines c =
    merged_lines c.args.records.items c.in-Ok.field-0.parted.ended.items c.deref.result.now _ c.in-Ok.ensures.merged
    (λ n. ap (up_to n) c.deref.ensures.value ∙ c.in-Ok.ensures.counts n)
    c.in_ok-lines.ensures

pub returns-clause-aborts : goal.returns-clause-aborts
returns-clause-aborts c = λ ds threads low.
    c.in_ok-aborts.ensures ds
    ∙ merged_aborts ds (map home_pair c.args.homes.now) c.deref-2.result.now (map plain c.args.records.items)
    (λ n. ap (up_to n) c.deref-2.ensures.value ∙ c.in-Ok.ensures.counts n)
    c.args.records.items c.in-Ok.field-0.parted.aborted.items threads refl c.in-Ok.ensures.by_thread c.in-Ok.ensures.stable
    (every (λ (r : Record). r.thread < threads) c.in-Ok.field-0.parted.aborted.items
    (All-permutation (λ (r : Record). r.thread < threads) (filter was_aborted c.args.records.items) c.in-Ok.field-0.parted.aborted.items c.in-Ok.ensures.same
    (All-filter was_aborted (λ (r : Record). r.thread < threads) c.args.records.items low)))
