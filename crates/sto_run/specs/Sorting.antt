-- Records that are parted and sorted, and their tickets.
use Rattle.std.specs.Prelude.{◌≡◌, ◌≤◌, ℕ, List, length, map, filter}
use Rattle.std.specs.Ordering.{nat_cmp}
use Rattle.std.specs.List.Sorted.{IsPermutation, IsNonDecreasing, IsNonDecreasingBy, IsStableByKey}
use Rattle.sto_transaction.specs.Records.{writers_up_to}
use Rattle.sto_serializability.specs.Merged.{AreMerged}
use Rattle.sto_transaction.specs.declared.record.Record.{Record}
use Rattle.sto_run.specs.declared.merging.Sorted.{Sorted}
use Rattle.sto_transaction.specs.Plain.{plain}
use Rattle.sto_run.specs.Tickets.{up_to}
use Rattle.sto_run.specs.Splits.{was_aborted}

-- the tickets are those of the writers, in rising order; the records that ended stand in the order of the journal; the aborted ones stand by thread, each
-- thread's in their order
pub record IsSorted (records : List Record) (s : Sorted) : Type 0 where
  pub rising : IsNonDecreasing s.tickets.items
  pub few : length s.tickets.items ≤ length records
  pub counts : (n : ℕ) → up_to n s.tickets.items ≡ writers_up_to n (map plain records)
  pub few_ended : length s.parted.ended.items ≤ length records
  pub few_aborted : length s.parted.aborted.items ≤ length records
  pub merged : AreMerged (map plain records) (map plain s.parted.ended.items)
  pub by_thread : IsNonDecreasingBy (λ (r : Record). r.thread) s.parted.aborted.items
  pub stable : IsStableByKey (λ (r : Record). r.thread) nat_cmp (filter was_aborted records) s.parted.aborted.items
  pub same : IsPermutation (filter was_aborted records) s.parted.aborted.items
