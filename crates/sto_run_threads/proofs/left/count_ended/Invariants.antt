use Rattle.std.proofs.Common.{◌≡◌, ◌≤◌, map, take}
use Rattle.sto_transaction.specs.Plain.{plain}
use Rattle.sto_run_threads.specs.Running.{ended_of}
use Rattle.sto_run_threads.proofs.left.count_ended.Given as goal

abbrev pub invariant-loop-record : goal.invariant-loop-record
invariant-loop-record l = record {
  ended : l.ended ≡ ended_of l.thread (map plain (take l.record-index l.records));
  few : l.ended ≤ l.record-index;
}
