use Rattle.std.proofs.Common.{◌≡◌, ◌+◌, ◌≤◌, length, Some}
use Rattle.std.specs.List.{slice_split}
use Rattle.sto_report_spec.specs.Named.{is_space}
use Rattle.sto_report_spec.specs.NamedAborts.{Heard, heard_in}
use Rattle.sto_checker.proofs.told.heard_in.Given as goal

abbrev pub invariant-loop-word : goal.invariant-loop-word
invariant-loop-word l = record {
  left : (h : Heard) → heard_in (slice_split is_space l.words) ≡ Some h → (g : Heard) × (heard_in (slice_split is_space l.rest) ≡ Some g) × (length h.replies ≡ l.heard + length g.replies) × (h.cause ≡ g.cause);
  few : l.heard + length l.rest ≤ length l.words;
}

abbrev pub decreases-loop-word : goal.decreases-loop-word
decreases-loop-word l = length l.rest
