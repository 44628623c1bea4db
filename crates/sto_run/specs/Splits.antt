-- Records that are aborted, and records that are not.
use Rattle.std.specs.Prelude.{Bool, not}
use Rattle.sto_transaction.specs.Records.{is_abort}
use Rattle.sto_transaction.specs.declared.record.Record.{Record}
use Rattle.sto_transaction.specs.Plain.{verdict}

abbrev pub was_aborted : Record → Bool
was_aborted r = is_abort (verdict r.verdict)

abbrev pub has_ended : Record → Bool
has_ended r = not (was_aborted r)
