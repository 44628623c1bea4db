-- The abort lines of records.
use Rattle.std.specs.Prelude.{◌<◌, ℕ, List, [], ◌∷◌, map}
use Rattle.sto_model.specs.PlainReplies.{plain_reply}
use Rattle.sto_lang.specs.Objects.{Declaration}
use Rattle.sto_report_spec.specs.Aborts.{Abort}
use Rattle.sto_report_spec.specs.Aborts as aborts
use Rattle.sto_serializability.specs.Merged.{part_named}
use Rattle.sto_transaction.specs.declared.record.Record.{Record}
use Rattle.sto_attempt_log.specs.declared.verdict.Verdict.{Verdict}
use Rattle.sto_attempt_log.specs.declared.verdict.Verdict.TheVariants.{Wrote, Read, Cancelled, Locked, Changed}
use Rattle.sto_run.specs.Tickets.{up_to}

-- the declarations of a file
abbrev pub Declarations : Type 0
Declarations = List Declaration

-- the part of an aborted record is one of so many
abbrev pub IsPartIn : ℕ → Verdict → Type 0
IsPartIn count (Locked at part) = part < count
IsPartIn count (Changed at part ticket) = part < count
IsPartIn count v = Unit {0}

abbrev pub IsInRange : ℕ → Record → Type 0
IsInRange count r = IsPartIn count r.verdict

-- the abort line of a record, where it is aborted, with these homes and tickets
abbrev pub aborts_by : List Declaration → List (ℕ × ℕ) → List ℕ → Record → Verdict → List Abort
aborts_by ds homes tickets r (Locked at part) =
    record { place = (r.thread, r.position); seen = up_to at tickets; replies = map plain_reply r.replies.items; cause = aborts.Locked (part_named ds homes part) } ∷ []
aborts_by ds homes tickets r (Changed at part ticket) =
    record { place = (r.thread, r.position); seen = up_to at tickets; replies = map plain_reply r.replies.items; cause = aborts.Changed (part_named ds homes part) (up_to ticket tickets) } ∷ []
aborts_by ds homes tickets r v = []

abbrev pub aborts_at : List Declaration → List (ℕ × ℕ) → List ℕ → Record → List Abort
aborts_at ds homes tickets r = aborts_by ds homes tickets r r.verdict
