-- Where the body's end, or the part that it needs, leads.
use Rattle.std.specs.Prelude.{◌≡◌, ◌⊎◌, ℕ, List, [], false}
use Rattle.sto_item.specs.Pending.{Entry}
use Rattle.sto_type.specs.Meaning.{is_empty}
use Rattle.sto_attempt_log.specs.declared.log.Reached.{Reached}
use Rattle.sto_attempt_log.specs.declared.log.Reached.TheVariants.{Needs, Commits, Cancels}
use Rattle.sto_attempt_log.specs.declared.read_phase.ReadPhase.{ReadPhase}
use Rattle.sto_attempt_log.specs.declared.read_phase.ReadPhase.TheVariants.{Opening, Committing, Over}
use Rattle.sto_attempt_log.specs.declared.verdict.Turn.{Turn}
use Rattle.sto_attempt_log.specs.declared.verdict.Turn.TheVariants.{More, Ready, Ended}
use Rattle.sto_attempt_log.specs.declared.verdict.Verdict.TheVariants.{Read, Cancelled}

abbrev pub IsLed : ℕ → List Entry → Reached → ReadPhase → Turn → Type 0
IsLed at es (Needs p) read_phase turn = (read_phase ≡ Opening p) × (turn ≡ More)
IsLed at es Commits read_phase turn =
    ((es ≡ []) × (read_phase ≡ Over) × (turn ≡ Ended (Read at))) ⊎ ((is_empty es ≡ false) × (read_phase ≡ Committing) × (turn ≡ Ready))
IsLed at es Cancels read_phase turn = (read_phase ≡ Over) × (turn ≡ Ended (Cancelled at))
