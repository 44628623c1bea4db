-- An event of a commit is a step of the machine.
use Rattle.std.proofs.Common.{◌≡◌, ℕ, ℤ, Option, refl}
use Rattle.sto_model.specs.Run.{Behaviour}
use Rattle.sto_core.specs.declared.view.View.{View}
use Rattle.sto_core.specs.History.{Validity}
use Rattle.sto_core.specs.Tells.{Tells}
use Rattle.sto_type.specs.Meaning.{Meaning}
use Rattle.sto_attempt_log.specs.declared.verdict.Verdict.{Verdict}
use Rattle.sto_attempt_log.specs.Doing.{Committer, Committing, event_next, DoesNext}
use Rattle.sto_attempt.specs.Commits.{CommitsOn}

pub does_next : (m : Meaning) (f : Behaviour) (valid : Validity) (passes : ℕ) (c d : Committer) (v w : View) (verdict : Option Verdict) → CommitsOn m valid passes c.phase c d v w verdict
    → (n : ℕ) × (x : ℤ) × Tells valid passes (event_next m (Committing c)) v n x w × DoesNext m f (Committing c) n x (Committing d) verdict
does_next m f valid passes c d v w verdict h = (h.number, h.value, h.tells, (d, h.leads, refl))
