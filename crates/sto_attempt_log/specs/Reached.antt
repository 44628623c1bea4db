-- Where a body has come to.
use Rattle.std.specs.Prelude.{◌≡◌, ◌<◌, ℕ, List}
use Rattle.sto_model.specs.declared.body.Next.TheVariants.{Commit, Cancel}
use Rattle.sto_item.specs.Pending.{Entry}
use Rattle.sto_model.specs.PlainReplies.{PlainReply}
use Rattle.sto_model.specs.Run.{Behaviour}
use Rattle.sto_type.specs.Meaning.{Meaning}
use Rattle.sto_attempt_log.specs.declared.read_entry.ReadEntry.{ReadEntry}
use Rattle.sto_attempt_log.specs.declared.log.Reached.{Reached}
use Rattle.sto_attempt_log.specs.declared.log.Reached.TheVariants.{Needs, Commits, Cancels}
use Rattle.sto_attempt_log.specs.ReadSet.{words_in}
use Rattle.sto_attempt_log.specs.Log.{IsNeeded}

abbrev pub IsReached : Meaning → Behaviour → List ReadEntry → List Entry → List PlainReply → Reached → Type 0
IsReached m f base es rs (Needs p) = IsNeeded m (f rs) (words_in base) es p
IsReached m f base es rs Commits = f rs ≡ Commit
IsReached m f base es rs Cancels = f rs ≡ Cancel

-- a part is needed by a call, so there is one that may be asked
abbrev pub IsByCall : ℕ → Reached → Type 0
IsByCall left (Needs p) = 0 < left
IsByCall left _ = Unit {0}
