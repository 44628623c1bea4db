-- How the view of a pass stands, within an attempt, to what it was before.
use Rattle.std.specs.Prelude.{◌≡◌, ◌≤◌, ℕ}
use Rattle.sto_core.specs.declared.view.View.{View}
use Rattle.sto_attempt_log.specs.declared.read_phase.ReadPhase.{ReadPhase}
use Rattle.sto_attempt_log.specs.declared.read_phase.ReadPhase.TheVariants.{Unstarted}
use Rattle.sto_history.specs.Added.{IsKnown}
use Rattle.sto_history.specs.Running.{HasNoMore, IsRunning}

-- a body that runs: nothing was drawn, and the attempt reads as of a number that is not below all that was known
pub record InBody (begun v : View) (at : ℕ) : Type 0 where
  pub running : IsRunning begun v
  pub undrawn : HasNoMore begun v.entries v.draws
  pub late : (k : ℕ) → IsKnown begun k → k ≤ at

-- the same by where the attempt stands, which begins with the first step
abbrev pub HasGone : ReadPhase → View → View → ℕ → Type 0
HasGone Unstarted begun v at = v ≡ begun
HasGone _ begun v at = InBody begun v at
