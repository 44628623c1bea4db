-- To which verdict a commit comes, and why.
use Rattle.std.specs.Prelude.{◌≡◌, ◌≤◌, ◌⊎◌, ℕ, Option, Some, None, List}
use Rattle.std.specs.List.{Contains}
use Rattle.sto_item.specs.declared.item.Item.{Item}
use Rattle.sto_item.specs.declared.item.Item.TheVariants.{Seen}
use Rattle.sto_core.specs.declared.view.View.{View}
use Rattle.sto_core.specs.Lists.{Each}
use Rattle.sto_attempt_log.specs.declared.commit_phase.CommitPhase.{CommitPhase}
use Rattle.sto_attempt_log.specs.declared.commit_phase.CommitPhase.TheVariants as S
use Rattle.sto_attempt_log.specs.declared.commit_phase.FoundTicket.{FoundTicket}
use Rattle.sto_attempt_log.specs.declared.verdict.Verdict.{Verdict}
use Rattle.sto_attempt_log.specs.declared.verdict.Verdict.TheVariants.{Wrote, Changed}
use Rattle.sto_attempt_log.specs.Reasons.{IsByPredicate, IsByTest}

-- the commit has come to the verdict: it was answered, or the commit gives up with it
abbrev pub ComesTo : Option Verdict → CommitPhase → Verdict → Type 0
ComesTo (Some x) commit_phase verdict = x ≡ verdict
ComesTo None (S.Dropping t x) verdict = x ≡ verdict
ComesTo None (S.Leaving k n x) verdict = x ≡ verdict
ComesTo None _ verdict = ⊥

-- the next step of the commit is a check
abbrev pub IsCheck : CommitPhase → Type 0
IsCheck (S.Checking n t) = Unit {0}
IsCheck _ = ⊥

-- a change has one of three reasons, at the phase and the view of the step that found it: the part is seen, and it was checked; it is not seen, and a predicate on it is false
-- of the words read under the ticket, or its test had found another ticket
abbrev pub HasReason : CommitPhase → List Item → View → Verdict → Type 0
HasReason commit_phase items v (Changed n p t) = (IsCheck commit_phase × Contains items (Seen p)) ⊎ (IsByPredicate items v p t ⊎ IsByTest items v p t)
HasReason commit_phase items v _ = Unit {0}

abbrev pub IsWrote : Verdict → Type 0
IsWrote (Wrote t) = Unit {0}
IsWrote _ = ⊥

-- no ticket was found above the number, and the commit has not come to an abort
pub record IsUndisturbed (at : ℕ) (found_tickets : List FoundTicket) (result : Option Verdict) (commit_phase : CommitPhase) : Type 0 where
  pub early : Each (λ (x : FoundTicket). x.ticket ≤ at) found_tickets
  pub unaborted : (verdict : Verdict) → ComesTo result commit_phase verdict → IsWrote verdict
