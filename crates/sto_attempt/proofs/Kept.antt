-- A commit keeps all but what a step names.
use Rattle.std.proofs.Common.{◌≡◌, ◌∙◌, ap, sym}
use Rattle.sto_part.specs.Listed.{Listed}
use Rattle.sto_attempt_log.specs.declared.commit_phase.FoundTicket.{FoundTicket}
use Rattle.sto_attempt_log.specs.declared.commit_phase.LoadedWord.{LoadedWord}
use Rattle.sto_attempt.specs.declared.ready.Ready.{Ready}
use Rattle.sto_attempt.specs.Commits.{lists_of, having_found, MovesOnly}

module _ {T B : Type 0} (a b : Ready T B) where
  pub kept_found_tickets : b ≡ having_found a (lists_of b).found_tickets (lists_of a).loaded_words b.commit_phase → b ≡ having_found a (lists_of b).found_tickets (lists_of b).loaded_words b.commit_phase
  kept_found_tickets e =
      e ∙ ap (λ (l : Listed LoadedWord). having_found a (lists_of b).found_tickets l b.commit_phase) (sym (ap (λ (x : Ready T B). (lists_of x).loaded_words) e))

  pub kept_but_phase : MovesOnly a b → b ≡ having_found a (lists_of b).found_tickets (lists_of a).loaded_words b.commit_phase
  kept_but_phase e = e ∙ ap (λ (l : Listed FoundTicket). having_found a l (lists_of a).loaded_words b.commit_phase) (sym (ap (λ (x : Ready T B). (lists_of x).found_tickets) e))

  pub kept_commit_phase : MovesOnly a b → b ≡ having_found a (lists_of b).found_tickets (lists_of b).loaded_words b.commit_phase
  kept_commit_phase e = kept_found_tickets (kept_but_phase e)
