-- By the schedule `1:10` the first event is one of the second thread.
use Rattle.std.specs.Prelude.{replicate}
use Rattle.std.proofs.Common.{◌≡◌, ℕ, ◌<◌, List, ◌∷◌, ◌++◌, length, Some, sym, subst, arith}
use Rattle.sto_core.specs.Opened.{opened_core}
use Rattle.sto_trace.specs.declared.Step.{Step}
use Rattle.sto_journal.specs.declared.journal.Journal.{Journal}
use Rattle.sto_run_steps.specs.Proceeding.{heard_by}
use Rattle.sto_run_steps.specs.Turning.{round_turns}
use Rattle.sto_run.specs.Traced.{IsTraceOf, of_objects}
use Rattle.sto_test_program_refusals.specs.Inputs.{second_first_file}
use Rattle.sto_test_program_refusals.proofs.Runs.{some_seat, not_over, first_step}

pub not_first : (journal : Journal) (homes : List (ℕ × ℕ)) (step : Step) (steps : List Step) → IsTraceOf second_first_file 64 journal homes (Some (step ∷ steps)) → step.thread ≡ 0 → ⊥
not_first journal homes step steps t zero =
    let w = t.traced.stepped in
    let two : 1 < 2 = omega arith in
    let seat = some_seat 1 w.seats (subst (λ (n : ℕ). 1 < n) (sym w.many) two) in
    let some : 0 < 1 = omega arith in let try : 0 < 64 = omega arith in
    let one = first_step of_objects.valid heard_by w.stepped w.later step steps 1
    (replicate 9 1 ++ round_turns (length w.seats) w.rounds) (opened_core (of_objects.sizes t.objects) (of_objects.meaning t.objects).opened 2) w.seats w.turns
    (λ over. not_over 1 64 seat.0 some try (w.new 1 seat.0 seat.1) (over seat.0 seat.1)) in
    omega (arith, zero, one)
