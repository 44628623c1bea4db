-- Passes that were just opened are ready, and stand for as many as there are.
use Rattle.std.proofs.Common.{◌≡◌, ℕ, zero, suc, ◌≤◌, List, [], ◌∷◌, map, length, get_or, drop, sym, ap, subst, arith}
use Rattle.sto_part.specs.declared.naming.Naming as naming
use Rattle.sto_core.specs.declared.view.View.{View}
use Rattle.sto_core.specs.History.{Contents}
use Rattle.sto_core.specs.Opened.{opened_view, opening_draws}
use Rattle.sto_table.specs.declared.shared.Shared.{Shared}
use Rattle.sto_table.specs.declared.shared.Rest.{Rest}
use Rattle.sto_table.specs.Rests.{IsOf}
use Rattle.sto_table.specs.Openings.{opened_down}
use Rattle.sto_serializability.proofs.Chains.{Every}
use Rattle.sto_run_threads.specs.Plans.{Plan, Rests, draws_of}
use Rattle.sto_run_threads.specs.Teams.{IsReady, view_at}
use Rattle.sto_transaction.proofs.Resting.{opened_rests}

one_ready : {T : Type 0} {n : naming.Ghosts T} (s : Shared T) (plan : Plan) (opening : Contents) (number : ℕ) (rest : Rest T n)
    → opening ≡ plan.meaning.opened → draws_of plan ≤ opening_draws
    → view_at rest ≡ opened_view plan.sizes opening number → IsOf s rest.seat → IsReady s plan rest
one_ready s plan opening number rest opened few is of = record {
  of = of;
  free = record {
    rests = subst (Rests plan) (sym is) (opened_rests plan.meaning plan.sizes opening number opened);
    draws = (let d = ap (λ (v : View). v.draws) is in omega (arith, d, few));
  };
  paced = (let s = ap (λ (v : View). v.steps) is in omega (arith, s));
}

pub all_ready : {T : Type 0} {n : naming.Ghosts T} (s : Shared T) (plan : Plan) (opening : Contents) (rests : List (Rest T n)) (passes : ℕ)
    → opening ≡ plan.meaning.opened → draws_of plan ≤ opening_draws
    → map view_at rests ≡ opened_down plan.sizes opening passes → Every (λ (r : Rest T n). IsOf s r.seat) rests → Every (IsReady s plan) rests
all_ready s plan opening [] passes opened few is of = tt
all_ready s plan opening (x ∷ xs) zero opened few is of = absurd (let l = ap length is in omega (arith, l))
all_ready s plan opening (x ∷ xs) (suc number) opened few is of = (
  one_ready s plan opening number x opened few (ap (λ (l : List View). get_or l 0 (opened_view plan.sizes opening number)) is) of.0,
  all_ready s plan opening xs number opened few (ap (drop 1) is) of.1,
)
