-- In each state of a store the keys of each object rise.
use Rattle.std.specs.Prelude.{IfSome}
use Rattle.std.proofs.Common.{ℕ, zero, suc, List, [], ◌∷◌}
use Rattle.sto_model.specs.SequentialObjects.{reply_to, state_after, changed}
use Rattle.sto_model.specs.Objects.{machines_of}
use Rattle.sto_model.specs.Rows.{AllRise}
use Rattle.sto_model.specs.Run.{State}
use Rattle.sto_model.specs.declared.call.Call.{Call}
use Rattle.sto_model.specs.declared.shape.Shape.{Shape}
use Rattle.sto_model.proofs.Maps.{effect_of-rises}
use Rattle.sto_action.specs.Alone.{run_of}
use Rattle.sto_action.specs.Progs.{Prog, Asks, Gives, Cancels}
use Rattle.sto_action.specs.Shortened.{short_of}

changed_rises : (shapes : List Shape) (n : ℕ) (call : Call) (st : State) → AllRise st → AllRise (changed (machines_of shapes) n call st)
changed_rises [] n call st h = h
changed_rises (shape ∷ shapes) n call [] h = tt
changed_rises (shape ∷ shapes) zero call (rows ∷ st) h = (effect_of-rises shape call.operation call.a call.b rows h.0, h.1)
changed_rises (shape ∷ shapes) (suc n) call (rows ∷ st) h = (h.0, changed_rises shapes n call st h.1)

-- code leaves such a state
pub run_rises : {E A : Type 0} (shapes : List Shape) (p : Prog E A) (st : State) → AllRise st → IfSome (run_of (machines_of shapes) p st) (λ r. AllRise r.1)
run_rises shapes (Asks call k) st h =
    run_rises shapes (k (short_of (reply_to (machines_of shapes) call st))) (state_after (machines_of shapes) call st) (changed_rises shapes call.object call st h)
run_rises shapes (Gives a) st h = h
run_rises shapes (Cancels e) st h = tt
