-- The event of a step is noted, and logged.
use Rattle.std.specs.Prelude.{Option, None, Some}
use Rattle.std.proofs.Common.{◌≡◌, ℕ, ◌+◌, List, [], ◌∷◌, length, refl, sym, ◌∙◌, subst, inl, inr}
use Rattle.std.proofs.lemmas.Option.{same_Some}
use Rattle.sto_part.specs.Listed.{Listed}
use Rattle.sto_model.specs.PlainReplies.{PlainReply}
use Rattle.sto_core.specs.declared.view.View.{View}
use Rattle.sto_core.specs.Core.{Core}
use Rattle.sto_core.specs.History.{Validity}
use Rattle.sto_trace.specs.declared.Deed.{Deed}
use Rattle.sto_trace.specs.declared.Step.{Step}
use Rattle.sto_trace.specs.Deeds.{IsDone}
use Rattle.sto_trace.specs.Noted.{Notes}
use Rattle.sto_trace.proofs.Noted.{noted_one}
use Rattle.sto_run_steps.specs.Turning.{HasTurn, HaveTurns}
use Rattle.sto_run_steps.specs.Logged.{RunLog, kept, with_step, heard_before, HasLogged, IsLast, IsStep}
use Rattle.sto_run_steps.specs.declared.seat.Seat.{Seat}

some_none : {A : Type 0} (x : A) → ◌≡◌ {A = Option A} (Some x) None → ⊥
some_none x e = cc

pub not_none : (valid : Validity) (passes : ℕ) (v w : View) (noted : Option Deed) → w.steps ≡ v.steps + 1 → Notes valid passes v w None noted → noted ≡ None → ⊥
not_none valid passes v w noted one notes none = let k = noted_one valid passes v w None noted one notes in some_none k.0 (sym k.2 ∙ none)

pub logged : {M : Type 0} (valid : Validity) (passes : ℕ) (heard : M → List PlainReply) (thread : ℕ) (v : View) (s : Seat M) (w : View) (later : Seat M)
    (noted : Option Deed) (deed : Deed) (before : ℕ) (step : Step) (log : Option (Listed Step)) (next : Option (Listed Step)) (steps : Listed Step)
    → w.steps ≡ v.steps + 1 → Notes valid passes v w None noted → noted ≡ Some deed → step.deed ≡ deed
    → before ≡ length (heard_before heard s.trial) → IsLast heard thread (s.ended + 1) before later step
    → log ≡ Some steps → kept next ≡ with_step steps.items step → HasLogged (IsStep valid passes heard thread v s w later) (kept log) (kept next)
logged {M} valid passes heard thread v s w later noted deed before step log next steps one notes is same so_far last some added =
    let k = noted_one valid passes v w None noted one notes in
    let did : k.0 ≡ step.deed = same_Some k.0 deed (sym k.2 ∙ is) ∙ sym same in
    subst (λ (o : Option (Listed Step)). HasLogged (IsStep valid passes heard thread v s w later) (kept o) (kept next)) (sym some) (
      step,
      record {
        done = subst (λ (d : Deed). IsDone valid passes d v w) did k.1;
        last = subst (λ (n : ℕ). IsLast heard thread (s.ended + 1) n later step) so_far last;
      },
      added,
    )

module _ {M : Type 0} (valid : Validity) (heard : M → List PlainReply) where
  -- a turn is the same where its step is not kept
  forget_turn : (thread : ℕ) (c d : Core) (seats later : List (Seat M)) (log next : RunLog) → HasTurn valid heard thread c seats log d later next
      → HasTurn valid heard thread c seats None d later None
  forget_turn thread c d seats later log next turn = elim turn [
    | inl one ↦
        inl
        (record {
          going = one.going;
          event = one.event;
          passes = one.passes;
          steps = one.steps;
          before = one.before;
          at = one.at;
          seat = one.seat;
          others = one.others;
          logged = refl;
        })
    | inr idle ↦ inr (idle.0, idle.1, idle.2, refl)
  ]

  -- and so are all that follow each other
  pub forget_turns : (threads : List ℕ) (c d : Core) (seats later : List (Seat M)) (log next : RunLog) → HaveTurns valid heard threads c seats log d later next
      → HaveTurns valid heard threads c seats None d later None
  forget_turns [] c d seats later log next h = (h.0, h.1, refl)
  forget_turns (thread ∷ threads) c d seats later log next h =
      (h.0, h.1, None, forget_turn thread c h.0 seats h.1 log h.2 h.3, forget_turns threads h.0 d h.1 later h.2 next h.4)
