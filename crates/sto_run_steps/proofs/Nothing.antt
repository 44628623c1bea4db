-- What no run is: where a thread has a transaction, it makes an event. So a run that makes none, and hands all back, is refused.
use Rattle.std.specs.Prelude.{◌⊎◌, IsSome, slice_get, Some, None, Option, max, nat_lt, if◌then◌else◌}
use Rattle.std.specs.List.{flat_map}
use Rattle.std.proofs.Common.{◌≡◌, ℕ, zero, suc, ◌<◌, ◌≤◌, List, [], ◌∷◌, ◌++◌, length, Bool, true, false, refl, sym, ap, ◌∙◌, subst, arith, inl, inr}
use Rattle.std.proofs.lemmas.Option.{slice_get-get_or}
use Rattle.sto_model.specs.PlainReplies.{PlainReply}
use Rattle.sto_lang.specs.declared.file.Turns.{Turns}
use Rattle.sto_core.specs.declared.view.View.{View}
use Rattle.sto_core.specs.Core.{Core}
use Rattle.sto_core.specs.History.{Validity}
use Rattle.sto_history.specs.Records.{Record}
use Rattle.sto_trace.specs.declared.Step.{Step}
use Rattle.sto_run_threads.specs.Orders.{TransactionPlace, count_in}
use Rattle.sto_run_threads.specs.Plans.{Plan, thread_count}
use Rattle.sto_run_steps.specs.Seated.{IsOver}
use Rattle.sto_run_steps.specs.Logged.{RunLog, HasLogged, most_kept}
use Rattle.sto_run_steps.specs.Turning.{HaveTurns, WereStepped, entry_turns, round_turns}
use Rattle.sto_run_steps.specs.declared.seat.Seat.{Seat}

-- there is a step, or steps were given up
abbrev HasMore : RunLog → Type 0
HasMore None = Unit {0}
HasMore (Some []) = ⊥
HasMore (Some (step ∷ steps)) = Unit {0}

more : (b : Bool) (steps : List Step) (step : Step) → HasMore (if b then Some (steps ++ step ∷ []) else None)
more false steps step = tt
more true [] step = tt
more true (x ∷ xs) step = tt

-- there is after a step was added
logged_more : (kind : Step → Type 0) (log next : RunLog) → HasLogged kind log next → HasMore log ⊎ IsSome log → HasMore next
logged_more kind None next h was = subst HasMore (sym h) tt
logged_more kind (Some steps) next h was = subst HasMore (sym h.2) (more (nat_lt (length steps) most_kept) steps h.0)

module _ {M : Type 0} (valid : Validity) (heard : M → List PlainReply) where
  -- and steps that are kept stay
  stays : (threads : List ℕ) (c : Core) (seats : List (Seat M)) (log : RunLog) (d : Core) (later : List (Seat M))
      → HasMore log → HaveTurns valid heard threads c seats log d later (Some []) → ⊥
  stays [] c seats log d later some h = subst HasMore (sym h.2) some
  stays (thread ∷ threads) c seats log d later some h = elim h.3 [
    | inl one ↦ stays threads h.0 h.1 h.2 d later (logged_more _ log h.2 one.logged (inl some)) h.4
    | inr idle ↦ stays threads h.0 h.1 h.2 d later (subst HasMore (sym idle.3) some) h.4
  ]

  -- where none was kept, no thread has made one
  quiet : (threads : List ℕ) (c : Core) (seats : List (Seat M)) (d : Core) (later : List (Seat M)) → HaveTurns valid heard threads c seats (Some []) d later (Some []) → later ≡ seats
  quiet [] c seats d later h = h.1
  quiet (thread ∷ threads) c seats d later h = elim h.3 [
    | inl one ↦ absurd (stays threads h.0 h.1 h.2 d later (logged_more _ (Some []) h.2 one.logged (inr refl)) h.4)
    | inr idle ↦ quiet threads h.0 h.1 d later (subst (λ (o : RunLog). HaveTurns valid heard threads h.0 h.1 o d later (Some [])) idle.3 h.4) ∙ idle.2
  ]

-- one of as many as there are
some_seat : {M : Type 0} (thread : ℕ) (seats : List (Seat M)) → thread < length seats → (s : Seat M) × (slice_get seats thread ≡ Some s)
some_seat thread [] less = absurd (omega (arith, less))
some_seat {M} thread (s ∷ ss) less = (_, slice_get-get_or (s ∷ ss) thread s less)

-- a run of a file whose thread has a transaction, with a try for it, has not an empty trace
pub not_nothing : {M : Type 0} (plan : Plan) (fits : ℕ → TransactionPlace → M → View → View → Type 0) (valid : Validity) (heard : M → List PlainReply) (schedule : List Turns) (opened : Core) (rs : List Record)
    (thread : ℕ) → thread < max 1 (thread_count plan) → 0 < count_in plan.file.threads thread → 0 < plan.tries
    → WereStepped {M = M} plan fits valid heard schedule opened (Some []) rs (Some []) → ⊥
not_nothing {M} plan fits valid heard schedule opened rs thread inside some try w =
    let many = w.many in
    let less : thread < length w.seats = subst (λ (n : ℕ). thread < n) (sym many) inside in
    let seat = some_seat thread w.seats less in
    let same = quiet valid heard (flat_map entry_turns schedule ++ round_turns (length w.seats) w.rounds) opened w.seats w.stepped w.later w.turns in
    let new = w.new thread seat.0 seat.1 in
    let over = w.over thread less seat.0 (subst (λ (l : List (Seat M)). slice_get l thread ≡ Some seat.0) (sym same) seat.1) in
    let none = new.none_ended in let counted = new.counted in let left = new.all_left in
    elim over [
      | inl all ↦ omega (arith, all, none, counted, some)
      | inr out ↦ omega (arith, out, left, try)
    ]
