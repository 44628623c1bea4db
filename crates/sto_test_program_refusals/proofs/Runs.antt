-- A run in which a thread has a transaction changes the words, and one in which two have has at least two events.
use Rattle.std.specs.Prelude.{slice_get, slice_set, max, nat_lt, if◌then◌else◌}
use Rattle.std.specs.List.{flat_map}
use Rattle.std.proofs.Common.{◌≡◌, ℕ, zero, suc, ◌+◌, ◌<◌, ◌≤◌, List, [], ◌∷◌, ◌++◌, length, Bool, true, false, Option, None, Some, refl, sym, ap, ◌∙◌, subst, arith, inl, inr, length-append}
use Rattle.std.proofs.lemmas.List.{nil_from_length, append-nil, append_assoc}
use Rattle.std.proofs.lemmas.Option.{slice_get-get_or, same_Some, none-some}
use Rattle.sto_model.specs.PlainReplies.{PlainReply}
use Rattle.sto_lang.specs.declared.file.Turns.{Turns}
use Rattle.sto_core.specs.declared.view.View.{View}
use Rattle.sto_core.specs.Core.{Core}
use Rattle.sto_core.specs.History.{Validity}
use Rattle.sto_history.specs.Records.{Record}
use Rattle.sto_trace.specs.declared.Step.{Step}
use Rattle.sto_plain.specs.Passes.{view_of}
use Rattle.sto_history.specs.Counted.{aborted_times}
use Rattle.sto_run_threads.specs.Orders.{TransactionPlace, count_in}
use Rattle.sto_run_threads.specs.Running.{ended_of}
use Rattle.sto_run_threads.specs.Plans.{Plan, thread_count}
use Rattle.sto_run_steps.specs.Seated.{IsNew, IsOver, IsAt, BetweenAt, WithinAt, IsOverAt, records_of}
use Rattle.sto_run_steps.specs.Logged.{RunLog, most_kept}
use Rattle.sto_run_steps.specs.Turning.{HaveTurns, WereStepped, entry_turns, round_turns}

-- another place is as it was
other_place : {X : Type 0} (xs : List X) (i j : ℕ) (x : X) → (j ≡ i → ⊥) → slice_get (slice_set xs i x) j ≡ slice_get xs j
other_place [] i j x other = refl
other_place (y ∷ ys) zero zero x other = absurd (other refl)
other_place (y ∷ ys) zero (suc j) x other = refl
other_place (y ∷ ys) (suc i) zero x other = refl
other_place (y ∷ ys) (suc i) (suc j) x other = other_place ys i j x (λ same. other (ap suc same))

module _ {M : Type 0} (valid : Validity) (heard : M → List PlainReply) where
  -- steps that were given up are given up
  given_up : (threads : List ℕ) (c : Core) (seats : _) (d : Core) (later : _) (next : RunLog) → HaveTurns valid heard threads c seats None d later next → next ≡ None
  given_up [] c seats d later next h = h.2
  given_up (thread ∷ threads) c seats d later next h = elim h.3 [
    | inl one ↦ given_up threads h.0 h.1 d later next (subst (λ (o : RunLog). HaveTurns valid heard threads h.0 h.1 o d later next) one.logged h.4)
    | inr idle ↦ given_up threads h.0 h.1 d later next (subst (λ (o : RunLog). HaveTurns valid heard threads h.0 h.1 o d later next) idle.3 h.4)
  ]

  -- where they are told in the end, one more was kept
  was_kept : (room : Bool) (threads : List ℕ) (c : Core) (seats : _) (xs : List Step) (step : Step) (d : Core) (later : _) (ys : List Step)
      → HaveTurns valid heard threads c seats (if room then Some (xs ++ step ∷ []) else None) d later (Some ys) → HaveTurns valid heard threads c seats (Some (xs ++ step ∷ [])) d later (Some ys)
  was_kept true threads c seats xs step d later ys h = h
  was_kept false threads c seats xs step d later ys h = absurd (none-some ys (sym (given_up threads c seats d later (Some ys) h)))

  module _ (d : Core) (later : _) (ys : List Step) where
    -- after an event there is one step more
    one_more : (threads : List ℕ) (c : Core) (seats : _) (xs : List Step) (step : Step) (next : RunLog)
        → next ≡ (if nat_lt (length xs) most_kept then Some (xs ++ step ∷ []) else None) → HaveTurns valid heard threads c seats next d later (Some ys)
        → HaveTurns valid heard threads c seats (Some (xs ++ step ∷ [])) d later (Some ys)
    one_more threads c seats xs step next kept h =
        was_kept (nat_lt (length xs) most_kept) threads c seats xs step d later ys (subst (λ (o : RunLog). HaveTurns valid heard threads c seats o d later (Some ys)) kept h)

    -- steps do not become fewer
    no_fewer : (threads : List ℕ) (c : Core) (seats : _) (xs : List Step) → HaveTurns valid heard threads c seats (Some xs) d later (Some ys) → length xs ≤ length ys
    no_fewer [] c seats xs h = let same = ap length (same_Some ys xs h.2) in omega (arith, same)
    no_fewer (thread ∷ threads) c seats xs h = elim h.3 [
      | inl one ↦
          let more = no_fewer threads h.0 h.1 (xs ++ one.logged.0 ∷ []) (one_more threads h.0 h.1 xs one.logged.0 h.2 one.logged.2 h.4) in
          omega (arith, more, length-append xs (one.logged.0 ∷ []))
      | inr idle ↦ no_fewer threads h.0 h.1 xs (subst (λ (o : RunLog). HaveTurns valid heard threads h.0 h.1 o d later (Some ys)) idle.3 h.4)
    ]

    -- steps that are kept stay the first ones
    pub extends : (threads : List ℕ) (c : Core) (seats : _) (xs : List Step) → HaveTurns valid heard threads c seats (Some xs) d later (Some ys) → (more : List Step) × (ys ≡ xs ++ more)
    extends [] c seats xs h = ([], same_Some ys xs h.2 ∙ sym (append-nil xs))
    extends (thread ∷ threads) c seats xs h = elim h.3 [
      | inl one ↦
          let rest = extends threads h.0 h.1 (xs ++ one.logged.0 ∷ []) (one_more threads h.0 h.1 xs one.logged.0 h.2 one.logged.2 h.4) in
          (one.logged.0 ∷ rest.0, rest.1 ∙ append_assoc xs (one.logged.0 ∷ []) rest.0)
      | inr idle ↦ extends threads h.0 h.1 xs (subst (λ (o : RunLog). HaveTurns valid heard threads h.0 h.1 o d later (Some ys)) idle.3 h.4)
    ]

    -- without one more step no thread has made an event
    quiet : (threads : List ℕ) (c : Core) (seats : _) (xs : List Step) → length ys ≤ length xs → HaveTurns valid heard threads c seats (Some xs) d later (Some ys) → later ≡ seats
    quiet [] c seats xs few h = h.1
    quiet (thread ∷ threads) c seats xs few h = elim h.3 [
      | inl one ↦
          let more = no_fewer threads h.0 h.1 (xs ++ one.logged.0 ∷ []) (one_more threads h.0 h.1 xs one.logged.0 h.2 one.logged.2 h.4) in
          absurd (omega (arith, more, few, length-append xs (one.logged.0 ∷ [])))
      | inr idle ↦ quiet threads h.0 h.1 xs few (subst (λ (o : RunLog). HaveTurns valid heard threads h.0 h.1 o d later (Some ys)) idle.3 h.4) ∙ idle.2
    ]

    -- with one more, all threads but one are as they were
    all_but_one : (threads : List ℕ) (c : Core) (seats : _) (xs : List Step) → length ys ≤ length xs + 1 → HaveTurns valid heard threads c seats (Some xs) d later (Some ys)
        → (thread : ℕ) × ((other : ℕ) → (other ≡ thread → ⊥) → slice_get later other ≡ slice_get seats other)
    all_but_one [] c seats xs few h = (0, λ other apart. ap (λ ss. slice_get ss other) h.1)
    all_but_one (thread ∷ threads) c seats xs few h = elim h.3 [
      | inl one ↦
          let enough : length ys ≤ length (xs ++ one.logged.0 ∷ []) = omega (arith, few, length-append xs (one.logged.0 ∷ [])) in
          let same = quiet threads h.0 h.1 (xs ++ one.logged.0 ∷ []) enough (one_more threads h.0 h.1 xs one.logged.0 h.2 one.logged.2 h.4) in
          (thread, λ other apart. ap (λ ss. slice_get ss other) (same ∙ one.others) ∙ other_place seats thread other one.seat apart)
      | inr idle ↦
          let rest = all_but_one threads h.0 h.1 xs few (subst (λ (o : RunLog). HaveTurns valid heard threads h.0 h.1 o d later (Some ys)) idle.3 h.4) in
          (rest.0, λ other apart. rest.1 other apart ∙ ap (λ ss. slice_get ss other) idle.2)
    ]

-- a thread that has a transaction, and a try for it, is not over before it has begun
pub not_over : {M : Type 0} (count tries : ℕ) (s : _) → 0 < count → 0 < tries → IsNew {M = M} count tries s → IsOver s → ⊥
not_over count tries s some try new over =
    let none = new.none_ended in let counted = new.counted in let left = new.all_left in
    elim over [
      | inl all ↦ omega (arith, all, none, counted, some)
      | inr out ↦ omega (arith, out, left, try)
    ]

pub some_seat : {X : Type 0} (thread : ℕ) (seats : List X) → thread < length seats → (s : X) × (slice_get seats thread ≡ Some s)
some_seat thread [] less = absurd (omega (arith, less))
some_seat thread (s ∷ ss) less = (_, slice_get-get_or (s ∷ ss) thread s less)

-- the first step is that of the first thread that has a turn, where it is not over
pub first_step : {M : Type 0} (valid : Validity) (heard : M → List PlainReply) (d : Core) (later : _) (x : Step) (xs : List Step) (thread : ℕ) (threads : List ℕ) (c : Core) (seats : _)
    → HaveTurns valid heard (thread ∷ threads) c seats (Some []) d later (Some (x ∷ xs)) → (IsOverAt thread seats → ⊥) → x.thread ≡ thread
first_step valid heard d later x xs thread threads c seats h going = elim h.3 [
  | inl one ↦
      let rest = extends valid heard d later (x ∷ xs) threads h.0 h.1 (one.logged.0 ∷ []) (one_more valid heard d later (x ∷ xs) threads h.0 h.1 [] one.logged.0 h.2 one.logged.2 h.4) in
      let same : x ≡ one.logged.0 = let e = rest.1 in cc in
      ap (λ (s : Step). s.thread) same ∙ one.logged.1.last.of_thread
  | inr idle ↦ absurd (going idle.0)
]

-- a thread that has left no record has ended nothing and used no try
module _ {M : Type 0} (plan : Plan) (fits : ℕ → TransactionPlace → M → View → View → Type 0) (passes thread : ℕ) (s : _) (none : records_of {M = M} s ≡ []) where
  between_none : (v : View) → BetweenAt plan passes thread s v → (0 ≡ s.ended) × (0 + s.left ≡ plan.tries)
  between_none v b = (
    subst (λ (rs : List Record). ended_of thread rs ≡ s.ended) none b.so_many,
    subst (λ (rs : List Record). aborted_times (thread, suc s.ended) rs + s.left ≡ plan.tries) none b.tried,
  )

  at_none : (trial : Option M) (v : View) → IsAt (BetweenAt plan passes thread s) (WithinAt plan fits passes thread s) trial v → (0 ≡ s.ended) × (0 + s.left ≡ plan.tries)
  at_none None v at = between_none v at
  at_none (Some trial) v at = between_none at.begun at.between

module _ {M : Type 0} (plan : Plan) (fits : ℕ → TransactionPlace → M → View → View → Type 0) (valid : Validity) (heard : M → List PlainReply) (schedule : List Turns) (opened : Core) (rs : List Record) (step : Step)
    (try : 0 < plan.tries) (w : WereStepped {M = M} plan fits valid heard schedule opened (Some []) rs (Some (step ∷ []))) where
  -- a thread whose seat is as it was has no transaction
  was_moved : (thread : ℕ) → thread < max 1 (thread_count plan) → 0 < count_in plan.file.threads thread → slice_get w.later thread ≡ slice_get w.seats thread → ⊥
  was_moved thread inside some same =
      let less : thread < length w.seats = subst (λ (n : ℕ). thread < n) (sym w.many) inside in
      let seat = some_seat thread w.seats less in
      not_over (count_in plan.file.threads thread) plan.tries seat.0 some try (w.new thread seat.0 seat.1) (w.over thread less seat.0 (same ∙ seat.1))

  -- the other one of two threads
  by_other : (moved : ℕ) → ((other : ℕ) → (other ≡ moved → ⊥) → slice_get w.later other ≡ slice_get w.seats other) → 1 < max 1 (thread_count plan)
      → 0 < count_in plan.file.threads 0 → 0 < count_in plan.file.threads 1 → ⊥
  by_other zero others two first second = was_moved 1 two second (others 1 (λ e. omega (arith, e)))
  by_other (suc n) others two first second = was_moved 0 (omega (arith, two)) first (others 0 (λ e. omega (arith, e)))

  pub not_one_event : 1 < max 1 (thread_count plan) → 0 < count_in plan.file.threads 0 → 0 < count_in plan.file.threads 1 → ⊥
  not_one_event two first second =
      let one = all_but_one valid heard w.stepped w.later (step ∷ []) (flat_map entry_turns schedule ++ round_turns (length w.seats) w.rounds) opened w.seats [] (omega arith) w.turns in
      by_other one.0 one.1 two first second

module _ {M : Type 0} (plan : Plan) (fits : ℕ → TransactionPlace → M → View → View → Type 0) (valid : Validity) (heard : M → List PlainReply) (schedule : List Turns) (opened : Core) (first last : RunLog)
    (rs : List Record) (w : WereStepped {M = M} plan fits valid heard schedule opened first rs last) where
  -- the words are not left as they were opened, where a thread has a transaction
  pub not_still : (thread : ℕ) → thread < max 1 (thread_count plan) → 0 < count_in plan.file.threads thread → 0 < plan.tries → (view_of opened thread).starts ≡ 0
      → w.stepped ≡ opened → ⊥
  not_still thread inside some try unused same =
      let many : length w.later ≡ length w.seats = sym w.still_seated.views ∙ ap (λ (c : Core). length c.views) same ∙ w.seated.views in
      let within : thread < length w.seats = subst (λ (n : ℕ). thread < n) (sym w.many) inside in
      let seat = some_seat thread w.later (subst (λ (n : ℕ). thread < n) (sym many) within) in
      let none : length (records_of seat.0) ≡ 0 = w.made thread seat.0 seat.1 ∙ ap (λ (c : Core). (view_of c thread).starts) same ∙ unused in
      let seated = w.still_seated.each thread seat.0 seat.1 in
      let begun = at_none plan fits (length w.stepped.statuses) thread seat.0 (nil_from_length (records_of seat.0) none) seat.0.trial (view_of w.stepped thread) seated.at in
      let counted = seated.counted in let ended = begun.0 in let left = begun.1 in
      elim (w.over thread within seat.0 seat.1) [
        | inl all ↦ omega (arith, all, counted, ended, some)
        | inr out ↦ omega (arith, out, left, try)
      ]
