-- Turns of threads, one after the other.
use Rattle.std.specs.Prelude.{slice_get, Some, None}
use Rattle.std.specs.List.{flat_map}
use Rattle.std.proofs.Common.{◌≡◌, ℕ, zero, suc, ◌+◌, ◌-◌, ◌<◌, ◌≤◌, List, [], ◌∷◌, ◌++◌, length, get_or, take, set, replicate, refl, sym, ap, ◌∙◌, subst, arith, inl, inr, append-nil}
use Rattle.std.proofs.lemmas.List.{take_more, replicate_more, replicate-append-replicate}
use Rattle.std.proofs.lemmas.List.Concat.{flat_map-append}
use Rattle.sto_lang.specs.declared.file.Turns.{Turns}
use Rattle.sto_core.specs.Core.{Core}
use Rattle.sto_core.specs.Event.{Event}
use Rattle.sto_core.specs.History.{Validity}
use Rattle.sto_plain.specs.Passes.{view_of, IsSame, IsOn, Steps, Walk, Walks}
use Rattle.sto_run_threads.specs.Orders.{numbers_from}
use Rattle.sto_serializability.proofs.Working.{numbers_more}
use Rattle.sto_model.specs.PlainReplies.{PlainReply}
use Rattle.sto_run_steps.specs.Seated.{IsOver, IsOverAt}
use Rattle.sto_run_steps.specs.Logged.{RunLog, HasLogged, IsStep}
use Rattle.sto_run_steps.specs.Turning.{AnEvent, AStep, MakesOne, HasTurn, HaveTurns, entry_turns, round_turns}
use Rattle.sto_run_steps.specs.declared.seat.Seat.{Seat}

-- of the events of a pass, each is one step of its view: so where the view made one step, there was one event
walk_steps : (valid : Validity) (pass : ℕ) (es : List Event) (c d : Core) → Walk valid pass es c d → (view_of d pass).steps ≡ (view_of c pass).steps + length es
walk_steps valid pass [] c d h = let same = ap (λ (x : Core). (view_of x pass).steps) h in omega (arith, same)
walk_steps valid pass (e ∷ es) c d h =
    let rest = walk_steps valid pass es h.2 d h.4 in let one = h.3.tells.counts in omega (arith, rest, one)

one_step : (valid : Validity) (pass : ℕ) (es : List Event) (c d : Core) → Walk valid pass es c d → (view_of d pass).steps ≡ (view_of c pass).steps + 1 → AStep valid c pass d
one_step valid pass [] c d h one = let many = walk_steps valid pass [] c d h in absurd (omega (arith, one, many))
one_step valid pass (e ∷ []) c d h one = record { event = e; number = h.0; value = h.1; steps = subst (λ (x : Core). Steps valid e c pass h.0 h.1 x) (sym h.4) h.3 }
one_step valid pass (e ∷ (f ∷ es)) c d h one = let many = walk_steps valid pass (e ∷ (f ∷ es)) c d h in absurd (omega (arith, one, many))

-- The step of a pass, which steps apart from the seats, was the turn of its thread.
pub made_one : {M : Type 0} (valid : Validity) (heard : M → List PlainReply) (c d a b : Core) (i j : ℕ) (seats : List (Seat M)) (thread : ℕ) (s later : Seat M) (log next : RunLog)
    → a ≡ c → i ≡ thread → d ≡ b → IsOn valid a i b j → AnEvent valid (length a.statuses) (view_of a i) (view_of b j)
    → HasLogged (IsStep valid (length a.statuses) heard thread (view_of a i) s (view_of b j) later) log next
    → slice_get seats thread ≡ Some s → (IsOver s → ⊥) → MakesOne valid heard thread c seats log d (set seats thread later) next
made_one {M} valid heard c d a b i j seats thread s later log next words pass back on event logged at going =
    let same = on.0 in
    let to : j ≡ thread = same.0 ∙ pass in
    record {
      going = λ over. going (over s at);
      event =
          subst (λ (x : Core). AnEvent valid (length c.statuses) (view_of c thread) (view_of x thread)) (sym back)
          (subst (λ (n : ℕ). AnEvent valid (length c.statuses) (view_of c thread) (view_of b n)) to
          (subst (λ (n : ℕ). AnEvent valid (length c.statuses) (view_of c n) (view_of b j)) pass
          (subst (λ (x : Core). AnEvent valid (length x.statuses) (view_of x i) (view_of b j)) words event)));
      passes =
          subst (λ (x : Core). IsSame c thread x thread) (sym back)
          (subst (λ (n : ℕ). IsSame c thread b n) to
          (subst (λ (n : ℕ). IsSame c n b j) pass
          (subst (λ (x : Core). IsSame x i b j) words same)));
      steps =
          subst (λ (x : Core). AStep valid c thread x) (sym back)
          (subst (λ (x : Core). AStep valid x thread b) words
          (subst (λ (n : ℕ). AStep valid a n b) pass
          (one_step valid i on.1.events a b on.1.walk (subst (λ (n : ℕ). (view_of b n).steps ≡ (view_of a i).steps + 1) same.0 event.tells.counts))));
      before = s;
      at = at;
      seat = later;
      others = refl;
      logged =
          subst (λ (x : Core). HasLogged (IsStep valid (length c.statuses) heard thread (view_of c thread) s (view_of x thread) later) log next) (sym back)
          (subst (λ (n : ℕ). HasLogged (IsStep valid (length c.statuses) heard thread (view_of c thread) s (view_of b n) later) log next) to
          (subst (λ (n : ℕ). HasLogged (IsStep valid (length c.statuses) heard thread (view_of c n) s (view_of b j) later) log next) pass
          (subst (λ (x : Core). HasLogged (IsStep valid (length x.statuses) heard thread (view_of x i) s (view_of b j) later) log next) words logged)));
    }

module _ {M : Type 0} (valid : Validity) (heard : M → List PlainReply) where
  pub turns_append : (first rest : List ℕ) (c d e : Core) (seats middle later : List (Seat M)) (log kept next : RunLog)
      → HaveTurns valid heard first c seats log d middle kept → HaveTurns valid heard rest d middle kept e later next → HaveTurns valid heard (first ++ rest) c seats log e later next
  turns_append [] rest c d e seats middle later log kept next h k =
      subst (λ (x : Core). HaveTurns valid heard rest x seats log e later next) h.0
      (subst (λ (l : List (Seat M)). HaveTurns valid heard rest d l log e later next) h.1
      (subst (λ (o : RunLog). HaveTurns valid heard rest d middle o e later next) h.2 k))
  turns_append (thread ∷ first) rest c d e seats middle later log kept next h k =
      (h.0, h.1, h.2, h.3, turns_append first rest h.0 d e h.1 middle later h.2 kept next h.4 k)

  -- one turn more
  pub turns_more : (threads : List ℕ) (thread : ℕ) (c d e : Core) (seats middle later : List (Seat M)) (log kept next : RunLog)
      → HaveTurns valid heard threads c seats log d middle kept → HasTurn valid heard thread d middle kept e later next → HaveTurns valid heard (threads ++ thread ∷ []) c seats log e later next
  turns_more threads thread c d e seats middle later log kept next h turn =
      turns_append threads (thread ∷ []) c d e seats middle later log kept next h (e, later, next, turn, (refl, refl, refl))

  -- turns of a thread that is over change nothing
  idle_turns : (n thread : ℕ) (c : Core) (seats : List (Seat M)) (log : RunLog) → IsOverAt thread seats → HaveTurns valid heard (replicate n thread) c seats log c seats log
  idle_turns zero thread c seats log over = (refl, refl, refl)
  idle_turns (suc n) thread c seats log over = (c, seats, log, inr (over, refl, refl, refl), idle_turns n thread c seats log over)

  -- one turn more of an entry
  pub entry_more : (n thread : ℕ) (c d e : Core) (seats middle later : List (Seat M)) (log kept next : RunLog)
      → HaveTurns valid heard (replicate n thread) c seats log d middle kept → HasTurn valid heard thread d middle kept e later next → HaveTurns valid heard (replicate (n + 1) thread) c seats log e later next
  entry_more n thread c d e seats middle later log kept next h turn =
      subst (λ (threads : List ℕ). HaveTurns valid heard threads c seats log e later next) (replicate_more n thread) (turns_more (replicate n thread) thread c d e seats middle later log kept next h turn)

  -- the others, where the thread is over
  pub entry_over : (n steps thread : ℕ) (c d : Core) (seats later : List (Seat M)) (log next : RunLog) → n ≤ steps
      → HaveTurns valid heard (replicate n thread) c seats log d later next → IsOverAt thread later → HaveTurns valid heard (replicate steps thread) c seats log d later next
  entry_over n steps thread c d seats later log next few h over =
      let all : n + (steps - n) ≡ steps = omega (arith, few) in
      subst (λ (threads : List ℕ). HaveTurns valid heard threads c seats log d later next) (replicate-append-replicate n (steps - n) thread ∙ ap (λ (k : ℕ). replicate k thread) all)
      (turns_append (replicate n thread) (replicate (steps - n) thread) c d d seats later later log next next h (idle_turns (steps - n) thread d later next over))

  -- one entry more of a schedule
  pub schedule_more : (schedule : List Turns) (i : ℕ) (none : Turns) (c d e : Core) (seats middle later : List (Seat M)) (log kept next : RunLog) → i < length schedule
      → HaveTurns valid heard (flat_map entry_turns (take i schedule)) c seats log d middle kept → HaveTurns valid heard (entry_turns (get_or schedule i none)) d middle kept e later next
      → HaveTurns valid heard (flat_map entry_turns (take (i + 1) schedule)) c seats log e later next
  schedule_more schedule i none c d e seats middle later log kept next inside h k =
      let entry : Turns = get_or schedule i none in
      let last : flat_map entry_turns (take i schedule) ++ entry_turns entry ≡ flat_map entry_turns (take (i + 1) schedule) =
      sym (ap (flat_map entry_turns) (take_more schedule i none inside)
      ∙ flat_map-append entry_turns (take i schedule) (entry ∷ []) ∙ ap (λ (l : List ℕ). flat_map entry_turns (take i schedule) ++ l) (append-nil (entry_turns entry))) in
      subst (λ (threads : List ℕ). HaveTurns valid heard threads c seats log e later next) last
      (turns_append (flat_map entry_turns (take i schedule)) (entry_turns entry) c d e seats middle later log kept next h k)

  -- one thread more of a round
  pub round_turn : (n : ℕ) (c d e : Core) (seats middle later : List (Seat M)) (log kept next : RunLog)
      → HaveTurns valid heard (numbers_from 0 n) c seats log d middle kept → HasTurn valid heard n d middle kept e later next → HaveTurns valid heard (numbers_from 0 (n + 1)) c seats log e later next
  round_turn n c d e seats middle later log kept next h turn =
      let more : n + 1 ≡ suc n = omega arith in
      let here : 0 + n ≡ n = omega arith in
      let last : numbers_from 0 n ++ n ∷ [] ≡ numbers_from 0 (n + 1) =
      sym (ap (numbers_from 0) more ∙ numbers_more 0 n ∙ ap (λ (k : ℕ). numbers_from 0 n ++ k ∷ []) here) in
      subst (λ (threads : List ℕ). HaveTurns valid heard threads c seats log e later next) last (turns_more (numbers_from 0 n) n c d e seats middle later log kept next h turn)

  -- one round more
  pub rounds_more : (n k rounds : ℕ) (c d e : Core) (seats middle later : List (Seat M)) (log kept next : RunLog) → k ≡ n
      → HaveTurns valid heard (round_turns n rounds) c seats log d middle kept → HaveTurns valid heard (numbers_from 0 k) d middle kept e later next → HaveTurns valid heard (round_turns n (suc rounds)) c seats log e later next
  rounds_more n k rounds c d e seats middle later log kept next same h round =
      turns_append (round_turns n rounds) (numbers_from 0 n) c d e seats middle later log kept next h
      (subst (λ (m : ℕ). HaveTurns valid heard (numbers_from 0 m) d middle kept e later next) same round)

  -- where no steps are kept, none are kept later
  pub none_kept : (threads : List ℕ) (c d : Core) (seats later : List (Seat M)) (next : RunLog) → HaveTurns valid heard threads c seats None d later next → next ≡ None
  none_kept [] c d seats later next h = h.2
  none_kept (thread ∷ threads) c d seats later next h =
      let e : h.2 ≡ None = elim h.3 [ inl one ↦ one.logged | inr over ↦ over.3 ] in
      none_kept threads h.0 d h.1 later next (subst (λ (o : RunLog). HaveTurns valid heard threads h.0 h.1 o d later next) e h.4)
