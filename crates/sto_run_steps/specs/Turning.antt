-- Turns of script threads: which thread makes the next event.
use Rattle.std.specs.Prelude.{◌≡◌, ◌⊎◌, ℕ, zero, suc, max, ℤ, List, [], ◌∷◌, ◌++◌, length, replicate, slice_get, slice_set, Some}
use Rattle.std.specs.List.{flat_map}
use Rattle.sto_lang.specs.declared.file.Turns.{Turns}
use Rattle.sto_model.specs.PlainReplies.{PlainReply}
use Rattle.sto_core.specs.declared.view.View.{View}
use Rattle.sto_core.specs.Core.{Core}
use Rattle.sto_core.specs.Event.{Event}
use Rattle.sto_core.specs.History.{Validity}
use Rattle.sto_plain.specs.Passes.{view_of, IsSame, Steps}
use Rattle.sto_run_threads.specs.Orders.{TransactionPlace, numbers_from}
use Rattle.sto_history.specs.Records.{Record}
use Rattle.sto_transaction.specs.Answers.{OneEvent}
use Rattle.sto_run_threads.specs.Plans.{Plan, thread_count}
use Rattle.sto_run_threads.specs.Worked.{AbortsNone}
use Rattle.sto_run_steps.specs.Seated.{AreNew, AreSeated, AreOver, IsOverAt, records_of}
use Rattle.sto_run_steps.specs.Logged.{RunLog, HasLogged, IsStep}
use Rattle.sto_run_steps.specs.declared.seat.Seat.{Seat}

-- exactly one event leads from a view of a pass to the next
abbrev pub AnEvent : Validity → ℕ → View → View → Type 0
AnEvent valid passes v w = OneEvent (λ _. Unit {0}) valid passes v w

-- one event leads from a core state to the next
pub record AStep (valid : Validity) (c : Core) (pass : ℕ) (d : Core) : Type 0 where
  pub event : Event
  pub number : ℕ
  pub value : ℤ
  pub steps : Steps valid event c pass number value d

-- a thread that is not over has made exactly one event, on its own pass. Other passes and other threads are as they were. Where steps are
-- kept, it is the next one
pub record MakesOne {M : Type 0} (valid : Validity) (heard : M → List PlainReply) (thread : ℕ) (c : Core) (seats : List (Seat M)) (log : RunLog) (d : Core) (later : List (Seat M)) (next : RunLog) : Type 0 where
  pub going : IsOverAt thread seats → ⊥
  pub event : AnEvent valid (length c.statuses) (view_of c thread) (view_of d thread)
  pub passes : IsSame c thread d thread
  -- it found what its word held, and changed that word and its view, and no more
  pub steps : AStep valid c thread d
  pub before : Seat M
  pub at : slice_get seats thread ≡ Some before
  pub seat : Seat M
  pub others : later ≡ slice_set seats thread seat
  pub logged : HasLogged (IsStep valid (length c.statuses) heard thread (view_of c thread) before (view_of d thread) seat) log next

-- a turn of a thread: it makes one event, or is over and makes none
abbrev pub HasTurn : {M : Type 0} → Validity → (M → List PlainReply) → ℕ → Core → List (Seat M) → RunLog → Core → List (Seat M) → RunLog → Type 0
HasTurn valid heard thread c seats log d later next =
    MakesOne valid heard thread c seats log d later next ⊎ (IsOverAt thread seats × (d ≡ c) × (later ≡ seats) × (next ≡ log))

-- turns of these threads, one after the other
abbrev pub HaveTurns : {M : Type 0} → Validity → (M → List PlainReply) → List ℕ → Core → List (Seat M) → RunLog → Core → List (Seat M) → RunLog → Type 0
HaveTurns valid heard [] c seats log d later next = (d ≡ c) × (later ≡ seats) × (next ≡ log)
HaveTurns {M} valid heard (thread ∷ threads) c seats log d later next =
    (e : Core) × (middle : List (Seat M)) × (kept : RunLog) × HasTurn valid heard thread c seats log e middle kept × HaveTurns valid heard threads e middle kept d later next

-- the same, where all threads were at their seats and still are
pub record TakeTurns {M : Type 0} (plan : Plan) (fits : ℕ → TransactionPlace → M → View → View → Type 0) (valid : Validity) (heard : M → List PlainReply) (threads : List ℕ) (c : Core) (seats : List (Seat M)) (log : RunLog) (d : Core) (later : List (Seat M)) (next : RunLog) : Type 0 where
  pub turns : HaveTurns valid heard threads c seats log d later next
  pub seated : AreSeated plan fits d later
  pub many : length later ≡ length seats

-- the turns of an entry of a schedule
abbrev pub entry_turns : Turns → List ℕ
entry_turns entry = replicate entry.steps entry.thread

-- those of so many rounds: in each round each of so many threads has one, in rising number
abbrev pub round_turns : (threads rounds : ℕ) → List ℕ
round_turns threads zero = []
round_turns threads (suc rounds) = round_turns threads rounds ++ numbers_from 0 threads

-- from these words on, the threads of a file, of which none had begun, each at the seat of its pass, had the turns of a schedule, and then
-- rounds of turns until all were over; they are at their seats then too. Each thread made a record for each start of its pass; these are the
-- first of the records, and none of the others is aborted. Where steps were kept from the first on, the last log has those of all these turns
-- in their order
pub record WereStepped {M : Type 0} (plan : Plan) (fits : ℕ → TransactionPlace → M → View → View → Type 0) (valid : Validity) (heard : M → List PlainReply) (schedule : List Turns) (opened : Core) (first : RunLog) (rs : List Record) (last : RunLog) : Type 0 where
  pub seats : List (Seat M)
  -- one for each script thread, and one where there is none
  pub many : length seats ≡ max 1 (thread_count plan)
  pub new : AreNew plan seats
  pub seated : AreSeated plan fits opened seats
  pub rounds : ℕ
  pub stepped : Core
  pub later : List (Seat M)
  pub turns : HaveTurns valid heard (flat_map entry_turns schedule ++ round_turns (length seats) rounds) opened seats first stepped later last
  pub over : AreOver (length seats) later
  pub still_seated : AreSeated plan fits stepped later
  pub made : (thread : ℕ) (s : Seat M) → slice_get later thread ≡ Some s → length (records_of s) ≡ (view_of stepped thread).starts
  -- the records of what they handed back
  pub others : List Record
  pub records : rs ≡ flat_map records_of later ++ others
  pub aborts : AbortsNone (flat_map records_of later) rs
