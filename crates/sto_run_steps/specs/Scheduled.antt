-- The run of a file by a schedule, over plain data: each turn of a thread is the next step of its attempt, on the words that all threads share. No more than a file, a schedule and
-- the number of tries goes into it, and one run comes out.
use Rattle.std.specs.Prelude.{◌≡◌, ◌⊎◌, ◌+◌, ◌-◌, ℕ, zero, suc, ℤ, max, nat_eq, ◌&&◌, ◌||◌, if◌then◌else◌, Bool, true, false, Option, Some, None, List, [], ◌∷◌, ◌++◌, length, map, drop, replicate, slice_get, slice_set}
use Rattle.std.specs.List.{flat_map}
use Rattle.sto_lang.specs.Scripts.{Script}
use Rattle.sto_lang.specs.declared.file.Turns.{Turns}
use Rattle.sto_script.specs.Meaning.{meaning_of}
use Rattle.sto_model.specs.PlainReplies.{PlainReply}
use Rattle.sto_core.specs.Core.{Core}
use Rattle.sto_core.specs.Event.{Event}
use Rattle.sto_core.specs.History.{Validity}
use Rattle.sto_core.specs.Opened.{opened_core}
use Rattle.sto_core.specs.Reopened.{reopened_core}
use Rattle.sto_plain.specs.Passes.{Steps}
use Rattle.sto_attempt_log.specs.Doing.{Doing, begun, event_next, heard_in, DoesNext}
use Rattle.sto_attempt_log.specs.declared.verdict.Verdict.{Verdict}
use Rattle.sto_history.specs.Records.{Record, is_abort}
use Rattle.sto_transaction.specs.Plain.{verdict}
use Rattle.sto_run_threads.specs.Orders.{TransactionPlace, transaction_at, count_in, numbers_from}
use Rattle.sto_run_threads.specs.Plans.{Plan, thread_count}
use Rattle.sto_run_steps.specs.Turning.{entry_turns}

-- a script thread, as far as it has come
pub record Thread : Type 0 where
  -- the attempt that runs
  pub trial : Option Doing
  -- how many of its transactions have ended
  pub ended : ℕ
  -- how many more attempts of the next one may be aborted
  pub left : ℕ
  -- of the attempts that have ended
  pub records : List Record

-- none of its transactions has begun
abbrev pub new_thread : ℕ → Thread
new_thread tries = record { trial = None; ended = 0; left = tries; records = [] }

-- all of its transactions have ended, or the next one used up its tries
abbrev pub is_over : Plan → ℕ → Thread → Bool
is_over plan thread s = nat_eq s.ended (count_in plan.file.threads thread) || nat_eq s.left 0

-- the threads from a number on are
abbrev pub are_over : Plan → ℕ → List Thread → Bool
are_over plan first [] = true
are_over plan first (s ∷ ss) = is_over plan first s && are_over plan (suc first) ss

-- the attempt of the next transaction: the one that runs, or a new one
abbrev pub doing_of : Option Doing → Doing
doing_of None = begun
doing_of (Some doing) = doing

-- what its calls were answered so far
abbrev pub heard_of : Option Doing → List PlainReply
heard_of trial = heard_in (doing_of trial)

-- the record of an attempt that has ended
abbrev pub record_of : TransactionPlace → Doing → Verdict → Record
record_of place later end = record { place = place; replies = heard_in later; verdict = verdict end }

-- the thread after a step of its attempt: it goes on; or it has ended, with the transaction or with one try
abbrev pub sat : Plan → ℕ → Thread → Doing → Option Verdict → Thread
sat plan thread s later None = record s { trial = Some later }
sat plan thread s later (Some end) = record {
  trial = None;
  ended = (if is_abort (verdict end) then s.ended else s.ended + 1);
  left = (if is_abort (verdict end) then s.left - 1 else plan.tries);
  records = s.records ++ record_of (thread, s.ended + 1) later end ∷ [];
}

-- one event of a run: who made it, what it was and found, what further calls were answered, and how the attempt ended with it
pub record Made : Type 0 where
  pub thread : ℕ
  pub position : ℕ
  pub event : Event
  pub number : ℕ
  pub value : ℤ
  pub replies : List PlainReply
  pub end : Option Verdict

-- where a run stands: the words and views, the threads, and the events so far
pub record Scene : Type 0 where
  pub core : Core
  pub threads : List Thread
  pub made : List Made

module _ (plan : Plan) (valid : Validity) where
  -- the next event of an attempt on the pass at a place: it finds what its word held, and changes that word and the view of the pass, and no more
  pub record StepsOn (pass : ℕ) (f : Script) (now : Doing) (c d : Core) (n : ℕ) (x : ℤ) (later : Doing) (end : Option Verdict) : Type 0 where
    pub steps : Steps valid (event_next plan.meaning now) c pass n x d
    pub does : DoesNext plan.meaning (meaning_of f) now n x later end

  -- a thread at this seat, whose next transaction is f, makes its next event
  pub record MakesOf (thread : ℕ) (s : Thread) (f : Script) (scene next : Scene) : Type 0 where
    pub core : Core
    pub number : ℕ
    pub value : ℤ
    pub later : Doing
    pub end : Option Verdict
    pub steps : StepsOn thread f (doing_of s.trial) scene.core core number value later end
    pub after : next ≡ record {
      core = core;
      threads = slice_set scene.threads thread (sat plan thread s later end);
      made = scene.made ++ record {
        thread = thread;
        position = s.ended + 1;
        event = event_next plan.meaning (doing_of s.trial);
        number = number;
        value = value;
        replies = drop (length (heard_of s.trial)) (heard_in later);
        end = end;
      } ∷ [];
    }

  -- a thread that is not over makes its next event
  pub record Makes (thread : ℕ) (scene next : Scene) : Type 0 where
    pub before : Thread
    pub at : slice_get scene.threads thread ≡ Some before
    pub going : is_over plan thread before ≡ false
    pub script : Script
    pub there : transaction_at plan.file (thread, before.ended + 1) ≡ Some script
    pub makes : MakesOf thread before script scene next

  -- a turn of a thread that is over is passed over
  pub record Passes (thread : ℕ) (scene next : Scene) : Type 0 where
    pub before : Thread
    pub at : slice_get scene.threads thread ≡ Some before
    pub over : is_over plan thread before ≡ true
    pub after : next ≡ scene

  -- turns of these threads, one after the other
  abbrev pub TurnsBy : List ℕ → Scene → Scene → Type 0
  TurnsBy [] scene next = next ≡ scene
  TurnsBy (thread ∷ threads) scene next = (middle : Scene) × (Makes thread scene middle ⊎ Passes thread scene middle) × TurnsBy threads middle next

  -- rounds of turns until all threads are over: so many
  abbrev pub RoundsBy : ℕ → Scene → Scene → Type 0
  RoundsBy zero scene next = (are_over plan 0 scene.threads ≡ true) × (next ≡ scene)
  RoundsBy (suc rounds) scene next =
      (are_over plan 0 scene.threads ≡ false) × (middle : Scene) × TurnsBy (numbers_from 0 (length scene.threads)) scene middle × RoundsBy rounds middle next

  -- an attempt makes this many events on the first pass, with no event of another between, and ends
  abbrev pub EndsIn : ℕ → Script → Doing → Core → Core → Doing → Verdict → Type 0
  EndsIn zero f now c d later end = ⊥
  EndsIn (suc events) f now c d later end =
      (e : Core) × (n : ℕ) × (x : ℤ) × (next : Doing) × (o : Option Verdict) × StepsOn 0 f now c e n x next o
      × (((events ≡ 0) × (o ≡ Some end) × (d ≡ e) × (later ≡ next)) ⊎ ((o ≡ None) × EndsIn events f next e d later end))

  -- the transactions at these places are run one after the other, each by one attempt
  abbrev pub RunsEach : List TransactionPlace → Core → Core → List Record → Type 0
  RunsEach [] c d rs = (d ≡ c) × (rs ≡ [])
  RunsEach (place ∷ places) c d rs =
      (f : Script) × (transaction_at plan.file place ≡ Some f) × (events : ℕ) × (e : Core) × (later : Doing) × (end : Verdict) × EndsIn events f begun c e later end
      × (others : List Record) × RunsEach places e d others × (rs ≡ record_of place later end ∷ others)

  -- the transactions that threads from a number on have not ended
  abbrev pub places_left : ℕ → List Thread → List TransactionPlace
  places_left first [] = []
  places_left first (s ∷ ss) =
      map (λ (position : ℕ). (first, position)) (numbers_from (s.ended + 1) (count_in plan.file.threads first - s.ended)) ++ places_left (suc first) ss

  -- how many passes there are: one for each script thread, and one where there is none
  abbrev pub pass_count : ℕ
  pass_count = max 1 (thread_count plan)

  -- the beginning: the words as they are opened, and no thread has begun
  abbrev pub first_scene : Scene
  first_scene = record {
    core = opened_core plan.sizes plan.meaning.opened pass_count;
    threads = replicate pass_count (new_thread plan.tries);
    made = [];
  }

  -- the run by a schedule: these events were made, and these are the records of all attempts, those of the stepped threads before those of what they handed back, which is run on
  -- the one pass of the reopened words
  pub record StepsBy (schedule : List Turns) (made : List Made) (rs : List Record) (last : Core) : Type 0 where
    pub followed : Scene
    pub follows : TurnsBy (flat_map entry_turns schedule) first_scene followed
    pub rounds : ℕ
    pub stepped : Scene
    pub finishes : RoundsBy rounds followed stepped
    pub others : List Record
    pub runs : RunsEach (places_left 0 stepped.threads) (reopened_core plan.sizes plan.meaning.opened stepped.core) last others
    pub events : made ≡ stepped.made
    pub records : rs ≡ flat_map (λ (s : Thread). s.records) stepped.threads ++ others
