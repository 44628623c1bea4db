-- Which threads are over after which turns.
use Rattle.std.specs.Prelude.{◌≡◌, ℕ, suc, max, List, [], ◌∷◌, ◌++◌, length, Some, Bool, true, false}
use Rattle.sto_type.specs.Traits.{OfType}
use Rattle.sto_core.specs.Core.{Core}
use Rattle.sto_core.specs.Opened.{opened_core}
use Rattle.sto_lang.specs.Scripts.{Script, File}
use Rattle.sto_script.specs.declared.body.ScriptBody.{ScriptBody}
use Rattle.sto_transaction.specs.declared.machine.Machine.{Machine}
use Rattle.sto_run_threads.specs.Plans.{plan_of}
use Rattle.sto_run_steps.specs.Logged.{RunLog}
use Rattle.sto_run_steps.specs.Proceeding.{heard_by}
use Rattle.sto_run_steps.specs.Seated.{AreNew, IsOverAt}
use Rattle.sto_run_steps.specs.Turning.{HaveTurns}

-- a thread is over, or is not
abbrev pub IsOrIsNot : Type 0 → Bool → Type 0
IsOrIsNot P true = P
IsOrIsNot P false = P → ⊥

-- from words on that were opened so, threads at their seats had these turns
abbrev pub HadSome : {S : Type 0} → (List ℕ → Core → S → RunLog → Core → S → RunLog → Type 0) → Core → List ℕ → S → S → Type 0
HadSome Had opened turns seats later = (words : Core) × (log : RunLog) × Had turns opened seats (Some []) words later log

-- threads of which none had begun had these turns, and then the thread of the last is over, or is not
pub record IsToldAfter {S : Type 0} (IsNew : S → Type 0) (Had : List ℕ → S → S → Type 0) (IsOver : ℕ → S → Type 0) (turns : List ℕ) (over : Bool) : Type 0 where
  pub before : List ℕ
  pub thread : ℕ
  pub last : turns ≡ before ++ thread ∷ []
  pub seats : S
  pub new : IsNew seats
  pub later : S
  pub had : Had turns seats later
  pub is : IsOrIsNot (IsOver thread later) over

-- the words with which a run of a file opens, on objects of a type
abbrev pub opened_for : {T : Type 0} → OfType T → T → File → Core
opened_for t ty file = opened_core (t.sizes ty) (t.meaning ty).opened (max 1 (length file.threads))

-- so it is in a run of a file by steps, with so many tries and on objects of a type
abbrev pub tells_of : {T : Type 0} → OfType T → T → File → ℕ → List ℕ → Bool → Type 0
tells_of {T} t ty file tries =
    IsToldAfter (AreNew {M = Machine T ScriptBody} (plan_of t ty file tries)) (HadSome (HaveTurns {M = Machine T ScriptBody} t.valid heard_by) (opened_for t ty file)) (IsOverAt {M = Machine T ScriptBody})

-- the threads that have a transaction, where the first of these has this number
abbrev pub busy_from : ℕ → List (List Script) → List ℕ
busy_from first [] = []
busy_from first ([] ∷ threads) = busy_from (suc first) threads
busy_from first ((script ∷ scripts) ∷ threads) = first ∷ busy_from (suc first) threads

-- those of a file
abbrev pub busy_threads : File → List ℕ
busy_threads file = busy_from 0 file.threads
