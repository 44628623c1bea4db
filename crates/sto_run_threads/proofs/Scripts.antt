-- A script thread, transaction by transaction.
use Rattle.std.specs.Prelude.{slice_get, Some}
use Rattle.std.proofs.Common.{◌≡◌, ℕ, zero, suc, ◌+◌, ◌<◌, List, [], ◌∷◌, length, refl, sym, ◌∙◌, subst, arith, Bool, false, true≢false}
use Rattle.sto_lang.specs.Scripts.{Script, File}
use Rattle.sto_report_spec.specs.Orders.{transaction_at, count_in}
use Rattle.sto_history.specs.Records.{TransactionPlace, Record}
use Rattle.sto_type.specs.Meaning.{Meaning}
use Rattle.sto_core.specs.declared.view.View.{View}
use Rattle.sto_run_threads.specs.Running.{ended_of}
use Rattle.sto_run_threads.specs.Ran.{IsTransaction, HasRunAt}
use Rattle.sto_run_threads.specs.Worked.{HasWorked, IsFresh, AddsTo, AbortsNone, IsOneMore, IsScriptRun}
use Rattle.sto_model.specs.Run.{Behaviour}
use Rattle.sto_transaction.specs.Resting.{IsAtRest}
use Rattle.sto_transaction.specs.Ran.{HasBroken}
use Rattle.sto_transaction.proofs.Tries.{none_retried, broken_before}
use Rattle.sto_run_threads.proofs.Runs.{one_more}
use Rattle.sto_run_threads.specs.Plans.{Plan}

-- one of so many items is there
item_there : (scripts : List Script) (n : ℕ) → n < length scripts → (s : Script) × (slice_get scripts n ≡ Some s)
item_there [] n l = absurd (omega (arith, l))
item_there (s ∷ scripts) zero l = (s, refl)
item_there (s ∷ scripts) (suc n) l = item_there scripts n (omega (arith, l))

there_in : (file : File) (threads : List (List Script)) (thread n : ℕ) → n < count_in threads thread
    → (s : Script) × (transaction_at (record file { threads = threads }) (thread, suc n) ≡ Some s)
there_in file [] thread n l = absurd (omega (arith, l))
there_in file (scripts ∷ threads) zero n l = item_there scripts n l
there_in file (scripts ∷ threads) (suc thread) n l = there_in file threads thread n l

pub transaction_there : (file : File) (thread n : ℕ) → n < count_in file.threads thread → IsTransaction file (thread, n + 1)
transaction_there file thread n l =
    let k = there_in file file.threads thread n l in
    let e : n + 1 ≡ suc n = omega arith in
    subst (λ (p : ℕ). IsTransaction file (thread, p)) (sym e) (record { script = k.0; there = k.1 })

pub adds_none : (thread : ℕ) (rs : List Record) → AddsTo thread rs rs
adds_none thread rs = record { apart = λ u other h. h; others = λ u other. refl; aborts = λ place other. refl }

pub adds_through : (thread : ℕ) (rs ss ts : List Record) → AddsTo thread rs ss → AddsTo thread ss ts → AddsTo thread rs ts
adds_through thread rs ss ts h k = record {
  apart = λ u other none. k.apart u other (h.apart u other none);
  others = λ u other. k.others u other ∙ h.others u other;
  aborts = λ place other. k.aborts place other ∙ h.aborts place other;
}

pub aborts_none_through : (rs ss ts : List Record) → AbortsNone rs ss → AbortsNone ss ts → AbortsNone rs ts
aborts_none_through rs ss ts h k place = k place ∙ h place

-- the run of the next transaction, where so many have ended
pub script_step : (plan : Plan) (passes now : ℕ) (v w : View) (thread position : ℕ) (rs later : List Record) (ended : Bool)
    → now ≡ passes → ended_of thread rs ≡ position → position < count_in plan.file.threads thread → IsFresh plan.tries passes thread rs → HasWorked plan v rs
    → HasRunAt plan now v w (thread, position + 1) rs later ended → IsOneMore plan passes w thread rs later ended
script_step plan passes now v w thread position rs later ended same is there fresh h ran =
    let e : position + 1 ≡ suc (ended_of thread rs) = omega (arith, is) in
    one_more plan passes v w thread rs later ended h (omega (arith, is, there)) fresh
    (subst (λ (n : ℕ). HasRunAt plan n v w (thread, suc (ended_of thread rs)) rs later ended) same
    (subst (λ (p : ℕ). HasRunAt plan now v w (thread, p) rs later ended) e ran))

-- it is handed back
pub script_left : (plan : Plan) (passes now : ℕ) (v w : View) (thread position : ℕ) (first rs later : List Record) (ended : Bool)
    → now ≡ passes → ended_of thread rs ≡ position → position < count_in plan.file.threads thread → IsFresh plan.tries passes thread rs → HasWorked plan v rs
    → HasRunAt plan now v w (thread, position + 1) rs later ended → ended ≡ false → AddsTo thread first rs → IsScriptRun plan passes w thread first later false
script_left plan passes now v w thread position first rs later ended same is there fresh h ran off adds =
    let k = script_step plan passes now v w thread position rs later ended same is there fresh h ran in record {
      worked = k.next.worked;
      adds = adds_through thread first rs later adds k.next.adds;
      all = λ e. absurd (true≢false (sym e));
      left = λ e. k.used off;
      alone = λ one. absurd (true≢false (sym (k.alone one).0 ∙ off));
    }

-- no attempt was begun
pub not_begun : (m : Meaning) (sizes : List ℕ) (tries : ℕ) (v : View) (f : Behaviour) (place : TransactionPlace) (rs : List Record) → IsAtRest m sizes v → HasBroken m sizes tries v v f place rs rs
not_begun m sizes tries v f place rs rests = broken_before m sizes tries 0 0 v v f place rs rs (none_retried m sizes 0 v f place rs rests) (omega arith)
