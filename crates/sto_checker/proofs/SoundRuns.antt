-- Every sound file can be run.
use Rattle.std.proofs.Common.{◌≡◌, ℕ, zero, suc, ◌<◌, ◌≤◌, List, [], ◌∷◌, length, refl, Option, Some, None, slice_get, option_and_then, sum_by, arith}
use Rattle.sto_model.specs.declared.shape.Shape.{Shape}
use Rattle.sto_lang.specs.Objects.{shapes_of}
use Rattle.sto_lang.specs.Scripts.{Script, File}
use Rattle.sto_lang.specs.Sound.{IsNumbered, IsSoundScript, IsSound}
use Rattle.sto_lang.proofs.LimitLemmas.{threads_most}
use Rattle.sto_lang.proofs.SoundFiles.{calls_within, script_at}
use Rattle.std.proofs.lemmas.Option.{slice_get_within}
use Rattle.std.proofs.lemmas.List.Elements.{All-weaker}
use Rattle.std.proofs.lemmas.List.Sums.{sum_by-cons}
use Rattle.sto_report_spec.specs.Orders.{at_position, count_in}
use Rattle.sto_checker.specs.Runnable.{CanRun, IsRunnable}

-- a transaction by its thread and what stands before it there
record Found (thread : Option (List Script)) (position : ℕ) (script : Script) : Type 0 where
  scripts : List Script
  earlier : ℕ
  in_thread : thread ≡ Some scripts
  next : position ≡ suc earlier
  stands : slice_get scripts earlier ≡ Some script

found : (thread : Option (List Script)) (position : ℕ) (script : Script) → option_and_then (at_position position) thread ≡ Some script → Found thread position script
found None position script e = absurd cc
found (Some scripts) zero script e = absurd cc
found (Some scripts) (suc earlier) script e = record { scripts = scripts; earlier = earlier; in_thread = refl; next = refl; stands = e }

can_run : (shapes : List Shape) (script : Script) → IsSoundScript shapes script → CanRun shapes script
can_run shapes script s = record { weighed = calls_within shapes script s; taken = s.taken }

count_total : (threads : List (List Script)) (thread : ℕ) → count_in threads thread ≤ sum_by length threads
count_total [] thread = omega arith
count_total (scripts ∷ threads) zero = omega (arith, sum_by-cons length scripts threads)
count_total (scripts ∷ threads) (suc thread) =
    let count : count_in (scripts ∷ threads) (suc thread) ≡ count_in threads thread = refl in
    omega (arith, count, sum_by-cons length scripts threads, count_total threads thread)

pub sound_runnable : (file : File) → IsSound file → IsRunnable file
sound_runnable file s = record {
  names = s.named;
  numbered = All-weaker (IsNumbered file.declarations) (λ d. d.number < length (shapes_of file.declarations)) (λ d h. slice_get_within (shapes_of file.declarations) d.number d.shape h.shaped) file.declarations s.numbered;
  scripts = λ place script e.
      let f : Found (slice_get file.threads place.0) place.1 script = found (slice_get file.threads place.0) place.1 script e in
      can_run (shapes_of file.declarations) script (script_at file place.0 f.earlier f.scripts script s f.in_thread f.stands);
  few_threads = omega (arith, s.few_threads, threads_most file.version);
  few_transactions = λ thread. omega (arith, s.few_transactions, count_total file.threads thread);
}
