-- A run of a transaction keeps the pace of its file.
use Rattle.std.specs.Prelude.{slice_get, Some, option_and_then}
use Rattle.std.proofs.Common.{◌≡◌, ◌≤◌, ◌+◌, ◌-◌, ◌*◌, ℕ, zero, suc, List, [], ◌∷◌, mul-le-mul_right, ap, ◌∙◌, arith}
use Rattle.std.proofs.Math.Nat.{add-mul, mul-le-mul_left}
use Rattle.sto_lang.specs.Scripts.{Script, File}
use Rattle.sto_type.specs.Meaning.{Meaning}
use Rattle.sto_core.specs.declared.view.View.{View}
use Rattle.sto_report_spec.specs.Orders.{TransactionPlace, at_position, transaction_at}
use Rattle.sto_transaction.specs.Pace.{most_steps, KeepsPace}
use Rattle.sto_run_threads.specs.Counts.{heaviest_of, heaviest}

-- a script weighs at most as much as the heaviest
weight_in : (scripts : List Script) (n : ℕ) (s : Script) → slice_get scripts n ≡ Some s → s.weight ≤ heaviest_of scripts
weight_in [] n s at = absurd cc
weight_in (x ∷ xs) zero s at = let is : x ≡ s = cc in let same = ap (λ (y : Script). y.weight) is in omega (arith, same)
weight_in (x ∷ xs) (suc n) s at = omega (arith, weight_in xs n s at)

at_weight : (scripts : List Script) (position : ℕ) (s : Script) → at_position position scripts ≡ Some s → s.weight ≤ heaviest_of scripts
at_weight scripts zero s at = absurd cc
at_weight scripts (suc n) s at = weight_in scripts n s at

threads_weight : (threads : List (List Script)) (thread position : ℕ) (s : Script) → option_and_then (at_position position) (slice_get threads thread) ≡ Some s
    → s.weight ≤ heaviest threads
threads_weight [] thread position s at = absurd cc
threads_weight (scripts ∷ threads) zero position s at = omega (arith, at_weight scripts position s at)
threads_weight (scripts ∷ threads) (suc thread) position s at = omega (arith, threads_weight threads thread position s at)

-- more calls may take more steps
pub more_steps : (m : Meaning) (few many : ℕ) → few ≤ many → most_steps m few ≤ most_steps m many
more_steps m few many l = mul-le-mul_right _ (omega (arith, l))

-- one attempt keeps it
pub one_paced : (most : ℕ) (v w : View) → w.steps ≤ v.steps + most → w.starts ≡ v.starts + 1 → KeepsPace most v w
one_paced most v w steps starts =
    let same : w.starts * most ≡ v.starts * most + 1 * most = ap (λ (n : ℕ). n * most) starts ∙ add-mul v.starts 1 most in
    omega (arith, steps, same)

-- a greater pace is kept too
keeps_more : (few many : ℕ) (v w : View) → few ≤ many → v.starts ≤ w.starts → KeepsPace few v w → KeepsPace many v w
keeps_more few many v w l later h =
    let made = w.starts - v.starts in
    let all : w.starts ≡ v.starts + made = omega (arith, later) in
    let by_few : w.starts * few ≡ v.starts * few + made * few = ap (λ (n : ℕ). n * few) all ∙ add-mul v.starts made few in
    let by_many : w.starts * many ≡ v.starts * many + made * many = ap (λ (n : ℕ). n * many) all ∙ add-mul v.starts made many in
    let more : made * few ≤ made * many = mul-le-mul_left made l in
    omega (arith, by_few, by_many, more, h)

pub weighs_most : (file : File) (place : TransactionPlace) (s : Script) → transaction_at file place ≡ Some s → s.weight ≤ heaviest file.threads
weighs_most file place s at = threads_weight file.threads place.0 place.1 s at

pub paced_by : (m : Meaning) (file : File) (place : TransactionPlace) (s : Script) → transaction_at file place ≡ Some s → (calls : ℕ) (v w : View) → calls ≤ s.weight → v.starts ≤ w.starts
    → KeepsPace (most_steps m calls) v w → KeepsPace (most_steps m (heaviest file.threads)) v w
paced_by m file place s at calls v w few later h =
    let weight = weighs_most file place s at in
    keeps_more (most_steps m calls) (most_steps m (heaviest file.threads)) v w (more_steps m calls (heaviest file.threads) (omega (arith, few, weight))) later h
