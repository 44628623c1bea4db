-- A pass has draws for all transactions of a sound file, twice, with all their tries.
use Rattle.std.specs.List.{sum_by}
use Rattle.std.proofs.Common.{◌≡◌, ℕ, ◌+◌, ◌*◌, ◌^◌, ◌≤◌, List, [], ◌∷◌, length, refl, arith}
use Rattle.std.proofs.lemmas.List.Sums.{sum_by-cons}
use Rattle.std.proofs.lemmas.Nat.{mul-le}
use Rattle.sto_lang.specs.Scripts.{Script, File}
use Rattle.sto_lang.specs.Sound.{IsSound}
use Rattle.sto_lang.proofs.LimitLemmas.{threads_most}
use Rattle.sto_run_threads.specs.Counts.{scripts_from}

counted : (threads : List (List Script)) → scripts_from threads 0 ≡ sum_by length threads
counted [] = refl
counted (scripts ∷ threads) = let k = counted threads in let e = sum_by-cons length scripts threads in omega (arith, k, e)

pub enough_draws : (file : File) (tries : ℕ) → IsSound file → tries ≤ 64 → tries * scripts_from file.threads 0 + tries * scripts_from file.threads 0 ≤ 2 ^ 40
enough_draws file tries sound low =
    let all = counted file.threads in
    let few = sound.few_transactions in
    let within : scripts_from file.threads 0 ≤ 10000 = omega (arith, all, few) in
    let product = mul-le tries (scripts_from file.threads 0) 64 10000 low within in
    omega (arith, product)

pub few_threads : (file : File) → IsSound file → length file.threads ≤ 65536
few_threads file sound = let few = sound.few_threads in let most = threads_most file.version in omega (arith, few, most)
