-- How many transactions a file has, as the code counts them.
use Rattle.std.proofs.Common.{◌≡◌, ◌≤◌, ◌<◌, ℕ, ◌+◌, List, [], ◌∷◌, length, map, get_or, take, refl, ap, sum_by, arith}
use Rattle.std.proofs.lemmas.List.{length-map}
use Rattle.std.proofs.lemmas.List.Sums.{sum_by-cons, sum_by_more, sum_by-take-le}
use Rattle.sto_lang.specs.Scripts.{Script}
use Rattle.sto_lang.specs.Drafts.{transaction_count}
use Rattle.sto_lang.specs.Views.{threads_of, script}
use Rattle.sto_lang.specs.declared.file.Thread.{Thread}

abbrev pub scripts_of : Thread → ℕ
scripts_of thread = length thread.scripts.items

pub counted : (threads : List Thread) → sum_by scripts_of threads ≡ transaction_count (threads_of threads)
counted [] = refl
counted (thread ∷ threads) =
    let rest = counted threads in
    let here = sum_by-cons scripts_of thread threads in
    let there = sum_by-cons (λ (scripts : List Script). length scripts) (map script thread.scripts.items) (threads_of threads) in
    let same = length-map thread.scripts.items script in
    omega (arith, rest, here, there, same)

pub one_more : (threads : List Thread) (i : ℕ) (thread : Thread) → i < length threads → thread ≡ get_or threads i thread
    → sum_by scripts_of (take (i + 1) threads) ≡ sum_by scripts_of (take i threads) + scripts_of thread
one_more threads i thread inside is =
    let more = sum_by_more scripts_of threads i thread inside in
    let here = ap scripts_of is in
    omega (arith, more, here)

pub at_most : (threads : List Thread) (i : ℕ) → sum_by scripts_of (take i threads) ≤ transaction_count (threads_of threads)
at_most threads i =
    let part = sum_by-take-le scripts_of threads i in
    let all = counted threads in
    omega (arith, part, all)
