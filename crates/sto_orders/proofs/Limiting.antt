-- How many nodes there are at least.
use Rattle.std.proofs.Common.{◌≡◌, ℕ, suc, ◌+◌, ◌-◌, ◌*◌, ◌^◌, ◌<◌, ◌≤◌, min, List, [], ◌∷◌, ◌++◌, length, map, take, sym, ap, ◌∙◌, Some, slice_get, arith, inl, inr, mul_assoc}
use Rattle.std.proofs.lemmas.Bool.{cases_order}
use Rattle.std.proofs.lemmas.List.{length-map, map-append}
use Rattle.sto_lang.specs.declared.file.Thread.{Thread}
use Rattle.sto_lang.specs.Scripts.{Script}
use Rattle.sto_lang.specs.Views.{script, threads_of}
use Rattle.sto_orders.specs.Causes.{least_nodes, least_told}
use Rattle.sto_orders.proofs.Filling.{take_one}

pub some_nodes : (threads : List (List Script)) → 1 ≤ least_nodes threads
some_nodes [] = omega arith
some_nodes (scripts ∷ threads) = let more = some_nodes threads in omega (arith, more)

-- one thread more
nodes_more : (threads : List (List Script)) (scripts : List Script) → least_nodes (threads ++ scripts ∷ []) ≡ least_nodes threads * suc (length scripts)
nodes_more [] scripts = omega arith
nodes_more (first ∷ threads) scripts =
    ap (λ (n : ℕ). suc (length first) * n) (nodes_more threads scripts)
    ∙ sym (mul_assoc (suc (length first)) (least_nodes threads) (suc (length scripts)))

-- A product that stops at a greatest number.

grows : (n k : ℕ) → n ≤ n * suc k
grows n k = omega arith

stopped : (n k most : ℕ) → min (min n most * suc k) most ≡ min (n * suc k) most
stopped n k most = elim (cases_order n most) [
  | inl same ↦ ap (λ (m : ℕ). min (m * suc k) most) (below (omega (arith, same)))
  | inr (inl less) ↦ ap (λ (m : ℕ). min (m * suc k) most) (below (omega (arith, less)))
  | inr (inr more) ↦ ap (λ (m : ℕ). min (m * suc k) most) (above n more) ∙ at_most (most * suc k) (grows most k) ∙ sym (at_most (n * suc k) (let up = grows n k in omega (arith, up, more)))
]
  where
    below : n ≤ most → min n most ≡ n
    below l = omega (arith, l)

    above : (m : ℕ) → most < m → min m most ≡ most
    above m l = omega (arith, l)

    at_most : (m : ℕ) → most ≤ m → min m most ≡ most
    at_most m l = omega (arith, l)

pub least_some : (threads : List (List Script)) → 1 ≤ least_told threads
least_some threads = let some = some_nodes threads in omega (arith, some)

pub least_more : (all : List Thread) (i : ℕ) (thread : Thread) (least stops : ℕ) → slice_get all i ≡ Some thread → least ≡ least_told (threads_of (take i all)) → stops ≡ length thread.scripts.items + 1
    → min (least * stops) (2 ^ 64 - 1) ≡ least_told (threads_of (take (i + 1) all))
least_more all i thread least stops at is count =
    let front = threads_of (take i all) in
    let scripts : List Script = map script thread.scripts.items in
    let more : threads_of (take (i + 1) all) ≡ front ++ scripts ∷ [] =
    ap threads_of (take_one all i thread at) ∙ map-append (λ (t : Thread). map script t.scripts.items) (take i all) (thread ∷ []) in
    let many : stops ≡ suc (length scripts) = omega (arith, count, length-map thread.scripts.items script) in
    ap (λ (n : ℕ). min (n * stops) (2 ^ 64 - 1)) is
    ∙ ap (λ (n : ℕ). min (least_told front * n) (2 ^ 64 - 1)) many
    ∙ stopped (least_nodes front) (length scripts) (2 ^ 64 - 1)
    ∙ ap (λ (n : ℕ). min n (2 ^ 64 - 1)) (sym (nodes_more front scripts))
    ∙ ap least_told (sym more)
