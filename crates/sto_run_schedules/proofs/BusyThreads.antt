-- The threads of a file that have a transaction.
use Rattle.std.specs.Prelude.{nat_eq}
use Rattle.std.specs.List.{list_any}
use Rattle.std.proofs.Common.{◌≡◌, ℕ, suc, ◌+◌, ◌<◌, List, [], ◌∷◌, length, get_or, drop, map, refl, sym, ap, ◌∙◌, arith, add-one, false, inl, inr}
use Rattle.std.proofs.Math.ListN.{get_or-map}
use Rattle.std.proofs.Math.Seq.{drop-cons}
use Rattle.std.proofs.lemmas.List.{length-map}
use Rattle.std.proofs.lemmas.Bool.{or_cases, or_from, eqb-true, ne_eqb, false≢true}
use Rattle.sto_lang.specs.Scripts.{Script}
use Rattle.sto_lang.specs.Views.{script}
use Rattle.sto_lang.specs.declared.file.Script as code
use Rattle.sto_lang.specs.declared.file.Thread.{Thread}
use Rattle.sto_explore.specs.Legs.{IsAmong, AreApart}
use Rattle.sto_run_schedules.specs.Telling.{busy_from}

-- a thread below the first is not among them
none_below : (n first : ℕ) (threads : List (List Script)) → n < first → list_any (nat_eq n) (busy_from first threads) ≡ false
none_below n first [] low = refl
none_below n first ([] ∷ threads) low = none_below n (suc first) threads (omega (arith, low))
none_below n first ((script ∷ scripts) ∷ threads) low =
    or_from (nat_eq n first) (list_any (nat_eq n) (busy_from (suc first) threads)) (ne_eqb n first (λ is. absurd (omega (arith, is, low)))) (none_below n (suc first) threads (omega (arith, low)))

-- no thread comes twice
pub busy_apart : (first : ℕ) (threads : List (List Script)) → AreApart (busy_from first threads)
busy_apart first [] = tt
busy_apart first ([] ∷ threads) = busy_apart (suc first) threads
busy_apart first ((script ∷ scripts) ∷ threads) = (none_below first (suc first) threads (omega arith), busy_apart (suc first) threads)

-- each is one of the file
pub busy_inside : (first count : ℕ) (threads : List (List Script)) (n : ℕ) → first + length threads ≡ count → IsAmong (busy_from first threads) n → n < count
busy_inside first count [] n is h = absurd (false≢true h)
busy_inside first count ([] ∷ threads) n is h = busy_inside (suc first) count threads n (omega (arith, is)) h
busy_inside first count ((script ∷ scripts) ∷ threads) n is h = elim (or_cases (nat_eq n first) (list_any (nat_eq n) (busy_from (suc first) threads)) h) [
  | inl here ↦ let same = eqb-true n first here in omega (arith, same, is)
  | inr there ↦ busy_inside (suc first) count threads n (omega (arith, is)) there
]

-- one thread more, which has no transaction or some
pub busy_step : (threads : List (List Script)) (n : ℕ) (scripts : List Script) → n < length threads → get_or threads n scripts ≡ scripts
    → (scripts ≡ [] → busy_from n (drop n threads) ≡ busy_from (n + 1) (drop (n + 1) threads))
    × ((scripts ≡ [] → ⊥) → busy_from n (drop n threads) ≡ n ∷ busy_from (n + 1) (drop (n + 1) threads))
busy_step threads n scripts inside is =
    let here : drop n threads ≡ scripts ∷ drop (n + 1) threads =
    drop-cons threads n scripts inside ∙ (λ i. is i ∷ drop (sym (add-one n) i) threads) in
    let more : suc n ≡ n + 1 = sym (add-one n) in
    by scripts (drop n threads) (drop (n + 1) threads) here more
  where
    cons_nil : (x : Script) (xs : List Script) → x ∷ xs ≡ [] → ⊥
    cons_nil x xs e = cc

    by : (own : List Script) (all rest : List (List Script)) → all ≡ own ∷ rest → suc n ≡ n + 1
        → (own ≡ [] → busy_from n all ≡ busy_from (n + 1) rest) × ((own ≡ [] → ⊥) → busy_from n all ≡ n ∷ busy_from (n + 1) rest)
    by [] all rest here more = (λ _. ap (busy_from n) here ∙ ap (λ (k : ℕ). busy_from k rest) more, λ some. absurd (some refl))
    by (script ∷ own) all rest here more = (
      λ none. absurd (cons_nil script own none),
      λ _. ap (busy_from n) here ∙ ap (λ (k : ℕ). n ∷ busy_from k rest) more,
    )

abbrev own_scripts : Thread → List Script
own_scripts thread = map script thread.scripts.items

no_scripts : (thread : Thread) → own_scripts thread ≡ [] → thread.scripts.items ≡ []
no_scripts thread h = by thread.scripts.items h
  where
    by : (xs : List code.Script) → map script xs ≡ [] → xs ≡ []
    by [] e = refl
    by (x ∷ xs) e = cc

-- the same, said of the threads of the code
pub thread_step : (items all : List Thread) (n : ℕ) (item : Thread) → items ≡ all → n < length items → item ≡ get_or items n item
    → (item.scripts.items ≡ [] → busy_from n (drop n (map own_scripts all)) ≡ busy_from (n + 1) (drop (n + 1) (map own_scripts all)))
    × ((item.scripts.items ≡ [] → ⊥) → busy_from n (drop n (map own_scripts all)) ≡ n ∷ busy_from (n + 1) (drop (n + 1) (map own_scripts all)))
thread_step items all n item same inside is =
    let long = length-map all own_scripts in
    let many = ap (λ (l : List Thread). length l) same in
    let k = busy_step (map own_scripts all) n (own_scripts item) (omega (arith, long, many, inside))
    (get_or-map own_scripts all n item ∙ ap own_scripts (sym (is ∙ ap (λ (l : List Thread). get_or l n item) same))) in
    (λ none. k.0 (ap (map script) none), λ some. k.1 (λ none. some (no_scripts item none)))
