-- How many transactions of a thread have ended.
use Rattle.std.specs.Prelude.{filter, not}
use Rattle.std.proofs.Common.{◌≡◌, ℕ, zero, suc, ◌+◌, List, [], ◌∷◌, ◌++◌, map, length, refl, ap, ◌∙◌, arith, Bool, true, false, cond, eq-eqb, ne_eqb}
use Rattle.std.proofs.lemmas.List.{length-append}
use Rattle.sto_report_spec.specs.Orders.{TransactionPlace, positions_of, numbers_from}
use Rattle.sto_history.specs.Records.{Record, is_abort, is_finished}
use Rattle.sto_history.specs.Counted.{finished_places}
use Rattle.sto_serializability.proofs.Chains.{Every}
use Rattle.sto_serializability.proofs.Working.{finished_append, positions_append}
use Rattle.sto_run_threads.specs.Running.{ended_of}

pub length_numbers : (first count : ℕ) → length (numbers_from first count) ≡ count
length_numbers first zero = refl
length_numbers first (suc count) = ap suc (length_numbers (suc first) count)

-- the positions that ended in two lists of records, one after the other
pub positions_in : (thread : ℕ) (rs ss : List Record)
    → positions_of thread (finished_places (rs ++ ss)) ≡ positions_of thread (finished_places rs) ++ positions_of thread (finished_places ss)
positions_in thread rs ss = ap (positions_of thread) (finished_append rs ss) ∙ positions_append thread (finished_places rs) (finished_places ss)

pub ended_append : (thread : ℕ) (rs ss : List Record) → ended_of thread (rs ++ ss) ≡ ended_of thread rs + ended_of thread ss
ended_append thread rs ss = ap length (positions_in thread rs ss) ∙ length-append (positions_of thread (finished_places rs)) (positions_of thread (finished_places ss))

pub none_ended : (thread : ℕ) (rs : List Record) → Every (λ (r : Record). r.place.0 ≡ thread → ⊥) rs → positions_of thread (finished_places rs) ≡ []
none_ended thread [] h = refl
none_ended thread (r ∷ rs) h = by (is_finished r) (none_ended thread rs h.1)
  where
    by : (b : Bool) → positions_of thread (finished_places rs) ≡ []
        → positions_of thread (map (λ (x : Record). x.place) (cond b (r ∷ filter is_finished rs) (filter is_finished rs))) ≡ []
    by true k = ap (λ (b : Bool). cond b (r.place.1 ∷ positions_of thread (finished_places rs)) (positions_of thread (finished_places rs))) (ne_eqb r.place.0 thread h.0) ∙ k
    by false k = k

-- of one place
pub one_of_own : (place : TransactionPlace) (thread : ℕ) → place.0 ≡ thread → positions_of thread (place ∷ []) ≡ place.1 ∷ []
one_of_own place thread own = ap (λ (b : Bool). cond b (place.1 ∷ []) []) (eq-eqb place.0 thread own)

pub one_of_other : (place : TransactionPlace) (thread : ℕ) → (place.0 ≡ thread → ⊥) → positions_of thread (place ∷ []) ≡ []
one_of_other place thread other = ap (λ (b : Bool). cond b (place.1 ∷ []) []) (ne_eqb place.0 thread other)

-- where none has ended, all are aborted
aborted_by : (b : Bool) (r : Record) (rs : List Record) → is_abort r.verdict ≡ b → (finished_places rs ≡ [] → Every (λ (x : Record). is_abort x.verdict ≡ true) rs)
    → map (λ (x : Record). x.place) (cond (not b) (r ∷ filter is_finished rs) (filter is_finished rs)) ≡ []
    → (is_abort r.verdict ≡ true) × Every (λ (x : Record). is_abort x.verdict ≡ true) rs
aborted_by true r rs is all k = (is, all k)
aborted_by false r rs is all k = absurd (let l = ap length k in omega (arith, l))

pub all_aborted : (rs : List Record) → finished_places rs ≡ [] → Every (λ (r : Record). is_abort r.verdict ≡ true) rs
all_aborted [] h = tt
all_aborted (r ∷ rs) h = aborted_by (is_abort r.verdict) r rs refl (all_aborted rs) h
