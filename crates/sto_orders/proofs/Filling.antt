-- Lists that are filled one by one.
use Rattle.std.proofs.Common.{◌≡◌, ℕ, zero, suc, ◌+◌, List, [], ◌∷◌, ◌++◌, length, map, take, refl, sym, ap, ◌∙◌, Bool, true, false, cond, ◌==◌, Some, slice_get, arith}
use Rattle.std.specs.List.{count_by, flat_map}
use Rattle.std.proofs.lemmas.List.{map-append, flat_map_more}
use Rattle.std.proofs.lemmas.List.Recursion.{is_count_by}
use Rattle.sto_report_spec.specs.Orders.{TransactionPlace, positions_of, numbers_from}
use Rattle.sto_model.specs.Run.{State}
use Rattle.sto_lang.specs.Scripts.{File}
use Rattle.sto_report_spec.specs.Replay.{Entry, entry_at, run_at, entries_from}
use Rattle.sto_checker.specs.Runs.{writers_from}
use Rattle.sto_journal.specs.declared.journal.Line.{Line}
use Rattle.sto_journal.specs.Journals.{entry, places}
use Rattle.sto_checker.proofs.OneMore.{numbers_from-more}
use Rattle.sto_orders.specs.declared.same_by.SameBy.{SameBy}
use Rattle.sto_orders.specs.Outcomes.{own_text, thread_text}
use Rattle.sto_orders.specs.Keys.{done_in, last_writers}

-- the lines of a thread are as many as its transactions
pub lines_counted : (lines : List Line) (t : ℕ) → count_by (λ (l : Line). l.thread == t) lines ≡ done_in (places lines) t
lines_counted lines t = sym (is_count_by (λ (ls : List Line). done_in (places ls) t) (λ (l : Line). l.thread == t) refl one lines)
  where
    one : (l : Line) (ls : List Line) → done_in (places (l ∷ ls)) t ≡ cond (l.thread == t) (1 + done_in (places ls) t) (done_in (places ls) t)
    one l ls = by (l.thread == t)
      where
        by : (b : Bool) → length (cond b (l.position ∷ positions_of t (places ls)) (positions_of t (places ls))) ≡ cond b (1 + done_in (places ls) t) (done_in (places ls) t)
        by true = omega arith
        by false = refl

-- one thread more
pub threads_more : {A : Type 0} (f : ℕ → A) (n : ℕ) → map f (numbers_from 0 (n + 1)) ≡ map f (numbers_from 0 n) ++ f n ∷ []
threads_more {A} f n =
    let next : n + 1 ≡ suc n = omega arith in
    let same : 0 + n ≡ n = omega arith in
    ap (λ (k : ℕ). map f (numbers_from 0 k)) next
    ∙ ap (map f) (numbers_from-more 0 n)
    ∙ map-append f (numbers_from 0 n) ((0 + n) ∷ [])
    ∙ ap (λ (k : ℕ). map f (numbers_from 0 n) ++ f k ∷ []) same

take_suc : {X : Type 0} (xs : List X) (i : ℕ) (x : X) → slice_get xs i ≡ Some x → take (suc i) xs ≡ take i xs ++ x ∷ []
take_suc [] i x e = absurd cc
take_suc {X} (y ∷ xs) zero x e = let same : y ≡ x = cc in ap (λ (z : X). z ∷ []) same
take_suc {X} (y ∷ xs) (suc i) x e = ap (λ (l : List X). y ∷ l) (take_suc xs i x e)

pub take_one : {X : Type 0} (xs : List X) (i : ℕ) (x : X) → slice_get xs i ≡ Some x → take (i + 1) xs ≡ take i xs ++ x ∷ []
take_one {X} xs i x e = let next : i + 1 ≡ suc i = omega arith in ap (λ (n : ℕ). take n xs) next ∙ take_suc xs i x e

-- one line more
pub text_more_lines : (by : SameBy) (names : List (List ℕ)) (lines : List Line) (i : ℕ) (line : Line) (t : ℕ) → slice_get lines i ≡ Some line
    → thread_text by names (map entry (take (i + 1) lines)) t ≡ thread_text by names (map entry (take i lines)) t ++ own_text by names t (entry line)
text_more_lines by names lines i line t e =
    ap (λ (ls : List Line). thread_text by names (map entry ls) t) (take_one lines i line e)
    ∙ ap (λ (es : List Entry). thread_text by names es t) (map-append entry (take i lines) (line ∷ []))
    ∙ sym (flat_map_more (own_text by names t) [] (map entry (take i lines)) (entry line))

last_more : (writers : ℕ) (entries : List Entry) (e : Entry) → last_writers writers (entries ++ e ∷ []) ≡ e.writers
last_more writers [] e = refl
last_more writers (f ∷ entries) e = last_more f.writers entries e

pub writers_more_lines : (lines : List Line) (i : ℕ) (line : Line) → slice_get lines i ≡ Some line → last_writers 0 (map entry (take (i + 1) lines)) ≡ line.k
writers_more_lines lines i line e =
    ap (λ (ls : List Line). last_writers 0 (map entry ls)) (take_one lines i line e)
    ∙ ap (last_writers 0) (map-append entry (take i lines) (line ∷ []))
    ∙ last_more 0 (map entry (take i lines)) (entry line)

-- a replay has as many writers as its last entry says
pub replay_writers : (f : File) (writers : ℕ) (st : State) (order : List TransactionPlace) → last_writers writers (entries_from f writers st order) ≡ writers_from f writers st order
replay_writers f writers st [] = refl
replay_writers f writers st (p ∷ order) = replay_writers f (entry_at f writers st p).writers (run_at f st p).after order
