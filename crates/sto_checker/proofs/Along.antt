-- A replay along an order shows what its writers left.
use Rattle.std.proofs.Common.{◌≡◌, ℕ, zero, suc, ◌+◌, ◌<◌, ◌≤◌, List, [], ◌∷◌, ◌++◌, length, take, drop, refl, sym, ap, ◌∙◌, subst, Bool, true, false, cond, arith}
use Rattle.sto_model.specs.Run.{State}
use Rattle.sto_lang.specs.Scripts.{File}
use Rattle.sto_report_spec.specs.Orders.{TransactionPlace, transaction_at}
use Rattle.sto_report_spec.specs.Replay.{run_at, is_writer, counted, entry_at, state_from, shown_from}
use Rattle.sto_checker.specs.Runs.{writers_from}
use Rattle.sto_checker.proofs.Unwritten.{unwritten}

counted_up : (b : Bool) (w : ℕ) → w ≤ counted b w
counted_up true w = omega arith
counted_up false w = omega arith

-- the number of writers does not fall
pub writers_up : (f : File) (w : ℕ) (st : State) (order : List TransactionPlace) → w ≤ writers_from f w st order
writers_up f w st [] = omega arith
writers_up f w st (p ∷ order) =
    let here = counted_up (is_writer (transaction_at f p) (run_at f st p)) w in
    let more = writers_up f (entry_at f w st p).writers (run_at f st p).after order in
    omega (arith, here, more)

-- after some transactions, with as many writers as there are among them
pub shown_after : (f : File) (st : State) (done rest : List TransactionPlace) (w k : ℕ) → writers_from f w st done ≡ w + k → shown_from f st (done ++ rest) k ≡ state_from f st done
shown_after f st [] rest w zero e = refl
shown_after f st [] rest w (suc k) e = absurd (omega (arith, e))
shown_after f st (p ∷ done) rest w k e =
    by (is_writer (transaction_at f p) (run_at f st p)) refl k e (λ v m h. shown_after f (run_at f st p).after done rest v m h) (λ v. writers_up f v (run_at f st p).after done) (unwritten f st p)
  where
    by : (b : Bool) → is_writer (transaction_at f p) (run_at f st p) ≡ b → (k : ℕ) → writers_from f (counted b w) (run_at f st p).after done ≡ w + k
        → ((v m : ℕ) → writers_from f v (run_at f st p).after done ≡ v + m → shown_from f (run_at f st p).after (done ++ rest) m ≡ state_from f (run_at f st p).after done)
        → ((v : ℕ) → v ≤ writers_from f v (run_at f st p).after done)
        → (is_writer (transaction_at f p) (run_at f st p) ≡ false → (run_at f st p).after ≡ st)
        → shown_from f st (p ∷ done ++ rest) k ≡ state_from f (run_at f st p).after done
    by true is zero e more up same = absurd (let l = up (suc w) in omega (arith, l, e))
    by true is (suc k) e more up same =
        ap (λ (b : Bool). cond b (shown_from f (run_at f st p).after (done ++ rest) k) (shown_from f st (done ++ rest) (suc k))) is
        ∙ more (suc w) k (e ∙ (let n : w + suc k ≡ suc w + k = omega arith in n))
    by false is zero e more up same = sym (same is) ∙ more w zero e
    by false is (suc k) e more up same =
        ap (λ (b : Bool). cond b (shown_from f (run_at f st p).after (done ++ rest) k) (shown_from f st (done ++ rest) (suc k))) is
        ∙ ap (λ (s : State). shown_from f s (done ++ rest) (suc k)) (sym (same is))
        ∙ more w (suc k) e

-- where there are no more writers
pub shown_all : (f : File) (st : State) (order : List TransactionPlace) (w k : ℕ) → writers_from f w st order ≤ w + k → shown_from f st order k ≡ state_from f st order
shown_all f st [] w zero e = refl
shown_all f st [] w (suc k) e = refl
shown_all f st (p ∷ order) w k e =
    by (is_writer (transaction_at f p) (run_at f st p)) refl k e (λ v m h. shown_all f (run_at f st p).after order v m h) (λ v. writers_up f v (run_at f st p).after order) (unwritten f st p)
  where
    by : (b : Bool) → is_writer (transaction_at f p) (run_at f st p) ≡ b → (k : ℕ) → writers_from f (counted b w) (run_at f st p).after order ≤ w + k
        → ((v m : ℕ) → writers_from f v (run_at f st p).after order ≤ v + m → shown_from f (run_at f st p).after order m ≡ state_from f (run_at f st p).after order)
        → ((v : ℕ) → v ≤ writers_from f v (run_at f st p).after order)
        → (is_writer (transaction_at f p) (run_at f st p) ≡ false → (run_at f st p).after ≡ st)
        → shown_from f st (p ∷ order) k ≡ state_from f (run_at f st p).after order
    by true is zero e more up same = absurd (let l = up (suc w) in omega (arith, l, e))
    by true is (suc k) e more up same =
        ap (λ (b : Bool). cond b (shown_from f (run_at f st p).after order k) (shown_from f st order (suc k))) is
        ∙ more (suc w) k (omega (arith, e))
    by false is zero e more up same = sym (same is) ∙ more w zero e
    by false is (suc k) e more up same =
        ap (λ (b : Bool). cond b (shown_from f (run_at f st p).after order k) (shown_from f st order (suc k))) is
        ∙ ap (λ (s : State). shown_from f s order (suc k)) (sym (same is))
        ∙ more w (suc k) e
