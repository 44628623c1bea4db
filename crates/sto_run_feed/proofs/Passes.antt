-- Passes of queues, as they are opened, used and put together.
use Rattle.std.proofs.Common.{◌≡◌, ℕ, zero, suc, ◌+◌, ◌<◌, ◌≤◌, List, [], ◌∷◌, ◌++◌, map, take, length, get_or, set, refl, sym, ap, ap₂, ◌∙◌, subst, arith, inl, inr}
use Rattle.std.proofs.lemmas.Bool.{cases_eq}
use Rattle.std.proofs.lemmas.List.{length-append, length-set, length_push, get_or_append_left, get_or_push, get_or-set_same, get_or-set_other, get_or_default}
use Rattle.sto_run_feed.specs.declared.job.Job.{Job}
use Rattle.sto_run_feed.specs.declared.known.Known.{Known}
use Rattle.sto_run_feed.specs.declared.pass.JobQueue.{JobQueue}
use Rattle.sto_run_feed.specs.declared.pass.JobPass.{JobPass}
use Rattle.sto_run_feed.specs.Queues.{working}
use Rattle.sto_run_feed.specs.Passes.{IsPass, known}
use Rattle.sto_run_threads.specs.Orders.{numbers_from}
use Rattle.sto_run_feed.specs.QueuePasses.{IsAt, AreAt, HaveTaken, all_taken}

-- a queue more
pub at_more : (queues : List JobQueue) (queue : JobQueue) (number : ℕ) (p : JobPass) (v : Known) → IsAt queues number p v → IsAt (queues ++ queue ∷ []) number p v
at_more queues queue number p v h = record {
  within = (let l = h.within in let n = length_push queues queue in omega (arith, l, n));
  of = λ q. subst (λ (x : JobQueue). IsPass x p v) (sym (get_or_append_left queues (queue ∷ []) q number h.within)) (h.of q);
}

pub at_last : (queues : List JobQueue) (queue : JobQueue) (number : ℕ) (p : JobPass) (v : Known) → number ≡ length queues → IsPass queue p v → IsAt (queues ++ queue ∷ []) number p v
at_last queues queue number p v last h = record {
  within = (let n = length_push queues queue in omega (arith, last, n));
  of = λ q. subst (λ (x : JobQueue). IsPass x p v) (sym (get_or_push queues queue q number (sym last))) h;
}

-- it knows the same
pub at_known : (queues : List JobQueue) (number : ℕ) (p : JobPass) (v w : Known) → v ≡ w → IsAt queues number p v → IsAt queues number p w
at_known queues number p v w same = subst (IsAt queues number p) same

pub known_at : (queues : List JobQueue) (number : ℕ) (p : JobPass) (v : Known) → IsAt queues number p v → known p ≡ v
known_at [] number p v h = absurd (let l = h.within in omega (arith, l))
known_at (q ∷ queues) number p v h = (h.of q).known

pub none_taken : (queues : List JobQueue) (number : ℕ) (p : JobPass) (jobs : List Job) → IsAt queues number p (working jobs 0)
    → ((known p).taken ≡ 0) × IsAt queues number p (working jobs (known p).taken)
none_taken queues number p jobs h =
    let zero : (known p).taken ≡ 0 = ap (λ (v : Known). v.taken) (known_at queues number p (working jobs 0) h) in
    (zero, subst (λ (n : ℕ). IsAt queues number p (working jobs n)) (sym zero) h)

pub none_at : (v : ℕ → Known) → AreAt [] [] v
none_at v = record { many = refl; each = λ number p l. absurd (omega (arith, l)) }

pub one_more_at : (queues : List JobQueue) (passes : List JobPass) (queue : JobQueue) (pass : JobPass) (v : ℕ → Known) → AreAt queues passes v → IsPass queue pass (v (length queues))
    → AreAt (queues ++ queue ∷ []) (passes ++ pass ∷ []) v
one_more_at queues passes queue pass v h is = record {
  many = (let a = length_push queues queue in let b = length_push passes pass in let m = h.many in omega (arith, a, b, m));
  each = λ number p l. elim (cases_eq number (length queues)) [
    | inl last ↦ subst (λ (x : JobPass). IsAt (queues ++ queue ∷ []) number x (v number)) (sym (get_or_push passes pass p number (h.many ∙ sym last)))
        (at_last queues queue number pass (v number) last (subst (λ (n : ℕ). IsPass queue pass (v n)) (sym last) is))
    | inr other ↦
        let low : number < length queues = (let n = length_push queues queue in omega (arith, l, n, other)) in
        let m = h.many in
        subst (λ (x : JobPass). IsAt (queues ++ queue ∷ []) number x (v number)) (sym (get_or_append_left passes (pass ∷ []) p number (omega (arith, low, m))))
        (at_more queues queue number (get_or passes number p) (v number) (h.each number p low))
  ];
}

-- the pass of a queue that was found at its number
pub at_of : (queues : List JobQueue) (number : ℕ) (queue : JobQueue) (p : JobPass) (v : Known) → number < length queues → queue ≡ get_or queues number queue → IsPass queue p v → IsAt queues number p v
at_of queues number queue p v low is h = record {
  within = low;
  of = λ q. subst (λ (x : JobQueue). IsPass x p v) (is ∙ get_or_default queues number queue q low) h;
}

pub of_at : (queues : List JobQueue) (number : ℕ) (queue : JobQueue) (p : JobPass) (v : Known) → queue ≡ get_or queues number queue → IsAt queues number p v → IsPass queue p v
of_at queues number queue p v is h = subst (λ (x : JobQueue). IsPass x p v) (sym is) (h.of queue)

-- what one of them knows has changed
pub set_at : (queues : List JobQueue) (passes : List JobPass) (number : ℕ) (pass : JobPass) (queue : JobQueue) (v w : ℕ → Known) → AreAt queues passes v
    → number < length queues → queue ≡ get_or queues number queue → IsPass queue pass (w number) → ((n : ℕ) → (n ≡ number → ⊥) → n < length queues → v n ≡ w n) → AreAt queues (set passes number pass) w
set_at queues passes number pass queue v w h low is new same = record {
  many = length-set passes number pass ∙ h.many;
  each = λ n p l. elim (cases_eq n number) [
    | inl own ↦ subst (λ (x : JobPass). IsAt queues n x (w n))
        (sym (ap (λ (k : ℕ). get_or (set passes number pass) k p) own ∙ get_or-set_same passes number pass p (let m = h.many in omega (arith, low, m))))
        (subst (λ (k : ℕ). IsAt queues k pass (w k)) (sym own) (at_of queues number queue pass (w number) low is new))
    | inr other ↦ subst (λ (x : JobPass). IsAt queues n x (w n)) (sym (get_or-set_other passes number n pass p other)) (at_known queues n (get_or passes n p) (v n) (w n) (same n other l) (h.each n p l))
  ];
}

-- the one with a number
pub pass_at : (queues : List JobQueue) (passes : List JobPass) (number : ℕ) (pass : JobPass) (queue : JobQueue) (v : ℕ → Known) → AreAt queues passes v
    → number < length queues → queue ≡ get_or queues number queue → pass ≡ get_or passes number pass → IsPass queue pass (v number)
pass_at queues passes number pass queue v h low is too =
    subst (λ (x : JobPass). IsPass queue x (v number)) (sym too) (of_at queues number queue (get_or passes number pass) (v number) is (h.each number pass low))

-- workers of two teams
pub taken_both : (queues : List JobQueue) (xs ys : List ℕ) (js ks : List (List Job)) (ps qs : List JobPass) → HaveTaken queues xs js ps → HaveTaken queues ys ks qs → HaveTaken queues (xs ++ ys) (js ++ ks) (ps ++ qs)
taken_both queues [] ys [] ks [] qs h k = k
taken_both queues [] ys [] ks (p ∷ ps) qs h k = absurd h
taken_both queues [] ys (j ∷ js) ks [] qs h k = absurd h
taken_both queues [] ys (j ∷ js) ks (p ∷ ps) qs h k = absurd h
taken_both queues (x ∷ xs) ys [] ks [] qs h k = absurd h
taken_both queues (x ∷ xs) ys [] ks (p ∷ ps) qs h k = absurd h
taken_both queues (x ∷ xs) ys (j ∷ js) ks [] qs h k = absurd h
taken_both queues (x ∷ xs) ys (j ∷ js) ks (p ∷ ps) qs h k = (h.0, taken_both queues xs ys js ks ps qs h.1 k)

-- those of all queues in turn
pub taken_from : (queues : List JobQueue) (first count : ℕ) (jobs : ℕ → List Job) (ps : List JobPass) → HaveTaken queues (numbers_from first count) (map jobs (numbers_from first count)) ps
    → (length ps ≡ count) × ((k : ℕ) (p : JobPass) → k < count → IsAt queues (first + k) (get_or ps k p) (all_taken (jobs (first + k))))
taken_from queues first zero jobs [] h = (refl, λ k p l. absurd (omega (arith, l)))
taken_from queues first zero jobs (p ∷ ps) h = absurd h
taken_from queues first (suc count) jobs [] h = absurd h
taken_from queues first (suc count) jobs (q ∷ ps) h =
    let rest = taken_from queues (suc first) count jobs ps h.1 in (
      ap suc rest.0,
      λ k p l. by k p l rest.1,
    )
  where
    by : (k : ℕ) (p : JobPass) → k < suc count → ((k : ℕ) (p : JobPass) → k < count → IsAt queues (suc first + k) (get_or ps k p) (all_taken (jobs (suc first + k))))
        → IsAt queues (first + k) (get_or (q ∷ ps) k p) (all_taken (jobs (first + k)))
    by zero p l rest = let e : first ≡ first + 0 = omega arith in subst (λ (n : ℕ). IsAt queues n q (all_taken (jobs n))) e h.0
    by (suc k) p l rest = let e : suc first + k ≡ first + suc k = omega arith in subst (λ (n : ℕ). IsAt queues n (get_or ps k p) (all_taken (jobs n))) e (rest k p (omega (arith, l)))

pub taken_all : (queues : List JobQueue) (count : ℕ) (jobs : ℕ → List Job) (ps : List JobPass) → count ≡ length queues → HaveTaken queues (numbers_from 0 count) (map jobs (numbers_from 0 count)) ps
    → AreAt queues ps (λ n. all_taken (jobs n))
taken_all queues count jobs ps all h =
    let k = taken_from queues 0 count jobs ps h in
    record { many = k.0 ∙ all; each = λ n p l. (let e : 0 + n ≡ n = omega arith in subst (λ (j : ℕ). IsAt queues j (get_or ps n p) (all_taken (jobs j))) e (k.1 n p (omega (arith, l, all)))) }

-- all but the last
pub last_pass : (queues : List JobQueue) (passes : List JobPass) (queue : JobQueue) (pass : JobPass) (v : ℕ → Known) → AreAt (queues ++ queue ∷ []) (passes ++ pass ∷ []) v
    → IsPass queue pass (v (length queues)) × AreAt queues passes v
last_pass queues passes queue pass v h =
    let a = length_push queues queue in let b = length_push passes pass in let m = h.many in
    let same : length passes ≡ length queues = omega (arith, a, b, m) in
    let at = h.each (length queues) pass (omega (arith, a)) in (
      subst (λ (x : JobPass). IsPass queue x (v (length queues))) (get_or_push passes pass pass (length queues) same)
          (subst (λ (x : JobQueue). IsPass x (get_or (passes ++ pass ∷ []) (length queues) pass) (v (length queues))) (get_or_push queues queue queue (length queues) refl) (at.of queue)),
      record {
        many = same;
        each = λ n p l. (let at = h.each n p (omega (arith, a, l)) in
            subst (λ (x : JobPass). IsAt queues n x (v n)) (get_or_append_left passes (pass ∷ []) p n (omega (arith, l, same)))
            (record { within = l; of = λ q. subst (λ (x : JobQueue). IsPass x (get_or (passes ++ pass ∷ []) n p) (v n)) (get_or_append_left queues (queue ∷ []) q n l) (at.of q) }));
      },
    )
