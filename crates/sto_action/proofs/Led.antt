-- What a transaction led to, by its attempts.
use Rattle.std.proofs.Common.{◌≡◌, ℕ, ◌+◌, List, [], ◌∷◌, ◌++◌, length, length-append, Result, Ok, Err, refl, sym, ap, ◌∙◌, append_assoc, subst, arith}
use Rattle.sto_model.specs.declared.shape.Shape.{Shape}
use Rattle.sto_type.specs.Meaning.{Meaning}
use Rattle.sto_core.specs.declared.view.View.{View}
use Rattle.sto_history.specs.Added.{Grows}
use Rattle.sto_history.specs.Records.{Verdict}
use Rattle.sto_history.proofs.Tries.{found_later}
use Rattle.sto_action.specs.declared.short_reply.ShortReply.{ShortReply}
use Rattle.sto_action.specs.declared.tx.Stop.{Stop}
use Rattle.sto_action.specs.declared.tx.Stop.TheVariants as stops
use Rattle.sto_action.specs.Progs.{Prog, Runs}
use Rattle.sto_action.specs.declared.cause.AbortCause.{AbortCause}
use Rattle.sto_action.specs.Atomic.{EachFound, TakesNoEffect, HaveAborted, HaveAbortedBy, IsAtomic, HasLed, IsUndisturbed, told_by}
use Rattle.sto_action.proofs.Tried.{seen_later}

-- the attempts before it saw more and took no effect
pub atomic_since : {E A : Type 0} (m : Meaning) (u v w : View) (many : ℕ) (shapes : List Shape) (most : ℕ) (p : Prog E A) (says : List ShortReply → Type 0) → Grows u v → HaveAborted u v many
    → IsAtomic m v w shapes most p says → IsAtomic m u w shapes most p says
atomic_since m u v w many shapes most p says g made h = record {
  replies = h.replies;
  verdict = h.verdict;
  ended = h.ended;
  told = h.told;
  since = λ n k. h.since n (seen_later u v g n k);
  entries = λ t. (let a = h.entries t in let b = made.none t in omega (arith, a, b));
  starts = (let a = h.starts in let b = made.starts in omega (arith, a, b));
  said = h.said;
}

pub none_through : (u v w : View) → TakesNoEffect u v → TakesNoEffect v w → TakesNoEffect u w
none_through u v w g h t = h t ∙ g t

each_later : (v w : View) (start : ℕ) (xs : List Verdict) → Grows v w → EachFound v start xs → EachFound w start xs
each_later v w start [] g h = tt
each_later v w start (x ∷ xs) g h = (h.0, found_later v w start x g h.1, each_later v w (start + 1) xs g h.2)

each_more : (w : View) (start : ℕ) (xs ys : List Verdict) → EachFound w start xs → EachFound w (start + length xs) ys → EachFound w start (xs ++ ys)
each_more w start [] ys h k = subst (λ (n : ℕ). EachFound w n ys) (omega arith) k
each_more w start (x ∷ xs) ys h k = (h.0, h.1, each_more w (start + 1) xs ys h.2 (subst (λ (n : ℕ). EachFound w n ys) (omega arith) k))

pub aborted_none : (v : View) → HaveAborted v v 0
aborted_none v = record { none = λ t. refl; verdicts = []; all = refl; starts = omega arith; found = tt }

-- some attempts, and then more of them
pub aborted_more : (u v w : View) (some more : ℕ) → Grows v w → HaveAborted u v some → HaveAborted v w more → HaveAborted u w (some + more)
aborted_more u v w some more g h k = record {
  none = none_through u v w h.none k.none;
  verdicts = h.verdicts ++ k.verdicts;
  all = (let a = length-append h.verdicts k.verdicts in let b = h.all in let c = k.all in omega (arith, a, b, c));
  starts = (let a = h.starts in let b = k.starts in omega (arith, a, b));
  found = each_more w (u.starts + 1) h.verdicts k.verdicts (each_later v w (u.starts + 1) h.verdicts g h.found)
      (subst (λ (n : ℕ). EachFound w n k.verdicts) (let a = h.starts in let b = h.all in omega (arith, a, b)) k.found);
}

-- and the last one of these by a cause
pub aborted_by : (m : Meaning) (u v w : View) (some more : ℕ) (cause : AbortCause) → Grows v w → HaveAborted u v some → HaveAbortedBy m v w more cause → HaveAbortedBy m u w (some + more) cause
unfolding aborted_more
aborted_by m u v w some more cause g h k = record {
  aborted = aborted_more u v w some more g h k.aborted;
  before = h.verdicts ++ k.before;
  last = k.last;
  ends = ap (λ (l : List Verdict). h.verdicts ++ l) k.ends ∙ sym (append_assoc h.verdicts k.before (k.last ∷ []));
  is = k.is;
  found = k.found;
}

pub said_led : {E A : Type 0} (m : Meaning) (v w : View) (tries left : ℕ) (shapes : List Shape) (most : ℕ) (p : Prog E A) (r : Result A (Stop E))
    → IsAtomic m v w shapes most p (λ hs. Runs p hs r) → HasLed m v w tries left shapes most p (told_by r)
said_led m v w tries left shapes most p (Ok a) h = h
said_led m v w tries left shapes most p (Err (stops.Cancels e)) h = h
said_led m v w tries left shapes most p (Err (stops.Asks call)) h = h

pub said_undisturbed : {E A : Type 0} (r : Result A (Stop E)) → IsUndisturbed (told_by r)
said_undisturbed (Ok a) = tt
said_undisturbed (Err (stops.Cancels e)) = tt
said_undisturbed (Err (stops.Asks call)) = tt
