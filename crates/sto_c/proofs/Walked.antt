-- The pairs of a walk, one behind the other.
use Rattle.std.proofs.Common.{◌≡◌, ◌≤◌, ◌<◌, ◌+◌, ℕ, ℤ, List, [], ◌∷◌, ◌++◌, length, take, drop, Option, Some, None, Result, Ok, Err, refl, sym, ap, ◌∙◌, subst, arith, inl, inr}
use Rattle.std.specs.Prelude.{slice_set}
use Rattle.std.proofs.lemmas.List.{length-take-le, take-append-drop, drop-set, drop-drop}
use Rattle.sto_c.specs.declared.crossing.CallIn.{CallIn}
use Rattle.sto_c.specs.declared.crossing.PairOut.{PairOut}
use Rattle.sto_c.specs.declared.content.WorkerHandle.{WorkerHandle}
use Rattle.sto_model.specs.declared.operation.Operation.TheVariants.{Get, Next}
use Rattle.sto_c.specs.declared.crossing.ReplyOut.{ReplyOut}
use Rattle.sto_c.specs.declared.status.Status.{Status}
use Rattle.sto_c.specs.Calls.{IsFault}
use Rattle.sto_c.specs.Steps.{HasAnswered, HasAsked}
use Rattle.sto_c.specs.Walks.{call_at, value_in, key_after, HasFound, HasNotFound, HaveFound, HasStopped, HasWalkedOn, HasWalked}
use Rattle.sto_c.proofs.Asking.{faulted}

some_same : (f g : ℤ) → Some f ≡ Some g → f ≡ g
some_same f g same = cc same

-- one more pair was found
pub have_found_more : (object : ℕ) (from : Option ℤ) (pairs : List PairOut) (f : ℤ) (pair : PairOut) (h m k : WorkerHandle)
    → HaveFound object from pairs (Some f) h m → HasFound object f pair m k → HaveFound object from (pairs ++ pair ∷ []) (key_after pair.key) h k
have_found_more object None [] f pair h m k found next = cc (found.1)
have_found_more object (Some g) [] f pair h m k found next =
    (k, subst (λ (x : WorkerHandle). HasFound object g pair x k) found.0 (subst (λ (key : ℤ). HasFound object key pair m k) (some_same f g found.1) next), (refl, refl))
have_found_more object None (p ∷ ps) f pair h m k found next = absurd found
have_found_more object (Some g) (p ∷ ps) f pair h m k found next = (found.0, found.1, have_found_more object (key_after p.key) ps f pair found.0 m k found.2 next)

-- they stand before what there was
pub written_at : {X : Type 0} (n : ℕ) (new old : List X) → n ≤ length new → drop n new ≡ drop n old → new ≡ take n new ++ drop (length (take n new)) old
written_at n new old room behind =
    sym (take-append-drop n new) ∙ ap (λ l. take n new ++ l) (behind ∙ ap (λ (k : ℕ). drop k old) (sym (length-take-le n new room)))

-- what lies behind the next place is as it was
pub left_behind : {X : Type 0} (n : ℕ) (pairs old : List X) (x : X) → n < length pairs → drop n pairs ≡ drop n old → drop (n + 1) (slice_set pairs n x) ≡ drop (n + 1) old
left_behind n pairs old x room same =
    let written : drop 1 (drop n (slice_set pairs n x)) ≡ drop (n + 1) pairs = ap (drop 1) (drop-set pairs n x room) in
    sym (drop-drop 1 n (slice_set pairs n x)) ∙ written ∙ sym (drop-drop 1 n pairs) ∙ ap (drop 1) same ∙ drop-drop 1 n old

-- a key was answered, and then its value
module _ (object : ℕ) (from key : ℤ) (first second : ReplyOut) (for_key for_value : CallIn) (h m k : WorkerHandle)
    (of_key : for_key ≡ call_at object Next from) (of_value : for_value ≡ call_at object Get key)
    (next : HasAsked for_key first h (Ok tt) m) (is : value_in first ≡ Some key) where
  asked_next : HasAsked (call_at object Next from) first h (Ok tt) m
  asked_next = subst (λ (given : CallIn). HasAsked given first h (Ok tt) m) of_key next

  pub found_pair : (pair : PairOut) → pair.key ≡ key → pair.value ≡ second.value → HasAsked for_value second m (Ok tt) k → HasFound object from pair h k
  found_pair pair same_key same_value get =
      record {
        at = m;
        key = first;
        value = second;
        asked_key = asked_next;
        asked_value = subst (λ (x : ℤ). HasAsked (call_at object Get x) second m (Ok tt) k) (sym same_key) (subst (λ (given : CallIn). HasAsked given second m (Ok tt) k) of_value get);
        is_key = is ∙ ap Some (sym same_key);
        is_value = same_value;
      }

  -- or not
  pub found_no_value : (why : Status) → HasAnswered for_value m (Err why) k → HasNotFound object from h why k
  found_no_value why failed = inr (first, key, m, asked_next, is, subst (λ (given : CallIn). HasAnswered given m (Err why) k) of_value failed)

-- a walk that has found so many pairs, and stops
pub has_walked_on : (object : ℕ) (from : ℤ) (old new : List PairOut) (n : ℕ) → length new ≡ length old → n ≤ length new → drop n new ≡ drop n old
    → (h at : WorkerHandle) (to : Option ℤ) → HaveFound object (Some from) (take n new) to h at
    → (count : ℕ) (done : Result (Unit {0}) Status) (k : WorkerHandle) → HasStopped object (take n new) to (length old) count at done k → HasWalkedOn object from old new count h done k
has_walked_on object from old new n long within behind h at to found count done k stopped =
    let many = length-take-le n new within in record {
      pairs = take n new;
      to = to;
      at = at;
      found = found;
      fits = omega (arith, many, within, long);
      written = written_at n new old within behind;
      stopped = stopped;
    }

-- a walk that did not begin, since something was wrong with its first call
pub not_begun : (object : ℕ) (from : ℤ) (old : List PairOut) (count : ℕ) (h : WorkerHandle) (why : Status) → IsFault (call_at object Next from) h why
    → HasWalked object from old old count h (Err why) h
not_begun object from old count h why fault = record {
  may_ask = tt;
  walked = record {
    pairs = [];
    to = Some from;
    at = h;
    found = (refl, refl);
    fits = omega arith;
    written = refl;
    stopped = inl (faulted (call_at object Next from) h why fault);
  };
}
