-- What passes did, one stretch after the other and one pass beside the other.
use Rattle.std.specs.List.{All}
use Rattle.std.proofs.Common.{◌≡◌, ℕ, ◌+◌, List, [], ◌∷◌, ◌++◌, ap, sym, ◌∙◌, subst, arith}
use Rattle.std.proofs.lemmas.List.Elements.{All-append, All-nil, All-weaker}
use Rattle.sto_type.specs.Meaning.{Meaning}
use Rattle.sto_core.specs.declared.view.View.{View}
use Rattle.sto_core.specs.declared.view.Entry.{Entry}
use Rattle.sto_core.specs.Gathered.{gathered_into}
use Rattle.sto_history.specs.Records.{wrote_with}
use Rattle.sto_history.specs.Counted.{times_committed}
use Rattle.sto_history.specs.Added.{Grows}
use Rattle.sto_history.proofs.Later.{told_later}
use Rattle.sto_history.proofs.Events.{grows_on}
use Rattle.sto_history.proofs.Progress.{committed_append}
use Rattle.sto_history.specs.History.{Transaction, times_numbered}
use Rattle.sto_history.specs.Done.{IsToldOf, HasDone, AreAllDone}
use Rattle.sto_history.proofs.Growing.{grows_same, first_grows, second_grows}

pub numbered_append : (n : ℕ) (ts us : List Transaction) → times_numbered n (ts ++ us) ≡ times_numbered n ts + times_numbered n us
numbered_append n [] us = omega arith
numbered_append n (t ∷ ts) us = let k = numbered_append n ts us in omega (arith, k)

-- a later view is told of the same
pub all_later : (m : Meaning) (v w : View) → Grows v w → (ts : List Transaction) → All (IsToldOf m v) ts → All (IsToldOf m w) ts
all_later m v w g ts h =
    All-weaker (IsToldOf m v) (IsToldOf m w) (λ t k. record { ended = k.ended; told = told_later m v w t.steps t.replies t.verdict g k.told }) ts h

pub done_none : (m : Meaning) (v : View) → HasDone m v v []
done_none m v = record { grows = grows_same v; entries = λ n. omega arith; each = All-nil (IsToldOf m v) }

pub done_more : (m : Meaning) (u v w : View) (ts us : List Transaction) → HasDone m u v ts → HasDone m v w us → HasDone m u w (ts ++ us)
done_more m u v w ts us h k = record {
  grows = grows_on u v w h.grows k.grows;
  entries = λ n. (let a = h.entries n in let b = k.entries n in let s = numbered_append n ts us in omega (arith, a, b, s));
  each = All-append (IsToldOf m w) ts us (all_later m v w k.grows ts h.each) k.each;
}

-- a pass that had committed nothing before
pub done_since : (m : Meaning) (v w : View) (ts : List Transaction) → v.entries ≡ [] → HasDone m v w ts → AreAllDone m w ts
done_since m v w ts none h = record {
  entries = λ n. (let a = h.entries n in let b = ap (times_committed n) none in omega (arith, a, b));
  each = h.each;
}

-- one pass into which another is gathered
pub gathered_done : (m : Meaning) (v u : View) (ts us : List Transaction) → AreAllDone m u us → AreAllDone m v ts → AreAllDone m (gathered_into v u) (us ++ ts)
gathered_done m v u ts us k h = record {
  entries = λ n. (let a = h.entries n in let b = k.entries n in let s = numbered_append n us ts in let e = committed_append n v.entries u.entries in omega (arith, a, b, s, e));
  each = All-append (IsToldOf m (gathered_into v u)) us ts
      (all_later m u (gathered_into v u) (second_grows v u) us k.each)
      (all_later m v (gathered_into v u) (first_grows v u) ts h.each);
}
