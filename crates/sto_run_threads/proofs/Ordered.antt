-- Transactions that are run in order, one after the other.
use Rattle.std.specs.Prelude.{if◌then◌else◌}
use Rattle.std.specs.List.{All}
use Rattle.std.proofs.Common.{◌≡◌, ◌+◌, ◌≤◌, ℕ, zero, suc, Bool, true, false, List, [], ◌∷◌, ◌++◌, refl, sym, ap, ◌∙◌, subst, append_assoc, arith, inl, inr}
use Rattle.std.proofs.lemmas.Bool.{cases_eq}
use Rattle.std.proofs.lemmas.List.{append-nil}
use Rattle.std.proofs.lemmas.List.Elements.{All-nil, All-cons, All-head, All-tail, All-append, All-weaker}
use Rattle.sto_type.specs.Meaning.{Meaning}
use Rattle.sto_lang.specs.Scripts.{Script, File}
use Rattle.sto_script.specs.Meaning.{meaning_of}
use Rattle.sto_history.specs.Records.{TransactionPlace, Record, known_after, IsSince}
use Rattle.sto_history.specs.Counted.{finished_places, Follows, InThreads}
use Rattle.sto_history.specs.Added.{IsAdded, HasAdded}
use Rattle.sto_history.proofs.Later.{told_known}
use Rattle.sto_core.specs.declared.view.View.{View}
use Rattle.sto_serializability.specs.Finished.{IsRecord}
use Rattle.sto_serializability.proofs.Working.{finished_append}
use Rattle.sto_run_threads.specs.Plans.{Plan}
use Rattle.sto_run_threads.specs.Ran.{HasRunAt}
use Rattle.sto_run_threads.specs.Worked.{HasWorked}
use Rattle.sto_run_threads.specs.Ordered.{StandsBefore, StandsFrom, AreRising, AreSince, RunsInOrder}

before_from : (p q mid : TransactionPlace) → StandsBefore p mid → StandsFrom mid q → StandsBefore p q
before_from p q mid (inl h) (inl k) = inl (omega (arith, h, k))
before_from p q mid (inl h) (inr k) = let e = k.0 in inl (omega (arith, h, e))
before_from p q mid (inr h) (inl k) = let e = h.0 in inl (omega (arith, e, k))
before_from p q mid (inr h) (inr k) =
    let e = h.0 in let f = k.0 in let l = h.1 in let m = k.1 in inr (omega (arith, e, f), omega (arith, l, m))

from_before : (p from mid : TransactionPlace) → StandsFrom from mid → StandsFrom mid p → StandsFrom from p
from_before p from mid (inl h) (inl k) = inl (omega (arith, h, k))
from_before p from mid (inl h) (inr k) = let e = k.0 in inl (omega (arith, h, e))
from_before p from mid (inr h) (inl k) = let e = h.0 in inl (omega (arith, e, k))
from_before p from mid (inr h) (inr k) =
    let e = h.0 in let f = k.0 in let l = h.1 in let m = k.1 in inr (omega (arith, e, f), omega (arith, l, m))

rising_append : (ps qs : List TransactionPlace) (mid : TransactionPlace) → AreRising ps → AreRising qs → All (λ p. StandsBefore p mid) ps → All (StandsFrom mid) qs → AreRising (ps ++ qs)
rising_append [] qs mid h k below above = k
rising_append (p ∷ ps) qs mid h k below above = (
  All-append (StandsBefore p) ps qs h.0 (All-weaker (StandsFrom mid) (StandsBefore p) (λ q f. before_from p q mid (All-head (λ (r : TransactionPlace). StandsBefore r mid) p ps below) f) qs above),
  rising_append ps qs mid h.1 k (All-tail (λ (r : TransactionPlace). StandsBefore r mid) p ps below) above,
)

-- the first new records, and then others
since_append : (before xs ys : List Record) → AreSince before xs → AreSince (before ++ xs) ys → AreSince before (xs ++ ys)
since_append before [] ys h k = subst (λ (l : List Record). AreSince l ys) (append-nil before) k
since_append before (x ∷ xs) ys h k =
    (h.0, since_append (before ++ x ∷ []) xs ys h.1 (subst (λ (l : List Record). AreSince l ys) (sym (append_assoc before (x ∷ []) xs)) k))

-- the attempts of one transaction, which began after the others
since_all : (place : TransactionPlace) (before new : List Record) → All (λ (r : Record). r.place ≡ place) new → InThreads new
    → All (λ (s : Record). All (λ (b : Record). IsSince (known_after b.verdict) s.verdict) before) new → AreSince before new
since_all place before [] placed threads h = tt
since_all place before (r ∷ new) placed threads h = (
  All-head (λ (s : Record). All (λ (b : Record). IsSince (known_after b.verdict) s.verdict) before) r new h,
  since_all place (before ++ r ∷ []) new rest threads.1 (with_first new rest threads.0 (All-tail (λ (s : Record). All (λ (b : Record). IsSince (known_after b.verdict) s.verdict) before) r new h)),
)
  where
    rest : All (λ (s : Record). s.place ≡ place) new
    rest = All-tail (λ (s : Record). s.place ≡ place) r new placed

    first : r.place ≡ place
    first = All-head (λ (s : Record). s.place ≡ place) r new placed

    with_first : (xs : List Record) → All (λ (s : Record). s.place ≡ place) xs → All (λ (s : Record). r.place.0 ≡ s.place.0 → Follows r s) xs
        → All (λ (s : Record). All (λ (b : Record). IsSince (known_after b.verdict) s.verdict) before) xs
        → All (λ (s : Record). All (λ (b : Record). IsSince (known_after b.verdict) s.verdict) (before ++ r ∷ [])) xs
    with_first [] a b c = All-nil (λ (s : Record). All (λ (b : Record). IsSince (known_after b.verdict) s.verdict) (before ++ r ∷ []))
    with_first (s ∷ xs) a b c =
        All-cons (λ (y : Record). All (λ (b : Record). IsSince (known_after b.verdict) y.verdict) (before ++ r ∷ [])) s xs
        (All-append (λ (b : Record). IsSince (known_after b.verdict) s.verdict) before (r ∷ [])
        (All-head (λ (y : Record). All (λ (b : Record). IsSince (known_after b.verdict) y.verdict) before) s xs c)
        (All-cons (λ (b : Record). IsSince (known_after b.verdict) s.verdict) r []
        (All-head (λ (y : Record). r.place.0 ≡ y.place.0 → Follows r y) s xs b (ap (λ (p : TransactionPlace). p.0) (first ∙ sym (All-head (λ (y : Record). y.place ≡ place) s xs a)))).since
        (All-nil (λ (b : Record). IsSince (known_after b.verdict) s.verdict))))
        (with_first xs (All-tail (λ (y : Record). y.place ≡ place) s xs a) (All-tail (λ (y : Record). r.place.0 ≡ y.place.0 → Follows r y) s xs b)
        (All-tail (λ (y : Record). All (λ (b : Record). IsSince (known_after b.verdict) y.verdict) before) s xs c))

-- a run of a transaction on a pass that knows all that the first records told
since_run : (m : Meaning) (file : File) (tries : ℕ) (v w : View) (rs new : List Record) (place : TransactionPlace) (s : Script)
    → All (IsRecord m file v) rs → HasAdded m tries v w (meaning_of s) place new → AreSince rs new
since_run m file tries v w rs new place s each added =
    since_all place rs new (All-weaker (IsAdded m v w (meaning_of s) place) (λ (r : Record). r.place ≡ place) (λ r a. a.placed) new added.each) added.threads
    (All-weaker (IsAdded m v w (meaning_of s) place) (λ (r : Record). All (λ (b : Record). IsSince (known_after b.verdict) r.verdict) rs)
    (λ r a. All-weaker (IsRecord m file v) (λ (b : Record). IsSince (known_after b.verdict) r.verdict)
    (λ b k. a.since (known_after b.verdict) (told_known m v (meaning_of k.script) b.replies b.verdict k.told)) rs each) new added.each)

-- nothing was run
pub ordered_none : (from : TransactionPlace) (rs : List Record) → RunsInOrder from from rs rs
ordered_none from rs = record {
  new = [];
  whole = sym (append-nil rs);
  since = tt;
  rising = tt;
  from_there = All-nil (StandsFrom from);
  to_there = All-nil (λ (p : TransactionPlace). StandsBefore p from);
}

-- some transactions, and then others from there on
pub ordered_on : (from mid to : TransactionPlace) (rs ss ts : List Record) → StandsFrom from mid → StandsFrom mid to → RunsInOrder from mid rs ss → RunsInOrder mid to ss ts → RunsInOrder from to rs ts
ordered_on from mid to rs ss ts low high h k =
    let ps : List TransactionPlace = finished_places h.new in let qs : List TransactionPlace = finished_places k.new in
    let both : finished_places (h.new ++ k.new) ≡ ps ++ qs = finished_append h.new k.new in record {
      new = h.new ++ k.new;
      whole = k.whole ∙ ap (λ (l : List Record). l ++ k.new) h.whole ∙ append_assoc rs h.new k.new;
      since = since_append rs h.new k.new h.since (subst (λ (l : List Record). AreSince l k.new) h.whole k.since);
      rising = subst AreRising (sym both) (rising_append ps qs mid h.rising k.rising h.to_there k.from_there);
      from_there = subst (All (StandsFrom from)) (sym both) (All-append (StandsFrom from) ps qs h.from_there (All-weaker (StandsFrom mid) (StandsFrom from) (λ q f. from_before q from mid low f) qs k.from_there));
      to_there = subst (All (λ (p : TransactionPlace). StandsBefore p to)) (sym both) (All-append (λ (p : TransactionPlace). StandsBefore p to) ps qs
          (All-weaker (λ (p : TransactionPlace). StandsBefore p mid) (λ (p : TransactionPlace). StandsBefore p to) (λ p b. before_from p to mid b high) ps h.to_there) k.to_there);
    }

-- the same between wider places
pub ordered_wider : (low from to high : TransactionPlace) (rs later : List Record) → StandsFrom low from → StandsFrom to high → RunsInOrder from to rs later → RunsInOrder low high rs later
ordered_wider low from to high rs later l h k = record {
  new = k.new;
  whole = k.whole;
  since = k.since;
  rising = k.rising;
  from_there = All-weaker (StandsFrom from) (StandsFrom low) (λ q f. from_before q low from l f) (finished_places k.new) k.from_there;
  to_there = All-weaker (λ (p : TransactionPlace). StandsBefore p to) (λ (p : TransactionPlace). StandsBefore p high) (λ p b. before_from p high to b h) (finished_places k.new) k.to_there;
}

pub from_first : (p : TransactionPlace) → StandsFrom (0, 0) p
from_first (zero, position) = inr (refl, omega arith)
from_first (suc thread, position) = inl (omega arith)

-- from the beginning of an earlier thread, or of the same one
pub before_thread : (earlier thread position : ℕ) → earlier ≤ thread → StandsFrom (earlier, 0) (thread, position + 1)
before_thread earlier thread position l = elim (cases_eq earlier thread) [
  | inl same ↦ inr (sym same, omega arith)
  | inr other ↦ inl (omega (arith, l, other))
]

pub up_to_thread : (earlier thread : ℕ) → earlier ≤ thread → StandsFrom (earlier, 0) (thread, 0)
up_to_thread earlier thread l = elim (cases_eq earlier thread) [
  | inl same ↦ inr (sym same, omega arith)
  | inr other ↦ inl (omega (arith, l, other))
]

-- one place, or none
one_rising : (p : TransactionPlace) (on : Bool) (ps : List TransactionPlace) → ps ≡ (if on then p ∷ [] else []) → AreRising ps
one_rising p on ps is = subst AreRising (sym is) (by on)
  where
    by : (b : Bool) → AreRising (if b then p ∷ [] else [])
    by true = (All-nil (StandsBefore p), tt)
    by false = tt

one_of : (P : TransactionPlace → Type 0) (p : TransactionPlace) (on : Bool) (ps : List TransactionPlace) → ps ≡ (if on then p ∷ [] else []) → P p → All P ps
one_of P p on ps is h = subst (All P) (sym is) (by on)
  where
    by : (b : Bool) → All P (if b then p ∷ [] else [])
    by true = All-cons P p [] h (All-nil P)
    by false = All-nil P

-- the transaction at a place was run: it has ended, or is handed back
pub ordered_run : (plan : Plan) (passes : ℕ) (v w : View) (thread position : ℕ) (rs later : List Record) (ended : Bool) → HasWorked plan v rs
    → HasRunAt plan passes v w (thread, position) rs later ended → RunsInOrder (thread, position) (thread, position + 1) rs later
ordered_run plan passes v w thread position rs later ended worked ran = record {
  new = ran.ran.new;
  whole = ran.ran.whole;
  since = since_run plan.meaning plan.file plan.tries v w rs ran.ran.new (thread, position) ran.script worked.so_far.each ran.ran.added;
  rising = one_rising (thread, position) ended (finished_places ran.ran.new) ran.ran.ends;
  from_there = one_of (StandsFrom (thread, position)) (thread, position) ended (finished_places ran.ran.new) ran.ran.ends (inr (refl, omega arith));
  to_there = one_of (λ (p : TransactionPlace). StandsBefore p (thread, position + 1)) (thread, position) ended (finished_places ran.ran.new) ran.ran.ends (inr (refl, omega arith));
}
