-- The records of one transaction, attempt by attempt.
use Rattle.std.specs.Prelude.{◌≢◌, ◌⊎◌, ◌&&◌, if◌then◌else◌, ◌==◌, length}
use Rattle.std.specs.List.{All}
use Rattle.std.proofs.Common.{◌≡◌, ℕ, ◌+◌, ◌<◌, ◌≤◌, List, [], ◌∷◌, ◌++◌, refl, sym, ap, ◌∙◌, zero, suc, subst, arith, Bool, true, false, true≢false, inl, inr}
use Rattle.std.proofs.lemmas.List.Elements.{All-append, All-cons, All-nil, All-head, All-tail}
use Rattle.sto_model.specs.Run.{Behaviour}
use Rattle.sto_type.specs.Meaning.{Meaning}
use Rattle.sto_core.specs.declared.view.Entry.{Entry}
use Rattle.sto_core.specs.declared.view.Finding.{Finding}
use Rattle.sto_core.specs.declared.view.View.{View}
use Rattle.sto_core.specs.Lists.{Among}
use Rattle.sto_history.specs.Records.{TransactionPlace, Verdict, Wrote, Read, Cancelled, Locked, Changed, Record, is_abort, known_after, IsSince, IsAbove, times_written, wrote_with}
use Rattle.sto_history.specs.Told.{IsTold, HasFound, IsFound}
use Rattle.sto_history.specs.Counted.{times_committed, Follows, InThreads}
use Rattle.sto_history.specs.Added.{Grows, IsKnown, IsAdded}
use Rattle.sto_history.specs.Tried.{HasTried}
use Rattle.sto_history.specs.Trying.{AreFound, HasMade, AreAborted}
use Rattle.sto_history.proofs.Events.{grows_on}
use Rattle.sto_history.proofs.Later.{told_later, told_known}

-- what is known before an attempt is known after it
known_after_it : (m : Meaning) (v w : View) (f : Behaviour) (place : TransactionPlace) (r : Record) → HasTried m v w f place r → (k : ℕ) → IsKnown v k → IsKnown w k
known_after_it m v w f place r t k (inl h) = inl (let a = t.grows.at in omega (arith, a, h))
known_after_it m v w f place r t k (inr (inl h)) = inr (inl (record { entry = h.entry; there = t.kept h.entry h.there; ticket = h.ticket }))
known_after_it m v w f place r t k (inr (inr h)) = inr (inr (record { claim = h.claim; there = t.grows.wrote h.claim h.there; ticket = h.ticket }))

written_more : (t : ℕ) (rs : List Record) (r : Record) → times_written t (rs ++ r ∷ []) ≡ times_written t rs + wrote_with t r.verdict
written_more t [] r = omega arith
written_more t (x ∷ rs) r = let k = written_more t rs r in omega (arith, k)

pub longer : (rs : List Record) (r : Record) → length (rs ++ r ∷ []) ≡ length rs + 1
longer [] r = refl
longer (x ∷ rs) r = let k = longer rs r in omega (arith, k)

-- a finding of one view is one of a later view
finding_later : (v w : View) (start part : ℕ) (P : Finding → Type 0) → Grows v w → HasFound v start part P → HasFound w start part P
finding_later v w start part P g h = record { finding = h.finding; there = g.findings h.finding h.there; begun = h.begun; on = h.on; is = h.is }

pub found_later : (v w : View) (start : ℕ) (verdict : Verdict) → Grows v w → IsFound v start verdict → IsFound w start verdict
found_later v w start (Wrote t) g h = tt
found_later v w start (Read n) g h = tt
found_later v w start (Cancelled n) g h = tt
found_later v w start (Locked n p) g h = finding_later v w start p _ g h
found_later v w start (Changed n p t) g h = finding_later v w start p _ g h

-- the same of all records
pub are_found_later : (v w : View) (start : ℕ) (rs : List Record) → Grows v w → AreFound v start rs → AreFound w start rs
are_found_later v w start [] g h = tt
are_found_later v w start (r ∷ rs) g h = (found_later v w start r.verdict g h.0, are_found_later v w (start + 1) rs g h.1)

-- one more record, of the start after theirs
are_found_more : (w : View) (start : ℕ) (rs : List Record) (r : Record) → AreFound w start rs → IsFound w (start + length rs) r.verdict → AreFound w start (rs ++ r ∷ [])
are_found_more w start [] r h found = (subst (λ (k : ℕ). IsFound w k r.verdict) (omega arith) found, tt)
are_found_more w start (x ∷ rs) r h found = (h.0, are_found_more w (start + 1) rs r h.1 (subst (λ (k : ℕ). IsFound w k r.verdict) (omega arith) found))

-- Before the first attempt.
pub none_made : (m : Meaning) (v : View) (f : Behaviour) (place : TransactionPlace) → HasMade m v v f place []
none_made m v f place = record {
  grows = record { at = omega arith; entries = λ e h c. h; claims = λ c h. h; wrote = λ c h. h; findings = λ g h. h };
  known = λ k h. h;
  entries = λ t. omega arith;
  each = All-nil (IsAdded m v v f place);
  threads = tt;
  starts = omega arith;
  draws = omega arith;
  found = tt;
  kept = λ e h. h;
}

-- each of these is followed by the next one
all_followed : (m : Meaning) (b v w : View) (f : Behaviour) (place : TransactionPlace) (rs : List Record) (r : Record) → HasTried m v w f place r
    → All (IsAdded m b v f place) rs → AreAborted rs → InThreads rs → InThreads (rs ++ r ∷ [])
all_followed m b v w f place [] r t each aborted h = (All-nil _, tt)
all_followed m b v w f place (x ∷ rs) r t each aborted h =
    let mine : IsAdded m b v f place x = All-head (IsAdded m b v f place) x rs each in (
      All-append (λ (s : Record). x.place.0 ≡ s.place.0 → Follows x s) rs (r ∷ []) h.0
          (All-cons (λ (s : Record). x.place.0 ≡ s.place.0 → Follows x s) r [] (λ same. record {
            position = (let a = ap (λ (p : TransactionPlace). p.1) (mine.placed ∙ sym t.added.placed) in omega (arith, a));
            again = λ is. All-head (λ (s : Record). is_abort s.verdict ≡ true) x rs aborted;
            since = t.added.since (known_after x.verdict) (told_known m v f x.replies x.verdict mine.told);
          }) (All-nil _)),
      all_followed m b v w f place rs r t (All-tail (IsAdded m b v f place) x rs each) (All-tail (λ (s : Record). is_abort s.verdict ≡ true) x rs aborted) h.1,
    )

-- what is told of aborted records stays so when the view grows
aborted_above : (n : ℕ) (verdict : Verdict) → is_abort verdict ≡ true → IsAbove n verdict
aborted_above n (Wrote t) h = absurd (true≢false (sym h))
aborted_above n (Read k) h = tt
aborted_above n (Cancelled k) h = tt
aborted_above n (Locked k p) h = tt
aborted_above n (Changed k p t) h = tt

pub still_added : (m : Meaning) (b v w : View) (f : Behaviour) (place : TransactionPlace) (rs : List Record) → Grows v w → AreAborted rs
    → All (IsAdded m b v f place) rs → All (IsAdded m b w f place) rs
still_added m b v w f place [] g aborted h = All-nil (IsAdded m b w f place)
still_added m b v w f place (x ∷ rs) g aborted h =
    let a : IsAdded m b v f place x = All-head (IsAdded m b v f place) x rs h in
    All-cons (IsAdded m b w f place) x rs (record {
      placed = a.placed;
      told = told_later m v w f x.replies x.verdict g a.told;
      since = a.since;
      above = aborted_above w.at x.verdict (All-head (λ (s : Record). is_abort s.verdict ≡ true) x rs aborted);
    }) (still_added m b v w f place rs g (All-tail (λ (s : Record). is_abort s.verdict ≡ true) x rs aborted) (All-tail (IsAdded m b v f place) x rs h))

-- One more attempt, after aborted ones.
pub one_more : (m : Meaning) (b v w : View) (f : Behaviour) (place : TransactionPlace) (rs : List Record) (r : Record) → AreAborted rs → HasMade m b v f place rs → HasTried m v w f place r → HasMade m b w f place (rs ++ r ∷ [])
one_more m b v w f place rs r aborted h t = record {
  grows = grows_on b v w h.grows t.grows;
  known = λ k a. known_after_it m v w f place r t k (h.known k a);
  entries = λ n. (let a = h.entries n in let c = t.committed n in let d = written_more n rs r in omega (arith, a, c, d));
  each = All-append (IsAdded m b w f place) rs (r ∷ [])
      (still_added m b v w f place rs t.grows aborted h.each)
      (All-cons (IsAdded m b w f place) r [] (record { placed = t.added.placed; told = t.added.told; since = λ n a. t.added.since n (h.known n a); above = t.added.above }) (All-nil _));
  threads = all_followed m b v w f place rs r t h.each aborted h.threads;
  starts = (let a = h.starts in let c = t.starts in let d = longer rs r in omega (arith, a, c, d));
  draws = (let a = h.draws in let c = t.draws in let d = longer rs r in omega (arith, a, c, d));
  found = are_found_more w (b.starts + 1) rs r (are_found_later v w (b.starts + 1) rs t.grows h.found)
      (subst (λ (k : ℕ). IsFound w k r.verdict) (let a = h.starts in let c = t.starts in omega (arith, a, c)) t.found);
  kept = λ e a. t.kept e (h.kept e a);
}
