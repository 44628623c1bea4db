-- The attempts of one transaction, one after the other.
use Rattle.std.specs.List.{All}
use Rattle.std.proofs.Common.{◌≡◌, ◌≤◌, ◌<◌, ◌+◌, ℕ, List, [], ◌∷◌, ◌++◌, length, true, false, true≢false, refl, sym, ap, ◌∙◌, arith, subst, append_assoc, append-nil, inl, inr}
use Rattle.std.proofs.lemmas.List.Elements.{All-append, All-weaker, All-cons, All-nil}
use Rattle.sto_model.specs.Run.{Behaviour}
use Rattle.sto_type.specs.Meaning.{Meaning}
use Rattle.sto_core.specs.declared.view.View.{View}
use Rattle.sto_core.specs.Lists.{Among}
use Rattle.sto_history.specs.Records.{TransactionPlace, Record, is_abort}
use Rattle.sto_history.specs.Counted.{aborted_times, times_committed}
use Rattle.sto_history.specs.Added.{HasAdded, IsAdded}
use Rattle.sto_history.specs.Tried.{HasTried}
use Rattle.sto_history.specs.Trying.{HasMade, AreAborted}
use Rattle.sto_history.proofs.Events.{grows_on}
use Rattle.sto_history.proofs.Tries.{none_made, one_more, still_added, longer, are_found_later}
use Rattle.sto_transaction.specs.Ran.{HasRun, HasBroken}
use Rattle.sto_transaction.specs.Resting.{IsAtRest}
use Rattle.sto_transaction.specs.Machines.{HasStopped}
use Rattle.sto_transaction.proofs.Counting.{all_aborted, last_unaborted, none_finished, last_finished}

-- so many attempts were made between the views v and w, all aborted, and added these records
pub record HasRetried (m : Meaning) (sizes : List ℕ) (passes made : ℕ) (v w : View) (f : Behaviour) (place : TransactionPlace) (before later : List Record) : Type 0 where
  pub new : List Record
  pub whole : later ≡ before ++ new
  pub added : HasMade m v w f place new
  pub aborted : AreAborted new
  pub count : length new ≡ made
  pub rests : IsAtRest m sizes w
  pub alone : passes ≡ 1 → made ≡ 0

pub none_retried : (m : Meaning) (sizes : List ℕ) (passes : ℕ) (v : View) (f : Behaviour) (place : TransactionPlace) (before : List Record) → IsAtRest m sizes v → HasRetried m sizes passes 0 v v f place before before
none_retried m sizes passes v f place before rest = record {
  new = [];
  whole = sym (append-nil before);
  added = none_made m v f place;
  aborted = All-nil (λ (r : Record). is_abort r.verdict ≡ true);
  count = refl;
  rests = rest;
  alone = λ one. refl;
}

placed : (m : Meaning) (v w : View) (f : Behaviour) (place : TransactionPlace) (rs : List Record) → All (IsAdded m v w f place) rs → All (λ (r : Record). r.place ≡ place) rs
placed m v w f place rs h = All-weaker (IsAdded m v w f place) (λ (r : Record). r.place ≡ place) (λ r a. a.placed) rs h

module _ (m : Meaning) (sizes : List ℕ) (tries passes made : ℕ) (v u w : View) (f : Behaviour) (place : TransactionPlace) (before mid : List Record) (h : HasRetried m sizes passes made v u f place before mid) where
  -- one more that was aborted
  pub retried : (r : Record) → HasTried m u w f place r → IsAtRest m sizes w → (passes ≡ 1 → is_abort r.verdict ≡ false) → is_abort r.verdict ≡ true
      → HasRetried m sizes passes (made + 1) v w f place before (mid ++ r ∷ [])
  retried r t rest alone aborted = record {
    new = h.new ++ r ∷ [];
    whole = ap (λ (rs : List Record). rs ++ r ∷ []) h.whole ∙ append_assoc before h.new (r ∷ []);
    added = one_more m v u w f place h.new r h.aborted h.added t;
    aborted = All-append (λ (x : Record). is_abort x.verdict ≡ true) h.new (r ∷ []) h.aborted (All-cons (λ (x : Record). is_abort x.verdict ≡ true) r [] aborted (All-nil (λ (x : Record). is_abort x.verdict ≡ true)));
    count = (let a = longer h.new r in let b = h.count in omega (arith, a, b));
    rests = rest;
    alone = λ one. absurd (true≢false (sym aborted ∙ alone one));
  }

  -- the last one
  pub has_run : (r : Record) → r.place ≡ place → HasTried m u w f place r → IsAtRest m sizes w → (passes ≡ 1 → is_abort r.verdict ≡ false) → is_abort r.verdict ≡ false → made < tries
      → HasRun m sizes tries passes v w f place before (mid ++ r ∷ []) true
  has_run r is t rest alone ended few =
      let all : HasMade m v w f place (h.new ++ r ∷ []) = one_more m v u w f place h.new r h.aborted h.added t in
      let count : aborted_times place (h.new ++ r ∷ []) ≡ length h.new = last_unaborted place h.new r h.aborted (placed m v u f place h.new h.added.each) ended in record {
        new = h.new ++ r ∷ [];
        whole = ap (λ (rs : List Record). rs ++ r ∷ []) h.whole ∙ append_assoc before h.new (r ∷ []);
        added = record { grows = all.grows; entries = all.entries; each = all.each; threads = all.threads; few = (let b = h.count in omega (arith, count, b, few)) };
        starts = all.starts;
        found = all.found;
        kept = all.kept;
        ends = last_finished h.new r h.aborted ended ∙ ap (λ (p : TransactionPlace). p ∷ []) is;
        spare = λ on. (let b = h.count in omega (arith, count, b, few));
        used = λ other. absurd (true≢false other);
        rests = rest;
        draws = (let a = all.draws in let b = longer h.new r in let c = h.count in omega (arith, a, b, c, few));
        alone = λ one. (refl, (let a = h.alone one in let b = h.count in omega (arith, count, a, b)));
      }

  -- memory was wanting in the next one
  added_stopped : HasStopped m sizes u w → made ≤ tries → HasAdded m tries v w f place h.new
  added_stopped s few =
      let count : aborted_times place h.new ≡ length h.new = all_aborted place h.new h.aborted (placed m v u f place h.new h.added.each) in record {
        grows = grows_on v u w h.added.grows s.grows;
        entries = λ t. ap (times_committed t) s.entries ∙ h.added.entries t;
        each = still_added m v u w f place h.new s.grows h.aborted h.added.each;
        threads = h.added.threads;
        few = (let b = h.count in omega (arith, count, b, few));
      }

  pub has_broken : HasStopped m sizes u w → made < tries → HasBroken m sizes tries v w f place before mid
  has_broken s few = record {
    new = h.new;
    whole = h.whole;
    added = added_stopped s (omega (arith, few));
    aborted = all_aborted place h.new h.aborted (placed m v u f place h.new h.added.each);
    starts = inr (let a = h.added.starts in let b = s.starts in omega (arith, a, b));
    found = are_found_later u w (v.starts + 1) h.new s.grows h.added.found;
    kept = λ e a. subst (Among e) (sym s.entries) (h.added.kept e a);
    rests = s.rests;
    draws = (let a = h.added.draws in let b = h.count in let c = s.draws in omega (arith, a, b, c, few));
  }

module _ (m : Meaning) (sizes : List ℕ) (tries passes made : ℕ) (v w : View) (f : Behaviour) (place : TransactionPlace) (before later : List Record) (h : HasRetried m sizes passes made v w f place before later) where
  count : aborted_times place h.new ≡ length h.new
  count = all_aborted place h.new h.aborted (placed m v w f place h.new h.added.each)

  added : made ≤ tries → HasAdded m tries v w f place h.new
  unfolding count
  added few = record { grows = h.added.grows; entries = h.added.entries; each = h.added.each; threads = h.added.threads; few = (let a = count in let b = h.count in omega (arith, a, b, few)) }

  -- all were aborted
  pub has_run_out : made ≡ tries → 0 < tries → HasRun m sizes tries passes v w f place before later false
  has_run_out all some = record {
    new = h.new;
    whole = h.whole;
    added = added (omega (arith, all));
    starts = h.added.starts;
    found = h.added.found;
    kept = h.added.kept;
    ends = none_finished h.new h.aborted;
    spare = λ on. absurd (true≢false (sym on));
    used = λ no. (let a = count in let b = h.count in omega (arith, a, b, all));
    rests = h.rests;
    draws = (let a = h.added.draws in let b = h.count in omega (arith, a, b, all));
    alone = λ one. absurd (let a = h.alone one in omega (arith, a, all, some));
  }

  -- there was no room for the record of the next one
  pub broken_before : made ≤ tries → HasBroken m sizes tries v w f place before later
  broken_before few = record {
    new = h.new;
    whole = h.whole;
    added = added few;
    aborted = count;
    starts = inl h.added.starts;
    found = h.added.found;
    kept = h.added.kept;
    rests = h.rests;
    draws = (let a = h.added.draws in let b = h.count in omega (arith, a, b, few));
  }
