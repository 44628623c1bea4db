-- What one attempt led to, by its record.
use Rattle.std.specs.List.{All}
use Rattle.std.proofs.Common.{◌≡◌, ◌<◌, ◌≤◌, ◌+◌, ℕ, List, [], ◌∷◌, ◌++◌, map, length, length-append, Bool, true, false, refl, sym, ap, ◌∙◌, subst, arith, inl, inr}
use Rattle.std.specs.Prelude.{Result, Ok}
use Rattle.sto_part.specs.Listed.{Listed}
use Rattle.std.proofs.lemmas.List.{map-append}
use Rattle.std.proofs.lemmas.List.Elements.{All-weaker}
use Rattle.sto_model.specs.PlainReplies.{plain_reply}
use Rattle.sto_model.specs.Run.{Behaviour}
use Rattle.sto_model.specs.declared.shape.Shape.{Shape}
use Rattle.sto_type.specs.Meaning.{Meaning}
use Rattle.sto_core.specs.declared.view.View.{View}
use Rattle.sto_history.specs.Records.{TransactionPlace, Record as Told, is_abort, wrote_with, times_written}
use Rattle.sto_history.specs.Counted.{InThreads, times_committed, aborted_times, finished_places}
use Rattle.sto_history.specs.Told.{IsFound}
use Rattle.sto_history.specs.Added.{IsAdded, IsKnown, Grows}
use Rattle.sto_history.specs.Trying.{AreFound}
use Rattle.sto_transaction.specs.declared.record.Record.{Record}
use Rattle.sto_transaction.specs.Plain.{plain, verdict}
use Rattle.sto_transaction.specs.Ran.{HasRun, HasBroken}
use Rattle.sto_action.specs.Shortened.{short_of}
use Rattle.sto_action.specs.declared.short_reply.ShortReply.{ShortReply}
use Rattle.sto_action.specs.declared.tx.Stop.{Stop}
use Rattle.sto_action.specs.Progs.{Prog, next_within, Runs}
use Rattle.sto_action.specs.declared.cause.AbortCause.{AbortCause}
use Rattle.sto_action.specs.declared.outcome.Attempted.{Attempted}
use Rattle.sto_action.specs.declared.outcome.Attempted.TheVariants.{Said, Aborted}
use Rattle.sto_action.specs.Causes.{IsCauseOf}
use Rattle.sto_action.specs.Atomic.{HasSeen, TakesNoEffect, HaveAbortedBy, IsAtomic, HasTried, IsTriedBy, HasSaid}
use Rattle.sto_action.proofs.Causes.{cause_aborts}
use Rattle.sto_action.proofs.Counts.{abort_wrote, all_aborted, all_before, last_wrote, some_aborted, none_before, last_item}

seen_known : (v : View) (n : ℕ) → HasSeen v n → IsKnown v n
seen_known v n (inl h) = inl h
seen_known v n (inr (inl h)) = inr (inl (record { entry = h.entry; there = h.there; ticket = h.ticket }))
seen_known v n (inr (inr h)) = inr (inr h)

module _ (m : Meaning) (sizes : List ℕ) (passes : ℕ) (v w : View) (f : Behaviour) (place : TransactionPlace) (left : List Record) (x : Record) (rs : List Record) (ended : Bool)
    (all : rs ≡ left ++ x ∷ []) (ran : HasRun m sizes 1 passes v w f place [] (map plain rs) ended) where
  new_is : ran.new ≡ map plain left ++ plain x ∷ []
  new_is = sym ran.whole ∙ ap (map plain) all ∙ map-append plain left (x ∷ [])

  each : All (IsAdded m v w f place) (map plain left ++ plain x ∷ [])
  each = subst (All (IsAdded m v w f place)) (sym ran.whole ∙ ap (map plain) all ∙ map-append plain left (x ∷ [])) ran.added.each

  pub last_added : IsAdded m v w f place (plain x)
  last_added = last_item (IsAdded m v w f place) (map plain left) (plain x) each

  placed : All (λ (r : Told). r.place ≡ place) (map plain left ++ plain x ∷ [])
  placed = All-weaker (IsAdded m v w f place) (λ (r : Told). r.place ≡ place) (λ r h. h.placed) (map plain left ++ plain x ∷ []) each

  -- it is all that was committed
  pub last_entries : (t : ℕ) → times_committed t w.entries ≡ times_committed t v.entries + wrote_with t (verdict x.verdict)
  last_entries t =
      let before = all_before place (plain x) (map plain left) placed (subst InThreads new_is ran.added.threads) in
      let last = last_wrote place (plain x) t (map plain left) before in
      let same = ap (times_written t) new_is in
      let e = ran.added.entries t in omega (arith, last, same, e)

  pub aborted_none : is_abort (verdict x.verdict) ≡ true → TakesNoEffect v w
  aborted_none abort t = let e = last_entries t in let none = abort_wrote t (verdict x.verdict) abort in omega (arith, e, none)

  -- it was begun
  pub last_starts : v.starts < w.starts
  last_starts = let s = ran.starts in let n = ap length new_is in let l = length-append (map plain left) (plain x ∷ []) in omega (arith, s, n, l)

  -- it is the only one
  pub once_aborted : (cause : AbortCause) → IsCauseOf m (verdict x.verdict) cause → HaveAbortedBy m v w 1 cause
  once_aborted cause is =
      let abort = cause_aborts m (verdict x.verdict) cause is in
      let few : aborted_times place (map plain left ++ plain x ∷ []) ≤ 1 = subst (λ (l : List Told). aborted_times place l ≤ 1) new_is ran.added.few in
      let before = all_before place (plain x) (map plain left) placed (subst InThreads new_is ran.added.threads) in
      let one : ran.new ≡ plain x ∷ [] = new_is ∙ ap (λ (l : List Told). l ++ plain x ∷ []) (none_before place (plain x) abort (map plain left) placed before few) in
      let starts : w.starts ≡ v.starts + 1 = ran.starts ∙ ap (λ (l : List Told). v.starts + length l) one in
      let found : IsFound w (v.starts + 1) (verdict x.verdict) = (subst (AreFound w (v.starts + 1)) one ran.found).0 in
      record {
        aborted = record {
          none = aborted_none abort;
          verdicts = verdict x.verdict ∷ [];
          all = refl;
          starts = starts;
          found = (abort, found, tt);
        };
        before = [];
        last = verdict x.verdict;
        ends = refl;
        is = is;
        found = subst (λ (n : ℕ). IsFound w n (verdict x.verdict)) (sym starts) found;
      }

  pub not_alone : is_abort (verdict x.verdict) ≡ true → passes ≡ 1 → ⊥
  not_alone abort one =
      let some : 0 < aborted_times place (map plain left ++ plain x ∷ []) = some_aborted place (plain x) abort (map plain left) last_added.placed in
      let same = ap (aborted_times place) new_is in
      let k = (ran.alone one).1 in omega (arith, some, same, k)

pub some_record : (m : Meaning) (sizes : List ℕ) (passes : ℕ) (v w : View) (f : Behaviour) (place : TransactionPlace) (rs : List Record) (ended : Bool)
    → HasRun m sizes 1 passes v w f place [] (map plain rs) ended → rs ≡ [] → ⊥
some_record m sizes passes v w f place rs true ran none =
    let new : ran.new ≡ [] = sym ran.whole ∙ ap (map plain) none in
    let some : finished_places ran.new ≡ place ∷ [] = ran.ends in
    let l = ap length some in let k = ap (λ (l : List Told). length (finished_places l)) new in absurd (omega (arith, l, k))
some_record m sizes passes v w f place rs false ran none =
    let new : ran.new ≡ [] = sym ran.whole ∙ ap (map plain) none in
    let one = ran.used refl in let k = ap (aborted_times place) new in absurd (omega (arith, one, k))

pub broken_none : (m : Meaning) (sizes : List ℕ) (v w : View) (f : Behaviour) (place : TransactionPlace) (before later : List Told) → HasBroken m sizes 1 v w f place before later → TakesNoEffect v w
broken_none m sizes v w f place before later h t = let a = all_aborted place t h.new h.aborted in let e = h.added.entries t in omega (arith, a, e)

-- what was seen stays seen
pub seen_later : (v w : View) → Grows v w → (n : ℕ) → HasSeen v n → HasSeen w n
seen_later v w g n (inl h) = inl (let a = g.at in omega (arith, a, h))
seen_later v w g n (inr (inl h)) = inr (inl (record { entry = h.entry; there = g.entries h.entry h.there h.committed; committed = h.committed; ticket = h.ticket }))
seen_later v w g n (inr (inr h)) = inr (inr (record { claim = h.claim; there = g.wrote h.claim h.there; ticket = h.ticket }))

pub record_atomic : {E A : Type 0} (m : Meaning) (v w : View) (shapes : List Shape) (most : ℕ) (p : Prog E A) (place : TransactionPlace) (x : Record) (says : List ShortReply → Type 0)
    → IsAdded m v w (λ rs. next_within shapes most p (map short_of rs)) place (plain x)
    → ((t : ℕ) → times_committed t w.entries ≡ times_committed t v.entries + wrote_with t (verdict x.verdict)) → v.starts < w.starts → is_abort (verdict x.verdict) ≡ false → says (map short_of (map plain_reply x.replies.items))
    → IsAtomic m v w shapes most p says
record_atomic m v w shapes most p place x says added entries starts ended said = record {
  replies = map plain_reply x.replies.items;
  verdict = verdict x.verdict;
  ended = ended;
  told = added.told;
  since = λ n h. added.since n (seen_known v n h);
  entries = entries;
  starts = starts;
  said = said;
}

-- a run of the code that was given, which added the first records
pub same_run : {E A K : Type 0} (does : K → Prog E A) (m : Meaning) (sizes : List ℕ) (passes : ℕ) (v w : View) (place : TransactionPlace) (before later : List Record) (ended : Bool)
    (c code : K) (s shapes : Listed Shape) (n most : ℕ) → c ≡ code → s ≡ shapes → n ≡ most → before ≡ []
    → HasRun m sizes 1 passes v w (λ rs. next_within s.items n (does c) (map short_of rs)) place (map plain before) (map plain later) ended
    → HasRun m sizes 1 passes v w (λ rs. next_within shapes.items most (does code) (map short_of rs)) place [] (map plain later) ended
same_run {E} {A} {K} does m sizes passes v w place before later ended c code s shapes n most a b e none ran =
    subst (λ (k : K). HasRun m sizes 1 passes v w (λ rs. next_within shapes.items most (does k) (map short_of rs)) place [] (map plain later) ended) a
    (subst (λ (k : Listed Shape). HasRun m sizes 1 passes v w (λ rs. next_within k.items most (does c) (map short_of rs)) place [] (map plain later) ended) b
    (subst (λ (k : ℕ). HasRun m sizes 1 passes v w (λ rs. next_within s.items k (does c) (map short_of rs)) place [] (map plain later) ended) e
    (subst (λ (k : List Record). HasRun m sizes 1 passes v w (λ rs. next_within s.items n (does c) (map short_of rs)) place (map plain k) (map plain later) ended) none ran)))

-- what is so by the record that is told, where it is aborted and where it is not
pub told_tried : {E A : Type 0} (m : Meaning) (sizes : List ℕ) (passes : ℕ) (v w : View) (shapes : List Shape) (most : ℕ) (p : Prog E A) (place : TransactionPlace) (left : List Record) (x : Record)
    (rs : List Record) (ended : Bool) (tried : Attempted (Result A (Stop E))) → rs ≡ left ++ x ∷ []
    → HasRun m sizes 1 passes v w (λ rs. next_within shapes most p (map short_of rs)) place [] (map plain rs) ended
    → IsTriedBy m (verdict x.verdict) (λ said. Runs p (map short_of (map plain_reply x.replies.items)) said) tried
    → HasTried m v w shapes most p (Ok tried)
told_tried m sizes passes v w shapes most p place left x rs ended (Aborted cause) all ran h =
    once_aborted m sizes passes v w (λ rs. next_within shapes most p (map short_of rs)) place left x rs ended all ran cause h
told_tried m sizes passes v w shapes most p place left x rs ended (Said said) all ran h =
    record_atomic m v w shapes most p place x (λ hs. Runs p hs said)
    (last_added m sizes passes v w (λ rs. next_within shapes most p (map short_of rs)) place left x rs ended all ran)
    (last_entries m sizes passes v w (λ rs. next_within shapes most p (map short_of rs)) place left x rs ended all ran)
    (last_starts m sizes passes v w (λ rs. next_within shapes most p (map short_of rs)) place left x rs ended all ran) h.0 h.1

pub told_alone : {E A : Type 0} (m : Meaning) (sizes : List ℕ) (passes : ℕ) (v w : View) (f : Behaviour) (place : TransactionPlace) (left : List Record) (x : Record)
    (rs : List Record) (ended : Bool) (tried : Attempted (Result A (Stop E))) (Q : Result A (Stop E) → Type 0) → rs ≡ left ++ x ∷ [] → HasRun m sizes 1 passes v w f place [] (map plain rs) ended
    → IsTriedBy m (verdict x.verdict) Q tried → passes ≡ 1 → HasSaid tried
told_alone m sizes passes v w f place left x rs ended (Aborted cause) Q all ran h one =
    not_alone m sizes passes v w f place left x rs ended all ran (cause_aborts m (verdict x.verdict) cause h) one
told_alone m sizes passes v w f place left x rs ended (Said said) Q all ran h one = tt
