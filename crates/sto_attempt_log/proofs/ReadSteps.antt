-- What a call of an attempt that reads says of where its event has led it, as the plain data says it.
use Rattle.std.specs.Prelude.{Option, Some, None, if◌then◌else◌, nat_eq, nat_le, nat_lt, not, Bool, IsTrue, ◌↔◌}
use Rattle.std.proofs.Common.{◌≡◌, ◌≢◌, ◌≤◌, ◌<◌, ◌⊎◌, ℕ, ℤ, true, false, List, [], ◌∷◌, ◌++◌, length, slice_index_or, refl, ap, sym, ◌∙◌, subst, arith, eq-eqb, inl, inr}
use Rattle.std.proofs.lemmas.Bool.Decides.{nat_tests}
use Rattle.sto_item.specs.Recorded.{Recorded}
use Rattle.sto_model.specs.PlainReplies.{PlainReply}
use Rattle.sto_model.specs.Run.{Behaviour}
use Rattle.sto_core.specs.Versions.{ticket_of, is_free}
use Rattle.sto_type.specs.Meaning.{Meaning, is_empty}
use Rattle.sto_item.specs.Pending.{Entry as Update}
use Rattle.sto_attempt_log.specs.Flat.{entry_with}
use Rattle.sto_attempt_log.specs.Led.{IsLed}
use Rattle.sto_attempt_log.specs.declared.read_entry.ReadEntry.{ReadEntry}
use Rattle.sto_attempt_log.specs.declared.read_phase.ReadPhase.{ReadPhase}
use Rattle.sto_attempt_log.specs.declared.read_phase.ReadPhase.TheVariants as R
use Rattle.sto_attempt_log.specs.declared.log.Reached.{Reached}
use Rattle.sto_attempt_log.specs.declared.log.Reached.TheVariants.{Needs, Commits, Cancels}
use Rattle.sto_attempt_log.specs.declared.verdict.Turn.{Turn}
use Rattle.sto_attempt_log.specs.declared.verdict.Turn.TheVariants.{More, Ready, Ended}
use Rattle.sto_attempt_log.specs.declared.verdict.Verdict.{Verdict}
use Rattle.sto_attempt_log.specs.declared.verdict.Verdict.TheVariants.{Read, Cancelled, Locked, Changed}
use Rattle.sto_attempt_log.specs.Doing.{Reader, Halts, RunsOn, RanTo, Course, Stays, Runs, ComesTo, led, after_read}
use Rattle.sto_attempt_log.proofs.ReadRuns.{runs_on_to}

-- where the body's end, or the part that it needs, leads
pub led_is : (r : Reader) (us : List Update) (reached : Reached) (phase : ReadPhase) (turn : Turn) → r.set.updates ≡ us → IsLed r.at us reached phase turn → Stays (record r { phase = phase }) turn ≡ led r reached
led_is r us (Needs p) phase turn same h = λ i. Stays (record r { phase = h.0 i }) (h.1 i)
led_is r us Cancels phase turn same h = λ i. Stays (record r { phase = h.0 i }) (h.1 i)
led_is r us Commits phase turn same h = elim h [
  | inl none ↦
      let empty : is_empty r.set.updates ≡ true = ap is_empty (same ∙ none.0) in
      rw empty (λ i. Stays (record r { phase = none.1 i }) (none.2 i))
  | inr some ↦
      let full : is_empty r.set.updates ≡ false = ap is_empty same ∙ some.0 in
      rw full (λ i. Stays (record r { phase = some.1 i }) (some.2 i))
]

true_both : (a b : Bool) → (IsTrue a ↔ IsTrue b) → a ≡ b
true_both true true h = refl
true_both false false h = refl
true_both true false h = let e = h.0 refl in cc
true_both false true h = let e = h.1 refl in cc

-- the body of a reader was run on, and where it has come to has led it on
pub runs_on_is : (m : Meaning) (f : Behaviour) (r s : Reader) (set : Recorded) (heard : List PlainReply) (reached : Reached) (turn : Turn) (ran : RanTo m f r set heard) → Halts m f ran.now reached
    → IsLed r.at set.updates reached s.phase turn → s ≡ record r { set = set; heard = heard; extended = s.extended; phase = s.phase } → (IsTrue s.extended ↔ (IsTrue r.extended × (length heard ≡ length r.heard)))
    → ComesTo m f (Runs r) s turn
runs_on_is m f r s set heard reached turn ran halts is_led kept extended =
    let same : s.extended ≡ ran.now.extended = true_both s.extended ran.now.extended ((λ e. ran.extended.1 (extended.0 e)), λ e. extended.1 (ran.extended.0 e)) in
    let here : s ≡ record ran.now { phase = s.phase } = kept ∙ (λ i. record r { set = set; heard = heard; extended = same i; phase = s.phase }) ∙ (λ i. record (sym ran.kept i) { phase = s.phase }) in
    let at : r.at ≡ ran.now.at = ap (λ (x : Reader). x.at) (sym ran.kept) in (
      ran.count,
      ran.now,
      reached,
      runs_on_to m f ran.count r ran.now reached ran.answered halts,
      (λ i. Stays (here i) turn) ∙ led_is ran.now set.updates reached s.phase turn (ap (λ (x : Reader). x.set.updates) ran.kept) (subst (λ (n : ℕ). IsLed n set.updates reached s.phase turn) at is_led),
    )

-- An open.
module _ (m : Meaning) (f : Behaviour) (r : Reader) (p n : ℕ) (x : ℤ) where
  pub open_locked_is : is_free n ≡ false → ComesTo m f (after_read m (R.Opening p) r n x) (record r { phase = R.Over }) (Ended (Locked r.at p))
  open_locked_is busy = rw busy (refl, refl)

  pub open_reads_is : (t : ℕ) (ws : List ℤ) → is_free n ≡ true → t ≡ ticket_of n → t ≤ r.at → ws ≡ [] → ComesTo m f (after_read m (R.Opening p) r n x) (record r { phase = R.Reading p t; words = ws }) More
  open_reads_is t ws free same early none =
      let low : nat_le (ticket_of n) r.at ≡ true = grind (arith, nat_tests) in
      rw (free, low) ((λ i. record r { phase = R.Reading p (same i); words = none i }), refl)

  pub open_changed_is : (t : ℕ) → is_free n ≡ true → t ≡ ticket_of n → r.at < t → r.extended ≡ true
      → ComesTo m f (after_read m (R.Opening p) r n x) (record r { phase = R.Over }) (Ended (Changed r.at p t))
  open_changed_is t free same late extended =
      let high : nat_le (ticket_of n) r.at ≡ false = grind (arith, nat_tests) in
      rw (free, high, extended) (refl, λ i. Ended (Changed r.at p (same i)))

  pub open_renews_is : (t : ℕ) → is_free n ≡ true → t ≡ ticket_of n → r.at < t → r.extended ≡ false
      → ComesTo m f (after_read m (R.Opening p) r n x) (record r { phase = R.Renewing p t }) More
  open_renews_is t free same late extended =
      let high : nat_le (ticket_of n) r.at ≡ false = grind (arith, nat_tests) in
      rw (free, high, extended) ((λ i. record r { phase = R.Renewing p (same i); extended = false }), refl)

  -- an open of a part that is read anew
  pub reopen_locked_is : is_free n ≡ false → ComesTo m f (after_read m (R.Reopening p) r n x) (record r { phase = R.Over }) (Ended (Locked r.at p))
  reopen_locked_is busy = rw busy (refl, refl)

  pub reopen_reads_is : (t : ℕ) (ws : List ℤ) → is_free n ≡ true → t ≡ ticket_of n → t ≤ r.bound → ws ≡ [] → ComesTo m f (after_read m (R.Reopening p) r n x) (record r { phase = R.Rereading p t; words = ws }) More
  reopen_reads_is t ws free same early none =
      let low : nat_le (ticket_of n) r.bound ≡ true = grind (arith, nat_tests) in
      rw (free, low) ((λ i. record r { phase = R.Rereading p (same i); words = none i }), refl)

  pub reopen_changed_is : (t : ℕ) → is_free n ≡ true → t ≡ ticket_of n → r.bound < t → ComesTo m f (after_read m (R.Reopening p) r n x) (record r { phase = R.Over }) (Ended (Changed r.at p t))
  reopen_changed_is t free same late =
      let high : nat_le (ticket_of n) r.bound ≡ false = grind (arith, nat_tests) in
      rw (free, high) (refl, λ i. Ended (Changed r.at p (same i)))

-- A word.
module _ (m : Meaning) (f : Behaviour) (r : Reader) (p t n : ℕ) (x : ℤ) where
  pub word_is : (ws : List ℤ) → length r.words < slice_index_or m.widths p 0 → ws ≡ r.words ++ x ∷ [] → ComesTo m f (after_read m (R.Reading p t) r n x) (record r { words = ws }) More
  word_is ws left one =
      let low : nat_lt (length r.words) (slice_index_or m.widths p 0) ≡ true = grind (arith, nat_tests) in
      rw low ((λ i. record r { words = one i }), refl)

  pub reread_is : (ws : List ℤ) → length r.words < slice_index_or m.widths p 0 → ws ≡ r.words ++ x ∷ [] → ComesTo m f (after_read m (R.Rereading p t) r n x) (record r { words = ws }) More
  reread_is ws left one =
      let low : nat_lt (length r.words) (slice_index_or m.widths p 0) ≡ true = grind (arith, nat_tests) in
      rw low ((λ i. record r { words = one i }), refl)

  -- a close: the part is locked or has changed, or the body runs on
  pub close_locked_is : length r.words ≡ slice_index_or m.widths p 0 → is_free n ≡ false → ComesTo m f (after_read m (R.Reading p t) r n x) (record r { phase = R.Over }) (Ended (Locked r.at p))
  close_locked_is all busy =
      let high : nat_lt (length r.words) (slice_index_or m.widths p 0) ≡ false = grind (arith, nat_tests) in
      rw (high, busy) (refl, refl)

  pub close_changed_is : (u : ℕ) → length r.words ≡ slice_index_or m.widths p 0 → is_free n ≡ true → u ≡ ticket_of n → u ≢ t
      → ComesTo m f (after_read m (R.Reading p t) r n x) (record r { phase = R.Over }) (Ended (Changed r.at p u))
  close_changed_is u all free same newer =
      let high : nat_lt (length r.words) (slice_index_or m.widths p 0) ≡ false = grind (arith, nat_tests) in
      let other : nat_eq (ticket_of n) t ≡ false = grind (arith, nat_tests) in
      rw (high, free, other) (refl, λ i. Ended (Changed r.at p (same i)))

  pub close_is : (s : Reader) (turn : Turn) (base : List ReadEntry) → length r.words ≡ slice_index_or m.widths p 0 → is_free n ≡ true → ticket_of n ≡ t → base ≡ r.base ++ entry_with p t r.words ∷ []
      → ComesTo m f (Runs (record r { base = base })) s turn → ComesTo m f (after_read m (R.Reading p t) r n x) s turn
  close_is s turn base all free same made comes =
      let high : nat_lt (length r.words) (slice_index_or m.widths p 0) ≡ false = grind (arith, nat_tests) in
      let one : nat_eq (ticket_of n) t ≡ true = eq-eqb (ticket_of n) t same in
      let here : ComesTo m f (Runs (record r { base = r.base ++ entry_with p t r.words ∷ [] })) s turn = subst (λ (b : List ReadEntry). ComesTo m f (Runs (record r { base = b })) s turn) made comes in
      rw (high, free, one) here
