-- How an extension goes on, as the plain data says it.
use Rattle.std.specs.Prelude.{Option, Some, None, if◌then◌else◌, nat_eq, nat_lt, not, Bool}
use Rattle.std.specs.List.{slice_get, list_all}
use Rattle.std.proofs.Common.{◌≡◌, ◌≢◌, ◌≤◌, ℕ, zero, suc, ℤ, true, false, List, [], ◌∷◌, ◌++◌, length, drop, slice_index_or, refl, ap, sym, ◌∙◌, subst, arith, eq-eqb}
use Rattle.std.proofs.lemmas.Bool.Decides.{nat_tests}
use Rattle.sto_item.specs.Observed.{Watched}
use Rattle.sto_model.specs.Run.{Behaviour}
use Rattle.sto_core.specs.Versions.{ticket_of, is_free}
use Rattle.sto_type.specs.Meaning.{Meaning}
use Rattle.sto_attempt_log.specs.Flat.{entry_with}
use Rattle.sto_attempt_log.specs.declared.read_entry.ReadEntry.{ReadEntry}
use Rattle.sto_attempt_log.specs.declared.read_phase.ReadPhase.TheVariants as R
use Rattle.sto_attempt_log.specs.declared.verdict.Turn.{Turn}
use Rattle.sto_attempt_log.specs.declared.verdict.Turn.TheVariants.{More, Ended}
use Rattle.sto_attempt_log.specs.declared.verdict.Verdict.TheVariants.{Locked, Changed}
use Rattle.sto_attempt_log.specs.Doing.{Reader, Runs, ComesTo, goes_on_to, goes_on_extending, after_read, ticket_read, words_of_part}

next_watch : (ws : List Watched) (i : ℕ) (w : Watched) → slice_get ws i ≡ Some w → (rest : List Watched) × (drop i ws ≡ w ∷ rest)
next_watch [] i w e = cc
next_watch (x ∷ ws) zero w e = (ws, let same : x ≡ w = cc in ap (λ (y : Watched). y ∷ ws) same)
next_watch (x ∷ ws) (suc i) w e = next_watch ws i w e

none_left : (ws : List Watched) (i : ℕ) → length ws ≤ i → drop i ws ≡ []
none_left [] zero l = refl
none_left [] (suc i) l = refl
none_left (x ∷ ws) zero l = absurd (omega (arith, l))
none_left (x ∷ ws) (suc i) l = none_left ws i (omega (arith, l))

module _ (m : Meaning) (f : Behaviour) (r : Reader) where
  -- to the next watch
  pub goes_seen_is : (w : Watched) → slice_get r.watches (length r.fresh) ≡ Some w → w.seen ≡ true → ComesTo m f (goes_on_extending r) (record r { phase = R.Rechecking w.part }) More
  goes_seen_is w e seen =
      let there = next_watch r.watches (length r.fresh) w e in
      subst (λ (l : List Watched). ComesTo m f (goes_on_to r l) (record r { phase = R.Rechecking w.part }) More) (sym there.1) (rw seen (refl, refl))

  pub goes_tested_is : (w : Watched) → slice_get r.watches (length r.fresh) ≡ Some w → w.seen ≡ false → ComesTo m f (goes_on_extending r) (record r { phase = R.Reopening w.part }) More
  goes_tested_is w e tested =
      let there = next_watch r.watches (length r.fresh) w e in
      subst (λ (l : List Watched). ComesTo m f (goes_on_to r l) (record r { phase = R.Reopening w.part }) More) (sym there.1) (rw tested (refl, refl))

  -- to the number of the extension, and on
  pub goes_over_is : (s : Reader) (turn : Turn) (base fresh : List ReadEntry) → length r.watches ≤ length r.fresh → base ≡ r.fresh → fresh ≡ [] → ComesTo m f (Runs (record r { at = r.bound; base = base; fresh = fresh })) s turn
      → ComesTo m f (goes_on_extending r) s turn
  goes_over_is s turn base fresh last same none comes =
      subst (λ (l : List Watched). ComesTo m f (goes_on_to r l) s turn) (sym (none_left r.watches (length r.fresh) last))
      (subst (λ (b : List ReadEntry). ComesTo m f (Runs (record r { at = r.bound; base = b; fresh = [] })) s turn) same
      (subst (λ (b : List ReadEntry). ComesTo m f (Runs (record r { at = r.bound; base = base; fresh = b })) s turn) none comes))

  module _ (p n : ℕ) (x : ℤ) where
    -- a part that was seen is read anew
    pub recheck_locked_is : is_free n ≡ false → ComesTo m f (after_read m (R.Rechecking p) r n x) (record r { phase = R.Over }) (Ended (Locked r.at p))
    recheck_locked_is busy = rw busy (refl, refl)

    pub recheck_changed_is : (u : ℕ) → is_free n ≡ true → u ≡ ticket_of n → u ≢ ticket_read r p → ComesTo m f (after_read m (R.Rechecking p) r n x) (record r { phase = R.Over }) (Ended (Changed r.at p u))
    recheck_changed_is u free same newer =
        let other : nat_eq (ticket_of n) (ticket_read r p) ≡ false = grind (arith, nat_tests) in
        rw (free, other) (refl, λ i. Ended (Changed r.at p (same i)))

    pub recheck_is : (s : Reader) (turn : Turn) (fresh : List ReadEntry) → is_free n ≡ true → ticket_of n ≡ ticket_read r p → fresh ≡ r.fresh ++ entry_with p (ticket_read r p) (words_of_part r p) ∷ []
        → ComesTo m f (goes_on_extending (record r { fresh = fresh })) s turn → ComesTo m f (after_read m (R.Rechecking p) r n x) s turn
    recheck_is s turn fresh free same made comes =
        let one : nat_eq (ticket_of n) (ticket_read r p) ≡ true = eq-eqb (ticket_of n) (ticket_read r p) same in
        let here : ComesTo m f (goes_on_extending (record r { fresh = r.fresh ++ entry_with p (ticket_read r p) (words_of_part r p) ∷ [] })) s turn =
        subst (λ (l : List ReadEntry). ComesTo m f (goes_on_extending (record r { fresh = l })) s turn) made comes in
        rw (free, one) here
