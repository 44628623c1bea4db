-- Words that one pass closes, and opens again, hold valid contents.
use Rattle.std.specs.Prelude.{◌↔◌, nat_lt, if◌then◌else◌}
use Rattle.std.proofs.Common.{◌≡◌, ℕ, zero, suc, ◌<◌, ◌≤◌, List, [], ◌∷◌, length, take, drop, Bool, true, refl, sym, ap, ◌∙◌, subst, arith, le_refl}
use Rattle.std.proofs.lemmas.Bool.Decides.{nat_tests}
use Rattle.std.proofs.lemmas.List.{length-map}
use mathlib.Core.Option.{some}
use lib.ListN.{get_elem?}
use Rattle.sto_model.specs.Run.{State}
use Rattle.sto_type.specs.Known.{Parts}
use Rattle.sto_type.specs.Meaning.{Meaning, IsLawful}
use Rattle.sto_core.specs.declared.view.View.{View}
use Rattle.sto_core.specs.Core.{Core}
use Rattle.sto_core.specs.Closed.{ClosedWords, live_view, reopened_from}
use Rattle.sto_core.specs.History.{Validity, contents_as_of}
use Rattle.sto_core.specs.Lists.{Each}
use Rattle.sto_core.specs.Reopened.{reopened_view}
use Rattle.sto_core.specs.Rule.{Serves, Fits, Settled, world_of}
use Rattle.sto_core.proofs.Lists.{each_one}
use Rattle.sto_core.proofs.Valid.{all_valid}
use Rattle.sto_plain.specs.Kept.{AreUpToDate}
use Rattle.sto_history.proofs.Progress.{committed_append}
use Rattle.sto_history.specs.History.{Transaction, LeadTo}
use Rattle.sto_history.specs.Done.{AreAllDone}
use Rattle.sto_history.proofs.Growing.{reopened_grows}
use Rattle.sto_history.proofs.Doing.{all_later}
use Rattle.sto_history.proofs.Serial.{lead_to}
use Rattle.sto_transaction.specs.Resting.{IsAtRest}

live_is : (v : View) → 0 < v.gathered → live_view (v ∷ []) ≡ v
live_is v l = let e : nat_lt 0 v.gathered ≡ true = grind (arith, nat_tests, l) in ap (λ (b : Bool). if b then v else live_view []) e

-- the one pass of reopened words
pub one_view : (w : ClosedWords) (v : View) (c : Core) → c ≡ reopened_from w → w.views ≡ v ∷ [] → 0 < v.gathered → c.views ≡ reopened_view v.sizes v.opening (v ∷ []) ∷ []
one_view w v c of is live =
    ap (λ (d : Core). d.views) of
    ∙ ap (λ (vs : List View). reopened_view (live_view vs).sizes (live_view vs).opening vs ∷ []) is
    ∙ ap (λ (u : View). reopened_view u.sizes u.opening (v ∷ []) ∷ []) (live_is v live)

pub one_pass : (w : ClosedWords) (c : Core) → c ≡ reopened_from w → length c.statuses ≡ 1
one_pass w c of = ap (λ (d : Core). length d.statuses) of

pub none_held : (v : View) (views : List View) → views ≡ reopened_view v.sizes v.opening (v ∷ []) ∷ [] → Each (λ (u : View). u.held ≡ []) views
none_held v views is = subst (Each (λ (u : View). u.held ≡ [])) (sym is) (each_one (λ (u : View). u.held ≡ []) (reopened_view v.sizes v.opening (v ∷ [])) refl)

module _ (valid : Validity) (m : Meaning) (sizes : List ℕ) (v : View) (rests : IsAtRest m sizes v) (same : (d : Parts) → m.valid d ↔ valid sizes d)
    (c : Core) (views : c.views ≡ reopened_view v.sizes v.opening (v ∷ []) ∷ []) (pass : length c.statuses ≡ 1) (contents : Parts) (now : AreUpToDate valid c contents) where
  u : View
  u = reopened_view v.sizes v.opening (v ∷ [])

  there : get_elem? c.views 0 ≡ some (reopened_view v.sizes v.opening (v ∷ []))
  there = ap (λ (vs : List View). get_elem? vs 0) views

  serves : Serves valid now.sizes now.opening (length c.statuses) (reopened_view v.sizes v.opening (v ∷ []))
  serves =
      let fits : Fits valid now.sizes now.opening (world_of now.past c) (Settled c.views) (reopened_view v.sizes v.opening (v ∷ [])) = now.rule.each 0 (reopened_view v.sizes v.opening (v ∷ [])) there in
      fits.serves (omega arith)

  pub last_valid : m.valid contents
  last_valid = subst m.valid (sym now.are)
      ((same (contents_as_of now.opening now.past.log c.clock)).1
      (subst (λ (s : List ℕ). valid s (contents_as_of now.opening now.past.log c.clock)) (sym serves.same_sizes ∙ rests.sized)
      (all_valid now.rule c.clock (le_refl c.clock))))

  reopened_done : (ts : List Transaction) → AreAllDone m v ts → AreAllDone m (reopened_view v.sizes v.opening (v ∷ [])) ts
  reopened_done ts h = record {
    entries = λ n. (let e = committed_append n v.entries [] in let a = h.entries n in omega (arith, e, a));
    each = all_later m v (reopened_view v.sizes v.opening (v ∷ [])) (reopened_grows v.sizes v.opening v) ts h.each;
  }

  -- all that the pass was told of is a serial history, which ends with the rows of the contents
  pub last_history : IsLawful m → (rows : State) → rows ≡ m.rows contents → (ts : List Transaction) → AreAllDone m v ts → LeadTo m.machines ts rows
  last_history lawful rows is ts done =
      lead_to now.rule 0 (reopened_view v.sizes v.opening (v ∷ [])) there (sym pass) m lawful
      (λ d. subst (λ (s : List ℕ). m.valid d ↔ valid s d) (sym rests.sized ∙ serves.same_sizes) (same d))
      (sym rests.opened ∙ serves.same_opening) ts (reopened_done ts done) rows (is ∙ ap m.rows now.are)
