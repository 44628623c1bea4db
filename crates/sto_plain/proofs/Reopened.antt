-- Words whose passes are all idle are closed words, and closed words are kept after their reopening.
use Rattle.std.proofs.Common.{◌≡◌, ℕ, zero, suc, ℤ, List, [], ◌∷◌, length, get_or, sym, refl, subst, arith}
use mathlib.Core.Option.{some, some-injective, some-ne-none}
use lib.ListN.{get_elem?}
use Rattle.sto_version.specs.declared.Version.{Version}
use Rattle.sto_core.specs.declared.view.View.{View}
use Rattle.sto_core.specs.Lists.{Each}
use Rattle.sto_core.specs.History.{Validity}
use Rattle.sto_core.specs.Allowed.{IsIdle}
use Rattle.sto_core.specs.Core.{Core}
use Rattle.sto_core.specs.Closed.{ClosedWords, closed_words, live_view, reopened_from, AreClosed}
use Rattle.sto_core.specs.Reopened.{reopened_view}
use Rattle.sto_core.specs.Words.{core_shown}
use Rattle.sto_core.proofs.ClosedWords.{reopens}
use Rattle.sto_core.proofs.Parts.{at_place}
use Rattle.sto_core.proofs.Sums.{total-at}
use Rattle.sto_core.specs.Gathered.{spent_view}
use Rattle.sto_plain.specs.Passes.{view_at}
use Rattle.sto_plain.specs.Kept.{IsSeated, Kept}

-- what is kept of passes that are all idle are closed words
pub closes : (valid : Validity) (tickets : List ℕ) (clock : ℕ) (statuses : List ℕ) (versions : List Version)
    (contents : List (List ℤ)) (book : List View)
    → Kept valid tickets (core_shown clock statuses versions contents book)
    → length versions ≡ length contents → Each (λ (v : View). IsIdle v.phase) book
    → AreClosed valid (closed_words clock versions contents book)
closes valid tickets clock statuses versions contents book kept many idle =
    let first = at_place spent_view book 0 kept.some_pass in
    let live = (kept.seated 0 (view_at book 0) first).live in
    let sum = kept.rule.1.gathered in
    let part = total-at (λ (v : View). v.gathered) book 0 (view_at book 0) first in
    record {
      sizes = kept.sizes;
      opening = kept.opening;
      statuses = statuses;
      rule = kept.rule;
      idle = idle;
      many = many;
      some_pass = (omega arith);
    }

module _ (valid : Validity) (w : ClosedWords) (closed : AreClosed valid w) where
  abbrev one : View
  one = reopened_view (live_view w.views).sizes (live_view w.views).opening w.views

  one_seated : (pass : ℕ) (v : View) → get_elem? (one ∷ []) pass ≡ some v
      → IsSeated pass (get_or {A = ℕ} (0 ∷ []) pass 0) v
  one_seated zero v is =
      subst (IsSeated 0 0) (some-injective one v is) (record { number = refl; live = (omega arith); remembers = refl })
  one_seated (suc pass) v is = absurd (some-ne-none v (sym is))

  -- their reopening is kept
  reopened_kept : Kept valid (0 ∷ []) (reopened_from w)
  reopened_kept = record {
    sizes = (live_view w.views).sizes;
    opening = (live_view w.views).opening;
    rule = reopens valid w closed;
    some_pass = (omega arith);
    tickets_of_all = refl;
    seated = one_seated;
  }

-- the words after a reopening
pub reopened_words : (valid : Validity) (w : ClosedWords) (clock : ℕ) (statuses : List ℕ)
    (versions : List Version) (contents : List (List ℤ)) (before views : List View) (tickets : List ℕ)
    → closed_words clock versions contents before ≡ w → AreClosed valid w
    → statuses ≡ 0 ∷ [] → tickets ≡ 0 ∷ []
    → views ≡ reopened_view (live_view before).sizes (live_view before).opening before ∷ []
    → Kept valid tickets (core_shown clock statuses versions contents views)
    × (length versions ≡ length contents)
reopened_words valid w clock statuses versions contents before views tickets parts closed statuses_are
    tickets_are views_are =
    let closed' = subst (AreClosed valid) (sym parts) closed in
    let kept = reopened_kept valid (closed_words clock versions contents before) closed' in (
      subst (λ (z : List ℕ × Core). Kept valid z.0 z.1)
          (λ j. (sym tickets_are j, core_shown clock (sym statuses_are j) versions contents (sym views_are j)))
          kept,
      closed'.many,
    )
