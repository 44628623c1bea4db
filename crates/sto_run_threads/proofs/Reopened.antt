-- Words that are closed by one pass, and reopened.
use Rattle.std.specs.Prelude.{nat_lt, if◌then◌else◌}
use Rattle.std.proofs.Common.{◌≡◌, ℕ, ◌+◌, ◌*◌, ◌<◌, List, [], ◌∷◌, sym, ap, ◌∙◌, subst, arith, Bool, true}
use Rattle.std.proofs.lemmas.Bool.Decides.{nat_tests}
use Rattle.sto_core.specs.declared.view.View.{View}
use Rattle.sto_core.specs.Core.{Core}
use Rattle.sto_core.specs.Closed.{ClosedWords, live_view, reopened_from}
use Rattle.sto_core.specs.Reopened.{reopened_view}
use Rattle.sto_plain.specs.Passes.{view_of}
use Rattle.sto_history.specs.Records.{Record}
use Rattle.sto_history.proofs.Growing.{reopened_grows}
use Rattle.sto_serializability.proofs.Gathering.{reopened_so_far}
use Rattle.sto_run_threads.specs.Worked.{HasWorked}
use Rattle.sto_run_threads.proofs.Found.{all_found_later}
use Rattle.sto_run_threads.specs.Accounts.{HasAll}
use Rattle.sto_run_threads.proofs.Accounts.{reopened_all}
use Rattle.sto_transaction.proofs.Resting.{reopened_rests}
use Rattle.sto_run_threads.specs.Plans.{Plan, Rests, pace_of}

live_is : (v : View) → 0 < v.gathered → live_view (v ∷ []) ≡ v
live_is v l = let e : nat_lt 0 v.gathered ≡ true = grind (arith, nat_tests, l) in ap (λ (b : Bool). if b then v else live_view []) e

-- the one pass of reopened words
pub reopened_pass : (w : ClosedWords) (v : View) → w.views ≡ v ∷ [] → 0 < v.gathered → view_of (reopened_from w) 0 ≡ reopened_view v.sizes v.opening (v ∷ [])
reopened_pass w v is live =
    ap (λ (vs : List View). reopened_view (live_view vs).sizes (live_view vs).opening vs) is
    ∙ ap (λ (u : View). reopened_view u.sizes u.opening (v ∷ [])) (live_is v live)

-- the view of the pass that was given back
pub back_at : (q p : Core) (pass : ℕ) → q ≡ p → pass ≡ 0 → view_of q 0 ≡ view_of p pass
back_at q p pass same zero = ap (λ (c : Core). view_of c 0) same ∙ ap (λ (n : ℕ). view_of p n) (sym zero)

-- what was told of the pass that was closed
pub record IsReopened (plan : Plan) (need : ℕ) (u : View) (rs : List Record) : Type 0 where
  pub rests : Rests plan u
  pub worked : HasWorked plan u rs
  pub all : HasAll need 1 u rs

pub reopened_whole : (plan : Plan) (need passes : ℕ) (w : ClosedWords) (v : View) (rs : List Record) (p : Core)
    → p ≡ reopened_from w → w.views ≡ v ∷ [] → 0 < v.gathered → Rests plan v → HasWorked plan v rs → HasAll need passes v rs
    → IsReopened plan need (view_of p 0) rs
reopened_whole plan need passes w v rs p of is live rests worked all =
    subst (λ (u : View). IsReopened plan need u rs) (sym (ap (λ (c : Core). view_of c 0) of ∙ reopened_pass w v is live)) (record {
      rests = reopened_rests plan.meaning plan.sizes v rests;
      worked = record {
        so_far = reopened_so_far plan.meaning plan.file plan.tries v.sizes v.opening v rs worked.so_far;
        found = all_found_later v (reopened_view v.sizes v.opening (v ∷ [])) rs (reopened_grows v.sizes v.opening v) worked.found;
        under_way = worked.under_way;
        paced = (let all = ap (λ (n : ℕ). n * pace_of plan) (nothing v.starts) in let paced = worked.paced in omega (arith, all, paced));
      };
      all = reopened_all need passes v.sizes v.opening v rs all;
    })
  where
    nothing : (n : ℕ) → n + 0 ≡ n
    nothing n = omega arith
