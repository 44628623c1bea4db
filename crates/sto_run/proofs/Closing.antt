-- The words of a finished run have one pass, which knows all.
use Rattle.std.specs.Prelude.{◌↔◌}
use Rattle.std.proofs.Common.{◌≡◌, ℕ, ◌+◌, ◌<◌, List, [], ◌∷◌, length, refl, sym, ap, ◌∙◌, subst, arith}
use mathlib.Core.Option.{some}
use lib.ListN.{get_elem?}
use Rattle.sto_type.specs.Known.{Parts}
use Rattle.sto_type.specs.Meaning.{Meaning}
use Rattle.sto_core.specs.declared.view.View.{View}
use Rattle.sto_core.specs.History.{Contents, Validity}
use Rattle.sto_core.specs.Core.{Core}
use Rattle.sto_core.specs.Lists.{Each}
use Rattle.sto_core.proofs.Lists.{each_one}
use Rattle.sto_core.specs.Rule.{Serves, Fits, Settled, total, world_of}
use Rattle.sto_plain.specs.Kept.{AreUpToDate}
use Rattle.sto_plain.specs.Passes.{view_at, view_of}
use Rattle.sto_transaction.specs.Resting.{IsAtRest}
use Rattle.sto_serializability.proofs.Journal.{IsClosed}

pub only_view : (views : List View) → length views ≡ 1 → views ≡ view_at views 0 ∷ []
only_view [] e = absurd (omega (arith, e))
only_view (v ∷ []) e = refl
only_view (v ∷ w ∷ views) e = absurd (omega (arith, e))

pub none_held : (views : List View) → length views ≡ 1 → (view_at views 0).held ≡ [] → Each (λ (v : View). v.held ≡ []) views
none_held views one h = subst (Each (λ (v : View). v.held ≡ [])) (sym (only_view views one)) (each_one (λ (v : View). v.held ≡ []) (view_at views 0) h)

pub closed_words : (valid : Validity) (m : Meaning) (sizes : List ℕ) (c : Core) (contents : Contents)
    → ((d : Parts) → m.valid d ↔ valid sizes d) → length c.views ≡ 1 → length c.statuses ≡ 1 → IsAtRest m sizes (view_of c 0)
    → (now : AreUpToDate valid c contents) → IsClosed valid now.sizes now.opening now.past c (view_of c 0) m
closed_words valid m sizes c contents same one_view one_pass rests now =
    let only : c.views ≡ view_of c 0 ∷ [] = only_view c.views one_view in
    let there : get_elem? c.views 0 ≡ some (view_of c 0) = ap (λ (views : List View). get_elem? views 0) only in
    let fits : Fits valid now.sizes now.opening (world_of now.past c) (Settled c.views) (view_of c 0) = now.rule.each 0 (view_of c 0) there in
    let gathered = ap (total (λ (v : View). v.gathered)) only in
    let all = now.rule.gathered in
    let whole : (view_of c 0).gathered ≡ length c.statuses = omega (arith, gathered, all) in
    let serves : Serves valid now.sizes now.opening (length c.statuses) (view_of c 0) = fits.serves (omega (arith, whole, one_pass)) in
    record {
      rule = now.rule;
      seat = 0;
      there = there;
      whole = whole;
      same_valid = λ d. subst (λ (s : List ℕ). m.valid d ↔ valid s d) (sym rests.sized ∙ serves.same_sizes) (same d);
      same_opening = sym rests.opened ∙ serves.same_opening;
    }
