-- What a step leaves as it was of its pass.
use Rattle.std.proofs.Common.{◌≡◌, ◌<◌, ℕ, ℤ, List, [], sym, ap, ◌∙◌, subst}
use Rattle.atomic_table.specs.Table.{Me}
use Rattle.sto_core.specs.declared.view.View.{View}
use Rattle.sto_core.specs.History.{Validity}
use Rattle.sto_core.specs.Event.{Event, after}
use Rattle.sto_core.specs.Allowed.{Allowed}
use Rattle.sto_core.specs.Remembered.{Remembers, remembered}
use Rattle.sto_core.proofs.Lasting.{lasts}
use Rattle.sto_core.proofs.Remembering.{remembers_after}
use Rattle.sto_table.specs.declared.stance.Stance.{Stance}
use Rattle.sto_table.specs.Steps.{number_told, value_told, Plays}

-- what a pass that knew m and knows w has kept through the event e, which found n
pub record Stays (valid : Validity) (e : Event) (m : Me (Unit {0}) Stance) (n : ℕ) (w : Me (Unit {0}) Stance) : Type 0
  where
    pub bare : m.1 ≡ [] → w.1 ≡ []
    pub live : 0 < m.0.view.gathered → 0 < w.0.view.gathered
    pub opening : w.0.view.opening ≡ m.0.view.opening
    pub sizes : w.0.view.sizes ≡ m.0.view.sizes
    pub gathered : w.0.view.gathered ≡ m.0.view.gathered
    pub number : w.0.view.number ≡ m.0.view.number
    pub remembers : (ticket : ℕ) → Allowed valid e m.0.view → Remembers ticket m.0.view.phase
        → Remembers (remembered e (number_told e n) ticket) w.0.view.phase

pub stays : (valid : Validity) (passes : ℕ) (e : Event) (m : Me (Unit {0}) Stance) (n : ℕ) (w : Me (Unit {0}) Stance)
    → Plays valid passes e m n w → Stays valid e m n w
stays valid passes e m n w plays =
    let v = after e m.0.view (number_told e n) (value_told e n) in
    let is : w.0.view ≡ v = ap (λ (z : Me (Unit {0}) Stance). z.0.view) plays.0 in
    let k = lasts e m.0.view (number_told e n) (value_told e n) in record {
      bare = λ bare. ap (λ (z : Me (Unit {0}) Stance). z.1) plays.0 ∙ bare;
      live = λ live. subst (λ (i : ℕ). 0 < i) (sym (ap (λ (u : View). u.gathered) is ∙ k.gathered)) live;
      opening = ap (λ (u : View). u.opening) is ∙ k.opening;
      sizes = ap (λ (u : View). u.sizes) is ∙ k.sizes;
      gathered = ap (λ (u : View). u.gathered) is ∙ k.gathered;
      number = ap (λ (u : View). u.number) is ∙ k.number;
      remembers = λ ticket may r.
          subst (λ (u : View). Remembers (remembered e (number_told e n) ticket) u.phase) (sym is)
          (remembers_after ticket valid e m.0.view (number_told e n) (value_told e n) may r);
    }
