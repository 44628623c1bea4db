-- What is noted of a pass: the last of the deeds that have led on.
use Rattle.std.specs.Prelude.{◌≡◌, refl, ℕ, List, [], ◌∷◌, ◌++◌, Option, Some}
use Rattle.std.proofs.Common.{◌∙◌, ap, subst}
use Rattle.sto_core.specs.declared.view.View.{View}
use Rattle.sto_core.specs.History.{Validity}
use Rattle.sto_trace.specs.Deeds.{IsDone}
use Rattle.sto_trace.specs.declared.Deed.{Deed}

-- these deeds lead from a view of a pass to another, one after the other
abbrev pub Lead : Validity → ℕ → List Deed → View → View → Type 0
Lead valid passes [] v w = w ≡ v
Lead valid passes (deed ∷ deeds) v w = (u : View) × IsDone valid passes deed v u × Lead valid passes deeds u w

-- the last deed; where there is none, what was noted before
abbrev pub last_of : Option Deed → List Deed → Option Deed
last_of noted [] = noted
last_of noted (deed ∷ deeds) = last_of (Some deed) deeds

-- some deeds have led on, and the last of them is noted
pub record Notes (valid : Validity) (passes : ℕ) (v w : View) (before noted : Option Deed) : Type 0 where
  pub deeds : List Deed
  pub lead : Lead valid passes deeds v w
  pub last : noted ≡ last_of before deeds

pub notes_nothing : (valid : Validity) (passes : ℕ) (v : View) (noted : Option Deed) → Notes valid passes v v noted noted
notes_nothing valid passes v noted = record { deeds = []; lead = refl; last = refl }

lead_on : (valid : Validity) (passes : ℕ) (ds es : List Deed) (v u w : View) → Lead valid passes ds v u → Lead valid passes es u w → Lead valid passes (ds ++ es) v w
lead_on valid passes [] es v u w h k = subst (λ (x : View). Lead valid passes es x w) h k
lead_on valid passes (d ∷ ds) es v u w h k = (h.0, h.1, lead_on valid passes ds es h.0 u w h.2 k)

last_on : (noted : Option Deed) (ds es : List Deed) → last_of (last_of noted ds) es ≡ last_of noted (ds ++ es)
last_on noted [] es = refl
last_on noted (d ∷ ds) es = last_on (Some d) ds es

-- some more have led on
pub notes_further : (valid : Validity) (passes later : ℕ) (v u w : View) (before noted last : Option Deed) → later ≡ passes
    → Notes valid passes v u before noted → Notes valid later u w noted last → Notes valid passes v w before last
notes_further valid passes later v u w before noted last same h k = record {
  deeds = h.deeds ++ k.deeds;
  lead = lead_on valid passes h.deeds k.deeds v u w h.lead (subst (λ (n : ℕ). Lead valid n k.deeds u w) same k.lead);
  last = k.last ∙ ap (λ (o : Option Deed). last_of o k.deeds) h.last ∙ last_on before h.deeds k.deeds;
}
