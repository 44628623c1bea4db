-- Passes stay at rest where they are opened, gathered and reopened.
use Rattle.std.proofs.Common.{◌≡◌, ℕ, List, [], ◌∷◌, refl, sym}
use mathlib.Core.Option.{some-ne-none}
use Rattle.sto_type.specs.Meaning.{Meaning}
use Rattle.sto_core.specs.declared.view.Entry.{Entry}
use Rattle.sto_core.specs.declared.view.Fate.TheVariants.{Pending}
use Rattle.sto_core.specs.declared.view.View.{View}
use Rattle.sto_core.specs.History.{Contents}
use Rattle.sto_core.specs.Gathered.{gathered_into}
use Rattle.sto_core.specs.Opened.{opened_view}
use Rattle.sto_core.specs.Reopened.{reopened_view}
use Rattle.sto_core.proofs.Lists.{each_append}
use Rattle.sto_transaction.specs.Resting.{IsAtRest}

pub opened_rests : (m : Meaning) (sizes : List ℕ) (opening : Contents) (number : ℕ) → opening ≡ m.opened → IsAtRest m sizes (opened_view sizes opening number)
opened_rests m sizes opening number opened = record { idle = tt; held = refl; settled = λ j x at. absurd (some-ne-none x (sym at)); sized = refl; opened = opened }

pub gathered_rests : (m : Meaning) (sizes : List ℕ) (v u : View) → IsAtRest m sizes v → IsAtRest m sizes u → IsAtRest m sizes (gathered_into v u)
gathered_rests m sizes v u h k = record { idle = tt; held = refl; settled = each_append (λ (e : Entry). e.fate ≡ Pending → ⊥) v.entries u.entries h.settled k.settled; sized = h.sized; opened = h.opened }

pub reopened_rests : (m : Meaning) (sizes : List ℕ) (v : View) → IsAtRest m sizes v → IsAtRest m sizes (reopened_view v.sizes v.opening (v ∷ []))
reopened_rests m sizes v h = record {
  idle = tt;
  held = refl;
  settled = each_append (λ (e : Entry). e.fate ≡ Pending → ⊥) v.entries [] h.settled (λ j x at. absurd (some-ne-none x (sym at)));
  sized = h.sized;
  opened = h.opened;
}
