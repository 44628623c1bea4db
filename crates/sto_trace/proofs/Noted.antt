-- Deeds that lead on, one after the other.
use Rattle.std.specs.Prelude.{Option, Some}
use Rattle.std.proofs.Common.{◌≡◌, ℕ, ◌+◌, List, [], ◌∷◌, length, ℤ, refl, sym, ap, subst, arith}
use Rattle.sto_core.specs.declared.view.View.{View}
use Rattle.sto_core.specs.Event.{Event}
use Rattle.sto_core.specs.History.{Validity}
use Rattle.sto_core.specs.Tells.{Tells}
use Rattle.sto_trace.specs.Deeds.{IsDone, deed_of}
use Rattle.sto_trace.specs.Noted.{Lead, last_of, Notes}
use Rattle.sto_trace.specs.declared.Deed.{Deed}

-- one deed has
pub notes_one : (valid : Validity) (passes : ℕ) (e : Event) (n : ℕ) (x : ℤ) (v w : View) (before : Option Deed)
    → Tells valid passes e v n x w → Notes valid passes v w before (Some (deed_of e n x))
notes_one valid passes e n x v w before tells = record {
  deeds = deed_of e n x ∷ [];
  lead = (w, record { event = e; number = n; value = x; tells = tells; did = refl }, refl);
  last = refl;
}

steps_made : (valid : Validity) (passes : ℕ) (ds : List Deed) (v w : View) → Lead valid passes ds v w → w.steps ≡ v.steps + length ds
steps_made valid passes [] v w h = let e = ap (λ (x : View). x.steps) h in omega (arith, e)
steps_made valid passes (d ∷ ds) v w h = let e = h.1.tells.counts in let k = steps_made valid passes ds h.0 w h.2 in omega (arith, e, k)

-- where there was one step, one deed led on, and it is noted
pub noted_one : (valid : Validity) (passes : ℕ) (v w : View) (before noted : Option Deed) → w.steps ≡ v.steps + 1
    → Notes valid passes v w before noted → (deed : Deed) × IsDone valid passes deed v w × (noted ≡ Some deed)
noted_one valid passes v w before noted one h = by h.deeds h.lead h.last
  where
    by : (ds : List Deed) → Lead valid passes ds v w → noted ≡ last_of before ds → (deed : Deed) × IsDone valid passes deed v w × (noted ≡ Some deed)
    by [] lead last = absurd (let k = steps_made valid passes [] v w lead in omega (arith, one, k))
    by (d ∷ []) lead last = (d, subst (λ (x : View). IsDone valid passes d v x) (sym lead.2) lead.1, last)
    by (d ∷ e ∷ ds) lead last = absurd (let k = steps_made valid passes (d ∷ e ∷ ds) v w lead in omega (arith, one, k))
