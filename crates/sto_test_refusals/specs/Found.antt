-- What the last attempt of a pass found, by the findings of its start.
use Rattle.std.specs.Prelude.{◌≡◌, ℕ, true}
use Rattle.sto_type.specs.Meaning.{Meaning, IsPartOfObject}
use Rattle.sto_core.specs.Lists.{Among}
use Rattle.sto_core.specs.Versions.{is_free}
use Rattle.sto_core.specs.declared.view.Finding.{Finding}
use Rattle.sto_core.specs.declared.view.View.{View}
use Rattle.sto_history.specs.Told.{IsLockedFinding}
use Rattle.sto_action.specs.declared.cause.AbortCause.{AbortCause}
use Rattle.sto_action.specs.declared.cause.AbortCause.TheVariants.{Locked, Changed}

-- all that it found is such
abbrev pub HasFoundOnly : View → (Finding → Type 0) → Type 0
HasFoundOnly w P = (f : Finding) → Among f w.findings → f.start ≡ w.starts → P f

-- the object that a cause names
abbrev pub object_of : AbortCause → ℕ
object_of (Locked object) = object
object_of (Changed object) = object

-- it found nothing of this object
abbrev pub HasFoundElsewhere : Meaning → View → ℕ → Type 0
HasFoundElsewhere m w object = HasFoundOnly w (λ f. IsPartOfObject m.homes object f.part → ⊥)

-- it found parts that were free, and parts that another pass had locked
abbrev pub HasFoundFree : View → Type 0
HasFoundFree w = HasFoundOnly w (λ f. is_free f.version ≡ true)

abbrev pub HasFoundLocked : View → Type 0
HasFoundLocked w = HasFoundOnly w IsLockedFinding
