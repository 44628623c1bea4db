-- What one attempt, which has ended, adds to what its pass knows.
use Rattle.std.specs.Prelude.{◌≡◌, ◌≢◌, ◌≤◌, ◌+◌, ℕ}
use Rattle.sto_model.specs.Run.{Behaviour}
use Rattle.sto_type.specs.Meaning.{Meaning}
use Rattle.sto_core.specs.declared.view.Entry.{Entry}
use Rattle.sto_core.specs.declared.view.Fate.TheVariants.{Pending}
use Rattle.sto_core.specs.declared.view.View.{View}
use Rattle.sto_core.specs.Lists.{Each, Among}
use Rattle.sto_history.specs.Records.{TransactionPlace, Record, wrote_with}
use Rattle.sto_history.specs.Told.{IsFound}
use Rattle.sto_history.specs.Counted.{times_committed}
use Rattle.sto_history.specs.Added.{Grows, IsAdded}

-- an attempt of a transaction that does f led from the view v to the view w, and this is its record
pub record HasTried (m : Meaning) (v w : View) (f : Behaviour) (place : TransactionPlace) (r : Record) : Type 0 where
  pub added : IsAdded m v w f place r
  pub grows : Grows v w
  pub kept : (e : Entry) → Among e v.entries → Among e w.entries
  pub committed : (t : ℕ) → times_committed t w.entries ≡ times_committed t v.entries + wrote_with t r.verdict
  pub settled : Each (λ (e : Entry). e.fate ≢ Pending) w.entries
  pub starts : w.starts ≡ v.starts + 1
  pub draws : v.draws ≤ w.draws + 1
  pub found : IsFound w w.starts r.verdict
