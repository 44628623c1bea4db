-- A journal that is lawful for the work of a run and what its objects mean is so for the file and what its shapes mean.
use Rattle.std.proofs.Common.{◌≡◌, ℕ, ap, ◌∙◌, subst}
use Rattle.sto_lang.specs.Objects.{shapes_of}
use Rattle.sto_lang.specs.Scripts.{File}
use Rattle.sto_journal.specs.declared.journal.Journal.{Journal}
use Rattle.sto_store.specs.declared.objects.Objects.{Objects}
use Rattle.sto_serializability.specs.Meanings.{updating_by}
use Rattle.sto_store.specs.Stores.{means}
use Rattle.sto_run.specs.Lawful.{IsLawfulJournal}
use Rattle.sto_store.proofs.ObjectMeanings.{meaning_of}
use Rattle.sto_run.proofs.Meant.{lawful_meant}

pub lawful_run :
    (made x : Objects) (f g : File) (t n : ℕ) (j : Journal) → meaning_of made ≡ means (shapes_of g.declarations) → (f ≡ g) × (x ≡ made) × (t ≡ n)
    → IsLawfulJournal (updating_by (λ shapes. meaning_of x)) f t j → IsLawfulJournal (updating_by means) g n j
lawful_run made x f g t n j mean same h =
    lawful_meant (meaning_of x) means g n j (ap meaning_of same.1 ∙ mean)
    (subst (λ (k : ℕ). IsLawfulJournal (updating_by (λ shapes. meaning_of x)) g k j) same.2
    (subst (λ (file : File). IsLawfulJournal (updating_by (λ shapes. meaning_of x)) file t j) same.0 h))
