-- One run of a file, as it is made.
use Rattle.std.specs.Prelude.{length}
use Rattle.std.specs.List.{All, AllByRecursion}
use Rattle.std.proofs.Common.{◌≡◌, ◌<◌, ℕ, List, ◌++◌, map, refl, subst, zero-add}
use Rattle.sto_store.specs.declared.objects.Objects.{Objects}
use Rattle.sto_store.specs.ObjectShapes.{AreOf}
use Rattle.sto_store.proofs.ObjectMeanings.{meaning_of, objects_mean}
use Rattle.sto_lang.specs.declared.file.Turns.{Turns}
use Rattle.sto_lang.specs.Objects.{shapes_of}
use Rattle.sto_lang.specs.Scripts.{File}
use Rattle.sto_journal.specs.declared.journal.Journal.{Journal}
use Rattle.sto_run.specs.Meanings.{updating_by}
use Rattle.sto_run.specs.Stores.{means}
use Rattle.sto_run.specs.Lawful.{IsLawfulJournal}
use Rattle.sto_run.proofs.RunJournals.{lawful_run}
use Rattle.sto_explore.specs.Legs.{IsAmong}
use Rattle.sto_explore.specs.declared.leg.Leg.{Leg}
use Rattle.sto_run_schedules.specs.Telling.{busy_threads}
use Rattle.sto_run_schedules.proofs.BusyThreads.{busy_inside}
use Rattle.sto_run_schedules.proofs.Inside.{entries_inside}

-- each entry of the schedule of such a run is of a thread of the file
pub inside_file : (file : File) (busy : List ℕ) (entries : List Turns) (decided : List Leg) (order : List ℕ) → busy ≡ busy_threads file
    → map (λ (e : Turns). e.thread) entries ≡ map (λ (leg : Leg). leg.thread) decided ++ order
    → AllByRecursion (λ (leg : Leg). IsAmong busy leg.thread) decided → AllByRecursion (IsAmong busy) order
    → All (λ (e : Turns). e.thread < length file.threads) entries
inside_file file busy entries decided order are is legs threads =
    entries_inside (length file.threads) busy (λ n h. busy_inside 0 (length file.threads) file.threads n (zero-add (length file.threads)) (subst (λ (l : List ℕ). IsAmong l n) are h))
    entries decided order is legs threads

-- a journal that is lawful by what the objects mean is so by what their shapes mean
pub lawful_by_shapes : (objects : Objects) (file : File) (tries : ℕ) (journal : Journal) → AreOf objects (shapes_of file.declarations)
    → IsLawfulJournal (updating_by (λ shapes. meaning_of objects)) file tries journal → IsLawfulJournal (updating_by means) file tries journal
lawful_by_shapes objects file tries journal kinds =
    lawful_run objects objects file file tries tries journal (objects_mean objects (shapes_of file.declarations) kinds) (refl, refl, refl)
