-- With no try to abort, no attempt is aborted.
use Rattle.std.specs.List.{sum_by}
use Rattle.std.proofs.Common.{◌≡◌, ℕ, ◌≤◌, List, [], ◌∷◌, map, refl, arith, cond, ◌==◌, ◌&&◌}
use Rattle.std.proofs.lemmas.Bool.Decides.{nat_tests}
use Rattle.std.proofs.lemmas.List.Sums.{sum_by-cons}
use Rattle.sto_lang.specs.Scripts.{File}
use Rattle.sto_report_spec.specs.Orders.{TransactionPlace}
use Rattle.sto_report_spec.specs.Aborts.{Abort}
use Rattle.sto_report_spec.specs.LawfulAborts.{count_at}
use Rattle.sto_report_spec.specs.Updated.{Updating}
use Rattle.sto_journal.specs.declared.journal.AbortLine.{AbortLine}
use Rattle.sto_journal.specs.declared.journal.Journal.{Journal}
use Rattle.sto_journal.specs.Journals.{abort}
use Rattle.sto_type.specs.Meaning.{Meaning}
use Rattle.sto_core.specs.declared.view.View.{View}
use Rattle.sto_history.specs.Records.{Record}
use Rattle.sto_history.specs.Counted.{aborted_times}
use Rattle.sto_serializability.specs.Finished.{AreFinished}
use Rattle.sto_run.specs.Lawful.{IsLawfulJournal}

abbrev hit : TransactionPlace → Abort → ℕ
hit place a = cond ((a.place.0 == place.0) && (a.place.1 == place.1)) 1 0

own_hit : (a : Abort) → hit a.place a ≡ 1
own_hit a = grind (arith, nat_tests)

pub no_aborts : (u : Updating) (file : File) (j : Journal) → IsLawfulJournal u file 0 j → j.aborts.items ≡ []
no_aborts u file j lawful = by j.aborts.items lawful.aborts.few
  where
    by : (aborts : List AbortLine) → ((place : TransactionPlace) → count_at place (map (abort file.declarations) aborts) ≤ 0) → aborts ≡ []
    by [] few = refl
    by (a ∷ aborts) few =
        let told : Abort = abort file.declarations a in
        let none = few told.place in
        let sum = sum_by-cons (hit told.place) told (map (abort file.declarations) aborts) in
        let one = own_hit told in absurd (omega (arith, none, sum, one))

-- the records of a finished run without an aborted attempt are those of one with no try to abort
pub never_aborted : (m : Meaning) (file : File) (tries : ℕ) (v : View) (rs : List Record) → AreFinished m file tries v rs → ((place : TransactionPlace) → aborted_times place rs ≡ 0) → AreFinished m file 0 v rs
never_aborted m file tries v rs h none = record { order = h.order; threads = h.threads; few = λ place. (let k = none place in omega (arith, k)); handed = λ p q own low used. none q; tickets = h.tickets; each = h.each }
