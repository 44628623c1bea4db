-- A run of a file by a schedule to the ends of its threads.
use Rattle.std.specs.Prelude.{Some}
use Rattle.std.specs.List.{flat_map}
use Rattle.std.proofs.Common.{◌≡◌, ℕ, ◌<◌, List, ◌++◌, sym, ap, ◌∙◌, subst}
use Rattle.sto_type.specs.Traits.{OfType}
use Rattle.sto_lang.specs.declared.file.Turns.{Turns}
use Rattle.sto_lang.specs.Scripts.{File}
use Rattle.sto_trace.specs.declared.Step.{Step}
use Rattle.sto_script.specs.declared.body.ScriptBody.{ScriptBody}
use Rattle.sto_transaction.specs.declared.machine.Machine.{Machine}
use Rattle.sto_journal.specs.declared.journal.Journal.{Journal}
use Rattle.sto_run_threads.specs.Plans.{plan_of}
use Rattle.sto_run_steps.specs.Logged.{RunLog, most_kept}
use Rattle.sto_run_steps.specs.Proceeding.{heard_by, ProceedsAt}
use Rattle.sto_run_steps.specs.Turning.{entry_turns}
use Rattle.sto_explore.specs.Legs.{turns_of, schedule_of, LeadToEnds, AreTold}
use Rattle.sto_explore.specs.declared.leg.Leg.{Leg}
use Rattle.sto_run.specs.Traced.{IsRunBy}
use Rattle.sto_run_schedules.specs.Parted.{turns_to_ends, past, ends_of}
use Rattle.sto_run_schedules.specs.Telling.{tells_of, opened_for}
use Rattle.sto_run_schedules.proofs.Stepping.{stepped}
use Rattle.sto_run_schedules.specs.Leading.{Gives}

-- what it tells, and that it is the run by each schedule of the same turns
pub record FileStepped {T : Type 0} (t : OfType T) (ty : T) (file : File) (tries : ℕ) (journal : Journal) (decided legs : List Leg) (order : List ℕ) : Type 0 where
  pub ends : LeadToEnds order legs
  pub told : AreTold (tells_of t ty file tries) (schedule_of decided) (turns_of legs)
  pub run : (schedule : List Turns) → Gives (schedule_of decided ++ schedule_of legs) schedule
      → (steps : RunLog) × IsRunBy t ty file tries schedule journal steps

pub file_stepped : {T : Type 0} (t : OfType T) (ty : T) (file : File) (tries : ℕ) (journal : Journal) (decided : List Leg) (order : List ℕ) (n : ℕ) (schedule : List Turns) (all : List Step)
    → most_kept < n → flat_map entry_turns schedule ≡ turns_to_ends decided n order → IsRunBy t ty file tries schedule journal (Some all)
    → FileStepped t ty file tries journal decided (ends_of n order (past decided all)) order
file_stepped {T} t ty file tries journal decided order n schedule all enough turns r =
    let s = stepped {M = Machine T ScriptBody} (plan_of t ty file tries) (ProceedsAt t file ty) t.valid heard_by (opened_for t ty file) r.records decided order n schedule all enough turns r.stepped in
    record {
      ends = s.ends;
      told = s.told;
      run = λ exact is. let k = s.by_turns exact is in (k.0, record { records = r.records; stepped = k.1; told = r.told });
    }

-- the same of legs that were parted from the steps that a run has told
pub file_ran : {T : Type 0} (t : OfType T) (ty : T) (file : File) (tries : ℕ) (journal : Journal) (decided : List Leg) (order : List ℕ) (n : ℕ) (schedule entries : List Turns) (log : RunLog)
    (all told further : List Step) (legs : List Leg) → most_kept < n → schedule ≡ entries → flat_map entry_turns entries ≡ turns_to_ends decided n order → IsRunBy t ty file tries schedule journal log
    → log ≡ Some all → told ≡ all → further ≡ past decided told → legs ≡ ends_of n order further → FileStepped t ty file tries journal decided legs order
file_ran {T} t ty file tries journal decided order n schedule entries log all told further legs enough same turns r is are past_them parted =
    subst (λ (ls : List Leg). FileStepped t ty file tries journal decided ls order) (sym (parted ∙ ap (ends_of n order) (past_them ∙ ap (past decided) are)))
    (file_stepped t ty file tries journal decided order n schedule all enough (ap (flat_map entry_turns) same ∙ turns) (subst (λ (l : RunLog). IsRunBy t ty file tries schedule journal l) is r))
