-- The steps of a run, said of its file.
use Rattle.std.specs.Prelude.{None, Some}
use Rattle.std.specs.List.{flat_map}
use Rattle.std.proofs.Common.{◌≡◌, ℕ, List, [], ◌++◌, length, max, subst}
use Rattle.sto_core.specs.History.{Contents}
use Rattle.sto_core.specs.Opened.{opened_core}
use Rattle.sto_lang.specs.Scripts.{File}
use Rattle.sto_lang.specs.declared.file.Turns.{Turns}
use Rattle.sto_history.specs.Records.{Record}
use Rattle.sto_script.specs.declared.body.ScriptBody.{ScriptBody}
use Rattle.sto_transaction.specs.declared.machine.Machine.{Machine}
use Rattle.sto_journal.specs.declared.journal.Journal.{Journal}
use Rattle.sto_type.specs.Traits.{OfType}
use Rattle.sto_run_threads.specs.Plans.{plan_of}
use Rattle.sto_run_steps.specs.Logged.{RunLog}
use Rattle.sto_run_steps.specs.Proceeding.{heard_by, ProceedsAt}
use Rattle.sto_run_steps.specs.Turning.{WereStepped, entry_turns, round_turns}
use Rattle.sto_run_steps.proofs.Logging.{forget_turns}
use Rattle.sto_run.specs.OfRecords.{IsOfRecords}
use Rattle.sto_run.specs.Traced.{IsRunFrom, IsTraceOf, IsStepped, of_objects, turns_in}

-- a run by a schedule, on words that open with what the objects open with
pub run_by : {T : Type 0} (t : OfType T) (ty : T) (file : File) (tries : ℕ) (journal : Journal) (schedule : List Turns) (opening : Contents) (rs : List Record) (first last : RunLog)
    → opening ≡ (t.meaning ty).opened
    → WereStepped {M = Machine T ScriptBody} (plan_of t ty file tries) (ProceedsAt t file ty) t.valid heard_by schedule (opened_core (t.sizes ty) opening (max 1 (length file.threads))) first rs last
    → IsOfRecords file (t.meaning ty).homes rs journal → IsRunFrom t ty file tries schedule first journal last
run_by {T} t ty file tries journal schedule opening rs first last opens were told = record {
  records = rs;
  stepped =
      subst (λ (c : Contents). WereStepped {M = Machine T ScriptBody} (plan_of t ty file tries) (ProceedsAt t file ty) t.valid heard_by schedule (opened_core (t.sizes ty) c (max 1 (length file.threads))) first rs last) opens were;
  told = told;
}

-- the run is the same where its steps are not told
pub untold : {T : Type 0} (t : OfType T) (ty : T) (file : File) (tries : ℕ) (schedule : List Turns) (journal : Journal) (first last : RunLog)
    → IsRunFrom t ty file tries schedule first journal last → IsRunFrom t ty file tries schedule None journal None
untold {T} t ty file tries schedule journal first last r =
    let w = r.stepped in
    record {
      records = r.records;
      stepped = record {
        seats = w.seats;
        many = w.many;
        new = w.new;
        seated = w.seated;
        rounds = w.rounds;
        stepped = w.stepped;
        later = w.later;
        turns = forget_turns t.valid heard_by (flat_map entry_turns schedule ++ round_turns (length w.seats) w.rounds) (opened_core (t.sizes ty) (t.meaning ty).opened (max 1 (length file.threads))) w.stepped w.seats w.later first last w.turns;
        over = w.over;
        still_seated = w.still_seated;
        made = w.made;
        others = w.others;
        records = w.records;
        aborts = w.aborts;
      };
      told = r.told;
    }

-- the journal of a run whose steps are told is that of a run by the file's schedule
pub trace_stepped : (file : File) (tries : ℕ) (journal : Journal) (homes : List (ℕ × ℕ)) (steps : RunLog) → IsTraceOf file tries journal homes steps → IsStepped file tries journal
trace_stepped file tries journal homes steps r = record {
  objects = r.objects;
  kinds = r.kinds;
  run = untold of_objects r.objects file tries (turns_in file.schedule) journal (Some []) steps r.traced;
}

-- what is so of the objects, the file and the number of tries that the work of a run has is so of those that it was opened with
pub moved : {T : Type 0} (P : T → File → ℕ → Type 0) (x ty : T) (f file : File) (k tries : ℕ) → f ≡ file → x ≡ ty → k ≡ tries → P x f k → P ty file tries
moved {T} P x ty f file k tries same_file same_objects same_tries h =
    subst (λ (n : ℕ). P ty file n) same_tries (subst (λ (y : T). P y file k) same_objects (subst (λ (g : File). P x g k) same_file h))
