use Rattle.std.proofs.Common.{◌≡◌, [], ◌∷◌, ◌++◌, rules, sym, ap, ◌∙◌, subst}
use Rattle.sto_journal.specs.Journals.{places}
use Rattle.sto_run_threads.specs.Told.{told_in}
use Rattle.sto_run.proofs.Turns.{one_thread_order}
use Rattle.sto_run_schedules.specs.Ready.{objects_of, file_of, tries_of}
use Rattle.sto_run_schedules.specs.Remembered.{MakesReport}
use Rattle.sto_run_schedules.proofs.Making.{lawful_by_shapes}
use Rattle.sto_run_schedules.proofs.Remembering.{remembered}
use Rattle.sto_run_schedules.proofs.runs.FileRuns.new_report.Goals as goal

pub reported-requires-clause-lawful : goal.reported-requires-clause-lawful
reported-requires-clause-lawful g c =
    let r = c.args.self.now in
    (tries_of r, lawful_by_shapes (objects_of r) (file_of r) (tries_of r) c.in_ok-journal.journal c.requires.ready.kinds c.in_ok-journal.ensures.lawful)

pub returns-clause-report : goal.returns-clause-report
returns-clause-report g c =
    let r = c.args.self.now in
    let journal = c.in_ok-journal.journal in
    let lawful = lawful_by_shapes (objects_of r) (file_of r) (tries_of r) journal c.requires.ready.kinds c.in_ok-journal.ensures.lawful in
    record {
      journal = journal;
      of_records = c.in_ok-journal.ensures.of_records;
      lawful = lawful;
      alone = λ few. record {
        order = one_thread_order (file_of r) (places journal.lines.items) few lawful.order;
        none = c.in_ok-journal.ensures.alone (c.requires.alone few);
      };
      told = c.in_ok-report.ensures.report (tries_of r) lawful;
      locked = c.in_ok-report.ensures.locked;
      changed = c.in_ok-report.ensures.changed;
    }

pub returns-clause-remembered : goal.returns-clause-remembered
returns-clause-remembered g c =
    let r = c.args.self.now in
    let same : told_in c.in_ok-records.records ≡ told_in c.args.finished.records = search rules in
    remembered r c.in_ok-records.records (told_in c.args.finished.records) c.in_ok-report.report c.args.kept.now.reports.items c.remember.new.self.reports.items
    same (returns-clause-report g c) c.requires.remembered c.in_ok-remember.ensures
