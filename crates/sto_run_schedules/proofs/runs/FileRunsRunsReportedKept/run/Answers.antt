use Rattle.std.specs.Prelude.{Some, []}
use Rattle.std.specs.List.{All}
use Rattle.std.proofs.Common.{◌<◌, List, length, sym, ap, subst, arith}
use Rattle.sto_lang.specs.declared.file.Turns.{Turns}
use Rattle.sto_run_threads.specs.Told.{told_in}
use Rattle.sto_run_steps.specs.Logged.{RunLog, kept}
use Rattle.sto_run.specs.Traced.{IsRunBy, of_objects}
use Rattle.sto_run.proofs.Draws.{few_threads}
use Rattle.sto_run.proofs.TracedRuns.{run_by}
use Rattle.sto_run_schedules.specs.Ready.{objects_of, file_of, tries_of}
use Rattle.sto_run_schedules.proofs.FileStepping.{file_ran}
use Rattle.sto_run_schedules.proofs.Making.{inside_file}
use Rattle.sto_run_schedules.proofs.runs.FileRunsRunsReportedKept.run.Goals as goal

pub trace_threads-requires-clause-ready : goal.trace_threads-requires-clause-ready
trace_threads-requires-clause-ready g c = (c.requires.ready.runnable.taken, let some = c.requires.ready.runnable.tries.0 in omega (arith, some))

pub trace_threads-requires-clause-opens : goal.trace_threads-requires-clause-opens
trace_threads-requires-clause-opens g c = c.requires.ready.runnable.opens

pub trace_threads-requires-clause-threads : goal.trace_threads-requires-clause-threads
trace_threads-requires-clause-threads g c = few_threads (file_of c.args.self.now) c.requires.ready.runnable.sound

pub trace_threads-requires-clause-schedule : goal.trace_threads-requires-clause-schedule
trace_threads-requires-clause-schedule g c =
    let r = c.args.self.now in
    subst (λ (l : List Turns). All (λ (e : Turns). e.thread < length (file_of r).threads) l) (sym c.as_slice.ensures.value)
    (inside_file (file_of r) r.threads.items c.in_ok-entries.entries.items c.args.decided.now c.args.order.now c.requires.ready.threads
    c.in_ok-entries.ensures.threads c.requires.decided c.requires.order)

pub report_of-requires-clause-finished : goal.report_of-requires-clause-finished
report_of-requires-clause-finished g c = c.in_ok-finished.ensures.finished

pub report_of-requires-clause-alone : goal.report_of-requires-clause-alone
report_of-requires-clause-alone g c = c.in_ok-finished.ensures.alone

pub returns : goal.returns
returns g c =
    let r = c.args.self.now in
    let m = c.in_ok-report.ensures.report in
    let by = run_by of_objects (objects_of r) (file_of r) (tries_of r) m.journal c.as_slice.result.now r.run.now.opening.items
    (told_in c.in_ok-finished.finished.records) (Some []) (kept c.in_ok-finished.steps) c.requires.ready.runnable.opens.opened c.in_ok-finished.ensures.traced m.of_records in
    let s = file_ran of_objects (objects_of r) (file_of r) (tries_of r) m.journal c.args.decided.now c.args.order.now c.enough-most.result
    c.as_slice.result.now c.in_ok-entries.entries.items (kept c.in_ok-finished.steps) c.in-Some.steps.items c.as_slice-2.result.now c.past-further.result.now c.in_ok-legs.legs.items
    c.enough-most.ensures c.as_slice.ensures.value c.in_ok-entries.ensures.turns by (ap kept c.in-Some.is) c.as_slice-2.ensures.items
    c.past-further.ensures.past c.in_ok-legs.ensures in
    record {
      ends = s.ends;
      told = s.told;
      report = record {
        journal = m.journal;
        run = s.run;
        lawful = m.lawful;
        alone = m.alone;
        report = m.told;
        locked = m.locked;
        changed = m.changed;
      };
      keeps = c.in_ok-report.ensures.remembered;
      too_long = tt;
    }

pub returns-in_default-clause-too_long : goal.returns-in_default-clause-too_long
returns-in_default-clause-too_long g c = λ _.
    let r = c.args.self.now in
    record {
      objects = objects_of r;
      kinds = c.requires.ready.kinds;
      schedule = c.as_slice.result.now;
      journal = c.in_ok-journal.field-0;
      run =
          subst (λ (l : RunLog). IsRunBy of_objects (objects_of r) (file_of r) (tries_of r) c.as_slice.result.now c.in_ok-journal.field-0 l) (ap kept c.in_default.is)
          (run_by of_objects (objects_of r) (file_of r) (tries_of r) c.in_ok-journal.field-0 c.as_slice.result.now r.run.now.opening.items
          (told_in c.in_ok-finished.finished.records) (Some []) (kept c.in_ok-finished.steps) c.requires.ready.runnable.opens.opened c.in_ok-finished.ensures.traced c.in_ok-journal.ensures.of_records);
    }
