use Rattle.std.proofs.Common.{Ok}
use Rattle.sto_lang.specs.Views.{file as view}
use Rattle.sto_lang.proofs.SoundFiles.{readable_sound}
use Rattle.sto_run.specs.Meanings.{updating_by}
use Rattle.sto_run.specs.Stores.{means}
use Rattle.sto_checker.proofs.AllTouched.{updates_alone, written_all, lawful_all}
use Rattle.sto_check_cli.proofs.Meant.{means_written}
use Rattle.sto_check_cli.proofs.Faults.{read_so}
use Rattle.sto_check_cli.proofs.judge.found_in.Goals as goal

pub check_report-requires-clause-sound : goal.check_report-requires-clause-sound
check_report-requires-clause-sound c = readable_sound c.in-Some.script.now (view c.in_ok-file.file) c.in_ok-file.ensures.file

pub returns-clause-found : goal.returns-clause-found
returns-clause-found c =
    let parts = c.in-Some.ensures.divided in
    let said = c.in_ok-found.ensures in
    let file = view c.in_ok-file.file in
    let written = written_all (updating_by means) file (means_written c.in-Some.script.now file c.in_ok-file.ensures.file) in
    record {
      input = record { file = file; report = c.in-Some.report.now };
      reads = read_so c.args.bytes.now c.in-Some.script.now c.in-Some.report.now c.if-bytes-gt-MOST.false parts.0 parts.1 parts.2 (Ok (view c.in_ok-file.file)) c.in_ok-file.ensures.file;
      judged = record {
        is = said.found;
        only = said.only;
        complete = λ lawful. said.complete (updates_alone (updating_by means)) written (lawful_all (updating_by means) file c.args.tries c.in-Some.report.now lawful);
        complete_for = said.complete;
        right = said.right;
      };
    }
