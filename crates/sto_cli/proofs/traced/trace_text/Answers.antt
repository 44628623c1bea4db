use Rattle.std.specs.Prelude.{None}
use Rattle.std.proofs.Common.{◌≡◌, map}
use Rattle.std.proofs.lemmas.Result.{IfOk-weaker, IfErr-weaker}
use Rattle.sto_args.specs.declared.command.Command.TheVariants as commands
use Rattle.sto_console.specs.declared.refusal.InputFault.TheVariants.{LongRun}
use Rattle.sto_lang.specs.Views.{file as view}
use Rattle.sto_journal.specs.Journals.{home_pair}
use Rattle.sto_run.specs.Logged.{kept}
use Rattle.sto_cli.specs.Traces.{AreLinesOf, HasLongRun, IsRunFault, NeverMany, IsRefusalFor}
use Rattle.sto_cli.specs.Outputs.{IsOutput}
use Rattle.sto_cli.proofs.Refusals.{long_run}
use Rattle.sto_run.proofs.TracedRuns.{trace_stepped}
use Rattle.sto_cli.proofs.traced.trace_text.Goals as goal

pub trace_file-requires-clause-sound : goal.trace_file-requires-clause-sound
trace_file-requires-clause-sound c = c.in_ok-file.ensures.sound

pub lines_of-requires : goal.lines_of-requires
lines_of-requires c = c.in_ok-file.ensures.sound

pub returns-clause-text : goal.returns-clause-text
returns-clause-text c =
    let run = c.in_ok-run.run' in
    let file = view c.in_ok-file.file in
    IfOk-weaker c.lines_of.result
    (λ text. AreLinesOf c.args.json file (map home_pair run.homes.items) (kept run.steps) text.items)
    (λ text. IsOutput (commands.Trace c.args.tries c.args.json c.args.schedule.now) c.args.bytes.now text.items)
    (λ text lines. (
      file,
      c.in_ok-file.ensures.file,
      record {
        journal = run.journal;
        homes = map home_pair run.homes.items;
        steps = kept run.steps;
        run = c.in_ok-run.ensures.traced;
        stepped = trace_stepped file c.args.tries run.journal (map home_pair run.homes.items) (kept run.steps) c.in_ok-run.ensures.traced;
        lines = lines;
        lawful = c.in_ok-run.ensures.lawful;
        alone = c.in_ok-run.ensures.alone;
      },
    ))
    c.lines_of.ensures.text

pub returns-clause-fault : goal.returns-clause-fault
returns-clause-fault c =
    let run = c.in_ok-run.run' in
    let file = view c.in_ok-file.file in
    IfErr-weaker c.lines_of.result
    (λ e. IsRefusalFor (λ fault. (fault ≡ LongRun) × (kept run.steps ≡ None)) e)
    (λ e. IsRefusalFor (IsRunFault (HasLongRun c.args.tries) NeverMany c.args.schedule.now c.args.bytes.now) e)
    (λ e h. long_run c.args.tries c.args.schedule.now c.args.bytes.now file run.journal (map home_pair run.homes.items) (kept run.steps) c.in_ok-file.ensures.file
    c.in_ok-run.ensures.traced e h)
    c.lines_of.ensures.fault
