use Rattle.std.proofs.Common.{ℕ, List, refl, subst}
use Rattle.std.proofs.lemmas.Result.{IfOk-weaker, IfErr-weaker}
use Rattle.sto_args.specs.declared.command.Command.TheVariants as commands
use Rattle.sto_console.specs.Ends.{Made, Unmade}
use Rattle.sto_console.proofs.Scripts.{small_file}
use Rattle.sto_cli.specs.Schedules.{IsScheduledFault}
use Rattle.sto_cli.specs.Traces.{IsRefusalFor}
use Rattle.sto_cli.specs.Outputs.{IsOutput}
use Rattle.sto_cli.specs.Programs.{program}
use Rattle.sto_cli.specs.declared.told.Answer.TheVariants.{Done}
use Rattle.sto_cli.proofs.Reading.{unstepped}
use Rattle.sto_cli.proofs.work.step_source.Goals as goal

pub returns-clause-made : goal.returns-clause-made
returns-clause-made g c =
    IfOk-weaker c.step_text.result
    (λ text. IsOutput (commands.Step c.args.tries c.args.json c.args.schedule) c.as_slice.result.now text.items)
    (λ text. Made program (commands.Step c.args.tries c.args.json c.args.schedule) Done (g.S.Source.left c.args.source.now) (g.S.Source.left c.script_left.new.source) text.items)
    (λ text h.
    let output : IsOutput (commands.Step c.args.tries c.args.json c.args.schedule) c.in_ok-bytes.bytes.items text.items =
    subst (λ (bytes : List ℕ). IsOutput (commands.Step c.args.tries c.args.json c.args.schedule) bytes text.items) c.as_slice.ensures.items h in
    record {
      bytes = c.in_ok-bytes.bytes.items;
      reads = (c.in_ok-bytes.ensures.taken, c.in_ok-bytes.ensures.end (small_file c.in_ok-bytes.bytes.items output.1.script output.1.reads));
      output = (refl, output);
    })
    c.step_text.ensures.text

pub returns-clause-unmade : goal.returns-clause-unmade
returns-clause-unmade g c =
    IfErr-weaker c.step_text.result
    (λ e. IsRefusalFor (IsScheduledFault c.args.schedule c.as_slice.result.now) e)
    (λ e. Unmade program e (commands.Step c.args.tries c.args.json c.args.schedule) (g.S.Source.left c.args.source.now) (g.S.Source.left c.script_left.new.source))
    (λ e h. unstepped c.args.schedule (g.S.Source.left c.args.source.now) (g.S.Source.left c.script_left.new.source) c.in_ok-bytes.bytes.items e c.args.tries c.args.json
    c.in_ok-bytes.ensures.taken c.in_ok-bytes.ensures.end (subst (λ (bytes : List ℕ). IsRefusalFor (IsScheduledFault c.args.schedule bytes) e) c.as_slice.ensures.items h))
    c.step_text.ensures.fault
