use Rattle.std.proofs.Common.{ℕ, List, refl, subst}
use Rattle.std.proofs.lemmas.Result.{IfOk-weaker, IfErr-weaker}
use Rattle.sto_args.specs.declared.command.Command.TheVariants as commands
use Rattle.sto_console.specs.Ends.{Made, Unmade}
use Rattle.sto_console.proofs.Scripts.{small_file}
use Rattle.sto_cli.specs.Traces.{HasLongRun, IsRunFault, NeverMany, IsRefusalFor}
use Rattle.sto_cli.specs.Outputs.{IsOutput}
use Rattle.sto_cli.specs.Programs.{program}
use Rattle.sto_cli.specs.declared.told.Answer.TheVariants.{Done}
use Rattle.sto_cli.proofs.Reading.{untraced}
use Rattle.sto_cli.proofs.work.trace_source.Goals as goal

pub returns-clause-made : goal.returns-clause-made
returns-clause-made g c =
    IfOk-weaker c.trace_text.result
    (λ text. IsOutput (commands.Trace c.args.tries c.args.json c.args.schedule) c.as_slice.result.now text.items)
    (λ text. Made program (commands.Trace c.args.tries c.args.json c.args.schedule) Done (g.S.Source.left c.args.source.now) (g.S.Source.left c.script_left.new.source) text.items)
    (λ text h.
    let output : IsOutput (commands.Trace c.args.tries c.args.json c.args.schedule) c.in_ok-bytes.bytes.items text.items =
    subst (λ (bytes : List ℕ). IsOutput (commands.Trace c.args.tries c.args.json c.args.schedule) bytes text.items) c.as_slice.ensures.items h in
    record {
      bytes = c.in_ok-bytes.bytes.items;
      reads = (c.in_ok-bytes.ensures.taken, c.in_ok-bytes.ensures.end (small_file c.in_ok-bytes.bytes.items output.1.0.script output.1.0.reads));
      output = (refl, output);
    })
    c.trace_text.ensures.text

pub returns-clause-unmade : goal.returns-clause-unmade
returns-clause-unmade g c =
    IfErr-weaker c.trace_text.result
    (λ e. IsRefusalFor (IsRunFault (HasLongRun c.args.tries) NeverMany c.args.schedule c.as_slice.result.now) e)
    (λ e. Unmade program e (commands.Trace c.args.tries c.args.json c.args.schedule) (g.S.Source.left c.args.source.now) (g.S.Source.left c.script_left.new.source))
    (λ e h. untraced c.args.schedule (g.S.Source.left c.args.source.now) (g.S.Source.left c.script_left.new.source) c.in_ok-bytes.bytes.items e c.args.tries c.args.json
    c.in_ok-bytes.ensures.taken c.in_ok-bytes.ensures.end (subst (λ (bytes : List ℕ). IsRefusalFor (IsRunFault (HasLongRun c.args.tries) NeverMany c.args.schedule bytes) e) c.as_slice.ensures.items h))
    c.trace_text.ensures.fault
