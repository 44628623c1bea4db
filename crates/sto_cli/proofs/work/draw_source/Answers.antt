use Rattle.std.proofs.Common.{ℕ, List, refl, subst}
use Rattle.std.proofs.lemmas.Result.{IfOk-weaker, IfErr-weaker}
use Rattle.sto_args.specs.declared.command.Command.TheVariants as commands
use Rattle.sto_console.specs.Ends.{Made, Unmade}
use Rattle.sto_console.proofs.Scripts.{small_file}
use Rattle.sto_draw.specs.Drawn.{IsTooLong}
use Rattle.sto_cli.specs.Traces.{IsRunFault, NeverMany, IsRefusalFor}
use Rattle.sto_cli.specs.Outputs.{IsOutput}
use Rattle.sto_cli.specs.Programs.{program}
use Rattle.sto_cli.specs.declared.told.Answer.TheVariants.{Done}
use Rattle.sto_cli.proofs.Reading.{undrawn}
use Rattle.sto_cli.proofs.work.draw_source.Goals as goal

pub returns-clause-made : goal.returns-clause-made
returns-clause-made g c =
    IfOk-weaker c.draw_text.result
    (λ text. IsOutput (commands.Draw c.args.tries c.args.schedule) c.as_slice.result.now text.items)
    (λ text. Made program (commands.Draw c.args.tries c.args.schedule) Done (g.S.Source.left c.args.source.now) (g.S.Source.left c.script_left.new.source) text.items)
    (λ text h.
    let output : IsOutput (commands.Draw c.args.tries c.args.schedule) c.in_ok-bytes.bytes.items text.items =
    subst (λ (bytes : List ℕ). IsOutput (commands.Draw c.args.tries c.args.schedule) bytes text.items) c.as_slice.ensures.items h in
    record {
      bytes = c.in_ok-bytes.bytes.items;
      reads = (c.in_ok-bytes.ensures.taken, c.in_ok-bytes.ensures.end (small_file c.in_ok-bytes.bytes.items output.1.0.script output.1.0.reads));
      output = (refl, output);
    })
    c.draw_text.ensures.text

pub returns-clause-unmade : goal.returns-clause-unmade
returns-clause-unmade g c =
    IfErr-weaker c.draw_text.result
    (λ e. IsRefusalFor (IsRunFault (IsTooLong c.args.tries) NeverMany c.args.schedule c.as_slice.result.now) e)
    (λ e. Unmade program e (commands.Draw c.args.tries c.args.schedule) (g.S.Source.left c.args.source.now) (g.S.Source.left c.script_left.new.source))
    (λ e h. undrawn c.args.schedule (g.S.Source.left c.args.source.now) (g.S.Source.left c.script_left.new.source) c.in_ok-bytes.bytes.items e c.args.tries
    c.in_ok-bytes.ensures.taken c.in_ok-bytes.ensures.end (subst (λ (bytes : List ℕ). IsRefusalFor (IsRunFault (IsTooLong c.args.tries) NeverMany c.args.schedule bytes) e) c.as_slice.ensures.items h))
    c.draw_text.ensures.fault
