use Rattle.std.proofs.Common.{ℕ, List, refl, subst}
use Rattle.std.proofs.lemmas.Result.{IfOk-weaker, IfErr-weaker}
use Rattle.sto_args.specs.declared.command.Command.TheVariants as commands
use Rattle.sto_console.specs.Ends.{Made, Unmade, IsFileRefusal}
use Rattle.sto_console.proofs.Scripts.{small_file}
use Rattle.sto_cli.specs.Outputs.{IsOutput}
use Rattle.sto_cli.specs.Programs.{program}
use Rattle.sto_cli.specs.declared.told.Answer.TheVariants.{Done}
use Rattle.sto_cli.proofs.Reading.{unmade}
use Rattle.sto_cli.proofs.work.run_source.Goals as goal

pub returns-clause-made : goal.returns-clause-made
returns-clause-made g c =
    IfOk-weaker c.run_text.result
    (λ text. IsOutput (commands.Run c.args.threads c.args.tries c.args.json) c.as_slice.result.now text.items)
    (λ text. Made program (commands.Run c.args.threads c.args.tries c.args.json) Done (g.S.Source.left c.args.source.now) (g.S.Source.left c.script_left.new.source) text.items)
    (λ text h.
    let output : IsOutput (commands.Run c.args.threads c.args.tries c.args.json) c.in_ok-bytes.bytes.items text.items =
    subst (λ (bytes : List ℕ). IsOutput (commands.Run c.args.threads c.args.tries c.args.json) bytes text.items) c.as_slice.ensures.items h in
    record {
      bytes = c.in_ok-bytes.bytes.items;
      reads = (c.in_ok-bytes.ensures.taken, c.in_ok-bytes.ensures.end (small_file c.in_ok-bytes.bytes.items output.0 output.1));
      output = (refl, output);
    })
    c.run_text.ensures.text

pub returns-clause-unmade : goal.returns-clause-unmade
returns-clause-unmade g c =
    IfErr-weaker c.run_text.result
    (λ e. IsFileRefusal e c.as_slice.result.now)
    (λ e. Unmade program e (commands.Run c.args.threads c.args.tries c.args.json) (g.S.Source.left c.args.source.now) (g.S.Source.left c.script_left.new.source))
    (λ e h. unmade (commands.Run c.args.threads c.args.tries c.args.json) refl (g.S.Source.left c.args.source.now) (g.S.Source.left c.script_left.new.source) c.in_ok-bytes.bytes.items e
    c.in_ok-bytes.ensures.taken c.in_ok-bytes.ensures.end (subst (λ (bytes : List ℕ). IsFileRefusal e bytes) c.as_slice.ensures.items h))
    c.run_text.ensures.fault
