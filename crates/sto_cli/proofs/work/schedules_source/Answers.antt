use Rattle.std.proofs.Common.{ℕ, List, refl, subst, None}
use Rattle.std.proofs.lemmas.Result.{IfOk-weaker, IfErr-weaker}
use Rattle.sto_args.specs.declared.command.Command.TheVariants as commands
use Rattle.sto_console.specs.Ends.{Made, Unmade}
use Rattle.sto_console.proofs.Scripts.{small_file}
use Rattle.sto_cli.specs.Traces.{IsRunFault, IsRefusalFor}
use Rattle.sto_run_schedules.specs.Leading.{HasSomeLongRun}
use Rattle.sto_cli.specs.Explorations.{HasManySchedules}
use Rattle.sto_cli.specs.Outputs.{IsOutput}
use Rattle.sto_cli.specs.Programs.{program}
use Rattle.sto_cli.specs.declared.told.Answer.TheVariants.{Done}
use Rattle.sto_cli.proofs.Reading.{unscheduled}
use Rattle.sto_cli.proofs.work.schedules_source.Goals as goal

pub returns-clause-made : goal.returns-clause-made
returns-clause-made g c =
    IfOk-weaker c.schedules_text.result
    (λ text. IsOutput (commands.Schedules c.args.switches c.args.tries c.args.json) c.as_slice.result.now text.items)
    (λ text. Made program (commands.Schedules c.args.switches c.args.tries c.args.json) Done (g.S.Source.left c.args.source.now) (g.S.Source.left c.script_left.new.source) text.items)
    (λ text h.
    let output : IsOutput (commands.Schedules c.args.switches c.args.tries c.args.json) c.in_ok-bytes.bytes.items text.items =
    subst (λ (bytes : List ℕ). IsOutput (commands.Schedules c.args.switches c.args.tries c.args.json) bytes text.items) c.as_slice.ensures.items h in
    record {
      bytes = c.in_ok-bytes.bytes.items;
      reads = (c.in_ok-bytes.ensures.taken, c.in_ok-bytes.ensures.end (small_file c.in_ok-bytes.bytes.items output.1.0.script output.1.0.reads));
      output = (refl, output);
    })
    c.schedules_text.ensures.text

pub returns-clause-unmade : goal.returns-clause-unmade
returns-clause-unmade g c =
    IfErr-weaker c.schedules_text.result
    (λ e. IsRefusalFor (IsRunFault (HasSomeLongRun c.args.tries) (HasManySchedules c.args.switches c.args.tries c.args.json) None c.as_slice.result.now) e)
    (λ e. Unmade program e (commands.Schedules c.args.switches c.args.tries c.args.json) (g.S.Source.left c.args.source.now) (g.S.Source.left c.script_left.new.source))
    (λ e h. unscheduled c.args.switches c.args.tries c.args.json (g.S.Source.left c.args.source.now) (g.S.Source.left c.script_left.new.source) c.in_ok-bytes.bytes.items e
    c.in_ok-bytes.ensures.taken c.in_ok-bytes.ensures.end (subst (λ (bytes : List ℕ). IsRefusalFor (IsRunFault (HasSomeLongRun c.args.tries) (HasManySchedules c.args.switches c.args.tries c.args.json) None bytes) e) c.as_slice.ensures.items h))
    c.schedules_text.ensures.fault
