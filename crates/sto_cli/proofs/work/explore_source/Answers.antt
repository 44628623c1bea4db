use Rattle.std.proofs.Common.{ℕ, List, subst}
use Rattle.std.proofs.lemmas.Result.{IfOk-weaker, IfErr-weaker}
use Rattle.sto_args.specs.declared.command.Command.TheVariants as commands
use Rattle.sto_console.specs.Ends.{Made, Unmade}
use Rattle.sto_console.proofs.Scripts.{small_file}
use Rattle.sto_cli.specs.Traces.{IsRefusalFor}
use Rattle.sto_cli.specs.Orders.{same_by, IsExplored, IsOrdersFault}
use Rattle.sto_cli.specs.Programs.{program}
use Rattle.sto_cli.proofs.Reading.{unexplored}
use Rattle.sto_cli.proofs.work.explore_source.Goals as goal

pub returns-clause-made : goal.returns-clause-made
returns-clause-made g c =
    IfOk-weaker c.explore_told.result
    (λ told. IsExplored (same_by c.args.by) c.args.states c.args.json c.args.asked c.as_slice.result.now told.answer told.text.items)
    (λ told. Made program (commands.Explore c.args.by c.args.states c.args.json c.args.asked) told.answer (g.S.Source.left c.args.source.now) (g.S.Source.left c.script_left.new.source)
    told.text.items)
    (λ told h.
    let output : IsExplored (same_by c.args.by) c.args.states c.args.json c.args.asked c.in_ok-bytes.bytes.items told.answer told.text.items =
    subst (λ (bytes : List ℕ). IsExplored (same_by c.args.by) c.args.states c.args.json c.args.asked bytes told.answer told.text.items) c.as_slice.ensures.items h in
    record {
      bytes = c.in_ok-bytes.bytes.items;
      reads = (c.in_ok-bytes.ensures.taken, c.in_ok-bytes.ensures.end (small_file c.in_ok-bytes.bytes.items output.0 output.1));
      output = output;
    })
    c.explore_told.ensures.told

pub returns-clause-unmade : goal.returns-clause-unmade
returns-clause-unmade g c =
    IfErr-weaker c.explore_told.result
    (λ e. IsRefusalFor (IsOrdersFault (same_by c.args.by) c.args.states c.args.asked c.as_slice.result.now) e)
    (λ e. Unmade program e (commands.Explore c.args.by c.args.states c.args.json c.args.asked) (g.S.Source.left c.args.source.now) (g.S.Source.left c.script_left.new.source))
    (λ e h. unexplored c.args.by c.args.states c.args.json c.args.asked (g.S.Source.left c.args.source.now) (g.S.Source.left c.script_left.new.source) c.in_ok-bytes.bytes.items e
    c.in_ok-bytes.ensures.taken c.in_ok-bytes.ensures.end (subst (λ (bytes : List ℕ). IsRefusalFor (IsOrdersFault (same_by c.args.by) c.args.states c.args.asked bytes) e)
    c.as_slice.ensures.items h))
    c.explore_told.ensures.fault
