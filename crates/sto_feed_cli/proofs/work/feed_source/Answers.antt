use Rattle.std.proofs.Common.{ℕ, List, subst}
use Rattle.std.proofs.lemmas.Result.{IfOk-weaker, IfErr-weaker}
use Rattle.sto_console.specs.Ends.{Made, Unmade, IsFileRefusal}
use Rattle.sto_console.proofs.Scripts.{small_file}
use Rattle.sto_feed_cli.specs.Programs.{IsFed, feed_program}
use Rattle.sto_feed_cli.proofs.Ways.{unmade}
use Rattle.sto_feed_cli.proofs.work.feed_source.Goals as goal

pub returns-clause-made : goal.returns-clause-made
returns-clause-made g c =
    IfOk-weaker c.feed_text.result
    (λ text. IsFed c.args.asked c.as_slice.result.now text.items)
    (λ text. Made feed_program c.args.asked tt (g.S.Source.left c.args.source.now) (g.S.Source.left c.script_left.new.source) text.items)
    (λ text h.
    let output : IsFed c.args.asked c.in_ok-bytes.bytes.items text.items =
    subst (λ (bytes : List ℕ). IsFed c.args.asked bytes text.items) c.as_slice.ensures.items h in
    record {
      bytes = c.in_ok-bytes.bytes.items;
      reads = (c.in_ok-bytes.ensures.taken, c.in_ok-bytes.ensures.end (small_file c.in_ok-bytes.bytes.items output.file output.script));
      output = output;
    })
    c.feed_text.ensures.text

pub returns-clause-unmade : goal.returns-clause-unmade
returns-clause-unmade g c =
    IfErr-weaker c.feed_text.result
    (λ e. IsFileRefusal e c.as_slice.result.now)
    (λ e. Unmade feed_program e c.args.asked (g.S.Source.left c.args.source.now) (g.S.Source.left c.script_left.new.source))
    (λ e h. unmade c.args.asked (g.S.Source.left c.args.source.now) (g.S.Source.left c.script_left.new.source) c.in_ok-bytes.bytes.items e
    c.in_ok-bytes.ensures.taken c.in_ok-bytes.ensures.end (subst (λ (bytes : List ℕ). IsFileRefusal e bytes) c.as_slice.ensures.items h))
    c.feed_text.ensures.fault
