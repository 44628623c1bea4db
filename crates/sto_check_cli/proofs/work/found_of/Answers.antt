use Rattle.std.proofs.Common.{ℕ, List, refl, subst}
use Rattle.std.proofs.lemmas.Result.{IfOk-weaker, IfErr-weaker}
use Rattle.sto_console.specs.Ends.{Made, Unmade}
use Rattle.sto_check_cli.specs.Answers.{IsFoundIn, IsInputRefusal}
use Rattle.sto_check_cli.specs.Programs.{program, text_of}
use Rattle.sto_check_cli.proofs.Faults.{small_input, unmade}
use Rattle.sto_check_cli.proofs.work.found_of.Goals as goal

pub returns-clause-made : goal.returns-clause-made
returns-clause-made g c =
    IfOk-weaker c.found_in.result
    (λ found. IsFoundIn c.args.asked.tries c.as_slice.result.now found)
    (λ found. Made program c.args.asked found (g.S.Source.left c.args.source.now) (g.S.Source.left c.bytes_left.new.source) (text_of found))
    (λ found h.
    let said : IsFoundIn c.args.asked.tries c.in_ok-bytes.bytes.items found =
    subst (λ (bytes : List ℕ). IsFoundIn c.args.asked.tries bytes found) c.as_slice.ensures.items h in
    record {
      bytes = c.in_ok-bytes.bytes.items;
      reads = (c.in_ok-bytes.ensures.taken, c.in_ok-bytes.ensures.end (small_input c.in_ok-bytes.bytes.items said.input said.reads));
      output = (said, refl);
    })
    c.found_in.ensures.found

pub returns-clause-unmade : goal.returns-clause-unmade
returns-clause-unmade g c =
    IfErr-weaker c.found_in.result
    (λ e. IsInputRefusal e c.as_slice.result.now)
    (λ e. Unmade program e c.args.asked (g.S.Source.left c.args.source.now) (g.S.Source.left c.bytes_left.new.source))
    (λ e h. unmade c.args.asked (g.S.Source.left c.args.source.now) (g.S.Source.left c.bytes_left.new.source) c.in_ok-bytes.bytes.items e
    c.in_ok-bytes.ensures.taken c.in_ok-bytes.ensures.end (subst (λ (bytes : List ℕ). IsInputRefusal e bytes) c.as_slice.ensures.items h))
    c.found_in.ensures.fault
