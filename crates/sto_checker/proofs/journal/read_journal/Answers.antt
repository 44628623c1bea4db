use Rattle.std.proofs.Common.{ℕ, ◌+◌, ◌<◌, List, length, sym, ap, ◌∙◌, subst, slice_get, arith}
use Rattle.std.proofs.lemmas.Option.{slice_get_within}
use Rattle.sto_lang.specs.Views.{file as view}
use Rattle.sto_checker.specs.Lines.{lines_of}
use Rattle.sto_checker.specs.Right.{total}
use Rattle.sto_checker.specs.Reached.{AreRead}
use Rattle.sto_checker.proofs.Ends.{wrong_here, missing_here, short_journal, journal_wrong}
use Rattle.sto_checker.specs.Replayed.{IsTaken, IsTakenOr}
use Rattle.sto_checker.proofs.Taken.{taken_more, all_taken}
use Rattle.sto_checker.proofs.journal.read_journal.Goals as goal

pub returns-in_default-clause-taken : goal.returns-in_default-clause-taken
returns-in_default-clause-taken c = λ tries.
    let f = view c.args.file.now in
    let lines = lines_of c.args.reader.now.bytes.now in
    let read = c.loop.reader.read in
    let here = c.loop.invariant.lines tries in
    let ends = sym (ap (λ (bs : List ℕ). length (lines_of bs)) c.loop.invariant.bytes) ∙ c.in_default.ensures.line.0 in
    missing_here f tries lines read c.number-number.result c.number-number.ensures here.right ends
    (short_journal f tries lines (omega (arith, ends, c.loop.invariant.read, c.loop-test.true, c.total-end.ensures)))

pub returns-then-not-branch-clause-taken : goal.returns-then-not-branch-clause-taken
returns-then-not-branch-clause-taken c = λ tries.
    let f = view c.args.file.now in
    let lines = lines_of c.args.reader.now.bytes.now in
    let read = c.loop.reader.read in
    let here = c.loop.invariant.lines tries in
    let text = c.in-Some.line.text.now in
    let stands = sym (ap (λ (bs : List ℕ). slice_get (lines_of bs) read) c.loop.invariant.bytes) ∙ c.in-Some.ensures.line.0 in
    let below : read < total f = omega (arith, c.loop.invariant.read, c.loop-test.true, c.total-end.ensures) in
    wrong_here f tries lines read c.number-number.result c.number-number.ensures here.right (slice_get_within lines read text stands)
    (journal_wrong f tries lines c.loop.replayed.past read text here below stands (subst (IsTakenOr f c.loop.replayed c.take_line.new.self text) c.if-not-branch.true c.in_ok-take_line.ensures))

pub loop-preserved : goal.loop-preserved
loop-preserved c =
    let f = view c.args.file.now in
    let lines = lines_of c.args.reader.now.bytes.now in
    let read = c.loop.reader.read in
    let text = c.in-Some.line.text.now in
    let stands = sym (ap (λ (bs : List ℕ). slice_get (lines_of bs) read) c.loop.invariant.bytes) ∙ c.in-Some.ensures.line.0 in
    let below : read < total f = omega (arith, c.loop.invariant.read, c.loop-test.true, c.total-end.ensures) in
    let t : IsTaken f c.loop.replayed c.take_line.new.self text = subst (IsTakenOr f c.loop.replayed c.take_line.new.self text) c.if-not-branch.false c.in_ok-take_line.ensures in
    record {
      bytes = c.in-Some.ensures.same ∙ c.loop.invariant.bytes;
      read = c.in-Some.ensures.line.2 ∙ ap (λ (n : ℕ). n + 1) c.loop.invariant.read;
      lines = λ tries.
          subst (AreRead f tries lines c.take_line.new.self.past) (sym c.in-Some.ensures.line.2)
          (taken_more f tries lines c.loop.replayed c.take_line.new.self read text (c.loop.invariant.lines tries) below stands t);
      replayed = t.replayed;
      count = t.counted ∙ ap (λ (n : ℕ). n + 1) c.loop.invariant.count;
    }

pub returns-clause-taken : goal.returns-clause-taken
returns-clause-taken c = λ tries.
    all_taken (view c.args.file.now) tries (lines_of c.args.reader.now.bytes.now) c.loop.replayed c.loop.reader.read (c.loop.invariant.lines tries) c.loop.invariant.replayed
    (c.loop.invariant.count ∙ sym c.loop.invariant.read) (omega (arith, c.loop.invariant.read, c.loop-test.false, c.loop.auto.counter-end, c.total-end.ensures))
