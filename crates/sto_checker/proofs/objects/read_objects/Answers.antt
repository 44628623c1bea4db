use Rattle.std.proofs.Common.{ℕ, ◌+◌, ◌<◌, ◌≤◌, List, length, get_or, sym, ap, ◌∙◌, subst, slice_get, arith}
use Rattle.std.proofs.lemmas.Option.{slice_get_within}
use Rattle.sto_lang.specs.declared.file.Decl.{Decl}
use Rattle.sto_lang.specs.Views.{file as view, declaration}
use Rattle.sto_checker.specs.Lines.{lines_of}
use Rattle.sto_checker.specs.Reached.{AreObjectsRead}
use Rattle.sto_checker.proofs.Ends.{wrong_here, missing_here, few_objects, all_there, object_more, object_wrong}
use Rattle.sto_checker.proofs.Truth.{no_truth}
use Rattle.sto_checker.proofs.ObjectLines.{has_rows, declared_at, count_declared, object_here, no_object_here, no_object_left}
use Rattle.sto_checker.proofs.objects.read_objects.Goals as goal

pub returns-in_default : goal.returns-in_default
returns-in_default c = λ tries h.
    let f = view c.args.file.now in
    let lines = lines_of c.args.reader.now.bytes.now in
    let read = c.loop-decl.reader.read in
    let here = c.loop-decl.invariant.read tries h in
    let ends = sym (ap (λ (bs : List ℕ). length (lines_of bs)) c.loop-decl.invariant.bytes) ∙ c.in_default.ensures.line.0 in
    let below = subst (λ (ds : List Decl). c.loop-decl.decl-index < length ds) c.as_slice-decl-items.ensures.items c.loop-decl-test.true in
    let count = count_declared c.args.file.now.decls.items in
    missing_here f tries lines read c.number-number.result c.number-number.ensures here.journal.lines_are.right ends
    (few_objects f tries lines read c.loop-decl.decl-index ends here.count (omega (arith, below, count)))

pub is_object-requires : goal.is_object-requires
is_object-requires c =
    let d = c.decl-item.result in
    let i = c.loop-decl.decl-index in
    let items = c.as_slice-decl-items.ensures.items in
    let below = subst (λ (ds : List Decl). i < length ds) items c.loop-decl-test.true in
    let is = sym (c.decl-item.is ∙ ap (λ (ds : List Decl). get_or ds i d) items) in
    has_rows c.args.file.now c.args.past.now c.requires.sound c.requires.read.1.journal.lines_are.past i d below is

pub returns-then-not-branch : goal.returns-then-not-branch
returns-then-not-branch c = λ tries h.
    let f = view c.args.file.now in
    let lines = lines_of c.args.reader.now.bytes.now in
    let read = c.loop-decl.reader.read in
    let here = c.loop-decl.invariant.read tries h in
    let d = c.decl-item.result in
    let i = c.loop-decl.decl-index in
    let items = c.as_slice-decl-items.ensures.items in
    let below = subst (λ (ds : List Decl). i < length ds) items c.loop-decl-test.true in
    let is = sym (c.decl-item.is ∙ ap (λ (ds : List Decl). get_or ds i d) items) in
    let text = c.in-Some.line.text.now in
    let stands = sym (ap (λ (bs : List ℕ). slice_get (lines_of bs) read) c.loop-decl.invariant.bytes) ∙ c.in-Some.ensures.line.0 in
    let declared = declared_at c.args.file.now.decls.items i d below is in
    let wrong = no_object_here f tries lines c.args.past.now read i here (declaration d) declared text (λ e. no_truth (sym c.if-not-branch.true ∙ c.in_ok-is_object.ensures.1 e)) in
    wrong_here f tries lines read c.number-number.result c.number-number.ensures here.journal.lines_are.right (slice_get_within lines read text stands)
    (object_wrong f tries lines c.args.past.now read i text here stands wrong)

pub loop-decl-preserved : goal.loop-decl-preserved
loop-decl-preserved c = record {
  bytes = c.in-Some.ensures.same ∙ c.loop-decl.invariant.bytes;
  read = λ tries h.
      let f = view c.args.file.now in
      let lines = lines_of c.args.reader.now.bytes.now in
      let read = c.loop-decl.reader.read in
      let here = c.loop-decl.invariant.read tries h in
      let d = c.decl-item.result in
      let i = c.loop-decl.decl-index in
      let items = c.as_slice-decl-items.ensures.items in
      let below = subst (λ (ds : List Decl). i < length ds) items c.loop-decl-test.true in
      let is = sym (c.decl-item.is ∙ ap (λ (ds : List Decl). get_or ds i d) items) in
      let text = c.in-Some.line.text.now in
      let stands = sym (ap (λ (bs : List ℕ). slice_get (lines_of bs) read) c.loop-decl.invariant.bytes) ∙ c.in-Some.ensures.line.0 in
      let declared = declared_at c.args.file.now.decls.items i d below is in
      let right = object_here f tries lines c.args.past.now read i here (declaration d) declared text (c.in_ok-is_object.ensures.0 c.if-not-branch.false) in
      subst (λ (n : ℕ). AreObjectsRead f tries lines c.args.past.now n (i + 1)) (sym c.in-Some.ensures.line.2) (object_more f tries lines c.args.past.now read i text here stands right);
}

pub returns-in-Some-next_line : goal.returns-in-Some-next_line
returns-in-Some-next_line c = λ tries h.
    let f = view c.args.file.now in
    let lines = lines_of c.args.reader.now.bytes.now in
    let read = c.loop-decl.reader.read in
    let here = c.loop-decl.invariant.read tries h in
    let i = c.loop-decl.decl-index in
    let past = subst (λ (ds : List Decl). length ds ≤ i) c.as_slice-decl-items.ensures.items c.loop-decl-test.false in
    let count = count_declared c.args.file.now.decls.items in
    let text = c.in-Some-next_line.field-0.text.now in
    let stands = sym (ap (λ (bs : List ℕ). slice_get (lines_of bs) read) c.loop-decl.invariant.bytes) ∙ c.in-Some-next_line.ensures.line.0 in
    wrong_here f tries lines read c.number-number-2.result c.number-number-2.ensures here.journal.lines_are.right (slice_get_within lines read text stands)
    (object_wrong f tries lines c.args.past.now read i text here stands (no_object_left f tries lines c.args.past.now read i here (omega (arith, past, count)) text))

pub returns-in-None : goal.returns-in-None
returns-in-None c = λ tries h.
    let f = view c.args.file.now in
    let lines = lines_of c.args.reader.now.bytes.now in
    let read = c.loop-decl.reader.read in
    let here = c.loop-decl.invariant.read tries h in
    let i = c.loop-decl.decl-index in
    let past = subst (λ (ds : List Decl). length ds ≤ i) c.as_slice-decl-items.ensures.items c.loop-decl-test.false in
    let upto = subst (λ (ds : List Decl). i ≤ length ds) c.as_slice-decl-items.ensures.items c.loop-decl.auto.decl-index-end in
    let count = count_declared c.args.file.now.decls.items in
    let ends = sym (ap (λ (bs : List ℕ). length (lines_of bs)) c.loop-decl.invariant.bytes) ∙ c.in-None.ensures.line.0 in
    all_there f tries lines c.args.past.now read i ends here (omega (arith, past, upto, count))
