use Rattle.std.proofs.Common.{◌≡◌, ℕ, ◌+◌, List, true, false, refl, sym, ap, ◌∙◌, subst, Some, slice_get, arith}
use Rattle.std.specs.Str.{bytes_eq}
use Rattle.sto_lang.specs.Views.{file as view}
use Rattle.sto_journal.specs.Journals.{places}
use Rattle.sto_checker.specs.Lines.{lines_of, is_state_line}
use Rattle.sto_checker.specs.Answer.{AreRight, GoesWrong}
use Rattle.sto_checker.specs.Reached.{AreObjectsRead}
use Rattle.sto_checker.specs.declared.abort.GivenAbort.{GivenAbort}
use Rattle.sto_checker.specs.Gathered.{AreGathered}
use Rattle.sto_checker.proofs.Gathering.{IsLastRead, content_within, state_there, unfollowed, gathered_more, last_more}
use Rattle.sto_checker.proofs.aborts.gather.Goals as goal

pub returns-then-eq-clause-ended : goal.returns-then-eq-clause-ended
returns-then-eq-clause-ended c = λ right.
    let f = view c.args.file.now in
    let lines = lines_of c.args.reader.now.bytes.now in
    let order = places c.args.replayed.now.past.run.lines.items in
    let read = c.loop-line.reader.read in
    let h = c.loop-line.invariant.gathered in
    let text = c.in-Some.line.text.now in
    let stands = sym (ap (λ (bs : List ℕ). slice_get (lines_of bs) read) c.loop-line.invariant.bytes) ∙ c.in-Some.ensures.line.0 in
    let yes : true ≡ bytes_eq text c.as_slice.result.now = c.if-eq.ensures in
    let state_true : is_state_line text ≡ true = sym (yes ∙ ap (bytes_eq text) c.as_slice.ensures) in
    subst (λ (n : ℕ). AreObjectsRead f c.args.tries lines c.args.replayed.now.past n 0) (sym c.in-Some.ensures.line.2)
    (state_there f c.args.tries lines order c.loop-line.aborts.items read h text stands c.args.replayed.now.past c.requires.taken.journal.lines_are.past refl state_true
    (subst (AreRight f c.args.tries lines) (sym h.count) right))

pub given_abort-requires-clause-few : goal.given_abort-requires-clause-few
given_abort-requires-clause-few c =
    let l = content_within c.loop-line.reader.bytes.now c.loop-line.reader.read c.in-Some.line.text.now c.in-Some.line.content.now c.in-Some.ensures.line.0 c.in-Some.ensures.line.1 in
    omega (arith, l, c.loop-line.reader.few)

pub returns-in_default-followed_by-clause-ended : goal.returns-in_default-followed_by-clause-ended
returns-in_default-followed_by-clause-ended c =
    let f = view c.args.file.now in
    let lines = lines_of c.args.reader.now.bytes.now in
    let order = places c.args.replayed.now.past.run.lines.items in
    let read = c.loop-line.reader.read in
    let h = c.loop-line.invariant.gathered in
    let text = c.in-Some.line.text.now in
    let stands = sym (ap (λ (bs : List ℕ). slice_get (lines_of bs) read) c.loop-line.invariant.bytes) ∙ c.in-Some.ensures.line.0 in
    let no : false ≡ bytes_eq text c.as_slice.result.now = c.if-eq.ensures in
    let state_false : is_state_line text ≡ false = sym (no ∙ ap (bytes_eq text) c.as_slice.ensures) in
    let given = c.in-Some-given_abort.given in
    let is = c.in-Some-given_abort.ensures.given in (
      omega (arith, c.number-number.ensures, h.count),
      λ right.
          subst (GoesWrong f c.args.tries lines) h.count
          (unfollowed f c.args.tries lines order c.loop-line.aborts.items read h text stands state_false given is.0 is.1 is.2 c.loop-line.last c.loop-line.invariant.last
          (λ before a l p s n. c.in_default-followed_by.ensures before a l p s (n ∙ sym c.known_at_end-known.ensures))
          (subst (AreRight f c.args.tries lines) (sym h.count) right)),
    )

pub loop-line-preserved : goal.loop-line-preserved
loop-line-preserved c =
    let f = view c.args.file.now in
    let lines = lines_of c.args.reader.now.bytes.now in
    let order = places c.args.replayed.now.past.run.lines.items in
    let read = c.loop-line.reader.read in
    let h = c.loop-line.invariant.gathered in
    let text = c.in-Some.line.text.now in
    let stands = sym (ap (λ (bs : List ℕ). slice_get (lines_of bs) read) c.loop-line.invariant.bytes) ∙ c.in-Some.ensures.line.0 in
    let no : false ≡ bytes_eq text c.as_slice.result.now = c.if-eq.ensures in
    let state_false : is_state_line text ≡ false = sym (no ∙ ap (bytes_eq text) c.as_slice.ensures) in
    let given = c.in-Some-given_abort.given in
    let is = c.in-Some-given_abort.ensures.given in
    let more = c.in-Some-followed_by.more in
    record {
      bytes = c.in-Some.ensures.same ∙ c.loop-line.invariant.bytes;
      gathered =
          subst (AreGathered f c.args.tries lines order c.push.new.self.items) (sym c.in-Some.ensures.line.2)
          (subst (λ (gathered : List GivenAbort). AreGathered f c.args.tries lines order gathered (read + 1)) (sym c.in_ok-push.ensures.ok)
          (gathered_more f c.args.tries lines order c.loop-line.aborts.items read h text stands state_false given is.0 is.1 is.2 c.loop-line.last c.loop-line.invariant.last more
          (λ before a l p s n. c.in-Some-followed_by.ensures before a l p s (n ∙ sym c.known_at_end-known.ensures))));
      last =
          subst (λ (n : ℕ). IsLastRead f c.args.tries lines n (Some more)) (sym c.in-Some.ensures.line.2)
          (last_more f c.args.tries lines order c.loop-line.aborts.items read h text stands state_false given is.0 is.1 is.2 c.loop-line.last c.loop-line.invariant.last more
          (λ before a l p s n. c.in-Some-followed_by.ensures before a l p s (n ∙ sym c.known_at_end-known.ensures)));
    }
