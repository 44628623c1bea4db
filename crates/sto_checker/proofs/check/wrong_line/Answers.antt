use Rattle.std.proofs.Common.{◌≡◌, ℕ, List, sym, ◌∙◌, subst, Option}
use Rattle.std.proofs.lemmas.Result.{IfOk-weaker}
use Rattle.sto_lang.specs.Views.{file as view}
use Rattle.sto_checker.specs.declared.found.Found.TheVariants.{Lawful}
use Rattle.sto_checker.specs.Lines.{lines_of}
use Rattle.sto_checker.specs.Answer.{IsAnswer}
use Rattle.sto_checker.specs.Reached.{AreObjectsRead, IsWrongOr}
use Rattle.sto_checker.specs.Replayed.{IsJournalTaken}
use Rattle.sto_checker.proofs.check.wrong_line.Goals as goal

pub returns-in-Some : goal.returns-in-Some
returns-in-Some c =
    let f = view c.args.file.now in
    let lines = lines_of c.args.reader.now.bytes.now in
    subst (IsWrongOr f c.args.tries lines (IsJournalTaken f c.args.tries lines c.read_journal.new.replayed c.read_journal.new.reader.read)) c.in-Some.is (c.in_ok-line.ensures.taken c.args.tries)

pub read_aborts-requires-clause-taken : goal.read_aborts-requires-clause-taken
read_aborts-requires-clause-taken c =
    let f = view c.args.file.now in
    let lines = lines_of c.args.reader.now.bytes.now in
    subst (λ (bs : List ℕ). IsJournalTaken f c.args.tries (lines_of bs) c.read_journal.new.replayed c.read_journal.new.reader.read) (sym c.in_ok-line.ensures.bytes)
    (subst (IsWrongOr f c.args.tries lines (IsJournalTaken f c.args.tries lines c.read_journal.new.replayed c.read_journal.new.reader.read)) c.in_default.is (c.in_ok-line.ensures.taken c.args.tries))

pub returns : goal.returns
returns c =
    let f = view c.args.file.now in
    let tries = c.args.tries in
    let past = c.read_journal.new.replayed.past in
    let read = c.read_aborts.new.reader.read in
    let between = lines_of c.read_journal.new.reader.bytes.now in
    let last = lines_of c.read_aborts.new.reader.bytes.now in
    let reached = subst (IsWrongOr f tries between (AreObjectsRead f tries between past read 0)) c.in_default-2.is c.in_ok-line-2.ensures.read in
    let here = subst (λ (bs : List ℕ). AreObjectsRead f tries (lines_of bs) past read 0) (sym c.in_ok-line-2.ensures.bytes) reached in
    let bytes = c.in_ok-line-2.ensures.bytes ∙ c.in_ok-line.ensures.bytes in
    IfOk-weaker c.read_objects.result
    (λ (wrong : Option ℕ). (tries : ℕ) → AreObjectsRead f tries last past read 0 → IsWrongOr f tries last (IsAnswer f tries last Lawful) wrong)
    (λ (wrong : Option ℕ). IsWrongOr f tries (lines_of c.args.reader.now.bytes.now) (IsAnswer f tries (lines_of c.args.reader.now.bytes.now) Lawful) wrong)
    (λ wrong h. subst (λ (bs : List ℕ). IsWrongOr f tries (lines_of bs) (IsAnswer f tries (lines_of bs) Lawful) wrong) bytes (h tries here)) c.read_objects.ensures
