use Rattle.std.proofs.Common.{◌≡◌, ℕ, List, length, refl, sym, subst, None, Some}
use Rattle.sto_lang.specs.Views.{file as view}
use Rattle.sto_checker.specs.declared.found.Found.TheVariants.{Lawful, Not}
use Rattle.sto_checker.specs.Lines.{lines_of}
use Rattle.sto_checker.specs.Answer.{IsAnswer, IsFound}
use Rattle.sto_checker.specs.Exact.{touching_all}
use Rattle.sto_checker.specs.Reached.{IsWrongOr}
use Rattle.sto_checker.proofs.Sound.{right_report}
use Rattle.sto_checker.proofs.Only.{one_answer}
use Rattle.sto_checker.proofs.Lawful.{lawful_found}
use Rattle.sto_checker.proofs.check.check_report.Goals as goal

pub returns-in-None-clause-right : goal.returns-in-None-clause-right
returns-in-None-clause-right c = λ _.
    let f = view c.args.file.now in
    let read = lines_of c.new-reader.result.bytes.now in
    let found = subst (IsWrongOr f c.args.tries read (IsAnswer f c.args.tries read Lawful)) c.in-None.is c.in_ok-wrong_line.ensures in
    let here = subst (λ (bs : List ℕ). IsFound f c.args.tries bs Lawful) c.new-reader.ensures.bytes found in
    right_report f c.args.tries (lines_of c.args.bytes.now) c.args.bytes.now refl here.0 here.1

pub returns-clause-complete : goal.returns-clause-complete
returns-clause-complete c = λ u written lawful.
    let f = view c.args.file.now in
    let read = lines_of c.new-reader.result.bytes.now in
    let found = subst (IsWrongOr f c.args.tries read (IsAnswer f c.args.tries read Lawful)) c.in-Some.is c.in_ok-wrong_line.ensures in
    let here = subst (λ (bs : List ℕ). IsFound f c.args.tries bs (Not c.in-Some.line)) c.new-reader.ensures.bytes found in
    one_answer f c.args.tries (lines_of c.args.bytes.now) (Not c.in-Some.line) Lawful here (lawful_found f c.requires.sound c.args.tries (touching_all u) written c.args.bytes.now lawful)
