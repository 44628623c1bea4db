-- What `check` does not find.
use Rattle.std.specs.Fmt.{digits}
use Rattle.std.specs.Int.{int_wrap}
use Rattle.std.specs.Prelude.{codes}
use Rattle.std.proofs.Common.{◌≡◌, ℕ, List, Ok, refl, sym, ◌∙◌, subst, arith}
use Rattle.sto_checker.specs.Answer.{IsFound}
use Rattle.sto_checker.specs.declared.found.Found.{Found}
use Rattle.sto_checker.specs.declared.found.Found.TheVariants.{Lawful, Not}
use Rattle.sto_check_cli.specs.Inputs.{Input, input_of}
use Rattle.sto_check_cli.specs.Answers.{IsFoundIn}
use Rattle.sto_check_cli.specs.Programs.{program}
use Rattle.sto_test_premises.specs.Adding.{file}
use Rattle.sto_test_refusals.specs.Texts.{right, exchanged, left_out, other_reply, other_part, other_writer, other_rows}
use Rattle.sto_test_refusals.proofs.Lists.{differ}
use Rattle.sto_test_refusals.proofs.Lines.{exchanged_is_not, left_out_is_not, other_reply_is_not, other_part_is_not, other_writer_is_not, other_rows_is_not, right_is_not_wrong}
use Rattle.sto_test_program_refusals.specs.Inputs.{with_report}

abbrev input : List ℕ → Input
input report = record { file = file; report = report }

-- what is found of a report in what was read is found of that report
found_of : (report : List ℕ) (found : Found) → input_of (with_report report) ≡ Ok (input report) → IsFoundIn 64 (with_report report) found → IsFound file 64 report found
found_of report found reads f =
    let same : f.input ≡ input report = let e = sym f.reads ∙ reads in cc in
    subst (λ (i : Input). IsFound i.file 64 i.report found) same f.judged.is

pub exchanged_not_found : IsFoundIn 64 (with_report exchanged) Lawful → ⊥
unfolding digits int_wrap
exchanged_not_found f = exchanged_is_not (found_of exchanged Lawful refl f)

pub left_out_not_found : IsFoundIn 64 (with_report left_out) Lawful → ⊥
unfolding digits int_wrap
left_out_not_found f = left_out_is_not (found_of left_out Lawful refl f)

pub other_reply_not_found : IsFoundIn 64 (with_report other_reply) Lawful → ⊥
unfolding digits int_wrap
other_reply_not_found f = other_reply_is_not (found_of other_reply Lawful refl f)

pub other_part_not_found : IsFoundIn 64 (with_report other_part) Lawful → ⊥
unfolding digits int_wrap
other_part_not_found f = other_part_is_not (found_of other_part Lawful refl f)

pub other_writer_not_found : IsFoundIn 64 (with_report other_writer) Lawful → ⊥
unfolding digits int_wrap
other_writer_not_found f = other_writer_is_not (found_of other_writer Lawful refl f)

pub other_rows_not_found : IsFoundIn 64 (with_report other_rows) Lawful → ⊥
unfolding digits int_wrap
other_rows_not_found f = other_rows_is_not (found_of other_rows Lawful refl f)

pub right_not_found_wrong : IsFoundIn 64 (with_report right) (Not 1) → ⊥
unfolding digits int_wrap
right_not_found_wrong f = right_is_not_wrong (found_of right (Not 1) refl f)

pub other_answer : (tries : ℕ) (bytes : List ℕ) → program.IsAnswer (record { tries = tries }) bytes (Not 1) (codes "lawful\n") → ⊥
unfolding digits
other_answer tries bytes a = differ (codes "lawful\n") (codes "line 1\n") 1 97 105 refl refl (λ e. omega (arith, e)) a.1

pub other_line : (tries : ℕ) (bytes : List ℕ) → program.IsAnswer (record { tries = tries }) bytes Lawful (codes "line 1\n") → ⊥
other_line tries bytes a = differ (codes "line 1\n") (codes "lawful\n") 1 105 97 refl refl (λ e. omega (arith, e)) a.1
