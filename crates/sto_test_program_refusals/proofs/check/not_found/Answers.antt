use Rattle.sto_test_program_refusals.proofs.Findings.{exchanged_not_found, left_out_not_found, other_reply_not_found, other_part_not_found, other_writer_not_found, other_rows_not_found, right_not_found_wrong, other_answer, other_line}
use Rattle.sto_test_program_refusals.proofs.check.not_found.Goals as goal

pub returns-clause-exchanged : goal.returns-clause-exchanged
returns-clause-exchanged c = exchanged_not_found

pub returns-clause-left_out : goal.returns-clause-left_out
returns-clause-left_out c = left_out_not_found

pub returns-clause-other_reply : goal.returns-clause-other_reply
returns-clause-other_reply c = other_reply_not_found

pub returns-clause-other_part : goal.returns-clause-other_part
returns-clause-other_part c = other_part_not_found

pub returns-clause-other_writer : goal.returns-clause-other_writer
returns-clause-other_writer c = other_writer_not_found

pub returns-clause-other_rows : goal.returns-clause-other_rows
returns-clause-other_rows c = other_rows_not_found

pub returns-clause-right : goal.returns-clause-right
returns-clause-right c = right_not_found_wrong

pub returns-clause-other_answer : goal.returns-clause-other_answer
returns-clause-other_answer c = other_answer

pub returns-clause-other_line : goal.returns-clause-other_line
returns-clause-other_line c = other_line
