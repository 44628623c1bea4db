use Rattle.sto_test_refusals.proofs.Lines.{exchanged_is_not, left_out_is_not, other_reply_is_not, other_part_is_not, other_writer_is_not, other_rows_is_not, right_is_not_wrong}
use Rattle.sto_test_refusals.proofs.reports.not_found_lawful.Goals as goal

pub returns-clause-exchanged : goal.returns-clause-exchanged
returns-clause-exchanged c = exchanged_is_not

pub returns-clause-left_out : goal.returns-clause-left_out
returns-clause-left_out c = left_out_is_not

pub returns-clause-other_reply : goal.returns-clause-other_reply
returns-clause-other_reply c = other_reply_is_not

pub returns-clause-other_part : goal.returns-clause-other_part
returns-clause-other_part c = other_part_is_not

pub returns-clause-other_writer : goal.returns-clause-other_writer
returns-clause-other_writer c = other_writer_is_not

pub returns-clause-other_rows : goal.returns-clause-other_rows
returns-clause-other_rows c = other_rows_is_not

pub returns-clause-right : goal.returns-clause-right
returns-clause-right c = right_is_not_wrong
