use Rattle.sto_store.specs.Stores.{means}
use Rattle.sto_serializability.specs.Meanings.{updating_by}
use Rattle.sto_test_refusals.proofs.Unlawful.{exchanged_is_none, left_out_is_none, other_reply_is_none, other_part_is_none, other_writer_is_none, other_rows_is_none, json_left_out_is_none, json_other_reply_is_none, nothing_is_none}
use Rattle.sto_test_refusals.proofs.reports.no_lawful_report.Goals as goal

pub returns-clause-exchanged : goal.returns-clause-exchanged
returns-clause-exchanged c = exchanged_is_none (updating_by means)

pub returns-clause-left_out : goal.returns-clause-left_out
returns-clause-left_out c = left_out_is_none (updating_by means)

pub returns-clause-other_reply : goal.returns-clause-other_reply
returns-clause-other_reply c = other_reply_is_none (updating_by means)

pub returns-clause-other_part : goal.returns-clause-other_part
returns-clause-other_part c = other_part_is_none (updating_by means)

pub returns-clause-other_writer : goal.returns-clause-other_writer
returns-clause-other_writer c = other_writer_is_none (updating_by means)

pub returns-clause-other_rows : goal.returns-clause-other_rows
returns-clause-other_rows c = other_rows_is_none (updating_by means)

pub returns-clause-json_left_out : goal.returns-clause-json_left_out
returns-clause-json_left_out c = json_left_out_is_none (updating_by means)

pub returns-clause-json_other_reply : goal.returns-clause-json_other_reply
returns-clause-json_other_reply c = json_other_reply_is_none (updating_by means)

pub returns-clause-nothing : goal.returns-clause-nothing
returns-clause-nothing c = nothing_is_none (updating_by means)
