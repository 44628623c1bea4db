use Rattle.sto_run.specs.Meanings.{updating_by}
use Rattle.sto_run.specs.Stores.{means}
use Rattle.sto_test_refusals.specs.Texts.{exchanged, left_out, other_reply, other_part, other_writer, other_rows, json_left_out, json_other_reply}
use Rattle.sto_test_refusals.proofs.Unlawful.{exchanged_is_none, left_out_is_none, other_reply_is_none, other_part_is_none, other_writer_is_none, other_rows_is_none, json_left_out_is_none, json_other_reply_is_none}
use Rattle.sto_test_program_refusals.proofs.Outputs.{run_lawful, run_lawful_json, not_changed, not_reversed, not_aborted, run_silent, run_fault}
use Rattle.sto_test_program_refusals.proofs.sto.not_run.Goals as goal

pub returns-clause-exchanged : goal.returns-clause-exchanged
returns-clause-exchanged c = λ threads o. exchanged_is_none (updating_by means) (run_lawful threads exchanged o)

pub returns-clause-left_out : goal.returns-clause-left_out
returns-clause-left_out c = λ threads o. left_out_is_none (updating_by means) (run_lawful threads left_out o)

pub returns-clause-other_reply : goal.returns-clause-other_reply
returns-clause-other_reply c = λ threads o. other_reply_is_none (updating_by means) (run_lawful threads other_reply o)

pub returns-clause-other_part : goal.returns-clause-other_part
returns-clause-other_part c = λ threads o. other_part_is_none (updating_by means) (run_lawful threads other_part o)

pub returns-clause-other_writer : goal.returns-clause-other_writer
returns-clause-other_writer c = λ threads o. other_writer_is_none (updating_by means) (run_lawful threads other_writer o)

pub returns-clause-other_rows : goal.returns-clause-other_rows
returns-clause-other_rows c = λ threads o. other_rows_is_none (updating_by means) (run_lawful threads other_rows o)

pub returns-clause-json_left_out : goal.returns-clause-json_left_out
returns-clause-json_left_out c = λ threads o. json_left_out_is_none (updating_by means) (run_lawful_json threads json_left_out o)

pub returns-clause-json_other_reply : goal.returns-clause-json_other_reply
returns-clause-json_other_reply c = λ threads o. json_other_reply_is_none (updating_by means) (run_lawful_json threads json_other_reply o)

pub returns-clause-alone_changed : goal.returns-clause-alone_changed
returns-clause-alone_changed c = not_changed

pub returns-clause-alone_reversed : goal.returns-clause-alone_reversed
returns-clause-alone_reversed c = not_reversed

pub returns-clause-alone_aborted : goal.returns-clause-alone_aborted
returns-clause-alone_aborted c = not_aborted

pub returns-clause-nothing : goal.returns-clause-nothing
returns-clause-nothing c = run_silent

pub returns-clause-fault : goal.returns-clause-fault
returns-clause-fault c = run_fault
