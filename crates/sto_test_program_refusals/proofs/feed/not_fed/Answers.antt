use Rattle.sto_run.specs.Meanings.{updating_by}
use Rattle.sto_run.specs.Stores.{means}
use Rattle.sto_test_refusals.specs.Texts.{exchanged, left_out, other_reply, other_part}
use Rattle.sto_test_refusals.proofs.Unlawful.{exchanged_is_none, left_out_is_none, other_reply_is_none, other_part_is_none}
use Rattle.sto_test_program_refusals.proofs.Feeds.{feed_lawful, feed_not_aborted, feed_silent}
use Rattle.sto_test_program_refusals.proofs.feed.not_fed.Goals as goal

pub returns-clause-exchanged : goal.returns-clause-exchanged
returns-clause-exchanged c = λ threads f. exchanged_is_none (updating_by means) (feed_lawful threads exchanged f)

pub returns-clause-left_out : goal.returns-clause-left_out
returns-clause-left_out c = λ threads f. left_out_is_none (updating_by means) (feed_lawful threads left_out f)

pub returns-clause-other_reply : goal.returns-clause-other_reply
returns-clause-other_reply c = λ threads f. other_reply_is_none (updating_by means) (feed_lawful threads other_reply f)

pub returns-clause-other_part : goal.returns-clause-other_part
returns-clause-other_part c = λ threads f. other_part_is_none (updating_by means) (feed_lawful threads other_part f)

pub returns-clause-alone_aborted : goal.returns-clause-alone_aborted
returns-clause-alone_aborted c = feed_not_aborted

pub returns-clause-nothing : goal.returns-clause-nothing
returns-clause-nothing c = feed_silent
