use Rattle.sto_store.specs.Stores.{means}
use Rattle.sto_serializability.specs.Meanings.{updating_by}
use Rattle.sto_test_refusals.proofs.UnlawfulAborts.{other_replies_are_none, more_replies_are_none, own_unseen_is_none, saw_itself_is_none, settled_is_none, unknown_object_is_none, unasked_object_is_none, untouched_part_is_none, seen_writer_is_none, unwritten_part_is_none, no_transaction_is_none, no_thread_is_none, two_attempts_are_none, after_handed_is_none, attempts_exchanged_are_none, positions_exchanged_are_none, threads_exchanged_are_none, before_journal_is_none, json_other_replies_are_none, reads_twice, reads_reading, reads_apart, reads_places}
use Rattle.sto_test_refusals.proofs.reports.no_lawful_abort.Goals as goal

pub returns-clause-other_replies : goal.returns-clause-other_replies
returns-clause-other_replies c = other_replies_are_none (updating_by means)

pub returns-clause-more_replies : goal.returns-clause-more_replies
returns-clause-more_replies c = more_replies_are_none (updating_by means)

pub returns-clause-own_unseen : goal.returns-clause-own_unseen
returns-clause-own_unseen c = own_unseen_is_none (updating_by means)

pub returns-clause-saw_itself : goal.returns-clause-saw_itself
returns-clause-saw_itself c = saw_itself_is_none (updating_by means)

pub returns-clause-settled : goal.returns-clause-settled
returns-clause-settled c = settled_is_none (updating_by means)

pub returns-clause-unknown_object : goal.returns-clause-unknown_object
returns-clause-unknown_object c = unknown_object_is_none (updating_by means)

pub returns-clause-unasked_object : goal.returns-clause-unasked_object
returns-clause-unasked_object c = unasked_object_is_none (updating_by means)

pub returns-clause-untouched_part : goal.returns-clause-untouched_part
returns-clause-untouched_part c = untouched_part_is_none

pub returns-clause-seen_writer : goal.returns-clause-seen_writer
returns-clause-seen_writer c = seen_writer_is_none (updating_by means)

pub returns-clause-unwritten_part : goal.returns-clause-unwritten_part
returns-clause-unwritten_part c = unwritten_part_is_none

pub returns-clause-no_transaction : goal.returns-clause-no_transaction
returns-clause-no_transaction c = no_transaction_is_none (updating_by means)

pub returns-clause-no_thread : goal.returns-clause-no_thread
returns-clause-no_thread c = no_thread_is_none (updating_by means)

pub returns-clause-two_attempts : goal.returns-clause-two_attempts
returns-clause-two_attempts c = two_attempts_are_none (updating_by means)

pub returns-clause-after_handed : goal.returns-clause-after_handed
returns-clause-after_handed c = after_handed_is_none (updating_by means)

pub returns-clause-attempts_exchanged : goal.returns-clause-attempts_exchanged
returns-clause-attempts_exchanged c = attempts_exchanged_are_none (updating_by means)

pub returns-clause-positions_exchanged : goal.returns-clause-positions_exchanged
returns-clause-positions_exchanged c = positions_exchanged_are_none (updating_by means)

pub returns-clause-threads_exchanged : goal.returns-clause-threads_exchanged
returns-clause-threads_exchanged c = threads_exchanged_are_none (updating_by means)

pub returns-clause-before_journal : goal.returns-clause-before_journal
returns-clause-before_journal c = before_journal_is_none (updating_by means)

pub returns-clause-json_other_replies : goal.returns-clause-json_other_replies
returns-clause-json_other_replies c = json_other_replies_are_none (updating_by means)

pub returns-clause-twice : goal.returns-clause-twice
returns-clause-twice c = reads_twice

pub returns-clause-reading : goal.returns-clause-reading
returns-clause-reading c = reads_reading

pub returns-clause-apart : goal.returns-clause-apart
returns-clause-apart c = reads_apart

pub returns-clause-places : goal.returns-clause-places
returns-clause-places c = reads_places
