-- The journal lines of records.
use Rattle.std.specs.Prelude.{◌≡◌, ℕ, List, map}
use Rattle.sto_model.specs.PlainReplies.{plain_reply}
use Rattle.sto_report_spec.specs.Replay.{Entry}
use Rattle.sto_transaction.specs.Records.{stands_at}
use Rattle.sto_transaction.specs.Records as plainly
use Rattle.sto_serializability.specs.Merged.{ending_of, line_of, AreMerged}
use Rattle.sto_transaction.specs.declared.record.Record.{Record}
use Rattle.sto_transaction.specs.Plain.{verdict, plain}
use Rattle.sto_run.specs.Tickets.{up_to}

-- the entry of a record, where these are the tickets of all writers
abbrev pub line_at : List ℕ → Record → Entry
line_at tickets r = record { writers = up_to (stands_at (verdict r.verdict)) tickets; place = (r.thread, r.position); ending = ending_of (verdict r.verdict); replies = map plain_reply r.replies.items }

-- the entries are the journal lines of the records, in their order
pub record AreLines (rs : List plainly.Record) (entries : List Entry) : Type 0 where
  pub ordered : List plainly.Record
  pub merged : AreMerged rs ordered
  pub lines : entries ≡ map (line_of rs) ordered
