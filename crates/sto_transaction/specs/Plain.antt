-- Records of the code as plain data.
use Rattle.std.specs.Prelude.{map}
use Rattle.sto_model.specs.PlainReplies.{plain_reply}
use Rattle.sto_history.specs.Records as plainly
use Rattle.sto_attempt_log.specs.declared.verdict.Verdict.{Verdict}
use Rattle.sto_attempt_log.specs.declared.verdict.Verdict.TheVariants.{Wrote, Read, Cancelled, Locked, Changed}
use Rattle.sto_transaction.specs.declared.record.Record.{Record}

abbrev pub verdict : Verdict → plainly.Verdict
verdict (Wrote ticket) = plainly.Wrote ticket
verdict (Read at) = plainly.Read at
verdict (Cancelled at) = plainly.Cancelled at
verdict (Locked at part) = plainly.Locked at part
verdict (Changed at part ticket) = plainly.Changed at part ticket

abbrev pub plain : Record → plainly.Record
plain r = record { place = (r.thread, r.position); replies = map plain_reply r.replies.items; verdict = verdict r.verdict }
