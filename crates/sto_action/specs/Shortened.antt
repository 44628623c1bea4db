-- What code hears of a reply: all but the pairs themselves.
use Rattle.std.specs.Prelude.{length}
use Rattle.sto_model.specs.PlainReplies.{PlainReply, Done, Value, Flag, Absent, Full, Range, Pairs}
use Rattle.sto_action.specs.declared.short_reply.ShortReply.{ShortReply}
use Rattle.sto_action.specs.declared.short_reply.ShortReply.TheVariants as H

abbrev pub short_of : PlainReply → ShortReply
short_of Done = H.Done
short_of (Value x) = H.Value x
short_of (Flag b) = H.Flag b
short_of Absent = H.Absent
short_of Full = H.Full
short_of Range = H.Range
short_of (Pairs ps) = H.Pairs (length ps)
