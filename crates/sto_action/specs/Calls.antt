-- What code takes from what a call is answered.
use Rattle.std.specs.Prelude.{ℤ, pos, Bool, false, true, Option, Some, None}
use Rattle.sto_action.specs.declared.short_reply.ShortReply.{ShortReply}
use Rattle.sto_action.specs.declared.short_reply.ShortReply.TheVariants as H

-- the value that was answered, or 0
abbrev pub number : ShortReply → ℤ
number (H.Value x) = x
number _ = pos 0

-- the value that was answered, where there was one
abbrev pub perhaps : ShortReply → Option ℤ
perhaps (H.Value x) = Some x
perhaps _ = None

-- yes was answered
abbrev pub is_yes : ShortReply → Bool
is_yes (H.Flag b) = b
is_yes _ = false

-- the call did what it says
abbrev pub is_done : ShortReply → Bool
is_done H.Done = true
is_done _ = false
