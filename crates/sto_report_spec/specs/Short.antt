-- Replies and aborted attempts whose numbers machine words hold, so that their texts can be read again.
use Rattle.std.specs.Prelude.{◌≡◌, ◌<◌, ◌^◌, ℕ, suc, ℤ, pos, negsuc, List, [], ◌∷◌, true}
use Rattle.sto_model.specs.PlainReplies.{PlainReply, Done, Value, Flag, Absent, Full, Range, Pairs}
use Rattle.sto_model.specs.Rows.{Row}
use Rattle.sto_syntax.specs.Words.{is_name}
use Rattle.sto_report_spec.specs.Aborts.{Cause, Locked, Changed, Abort}
use Rattle.sto_report_spec.specs.Replay.{Entry}
use Rattle.sto_report_spec.specs.Named.{IsNamable}

-- a number that a machine word holds
abbrev pub IsShort : ℤ → Type 0
IsShort (pos n) = n < 2 ^ 64
IsShort (negsuc n) = suc n < 2 ^ 64

-- the numbers of rows and replies are
abbrev pub IsShortRow : Row → Type 0
IsShortRow row = IsShort row.0 × IsShort row.1

abbrev pub AreShortRows : List Row → Type 0
AreShortRows [] = Unit {0}
AreShortRows (row ∷ rows) = IsShortRow row × AreShortRows rows

abbrev pub IsShortReply : PlainReply → Type 0
IsShortReply Done = Unit {0}
IsShortReply (Value z) = IsShort z
IsShortReply (Flag b) = Unit {0}
IsShortReply Absent = Unit {0}
IsShortReply Full = Unit {0}
IsShortReply Range = Unit {0}
IsShortReply (Pairs rows) = AreShortRows rows

abbrev pub AreShortReplies : List PlainReply → Type 0
AreShortReplies [] = Unit {0}
AreShortReplies (r ∷ rs) = IsShortReply r × AreShortReplies rs

-- a cause names an object by a name, and its numbers are short
abbrev pub IsShortCause : Cause → Type 0
IsShortCause (Locked part) = (is_name part.object ≡ true) × (part.part < 2 ^ 64)
IsShortCause (Changed part by) = (is_name part.object ≡ true) × (part.part < 2 ^ 64) × (by < 2 ^ 64)

-- all that an abort line tells can be read again
pub record IsShortAbort (names : List (List ℕ)) (a : Abort) : Type 0 where
  pub place : IsNamable names a.place
  pub seen : a.seen < 2 ^ 64
  pub replies : AreShortReplies a.replies
  pub cause : IsShortCause a.cause

abbrev pub AreShortAborts : List (List ℕ) → List Abort → Type 0
AreShortAborts names [] = Unit {0}
AreShortAborts names (a ∷ aborts) = IsShortAbort names a × AreShortAborts names aborts

-- the place and the number of a journal line can be read again
pub record IsShortEntry (names : List (List ℕ)) (e : Entry) : Type 0 where
  pub place : IsNamable names e.place
  pub writers : e.writers < 2 ^ 64

abbrev pub AreShortEntries : List (List ℕ) → List Entry → Type 0
AreShortEntries names [] = Unit {0}
AreShortEntries names (e ∷ entries) = IsShortEntry names e × AreShortEntries names entries
