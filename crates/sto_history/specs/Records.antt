-- Records of attempts, as plain data.
use Rattle.std.specs.Prelude.{ℕ, ◌+◌, ◌<◌, ◌≤◌, List, [], ◌∷◌, Bool, true, false, not, ◌==◌, nat_le, if◌then◌else◌}
use Rattle.sto_model.specs.PlainReplies.{PlainReply}

-- where a transaction stands: the number of its script thread, and its position there
abbrev pub TransactionPlace : Type 0
TransactionPlace = ℕ × ℕ

-- how an attempt ended. It wrote with a ticket; or it only read, or cancelled, as of a number of the clock; or it was aborted as of
-- such a number, by a part that was locked, or that had been changed by the writer with a ticket
pub data Verdict : Type 0 where
  Wrote : (ticket : ℕ) → Verdict
  Read : (at : ℕ) → Verdict
  Cancelled : (at : ℕ) → Verdict
  Locked : (at part : ℕ) → Verdict
  Changed : (at part ticket : ℕ) → Verdict

-- an attempt that has ended: its transaction, what its calls were answered, and how it ended
pub record Record : Type 0 where
  pub place : TransactionPlace
  pub replies : List PlainReply
  pub verdict : Verdict

-- the attempt wrote
abbrev pub is_wrote : Verdict → Bool
is_wrote (Wrote ticket) = true
is_wrote (Read at) = false
is_wrote (Cancelled at) = false
is_wrote (Locked at part) = false
is_wrote (Changed at part ticket) = false

-- the attempt was aborted
abbrev pub is_abort : Verdict → Bool
is_abort (Wrote ticket) = false
is_abort (Read at) = false
is_abort (Cancelled at) = false
is_abort (Locked at part) = true
is_abort (Changed at part ticket) = true

-- the transaction has ended with this record
abbrev pub is_finished : Record → Bool
is_finished r = not (is_abort r.verdict)

-- the number of the history that the record stands at: its ticket, or the clock that it read
abbrev pub stands_at : Verdict → ℕ
stands_at (Wrote ticket) = ticket
stands_at (Read at) = at
stands_at (Cancelled at) = at
stands_at (Locked at part) = at
stands_at (Changed at part ticket) = at

-- the greatest number of the history that the caller knows of after it
abbrev pub known_after : Verdict → ℕ
known_after (Wrote ticket) = ticket
known_after (Read at) = at
known_after (Cancelled at) = at
known_after (Locked at part) = at
known_after (Changed at part ticket) = ticket

-- the attempt began once the number was known: its clock is not below it, and its ticket is above it
abbrev pub IsSince : ℕ → Verdict → Type 0
IsSince n (Wrote ticket) = n < ticket
IsSince n (Read at) = n ≤ at
IsSince n (Cancelled at) = n ≤ at
IsSince n (Locked at part) = n ≤ at
IsSince n (Changed at part ticket) = n ≤ at

-- the ticket that it wrote with, if it did, is above the number
abbrev pub IsAbove : ℕ → Verdict → Type 0
IsAbove n (Wrote ticket) = n < ticket
IsAbove n verdict = Unit {0}

-- 1 where the record wrote with the ticket
abbrev pub wrote_with : ℕ → Verdict → ℕ
wrote_with n (Wrote ticket) = if ticket == n then 1 else 0
wrote_with n verdict = 0

-- 1 where it wrote with a ticket up to n
abbrev pub wrote_within : ℕ → Verdict → ℕ
wrote_within n (Wrote ticket) = if nat_le ticket n then 1 else 0
wrote_within n verdict = 0

-- how many records wrote with the ticket
abbrev pub times_written : ℕ → List Record → ℕ
times_written n [] = 0
times_written n (r ∷ rs) = wrote_with n r.verdict + times_written n rs

-- how many writers there are with tickets up to n
abbrev pub writers_up_to : ℕ → List Record → ℕ
writers_up_to n [] = 0
writers_up_to n (r ∷ rs) = wrote_within n r.verdict + writers_up_to n rs
