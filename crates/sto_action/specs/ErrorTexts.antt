-- How errors print themselves.
use Rattle.std.specs.Prelude.{ℕ, List, ◌++◌, ◌==◌, if◌then◌else◌, codes, decimal}
use Rattle.sto_action.specs.declared.cause.AbortCause.{AbortCause}
use Rattle.sto_action.specs.declared.cause.AbortCause.TheVariants as causes
use Rattle.sto_action.specs.declared.outcome.TransactionError.{TransactionError}
use Rattle.sto_action.specs.declared.outcome.TransactionError.TheVariants as transaction_error

-- what was found
abbrev pub cause_text : AbortCause → List ℕ
cause_text (causes.Locked object) = codes "object " ++ (decimal object ++ codes " locked")
cause_text (causes.Changed object) = codes "object " ++ (decimal object ++ codes " changed")

-- that so many tries were all in vain, and what the last one found
abbrev pub busy_text : ℕ → AbortCause → List ℕ
busy_text tries last =
    if tries == 1
    then codes "busy: its only try met another transaction; it found " ++ cause_text last
    else codes "busy: all " ++ (decimal tries ++ (codes " tries met another transaction; the last found " ++ cause_text last))

abbrev pub transaction_error_text : TransactionError → List ℕ
transaction_error_text (transaction_error.Busy tries last) = busy_text tries last
transaction_error_text (transaction_error.Refused call) = codes "an object does not take a call, or the calls are too many"
transaction_error_text transaction_error.Worn = codes "no tickets are left"
transaction_error_text transaction_error.NoMemory = codes "out of memory"
