-- The tickets of records.
use Rattle.std.specs.Prelude.{ℕ, ◌+◌, nat_le, List, [], ◌∷◌, ◌++◌, if◌then◌else◌}
use Rattle.sto_transaction.specs.declared.record.Record.{Record}
use Rattle.sto_attempt_log.specs.declared.verdict.Verdict.{Verdict}
use Rattle.sto_attempt_log.specs.declared.verdict.Verdict.TheVariants.{Wrote, Read, Cancelled, Locked, Changed}

-- the ticket of a writer
abbrev pub ticket_in : Verdict → List ℕ
ticket_in (Wrote ticket) = ticket ∷ []
ticket_in (Read at) = []
ticket_in (Cancelled at) = []
ticket_in (Locked at part) = []
ticket_in (Changed at part ticket) = []

-- those of all
abbrev pub tickets_of : List Record → List ℕ
tickets_of [] = []
tickets_of (r ∷ rs) = ticket_in r.verdict ++ tickets_of rs

-- how many are at most n
abbrev pub up_to : ℕ → List ℕ → ℕ
up_to n [] = 0
up_to n (t ∷ ts) = (if nat_le t n then 1 else 0) + up_to n ts
