-- What a record of an attempt must tell of the view of its pass. It is told of the view after the attempt, and of every later view that
-- has gathered it (`proofs/Later`).
--
-- m is the meaning of the type that the pass's words were opened with, and f what the transaction does next after each list of replies.
use Rattle.std.specs.Prelude.{◌≡◌, ◌≤◌, ◌<◌, ◌⊎◌, ℕ, List, [], ◌∷◌, true, false, slice_index_or}
use Rattle.sto_part.specs.Parts.{part_of}
use Rattle.sto_model.specs.PlainReplies.{PlainReply}
use Rattle.sto_model.specs.Run.{Behaviour, IsRun}
use Rattle.sto_model.specs.Serial.{has_written}
use Rattle.sto_model.specs.declared.body.Next.TheVariants.{Commit, Cancel}
use Rattle.sto_type.specs.Known.{Parts}
use Rattle.sto_type.specs.Meaning.{Meaning}
use Rattle.sto_type.specs.Touching.{HasTouched}
use Rattle.sto_type.specs.Runs.{IsRunOn}
use Rattle.sto_core.specs.declared.view.Entry.{Entry}
use Rattle.sto_core.specs.declared.view.Claim.{Claim}
use Rattle.sto_core.specs.declared.view.Wrote.{Wrote as WroteClaim}
use Rattle.sto_core.specs.declared.view.Finding.{Finding}
use Rattle.sto_core.specs.declared.view.Fate.TheVariants.{Committed}
use Rattle.sto_core.specs.declared.view.View.{View}
use Rattle.sto_core.specs.Lists.{Each, Among}
use Rattle.sto_core.specs.Versions.{ticket_of, is_free}
use Rattle.sto_core.specs.History.{Shows}
use Rattle.sto_model.specs.Asked.{IsUnsettled}
use Rattle.sto_history.specs.Records.{Verdict, Wrote, Read, Cancelled, Locked, Changed}

-- the contents have what the claims of the view say of the number n
abbrev pub HasClaimed : View → ℕ → Parts → Type 0
HasClaimed v n c = Each (λ (k : Claim). k.number ≡ n → part_of c k.part ≡ k.words) v.claims

-- it wrote with the ticket: the view has its committed entry, and on all valid contents that have what the entry looked at, the replies
-- and the updates are those of the transaction's serial run, which commits and has written
pub record HasWritten (m : Meaning) (v : View) (f : Behaviour) (replies : List PlainReply) (ticket : ℕ) : Type 0 where
  pub entry : Entry
  pub there : Among entry v.entries
  pub drawn : entry.ticket ≡ ticket
  pub committed : entry.fate ≡ Committed
  pub runs : (c : Parts) → m.valid c → Each (Shows c) entry.looked → IsRunOn m f c entry.updates replies
  pub ends : f replies ≡ Commit
  pub writes : has_written f replies ≡ true

-- it only read, as of the number n: on all valid contents that have what was claimed of n, the replies are those of the serial run,
-- which commits and has written nothing
pub record HasRead (m : Meaning) (v : View) (f : Behaviour) (replies : List PlainReply) (n : ℕ) : Type 0 where
  pub known : n ≤ v.at
  pub runs : (c : Parts) → m.valid c → HasClaimed v n c → IsRunOn m f c [] replies
  pub ends : f replies ≡ Commit
  pub writes : has_written f replies ≡ false

-- it cancelled, as of the number n: the same with a serial run that cancels
pub record HasCancelled (m : Meaning) (v : View) (f : Behaviour) (replies : List PlainReply) (n : ℕ) : Type 0 where
  pub known : n ≤ v.at
  pub runs : (c : Parts) → m.valid c → HasClaimed v n c → IsRun m.machines f (m.rows c) replies
  pub ends : f replies ≡ Cancel

-- it was aborted, as of the number n, and names a part: on the same contents the replies are the first ones of the serial run; one of the
-- calls that it asked may touch the part; and it was not at its end: a call was running, or it was committing what it had written
pub record WasAborted (m : Meaning) (v : View) (f : Behaviour) (replies : List PlainReply) (n part : ℕ) : Type 0 where
  pub known : n ≤ v.at
  pub runs : (c : Parts) → m.valid c → HasClaimed v n c → IsRun m.machines f (m.rows c) replies
  pub touched : HasTouched m f replies part
  pub unsettled : IsUnsettled f replies

-- the view knows that the ticket wrote the part
pub record HasWrote (v : View) (ticket part : ℕ) : Type 0 where
  pub claim : WroteClaim
  pub there : Among claim v.wrote
  pub by : claim.ticket ≡ ticket
  pub on : claim.part ≡ part

-- it found the part changed by a later ticket
pub record WasChanged (m : Meaning) (v : View) (f : Behaviour) (replies : List PlainReply) (n part ticket : ℕ) : Type 0 where
  pub aborted : WasAborted m v f replies n part
  pub later : n < ticket
  pub wrote : HasWrote v ticket part

-- what is told of a record by its verdict
abbrev pub IsTold : Meaning → View → Behaviour → List PlainReply → Verdict → Type 0
IsTold m v f replies (Wrote ticket) = HasWritten m v f replies ticket
IsTold m v f replies (Read n) = HasRead m v f replies n
IsTold m v f replies (Cancelled n) = HasCancelled m v f replies n
IsTold m v f replies (Locked n part) = WasAborted m v f replies n part
IsTold m v f replies (Changed n part ticket) = WasChanged m v f replies n part ticket

-- the finding that is told of an aborted attempt, beside what the report rests on: the version that its start found
pub record HasFound (v : View) (start part : ℕ) (P : Finding → Type 0) : Type 0 where
  pub finding : Finding
  pub there : Among finding v.findings
  pub begun : finding.start ≡ start
  pub on : finding.part ≡ part
  pub is : P finding

-- the lock bit was set, and the pass did not hold the part
abbrev pub IsLockedFinding : Finding → Type 0
IsLockedFinding f = (is_free f.version ≡ false) × (f.held ≡ false)

-- the ticket was found in a part that was free or held by the pass
abbrev pub IsTicketFinding : ℕ → Finding → Type 0
IsTicketFinding ticket f = (ticket_of f.version ≡ ticket) × ((is_free f.version ≡ true) ⊎ (f.held ≡ true))

-- an aborted attempt of this start has its finding
abbrev pub IsFound : View → ℕ → Verdict → Type 0
IsFound v start (Wrote ticket) = Unit {0}
IsFound v start (Read n) = Unit {0}
IsFound v start (Cancelled n) = Unit {0}
IsFound v start (Locked n part) = HasFound v start part IsLockedFinding
IsFound v start (Changed n part ticket) = HasFound v start part (IsTicketFinding ticket)
