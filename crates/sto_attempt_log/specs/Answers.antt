-- What the answers of an attempt tell of the view of its pass.
use Rattle.std.specs.Prelude.{◌≡◌, ◌<◌, ◌⊎◌, ℕ, ℤ, true, false, List, []}
use Rattle.sto_model.specs.declared.body.Next.TheVariants.{Commit, Cancel}
use Rattle.sto_model.specs.PlainReplies.{PlainReply}
use Rattle.sto_model.specs.Run.{Behaviour, IsRun}
use Rattle.sto_model.specs.Serial.{has_written}
use Rattle.sto_model.specs.Asked.{IsUnsettled}
use Rattle.sto_item.specs.Pending.{Entry as Update}
use Rattle.sto_type.specs.Known.{Parts}
use Rattle.sto_type.specs.Meaning.{Meaning}
use Rattle.sto_type.specs.Runs.{IsRunOn}
use Rattle.sto_core.specs.declared.view.Entry.{Entry}
use Rattle.sto_core.specs.declared.view.Finding.{Finding}
use Rattle.sto_core.specs.declared.view.Fate.TheVariants.{Committed}
use Rattle.sto_core.specs.declared.view.View.{View}
use Rattle.sto_core.specs.Lists.{Each, Among}
use Rattle.sto_core.specs.Versions.{ticket_of, is_free}
use Rattle.sto_core.specs.History.{Shows, Validity}
use Rattle.sto_core.specs.Event.{Event, Start, Open, Draw, Renew, Recheck}
use Rattle.sto_core.specs.Tells.{Tells}
use Rattle.sto_type.specs.Touching.{HasTouched}
use Rattle.sto_attempt_log.specs.ReadSet.{HasClaims}

-- exactly one event was made, and it is of this kind
pub record OneEvent (kind : Event → Type 0) (valid : Validity) (passes : ℕ) (v w : View) : Type 0 where
  pub event : Event
  pub of_kind : kind event
  pub number : ℕ
  pub value : ℤ
  pub tells : Tells valid passes event v number value w

-- the events of a commit with these updates, and of its giving up
abbrev pub IsCommitEvent : List Update → Event → Type 0
IsCommitEvent es Start = ⊥
IsCommitEvent es (Open p) = ⊥
IsCommitEvent es Renew = ⊥
IsCommitEvent es (Recheck p) = ⊥
IsCommitEvent es (Draw us seen loaded) = us ≡ es
IsCommitEvent es _ = Unit {0}

-- on all valid contents that have the running attempt's claims as of a number, the replies are the first ones of the script's serial run
abbrev pub IsPrefix : Meaning → Behaviour → View → ℕ → List PlainReply → Type 0
IsPrefix m f v at rs = (d : Parts) → m.valid d → HasClaims v at d → IsRun m.machines f (m.rows d) rs

-- it only read: they are all of them, and the run commits and has written nothing
pub record HasRead (m : Meaning) (f : Behaviour) (v : View) (at : ℕ) (rs : List PlainReply) : Type 0 where
  pub runs : (d : Parts) → m.valid d → HasClaims v at d → IsRunOn m f d [] rs
  pub ends : f rs ≡ Commit
  pub writes : has_written f rs ≡ false

-- it cancelled: they are all of them, and the run cancels
pub record HasCancelled (m : Meaning) (f : Behaviour) (v : View) (at : ℕ) (rs : List PlainReply) : Type 0 where
  pub runs : IsPrefix m f v at rs
  pub ends : f rs ≡ Cancel

-- it wrote: the view has the committed entry, and on all valid contents that have what the entry looked at, the replies and the updates are those of the
-- script's serial run, which commits and has written
pub record HasWritten (m : Meaning) (f : Behaviour) (v : View) (ticket : ℕ) (rs : List PlainReply) : Type 0 where
  pub entry : Entry
  pub among : Among entry v.entries
  pub drawn : entry.ticket ≡ ticket
  pub fate : entry.fate ≡ Committed
  pub runs : (c : Parts) → m.valid c → Each (Shows c) entry.looked → IsRunOn m f c entry.updates rs
  pub ends : f rs ≡ Commit
  pub writes : has_written f rs ≡ true

-- a part was found locked by another pass, in the running attempt
pub record HasFoundLocked (v : View) (part : ℕ) : Type 0 where
  pub version : ℕ
  pub among : Among (record { start = v.starts; part = part; version = version; held = false }) v.findings
  pub locked : is_free version ≡ false

-- a part was found free, or held by the pass, with a ticket
pub record HasFound (v : View) (part ticket : ℕ) : Type 0 where
  pub finding : Finding
  pub among : Among finding v.findings
  pub start : finding.start ≡ v.starts
  pub on : finding.part ≡ part
  pub is : ticket_of finding.version ≡ ticket
  pub own : (is_free finding.version ≡ true) ⊎ (finding.held ≡ true)

-- it was aborted, as of the number at, by a part that was locked
pub record WasLocked (m : Meaning) (f : Behaviour) (v : View) (at part : ℕ) (rs : List PlainReply) : Type 0 where
  pub runs : IsPrefix m f v at rs
  pub touched : HasTouched m f rs part
  pub unsettled : IsUnsettled f rs
  pub found : HasFoundLocked v part

-- it was aborted, as of the number at, by a part that a later ticket has written
pub record WasChanged (m : Meaning) (f : Behaviour) (v : View) (at part ticket : ℕ) (rs : List PlainReply) : Type 0 where
  pub runs : IsPrefix m f v at rs
  pub touched : HasTouched m f rs part
  pub unsettled : IsUnsettled f rs
  pub found : HasFound v part ticket
  pub later : at < ticket
  pub wrote : Among (record { start = v.starts; ticket = ticket; part = part }) v.wrote
