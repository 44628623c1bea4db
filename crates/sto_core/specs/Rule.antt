-- The rule over a core state, its history, and all views.
use Rattle.std.specs.Prelude.{◌≡◌, ◌≢◌, ◌⊎◌, ◌+◌, ◌-◌, ◌^◌, ◌<◌, ◌≤◌, ℕ, zero, suc, ℤ, nat_eq, List, [], ◌∷◌}
use Rattle.std.specs.Prelude.{length, map, slice_index_or, true, false}
use mathlib.Core.Option.{some}
use lib.ListN.{get_elem?}
use Rattle.sto_item.specs.Pending.{IsRising}
use Rattle.sto_core.specs.declared.view.Looked.{Looked}
use Rattle.sto_core.specs.declared.view.Entry.{Entry}
use Rattle.sto_core.specs.declared.view.Fate.TheVariants.{Pending, Committed, Dropped}
use Rattle.sto_core.specs.declared.view.Claim.{Claim}
use Rattle.sto_core.specs.declared.view.Wrote.{Wrote}
use Rattle.sto_core.specs.declared.view.Finding.{Finding}
use Rattle.sto_core.specs.declared.view.Held.{Held}
use Rattle.sto_core.specs.declared.view.OpenRead.{OpenRead}
use Rattle.sto_core.specs.declared.view.Phase.{Phase}
use Rattle.sto_core.specs.declared.view.Phase.TheVariants.{Idle, Reading, Looking, Locking, Testing, Drawn, Won}
use Rattle.sto_core.specs.declared.view.Phase.TheVariants.{Lost}
use Rattle.sto_core.specs.declared.view.View.{View}
use Rattle.sto_core.specs.Lists.{Each, weight}
use Rattle.sto_core.specs.Reads.{ReadsAgree}
use Rattle.sto_core.specs.History.{Contents, Validity, Log, writes, committed_updates, pending_updates, up}
use Rattle.sto_core.specs.History.{last_writer, TicketAsOf, PartAsOf, KeepsValid, UpdatesFit, status_after}
use Rattle.sto_core.specs.Views.{count, times, if_won, if_drawn, was_put}
use Rattle.sto_core.specs.Core.{Part, Core}

-- the sum over all views
abbrev pub total : (View → ℕ) → List View → ℕ
total f [] = 0
total f (v ∷ vs) = f v + total f vs

-- how often t is one of the numbers 1 to n
abbrev pub once : ℕ → ℕ → ℕ
once t zero = 0
once t (suc n) = weight (nat_eq t (suc n)) + once t n

-- a part is settled where no pass that has won holds it
abbrev pub Settled : List View → ℕ → Type 0
Settled views p = total (λ v. if_won v.phase (count p v.held)) views ≡ 0

-- what nobody sees: the entry of each ticket, and the clock when the words were opened or reopened
pub record Past : Type 0 where
  pub log : Log
  pub since : ℕ

-- what one view is measured against: all but the other views and the lock bits
pub record World : Type 0 where
  pub clock : ℕ
  pub passes : ℕ
  pub parts : List Part
  pub log : Log

-- what the views of a core state are measured against
abbrev pub world_of : Past → Core → World
world_of past c = record { clock = c.clock; passes = length c.statuses; parts = c.parts; log = past.log }

-- part is the part p
abbrev pub IsPart : List Part → ℕ → Part → Type 0
IsPart parts p part = get_elem? parts p ≡ some part

-- Two passes

-- a ticket that is above that found by an open read and above the `at` of the reader
abbrev pub IsLaterThan : OpenRead → ℕ → ℕ → Type 0
IsLaterThan r at ticket = (r.ticket < ticket) × (at < ticket)

-- where this pass has drawn or won and holds the part of an open read, its ticket is later than the read
abbrev pub IsAbove : OpenRead → ℕ → Phase → List Held → Type 0
IsAbove r at (Drawn t) held = 0 < count r.part held → IsLaterThan r at t
IsAbove r at (Won t puts) held = 0 < count r.part held → IsLaterThan r at t
IsAbove r at _ held = Unit {0}

-- a pass with this phase and `at`, beside any pass with that phase and these holds
abbrev pub ReadBeside : Phase → ℕ → Phase → List Held → Type 0
ReadBeside (Looking r) at phase held = IsAbove r at phase held
ReadBeside (Testing r) at phase held = IsAbove r at phase held
ReadBeside _ at phase held = Unit {0}

-- every open read beside every pass
abbrev pub ReadsBeside : List View → Type 0
ReadsBeside views =
    (i j : ℕ) (v u : View) → get_elem? views i ≡ some v → get_elem? views j ≡ some u
    → ReadBeside v.phase v.at u.phase u.held

-- no two passes have the same number
abbrev pub NumbersApart : List View → Type 0
NumbersApart views =
    (i j : ℕ) (v u : View) → get_elem? views i ≡ some v → get_elem? views j ≡ some u → i ≢ j
    → 0 < v.gathered → 0 < u.gathered → v.number ≢ u.number

-- One pass

-- an idle pass holds nothing, and one that is not idle holds something
abbrev pub HoldsInPhase : Phase → List Held → Type 0
HoldsInPhase Idle held = held ≡ []
HoldsInPhase Reading held = held ≡ []
HoldsInPhase (Looking r) held = held ≡ []
HoldsInPhase _ held = 0 < length held

-- where there is one pass, nobody but it draws
abbrev pub Alone : ℕ → ℕ → Phase → Type 0
Alone clock at Reading = clock ≡ at
Alone clock at (Looking r) = clock ≡ at
Alone clock at Locking = clock ≡ at
Alone clock at (Testing r) = clock ≡ at
Alone clock at (Drawn t) = (clock ≡ at + 1) × (t ≡ clock)
Alone clock at _ = Unit {0}

-- what is left of a pass that was gathered into another
pub record Spent (v : View) : Type 0 where
  pub phase : v.phase ≡ Idle
  pub entries : v.entries ≡ []
  pub draws : v.draws ≡ 0

-- no claim or finding is of a later start
pub record HasStarts (starts : ℕ) (cs : List Claim) (ws : List Wrote) (fs : List Finding) : Type 0 where
  pub claims : Each (λ (c : Claim). c.start ≤ starts) cs
  pub wrote : Each (λ (c : Wrote). c.start ≤ starts) ws
  pub findings : Each (λ (f : Finding). f.start ≤ starts) fs

-- a pending entry is the one that its pass has drawn
abbrev pub IsOwn : Phase → Entry → Type 0
IsOwn phase e = e.fate ≡ Pending → phase ≡ Drawn e.ticket

-- the ticket is that of a committed entry that writes the part
pub record IsTrueWrote (log : Log) (clock : ℕ) (c : Wrote) : Type 0 where
  pub above : 0 < c.ticket
  pub within : c.ticket ≤ clock
  pub wrote : writes (committed_updates (log c.ticket)) c.part ≡ true

-- an open read: its part has the ticket found still, or one that is above it and above `at`; and while the
-- part is settled with the ticket found, the words read are the part's
pub record IsTrueRead (clock : ℕ) (parts : List Part) (settled : ℕ → Type 0) (at : ℕ)
    (r : OpenRead) : Type 0 where
  pub within : r.ticket ≤ clock
  pub now : (part : Part) → IsPart parts r.part part → (part.ticket ≡ r.ticket) ⊎ IsLaterThan r at part.ticket
  pub words : (part : Part) → IsPart parts r.part part → settled r.part → part.ticket ≡ r.ticket
      → ReadsAgree r.reads part.words

-- a held part has the ticket that its lock found, and reads under the hold found these words of it
pub record IsTrueHold (parts : List Part) (words : Part → ℕ → List ℤ) (h : Held) : Type 0 where
  pub part : Part
  pub there : IsPart parts h.part part
  pub ticket : part.ticket ≡ h.ticket
  pub reads : ReadsAgree h.reads (words part h.part)

-- a pass that has dropped the ticket t and still holds parts
pub record HasLost (log : Log) (clock t : ℕ) (entries : List Entry) (held : List Held) : Type 0 where
  pub dropped : (log t).fate ≡ Dropped
  pub own : 0 < times t entries
  pub above : 0 < t
  pub within : t ≤ clock
  pub writes : (p : ℕ) → 0 < count p held → writes (log t).updates p ≡ true
  pub tickets : Each (λ (h : Held). h.ticket < t) held

module _ (opening : Contents) (log : Log) where
  -- a looked part was so as of some number below the ticket t
  abbrev pub WasSoBelow : ℕ → Looked → Type 0
  WasSoBelow t l = (n : ℕ) × (n < t) × PartAsOf opening log l.part n l.ticket l.words

  -- a looked part was so before the ticket t
  abbrev pub WasSoBefore : ℕ → Looked → Type 0
  WasSoBefore t l = PartAsOf opening log l.part (t - 1) l.ticket l.words

  -- the part had this ticket and these words as of the number of the claim, whatever is decided later
  pub record IsTrueClaim (clock : ℕ) (c : Claim) : Type 0 where
    pub within : c.number ≤ clock
    pub stands : PartAsOf opening log c.part c.number c.ticket c.words

  -- the words that reads under a hold found, by the phase: those of the part, or those before the ticket
  -- that won
  abbrev pub held_words : Phase → Part → ℕ → List ℤ
  held_words (Won t puts) part p = up opening log p (t - 1)
  held_words _ part p = part.words

  -- a pass with this number, entries, holds and checked parts has drawn the ticket t
  pub record HasDrawn (clock t number : ℕ) (entries : List Entry) (held : List Held)
      (checks : List (ℕ × ℕ)) : Type 0
    where
      pub pending : (log t).fate ≡ Pending
      pub own : 0 < times t entries
      pub pass : (log t).pass ≡ number
      pub above : 0 < t
      pub within : t ≤ clock
      -- no later entry has the number of this pass
      pub latest : (u : ℕ) → t < u → u ≤ clock → (log u).pass ≢ number
      -- it holds exactly the parts that its entry writes
      pub holds : (p : ℕ) → weight (writes (log t).updates p) ≡ count p held
      pub tickets : Each (λ (h : Held). h.ticket < t) held
      pub checked : Each (λ (c : ℕ × ℕ). TicketAsOf opening log c.0 (t - 1) c.1) checks
      pub looked : Each (WasSoBelow t) (log t).looked

  -- a pass with these entries and holds has won with the ticket t and has put these words
  pub record HasWon (clock : ℕ) (parts : List Part) (t : ℕ) (puts : List (ℕ × ℕ)) (entries : List Entry)
      (held : List Held)
      : Type 0 where
    pub committed : (log t).fate ≡ Committed
    pub own : 0 < times t entries
    pub above : 0 < t
    pub within : t ≤ clock
    -- it holds only parts that its entry writes, each below its ticket, and it is their last writer
    pub writes : (p : ℕ) → 0 < count p held → writes (log t).updates p ≡ true
    pub tickets : Each (λ (h : Held). h.ticket < t) held
    pub last : (p : ℕ) → 0 < count p held → last_writer opening log p clock ≡ t
    -- a word that was put is as after the ticket, and any other as before it
    pub put : (p i : ℕ) (part : Part) → 0 < count p held → IsPart parts p part → was_put puts p i ≡ true
        → get_elem? part.words i ≡ get_elem? (up opening log p t) i
    pub rest : (p i : ℕ) (part : Part) → 0 < count p held → IsPart parts p part → was_put puts p i ≡ false
        → get_elem? part.words i ≡ get_elem? (up opening log p (t - 1)) i

-- the claims of the running attempt are of numbers up to `at`, as they are before its commit begins
abbrev pub HasEarlyClaims : View → Type 0
HasEarlyClaims v = Each (λ (c : Claim). c.start ≡ v.starts → c.number ≤ v.at) v.claims

-- what the rule says of a view by its phase
abbrev pub InPhase : Contents → World → (ℕ → Type 0) → Phase → View → Type 0
InPhase opening world settled Idle v = Unit {0}
InPhase opening world settled Reading v = HasEarlyClaims v
InPhase opening world settled (Looking r) v =
    IsTrueRead world.clock world.parts settled v.at r × (r.ticket ≤ v.at) × HasEarlyClaims v
InPhase opening world settled Locking v = Unit {0}
InPhase opening world settled (Testing r) v = IsTrueRead world.clock world.parts settled v.at r
InPhase opening world settled (Drawn t) v =
    HasDrawn opening world.log world.clock t v.number v.entries v.held v.checked
InPhase opening world settled (Won t puts) v =
    HasWon opening world.log world.clock world.parts t puts v.entries v.held
InPhase opening world settled (Lost t) v = HasLost world.log world.clock t v.entries v.held

module _ (valid : Validity) (sizes : List ℕ) (opening : Contents) where
  -- a pass of words that were opened with these sizes and contents, whose status word is one of `passes`
  pub record Serves (passes : ℕ) (v : View) : Type 0 where
    pub number : v.number < passes
    pub same_sizes : v.sizes ≡ sizes
    pub same_opening : v.opening ≡ opening

  -- an entry of a view is that of its ticket in the history, it keeps validity, and once it is committed
  -- what it looked at was so before its ticket
  pub record IsLogged (log : Log) (clock : ℕ) (e : Entry) : Type 0 where
    pub within : e.ticket ≤ clock
    pub logged : log e.ticket ≡ e
    pub rising : IsRising e.updates
    pub widths : UpdatesFit opening e.updates
    pub keeps : KeepsValid valid sizes e.looked e.updates
    pub looked : e.fate ≡ Committed → Each (WasSoBefore opening log e.ticket) e.looked

  -- what the rule says of one view
  pub record Fits (world : World) (settled : ℕ → Type 0) (v : View) : Type 0 where
    pub spent : v.gathered ≡ 0 → Spent v
    pub serves : 0 < v.gathered → Serves world.passes v
    pub at : v.at ≤ world.clock
    pub starts : HasStarts v.starts v.claims v.wrote v.findings
    pub holds : HoldsInPhase v.phase v.held
    pub on_hold : Each (IsTrueHold world.parts (held_words opening world.log v.phase)) v.held
    pub own : Each (IsOwn v.phase) v.entries
    pub entries : Each (IsLogged world.log world.clock) v.entries
    pub claims : Each (IsTrueClaim opening world.log world.clock) v.claims
    pub wrote : Each (IsTrueWrote world.log world.clock) v.wrote
    pub knows : InPhase opening world settled v.phase v
    pub alone : world.passes ≡ 1 → 0 < v.gathered → Alone world.clock v.at v.phase

  -- the rule of a core state and its past
  pub record Rule (past : Past) (c : Core) : Type 0 where
    -- the opening contents are valid, and all parts have their widths
    pub opened : valid sizes opening
    pub widths : map (λ (q : Part). length q.words) c.parts ≡ map length opening
    -- the clock cannot pass 2^56
    pub room : c.clock + total (λ v. v.draws) c.views ≤ 2 ^ 56
    -- the views stand for all passes
    pub gathered : total (λ v. v.gathered) c.views ≡ length c.statuses
    -- the tickets 1 to the clock each stand in the history once
    pub once_each : (t : ℕ) → total (λ v. times t v.entries) c.views ≡ once t c.clock
    -- a part's lock bit, as a number, is the number of its holds
    pub locks : (p : ℕ) (part : Part) → get_elem? c.parts p ≡ some part
        → weight part.locked ≡ total (λ v. count p v.held) c.views
    -- a settled part has its last writer as ticket, and the words after all commits
    pub settled : (p : ℕ) (part : Part) → get_elem? c.parts p ≡ some part → Settled c.views p
        → (part.ticket ≡ last_writer opening past.log p c.clock) × (part.words ≡ up opening past.log p c.clock)
    -- a pending writer of a part is held: by the pass that has drawn its ticket
    pub pending : (p t : ℕ) → t ≤ c.clock → writes (pending_updates (past.log t)) p ≡ true
        → 0 < total (λ v. if_drawn t v.phase (count p v.held)) c.views
    pub tickets : (p : ℕ) (part : Part) → get_elem? c.parts p ≡ some part → part.ticket ≤ c.clock
    -- a status word is that of the last decided entry with its number since the opening or reopening
    pub statuses : (n : ℕ) → n < length c.statuses
        → slice_index_or c.statuses n 0 ≡ status_after past.log past.since n c.clock
    pub since : past.since ≤ c.clock
    -- no entry was pending at the opening or reopening
    pub recent : (t : ℕ) → 0 < t → t ≤ c.clock → (past.log t).fate ≡ Pending → past.since < t
    pub numbers : NumbersApart c.views
    -- a ticket that is drawn, and a ticket that won, are above what open reads of its parts found
    pub meets : ReadsBeside c.views
    pub each : Each (Fits (world_of past c) (Settled c.views)) c.views

  -- the rule of a core state: some past meets it
  abbrev pub Holds : Core → Type 0
  Holds c = (past : Past) × Rule past c
