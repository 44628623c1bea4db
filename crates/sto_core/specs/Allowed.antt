-- When an event is allowed: what a call asks of its pass and its arguments.
use Rattle.std.specs.Prelude.{◌≡◌, ◌≢◌, ◌⊎◌, ◌<◌, ℕ, ℤ, List, [], ◌∷◌, length, Bool, true, false}
use Rattle.sto_item.specs.Pending.{change_at, is_keep, AreUpdates}
use Rattle.sto_core.specs.declared.view.Looked.{Looked}
use Rattle.sto_core.specs.declared.view.Held.{Held}
use Rattle.sto_core.specs.declared.view.Phase.{Phase}
use Rattle.sto_core.specs.declared.view.Phase.TheVariants.{Idle, Reading, Looking, Locking, Testing, Drawn, Won}
use Rattle.sto_core.specs.declared.view.Phase.TheVariants.{Lost}
use Rattle.sto_core.specs.declared.view.View.{View}
use Rattle.sto_core.specs.Lists.{Each, Among}
use Rattle.sto_core.specs.Reads.{words_read, AllRead}
use Rattle.sto_core.specs.History.{Updates, Validity, writes, UpdatesFit, KeepsValid}
use Rattle.sto_core.specs.Views.{holds, hold_of, own_entry, width_in, any_claim, was_put, is_standing}
use Rattle.sto_core.specs.Views.{is_recent, looked_parts}
use Rattle.sto_core.specs.Puts.{IsPutOf}
use Rattle.sto_core.specs.Event.{Event, Start, Open, Word, Close, Lock, Test, Draw, Check, Decide, Put, Release}
use Rattle.sto_core.specs.Event.{Unlock, Renew, Recheck}

-- the pass is idle: it may start, and it may be given back
abbrev pub IsIdle : Phase → Type 0
IsIdle Idle = Unit {0}
IsIdle Reading = Unit {0}
IsIdle (Looking r) = Unit {0}
IsIdle _ = ⊥

-- the same as a truth value
abbrev pub is_idle : Phase → Bool
is_idle Idle = true
is_idle Reading = true
is_idle (Looking r) = true
is_idle _ = false

-- the pass has drawn a ticket and not decided
abbrev pub IsDrawn : Phase → Type 0
IsDrawn phase = (t : ℕ) × (phase ≡ Drawn t)

-- p is a part of the pass's contents
abbrev pub HasPart : View → ℕ → Type 0
HasPart v p = p < length v.opening

-- i is a place in the part p
abbrev pub HasWord : View → ℕ → ℕ → Type 0
HasWord v p i = HasPart v p × (i < width_in v p)

-- the pass holds the part p
abbrev pub HoldsPart : View → ℕ → Type 0
HoldsPart v p = holds p v.held ≡ true

-- a word of the part p may be read: inside a read or a test of it, or under a hold before the draw
abbrev pub MayRead : View → ℕ → Phase → Type 0
MayRead v p (Looking r) = r.part ≡ p
MayRead v p (Testing r) = r.part ≡ p
MayRead v p Locking = HoldsPart v p
MayRead v p _ = ⊥

-- a read or a test of the part p may end, as all its words were read
abbrev pub MayClose : View → ℕ → Phase → Type 0
MayClose v p (Looking r) = (r.part ≡ p) × AllRead r.reads (width_in v p)
MayClose v p (Testing r) = (r.part ≡ p) × AllRead r.reads (width_in v p)
MayClose v p _ = ⊥

-- the part p may be locked: parts are locked in rising number
abbrev pub MayLock : View → ℕ → Phase → Type 0
MayLock v p Reading = Unit {0}
MayLock v p Locking = Each (λ (h : Held). h.part < p) v.held
MayLock v p _ = ⊥

-- the running attempt has a claim of the part
abbrev pub WasClaimed : View → ℕ → Type 0
WasClaimed v p = any_claim (is_recent v p) v.claims ≡ true

-- these part numbers rise, and are above n
abbrev pub RisesFrom : ℕ → List ℕ → Type 0
RisesFrom n [] = Unit {0}
RisesFrom n (p ∷ ps) = (n < p) × RisesFrom p ps

-- these part numbers rise
abbrev pub Rises : List ℕ → Type 0
Rises [] = Unit {0}
Rises (p ∷ ps) = RisesFrom p ps

-- the running attempt has a standing claim of the part
abbrev pub WasSeen : View → ℕ → Type 0
WasSeen v p = any_claim (is_standing v p) v.claims ≡ true

-- the commit loaded the part under its hold
abbrev pub LoadedByHold : View → ℕ → Type 0
LoadedByHold v p = HoldsPart v p × AllRead (hold_of p v.held).reads (width_in v p)

-- the commit loaded the part by a test, without a hold
abbrev pub LoadedByClaim : View → ℕ → Type 0
LoadedByClaim v p = (holds p v.held ≡ false) × WasClaimed v p

-- a ticket may be drawn for these updates, parts seen, and other parts loaded
pub record MayDraw (valid : Validity) (us : Updates) (seen loaded : List ℕ) (v : View) : Type 0 where
  pub phase : v.phase ≡ Locking
  pub draws : 0 < v.draws
  pub updates : AreUpdates us
  pub widths : UpdatesFit v.opening us
  -- the updates write exactly the held parts
  pub held : (p : ℕ) → writes us p ≡ holds p v.held
  pub seen_rise : Rises seen
  pub loaded_rise : Rises loaded
  pub apart : Each (λ (p : ℕ). Each (λ (q : ℕ). q ≢ p) loaded) seen
  pub sights : Each (WasSeen v) seen
  pub loads : Each (λ (p : ℕ). LoadedByHold v p ⊎ LoadedByClaim v p) loaded
  pub keeps : KeepsValid valid v.sizes (looked_parts v seen loaded) us

-- the hold of this part has the ticket and the words that were looked at
abbrev pub IsHeldAs : Looked → Held → ℕ → Type 0
IsHeldAs l h width = (h.ticket ≡ l.ticket) × AllRead h.reads width × (words_read h.reads width ≡ l.words)

-- the looked part is checked with its ticket, or has the ticket and the words read under this pass's hold
abbrev pub IsConfirmed : View → Looked → Type 0
IsConfirmed v l =
    Among (l.part, l.ticket) v.checked
    ⊎ (HoldsPart v l.part × IsHeldAs l (hold_of l.part v.held) (width_in v l.part))

-- the pass may decide; for the commit where each looked part of its entry is confirmed
abbrev pub MayDecide : Bool → View → Type 0
MayDecide true v = IsDrawn v.phase × Each (IsConfirmed v) (own_entry v).looked
MayDecide false v = IsDrawn v.phase

-- the value x may be put at place i of the part p
abbrev pub MayPut : ℕ → ℕ → ℤ → View → Phase → Type 0
MayPut p i x v (Won t puts) =
    HoldsPart v p × HasWord v p i × IsPutOf (change_at (own_entry v).updates p i) (hold_of p v.held).reads i x
MayPut p i x v _ = ⊥

-- each word of the part p that the updates change was put
abbrev pub AllPut : ℕ → View → List (ℕ × ℕ) → Type 0
AllPut p v puts =
    (i : ℕ) → i < width_in v p → is_keep (change_at (own_entry v).updates p i) ≡ false → was_put puts p i ≡ true

-- the part p may be released
abbrev pub MayRelease : ℕ → View → Phase → Type 0
MayRelease p v (Won t puts) = HasPart v p × HoldsPart v p × AllPut p v puts
MayRelease p v _ = ⊥

-- the part p may be unlocked
abbrev pub MayUnlock : ℕ → View → Phase → Type 0
MayUnlock p v Locking = HasPart v p × HoldsPart v p
MayUnlock p v (Lost t) = HasPart v p × HoldsPart v p
MayUnlock p v _ = ⊥

-- the event is allowed for a pass with this view
abbrev pub Allowed : Validity → Event → View → Type 0
Allowed valid Start v = IsIdle v.phase
Allowed valid (Open p) v = (v.phase ≡ Reading) × HasPart v p
Allowed valid (Word p i) v = MayRead v p v.phase × HasWord v p i
Allowed valid (Close p) v = MayClose v p v.phase × HasPart v p
Allowed valid Renew v = v.phase ≡ Reading
Allowed valid (Recheck p) v = (v.phase ≡ Reading) × HasPart v p × WasClaimed v p
Allowed valid (Lock p) v = MayLock v p v.phase × HasPart v p
Allowed valid (Test p) v = (v.phase ≡ Locking) × HasPart v p × (holds p v.held ≡ false)
Allowed valid (Draw us seen loaded) v = MayDraw valid us seen loaded v
Allowed valid (Check p) v = IsDrawn v.phase × HasPart v p
Allowed valid (Decide commit) v = MayDecide commit v
Allowed valid (Put p i x) v = MayPut p i x v v.phase
Allowed valid (Release p) v = MayRelease p v v.phase
Allowed valid (Unlock p) v = MayUnlock p v v.phase
