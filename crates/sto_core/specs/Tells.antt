-- What a pass learns from an event, beside its view after it: four facts of its own view.
use Rattle.std.specs.Prelude.{◌≡◌, ◌≢◌, ◌+◌, ◌*◌, ◌^◌, ◌<◌, ◌≤◌, ℕ, ℤ, List, [], true}
use mathlib.Core.Option.{some}
use lib.ListN.{get_elem?}
use Rattle.sto_part.specs.Parts.{part_of}
use Rattle.sto_core.specs.declared.view.Entry.{Entry}
use Rattle.sto_core.specs.declared.view.Fate.TheVariants.{Pending}
use Rattle.sto_core.specs.declared.view.Claim.{Claim}
use Rattle.sto_core.specs.declared.view.Wrote.{Wrote}
use Rattle.sto_core.specs.declared.view.Finding.{Finding}
use Rattle.sto_core.specs.declared.view.OpenRead.{OpenRead}
use Rattle.sto_core.specs.declared.view.Phase.{Phase}
use Rattle.sto_core.specs.declared.view.Phase.TheVariants.{Looking, Locking, Testing}
use Rattle.sto_core.specs.declared.view.View.{View}
use Rattle.sto_core.specs.Lists.{Each, Among}
use Rattle.sto_core.specs.Versions.{ticket_of, is_free}
use Rattle.sto_core.specs.Reads.{words_read}
use Rattle.sto_core.specs.History.{Contents, Validity}
use Rattle.sto_core.specs.Views.{hold_of, width_in}
use Rattle.sto_core.specs.Event.{Event, Start, Open, Word, Close, Lock, Test, Draw, Check, Decide, Put, Release}
use Rattle.sto_core.specs.Event.{Unlock, Renew, Recheck, after, is_own_or_free, is_claimed_still, words_claimed}
use Rattle.sto_core.specs.Allowed.{Allowed}

-- the first fact: the claims of one number are part of some valid contents
abbrev pub ClaimsFit : Validity → View → Type 0
ClaimsFit valid v =
    (n : ℕ) → (whole : Contents) × valid v.sizes whole
    × Each (λ (c : Claim). c.number ≡ n → part_of whole c.part ≡ c.words) v.claims

-- the second and the third fact of a ticket t that is found at part p, free or under the pass's own hold
pub record Fresh (v : View) (p t : ℕ) : Type 0 where
  -- it is the ticket of each claim of the part whose number it does not pass
  pub same : Each (λ (c : Claim). c.part ≡ p → t ≤ c.number → t ≡ c.ticket) v.claims
  -- it is not below the ticket of a claim of the part
  pub claims : Each (λ (c : Claim). c.part ≡ p → c.ticket ≤ t) v.claims
  pub wrote : Each (λ (c : Wrote). c.part ≡ p → c.ticket ≤ t) v.wrote

-- the fourth fact, where the words were opened or reopened with one pass
abbrev pub FoundAlone : View → ℕ → ℕ → Type 0
FoundAlone v p n = (is_own_or_free v p n ≡ true) × (ticket_of n ≤ v.at)

-- what every version n that is found at part p tells, with the view w after it
pub record Finds (passes : ℕ) (v : View) (p n : ℕ) (w : View) : Type 0 where
  -- the second fact: a ticket that is found free or under the own hold is claimed to have written the part
  pub wrote : is_own_or_free v p n ≡ true → 0 < ticket_of n
      → Among (record { start = v.starts; ticket = ticket_of n; part = p }) w.wrote
  pub fresh : is_own_or_free v p n ≡ true → Fresh v p (ticket_of n)
  pub alone : passes ≡ 1 → FoundAlone v p n

-- a close that finds the part free with another ticket than its open or test did finds a later one
abbrev pub IsLater : OpenRead → View → ℕ → Type 0
IsLater r v n = is_free n ≡ true → ticket_of n ≢ r.ticket → (r.ticket < ticket_of n) × (v.at < ticket_of n)

-- words that were read under the ticket t are those of each claim of the part whose number t does not pass
abbrev pub HasClaimed : View → ℕ → ℕ → List ℤ → Type 0
HasClaimed v p t words = Each (λ (c : Claim). c.part ≡ p → t ≤ c.number → words ≡ c.words) v.claims

-- what a close that finds the version n tells of the words read
abbrev pub Closes : Phase → View → ℕ → ℕ → Type 0
Closes (Looking r) v p n =
    IsLater r v n × (n ≡ 2 * r.ticket → HasClaimed v p r.ticket (words_read r.reads (width_in v p)))
Closes (Testing r) v p n =
    IsLater r v n × (n ≡ 2 * r.ticket → HasClaimed v p r.ticket (words_read r.reads (width_in v p)))
Closes _ v p n = Unit {0}

-- what a recheck that finds the version n tells of the words that it claims again
abbrev pub Rechecks : View → ℕ → ℕ → Type 0
Rechecks v p n = is_claimed_still v p n ≡ true → HasClaimed v p (ticket_of n) (words_claimed v p n)

-- a word that is read under a hold is that of each claim of the part whose number the ticket of the hold
-- does not pass
abbrev pub ReadsHeld : Phase → View → ℕ → ℕ → ℤ → Type 0
ReadsHeld Locking v p i x =
    Each (λ (c : Claim). c.part ≡ p → (hold_of p v.held).ticket ≤ c.number
    → get_elem? c.words i ≡ some x) v.claims
ReadsHeld _ v p i x = Unit {0}

-- a number of the clock is at least all numbers that the view has
pub record Covers (v : View) (n : ℕ) : Type 0 where
  pub at : v.at ≤ n
  pub entries : Each (λ (e : Entry). e.ticket ≤ n) v.entries
  pub claims : Each (λ (c : Claim). (c.number ≤ n) × (c.ticket ≤ n)) v.claims
  pub wrote : Each (λ (c : Wrote). c.ticket ≤ n) v.wrote

-- an attempt begins: its pass holds nothing and has no pending entry, no claim or finding is of this attempt, and
-- the contents of the opening are valid
pub record Begins (valid : Validity) (w : View) : Type 0 where
  pub held : w.held ≡ []
  pub decided : Each (λ (e : Entry). e.fate ≢ Pending) w.entries
  pub claims : Each (λ (c : Claim). c.start < w.starts) w.claims
  pub wrote : Each (λ (c : Wrote). c.start < w.starts) w.wrote
  pub findings : Each (λ (f : Finding). f.start < w.starts) w.findings
  pub opened : valid w.sizes w.opening

-- what an event tells a pass with the view v that finds the number n or the value x, and has the view w
-- after it
abbrev pub Learns : Validity → ℕ → Event → View → ℕ → ℤ → View → Type 0
Learns valid passes Start v n x w = Covers v n × Begins valid w
Learns valid passes (Open p) v n x w = Finds passes v p n w
Learns valid passes (Word p i) v n x w = ReadsHeld v.phase v p i x
Learns valid passes (Close p) v n x w = Finds passes v p n w × Closes v.phase v p n
Learns valid passes Renew v n x w = Covers v n
Learns valid passes (Recheck p) v n x w = Finds passes v p n w × Rechecks v p n
Learns valid passes (Lock p) v n x w = Finds passes v p n w
Learns valid passes (Test p) v n x w = Finds passes v p n w
Learns valid passes (Draw us seen loaded) v n x w = Covers v n × (n + 1 ≤ 2 ^ 56)
Learns valid passes (Check p) v n x w = Finds passes v p n w
Learns valid passes (Decide commit) v n x w = Unit {0}
Learns valid passes (Put p i y) v n x w = Unit {0}
Learns valid passes (Release p) v n x w = Unit {0}
Learns valid passes (Unlock p) v n x w = Unit {0}

-- all that an event tells: that it was allowed, the view after it, that it is one step, the first fact, and
-- the others
pub record Tells (valid : Validity) (passes : ℕ) (e : Event) (v : View) (n : ℕ) (x : ℤ)
    (w : View) : Type 0 where
  pub allowed : Allowed valid e v
  pub after : w ≡ after e v n x
  pub counts : w.steps ≡ v.steps + 1
  pub fit : ClaimsFit valid w
  pub learns : Learns valid passes e v n x w
