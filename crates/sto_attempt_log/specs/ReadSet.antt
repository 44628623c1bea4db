-- The parts that an attempt has read, and the claims that its pass has of them.
use Rattle.std.specs.Prelude.{◌≡◌, ◌≤◌, ℕ, ℤ, pos, nat_eq, if◌then◌else◌, Option, Some, None, List, [], ◌∷◌, slice_index_or, IsTrue}
use Rattle.sto_part.specs.Parts.{part_of}
use Rattle.sto_part.specs.Preds.{holds_of}
use Rattle.sto_part.specs.declared.pred.Pred.{Pred}
use Rattle.sto_core.specs.declared.view.Claim.{Claim}
use Rattle.sto_core.specs.declared.view.View.{View}
use Rattle.sto_core.specs.Lists.{Each, Among}
use Rattle.sto_type.specs.Known.{Parts, Known}
use Rattle.sto_attempt_log.specs.declared.read_entry.ReadEntry.{ReadEntry}

-- what the parts that were read tell of contents; the first counts
abbrev pub words_in : List ReadEntry → Known
words_in [] p = None
words_in (s ∷ ss) p = if nat_eq s.part p then Some s.words.items else words_in ss p

-- the ticket of a part that was read
abbrev pub ticket_in : List ReadEntry → ℕ → Option ℕ
ticket_in [] p = None
ticket_in (s ∷ ss) p = if nat_eq s.part p then Some s.ticket else ticket_in ss p

-- the claim that a part had these words and this ticket as of a number, made since the last start
abbrev pub claim_of : View → ℕ → ReadEntry → Claim
claim_of v number s = record { start = v.starts; number = number; part = s.part; ticket = s.ticket; words = s.words.items }

-- the view has it, with a ticket that does not pass the number
pub record IsClaimed (v : View) (number : ℕ) (s : ReadEntry) : Type 0 where
  pub among : Among (claim_of v number s) v.claims
  pub early : s.ticket ≤ number

-- it has those of all parts that were read
abbrev pub AreClaimed : View → ℕ → List ReadEntry → Type 0
AreClaimed v number [] = Unit {0}
AreClaimed v number (s ∷ ss) = IsClaimed v number s × AreClaimed v number ss

-- the running attempt has no other claims as of the number: each is of a part that was read, with its ticket
abbrev pub AreOnly : View → ℕ → List ReadEntry → Type 0
AreOnly v number ss = Each (λ (c : Claim). c.start ≡ v.starts → c.number ≡ number → ticket_in ss c.part ≡ Some c.ticket) v.claims

-- its claims are as of no later number
abbrev pub AreBelow : View → ℕ → Type 0
AreBelow v number = Each (λ (c : Claim). c.start ≡ v.starts → c.number ≤ number) v.claims

-- the contents have what the running attempt claims as of the number
abbrev pub HasClaims : View → ℕ → Parts → Type 0
HasClaims v number d = Each (λ (c : Claim). c.start ≡ v.starts → c.number ≡ number → part_of d c.part ≡ c.words) v.claims

-- the predicate is true of these words of its part
abbrev pub IsTrueIn : List ℤ → Pred → Type 0
IsTrueIn ws p = IsTrue (holds_of p (slice_index_or ws p.word (pos 0)))

abbrev pub AllTrueIn : List ℤ → List Pred → Type 0
AllTrueIn ws [] = Unit {0}
AllTrueIn ws (p ∷ ps) = IsTrueIn ws p × AllTrueIn ws ps
