-- What an attempt tells at its end is what its record tells.
use Rattle.std.proofs.Common.{ℕ, ◌≤◌, List, [], ◌∷◌, refl, sym, subst, arith, false, inl, inr}
use Rattle.sto_model.specs.PlainReplies.{PlainReply}
use Rattle.sto_model.specs.Run.{Behaviour}
use Rattle.sto_type.specs.Known.{Parts}
use Rattle.sto_type.specs.Meaning.{Meaning}
use Rattle.sto_core.specs.declared.view.View.{View}
use Rattle.sto_attempt_log.specs.ReadSet.{HasClaims}
use Rattle.sto_attempt_log.specs.Answers as answers
use Rattle.sto_attempt_log.specs.Standing.{Ends}
use Rattle.sto_attempt_log.specs.declared.verdict.Verdict.{Verdict}
use Rattle.sto_attempt_log.specs.declared.verdict.Verdict.TheVariants.{Wrote, Read, Cancelled, Locked, Changed}
use Rattle.sto_attempt_log.specs.CommitPhases.{Deal, EndsWith}
use Rattle.sto_history.specs.Told.{HasFound, IsLockedFinding, IsTicketFinding, HasClaimed, IsTold, IsFound, HasRead, HasCancelled, WasAborted, WasChanged}
use Rattle.sto_history.specs.Added.{IsKnown}
use Rattle.sto_history.specs.Records.{IsSince}
use Rattle.sto_transaction.specs.Plain.{verdict}

-- the claims of the running attempt are among all of a number
claims_of : (v : View) (n : ℕ) (c : Parts) → HasClaimed v n c → HasClaims v n c
claims_of v n c h j k at start number = h j k at number

told_locked : (m : Meaning) (f : Behaviour) (v : View) (at p : ℕ) (rs : List PlainReply) → at ≤ v.at → answers.WasLocked m f v at p rs → WasAborted m v f rs at p
told_locked m f v at p rs within h = record { known = within; runs = λ c valid k. h.runs c valid (claims_of v at c k); touched = h.touched; unsettled = h.unsettled }

told_changed : (m : Meaning) (f : Behaviour) (v : View) (at p t : ℕ) (rs : List PlainReply) → at ≤ v.at → answers.WasChanged m f v at p t rs → WasChanged m v f rs at p t
told_changed m f v at p t rs within h = record {
  aborted = record { known = within; runs = λ c valid k. h.runs c valid (claims_of v at c k); touched = h.touched; unsettled = h.unsettled };
  later = h.later;
  wrote = record { claim = record { start = v.starts; ticket = t; part = p }; there = h.wrote; by = refl; on = refl };
}

-- the number of a verdict that is not a commit
pub ends_told : (m : Meaning) (f : Behaviour) (v : View) (at : ℕ) (rs : List PlainReply) (x : Verdict) → at ≤ v.at → Ends m f v at rs x → IsTold m v f rs (verdict x)
ends_told m f v at rs (Wrote t) within h = absurd h
ends_told m f v at rs (Read n) within h = subst (λ (k : ℕ). HasRead m v f rs k) (sym h.0)
    (record { known = within; runs = λ c valid k. h.1.runs c valid (claims_of v at c k); ends = h.1.ends; writes = h.1.writes })
ends_told m f v at rs (Cancelled n) within h = subst (λ (k : ℕ). HasCancelled m v f rs k) (sym h.0)
    (record { known = within; runs = λ c valid k. h.1.runs c valid (claims_of v at c k); ends = h.1.ends })
ends_told m f v at rs (Locked n p) within h = subst (λ (k : ℕ). WasAborted m v f rs k p) (sym h.0) (told_locked m f v at p rs within h.1)
ends_told m f v at rs (Changed n p t) within h = subst (λ (k : ℕ). WasChanged m v f rs k p t) (sym h.0) (told_changed m f v at p t rs within h.1)

-- The finding of an aborted attempt.
found_locked : (v : View) (p : ℕ) → answers.HasFoundLocked v p → HasFound v v.starts p IsLockedFinding
found_locked v p h = record { finding = record { start = v.starts; part = p; version = h.version; held = false }; there = h.among; begun = refl; on = refl; is = (h.locked, refl) }

found_ticket : (v : View) (p t : ℕ) → answers.HasFound v p t → HasFound v v.starts p (IsTicketFinding t)
found_ticket v p t h = record { finding = h.finding; there = h.among; begun = h.start; on = h.on; is = (h.is, h.own) }

pub ends_found : (m : Meaning) (f : Behaviour) (v : View) (at : ℕ) (rs : List PlainReply) (x : Verdict) → Ends m f v at rs x → IsFound v v.starts (verdict x)
ends_found m f v at rs (Wrote t) h = tt
ends_found m f v at rs (Read n) h = tt
ends_found m f v at rs (Cancelled n) h = tt
ends_found m f v at rs (Locked n p) h = found_locked v p h.1.found
ends_found m f v at rs (Changed n p t) h = found_ticket v p t h.1.found

-- an attempt that has not committed began once all was known that its number covers
pub ends_since : (m : Meaning) (f : Behaviour) (b v : View) (at : ℕ) (rs : List PlainReply) (x : Verdict) → ((k : ℕ) → IsKnown b k → k ≤ at) → Ends m f v at rs x → (k : ℕ) → IsKnown b k → IsSince k (verdict x)
ends_since m f b v at rs (Wrote t) late h k known = absurd h
ends_since m f b v at rs (Read n) late h k known = (let a = late k known in let e = h.0 in omega (arith, a, e))
ends_since m f b v at rs (Cancelled n) late h k known = (let a = late k known in let e = h.0 in omega (arith, a, e))
ends_since m f b v at rs (Locked n p) late h k known = (let a = late k known in let e = h.0 in omega (arith, a, e))
ends_since m f b v at rs (Changed n p t) late h k known = (let a = late k known in let e = h.0 in omega (arith, a, e))

-- the same of a commit
pub said_told : (d : Deal) (v : View) (x : Verdict) → d.at ≤ v.at → EndsWith d v x → IsTold d.m v d.f d.rs (verdict x)
said_told d v (Wrote t) within h = record { entry = h.entry; there = h.among; drawn = h.drawn; committed = h.fate; runs = h.runs; ends = h.ends; writes = h.writes }
said_told d v (Read n) within h = absurd h
said_told d v (Cancelled n) within h = absurd h
said_told d v (Locked n p) within h = subst (λ (k : ℕ). WasAborted d.m v d.f d.rs k p) (sym h.0) (told_locked d.m d.f v d.at p d.rs within h.1)
said_told d v (Changed n p t) within h = subst (λ (k : ℕ). WasChanged d.m v d.f d.rs k p t) (sym h.0) (told_changed d.m d.f v d.at p t d.rs within h.1)

pub said_found : (d : Deal) (v : View) (x : Verdict) → EndsWith d v x → IsFound v v.starts (verdict x)
said_found d v (Wrote t) h = tt
said_found d v (Read n) h = tt
said_found d v (Cancelled n) h = tt
said_found d v (Locked n p) h = found_locked v p h.1.found
said_found d v (Changed n p t) h = found_ticket v p t h.1.found
