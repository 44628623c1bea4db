-- After each step of a commit the replies are still the first ones of the body's run.
use Rattle.std.specs.Prelude.{◌*◌, if◌then◌else◌, nat_eq}
use Rattle.std.proofs.Common.{◌≡◌, ℕ, ℤ, Bool, true, false, List, [], ◌∷◌, ◌++◌, refl, sym, ◌∙◌, subst}
use Rattle.sto_part.specs.Listed.{Listed}
use Rattle.sto_item.specs.Pending.{Entry as Update}
use Rattle.sto_model.specs.PlainReplies.{PlainReply}
use Rattle.sto_model.specs.Run.{Behaviour}
use Rattle.sto_core.specs.declared.view.Claim.{Claim}
use Rattle.sto_core.specs.declared.view.Phase.{Phase}
use Rattle.sto_core.specs.declared.view.Phase.TheVariants.{Looking, Testing}
use Rattle.sto_core.specs.declared.view.View.{View}
use Rattle.sto_core.specs.Lists.{Among}
use Rattle.sto_core.specs.Versions.{is_free}
use Rattle.sto_core.specs.Event.{Event, Start, Open, Word, Close, Lock, Test, Draw, Check, Decide, Put, Release, Unlock, Renew, Recheck, after, found, read_by, closed_by, locked_by, checked_by, passes_check}
use Rattle.sto_type.specs.Meaning.{Meaning}
use Rattle.sto_attempt_log.specs.declared.commit_phase.CommitPhase.{CommitPhase}
use Rattle.sto_attempt_log.specs.declared.commit_phase.CommitPhase.TheVariants as S
use Rattle.sto_attempt_log.specs.declared.commit_phase.FoundTicket.{FoundTicket}
use Rattle.sto_attempt_log.specs.declared.commit_phase.LoadedWord.{LoadedWord}
use Rattle.sto_attempt_log.specs.Answers.{OneEvent, IsCommitEvent, IsPrefix}
use Rattle.sto_attempt_log.specs.Committing.{IsSealed}
use Rattle.sto_attempt_log.specs.CommitPhases.{Deal, Stands}
use Rattle.sto_attempt_log.proofs.Prefix.{prefix}
use Rattle.sto_attempt_log.proofs.Reading.{among_front}

-- the running attempt keeps its claims
record Keeps (v w : View) : Type 0 where
  starts : w.starts ≡ v.starts
  claims : (c : Claim) → Among c v.claims → Among c w.claims

read_keeps : (h : Phase) (v : View) (p i : ℕ) (x : ℤ) → Keeps v (read_by h v p i x)
read_keeps (Looking r) v p i x = record { starts = refl; claims = λ c a. a }
read_keeps (Testing r) v p i x = record { starts = refl; claims = λ c a. a }
read_keeps _ v p i x = record { starts = refl; claims = λ c a. a }

claim_keeps : (b : Bool) (v : View) (c : Claim) (h : Phase) → Keeps v (record (if b then record v { claims = v.claims ++ c ∷ [] } else v) { phase = h })
claim_keeps true v c h = record { starts = refl; claims = λ d a. among_front v.claims c d a }
claim_keeps false v c h = record { starts = refl; claims = λ d a. a }

close_keeps : (h : Phase) (v : View) (n : ℕ) → Keeps v (closed_by h v n)
close_keeps (Looking r) v n = claim_keeps (nat_eq n (2 * r.ticket)) v _ _
close_keeps (Testing r) v n = claim_keeps (nat_eq n (2 * r.ticket)) v _ _
close_keeps _ v n = record { starts = refl; claims = λ c a. a }

lock_keeps : (b : Bool) (v : View) (p n : ℕ) → Keeps v (locked_by b v p n)
lock_keeps true v p n = record { starts = refl; claims = λ c a. a }
lock_keeps false v p n = record { starts = refl; claims = λ c a. a }

check_keeps : (b : Bool) (v : View) (p n : ℕ) → Keeps v (checked_by b v p n)
check_keeps true v p n = record { starts = refl; claims = λ c a. a }
check_keeps false v p n = record { starts = refl; claims = λ c a. a }

keeps_on : (v u w : View) → Keeps v u → Keeps u w → Keeps v w
keeps_on v u w h k = record { starts = k.starts ∙ h.starts; claims = λ c a. k.claims c (h.claims c a) }

found_keeps : (v : View) (p n : ℕ) → Keeps v (found v p n)
found_keeps v p n = record { starts = refl; claims = λ c a. a }

event_keeps : (us : List Update) (e : Event) → IsCommitEvent us e → (v : View) (n : ℕ) (x : ℤ) → Keeps v (after e v n x)
event_keeps us Start k v n x = absurd k
event_keeps us (Open p) k v n x = absurd k
event_keeps us Renew k v n x = absurd k
event_keeps us (Recheck p) k v n x = absurd k
event_keeps us (Word p i) k v n x = read_keeps v.phase v p i x
event_keeps us (Close p) k v n x = keeps_on v (found v p n) (closed_by v.phase (found v p n) n) (found_keeps v p n) (close_keeps v.phase (found v p n) n)
event_keeps us (Lock p) k v n x = keeps_on v (found v p n) (locked_by (is_free n) (found v p n) p n) (found_keeps v p n) (lock_keeps (is_free n) (found v p n) p n)
event_keeps us (Test p) k v n x = record { starts = refl; claims = λ c a. a }
event_keeps us (Draw updates seen loaded) k v n x = record { starts = refl; claims = λ c a. a }
event_keeps us (Check p) k v n x = keeps_on v (found v p n) (checked_by (passes_check v p n) (found v p n) p n) (found_keeps v p n) (check_keeps (passes_check v p n) (found v p n) p n)
event_keeps us (Decide commit) k v n x = record { starts = refl; claims = λ c a. a }
event_keeps us (Put p i y) k v n x = record { starts = refl; claims = λ c a. a }
event_keeps us (Release p) k v n x = record { starts = refl; claims = λ c a. a }
event_keeps us (Unlock p) k v n x = record { starts = refl; claims = λ c a. a }

prefix_kept : (m : Meaning) (f : Behaviour) (v w : View) (at : ℕ) (rs : List PlainReply) → Keeps v w → IsPrefix m f v at rs → IsPrefix m f w at rs
prefix_kept m f v w at rs k h d valid has =
    h d valid (λ j c e start number. let a = k.claims c (j, e) in has a.0 c a.1 (start ∙ sym k.starts) number)

-- what stays so through the commit
pub sealed_at : (d : Deal) (found_tickets : Listed FoundTicket) (loaded_words : List LoadedWord) (commit_phase : CommitPhase) (v : View) → Stands d found_tickets loaded_words commit_phase v → IsSealed d.m d.valid d.sizes d.f d.at d.base d.items d.us d.rs v
sealed_at d found_tickets loaded_words (S.Locking n) v h = h.going.sealed
sealed_at d found_tickets loaded_words (S.Leaving k n verdict) v h = h.sealed
sealed_at d found_tickets loaded_words (S.Loading n i) v h = h.loading.going.sealed
sealed_at d found_tickets loaded_words (S.Testing n) v h = h.loading.going.sealed
sealed_at d found_tickets loaded_words (S.Tested n i t) v h = h.going.sealed
sealed_at d found_tickets loaded_words S.Drawing v h = h.going.sealed
sealed_at d found_tickets loaded_words (S.Checking n t) v h = h.1.sealed
sealed_at d found_tickets loaded_words (S.Deciding t) v h = h.sealed
sealed_at d found_tickets loaded_words (S.Putting n t) v h = h.1.1.sealed
sealed_at d found_tickets loaded_words (S.Releasing k t) v h = h.1.1.sealed
sealed_at d found_tickets loaded_words (S.Dropping t verdict) v h = h.sealed
sealed_at d found_tickets loaded_words S.Over v h = absurd h

stands_prefix : (d : Deal) (found_tickets : Listed FoundTicket) (loaded_words : List LoadedWord) (commit_phase : CommitPhase) (v : View) → Stands d found_tickets loaded_words commit_phase v → IsPrefix d.m d.f v d.at d.rs
stands_prefix d found_tickets loaded_words commit_phase v h = let s = sealed_at d found_tickets loaded_words commit_phase v h in prefix d.m d.f v d.at d.base d.items d.us d.rs s.log s.claimed

pub step_prefix : (d : Deal) (found_tickets : Listed FoundTicket) (loaded_words : List LoadedWord) (commit_phase : CommitPhase) (v : View) → Stands d found_tickets loaded_words commit_phase v → (passes : ℕ) (w : View) → OneEvent (IsCommitEvent d.us) d.valid passes v w → IsPrefix d.m d.f w d.at d.rs
step_prefix d found_tickets loaded_words commit_phase v h passes w one =
    let kept : Keeps v w = subst (λ (y : View). Keeps v y) (sym one.tells.after) (event_keeps d.us one.event one.of_kind v one.number one.value) in
    prefix_kept d.m d.f v w d.at d.rs kept (stands_prefix d found_tickets loaded_words commit_phase v h)
