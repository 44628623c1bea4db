-- An attempt that has ended is told by its record.
use Rattle.std.specs.Prelude.{◌⊎◌}
use Rattle.std.proofs.Common.{◌≡◌, ◌≤◌, ◌<◌, ◌+◌, ℕ, List, false, refl, sym, ap, ◌∙◌, subst, arith, inl}
use Rattle.sto_model.specs.PlainReplies.{PlainReply}
use Rattle.sto_model.specs.Run.{Behaviour}
use Rattle.sto_type.specs.Meaning.{Meaning}
use Rattle.sto_core.specs.declared.view.Entry.{Entry}
use Rattle.sto_core.specs.declared.view.Fate.{Fate}
use Rattle.sto_core.specs.declared.view.Fate.TheVariants.{Committed, Dropped}
use Rattle.sto_core.specs.declared.view.Phase.{Phase}
use Rattle.sto_core.specs.declared.view.Phase.TheVariants as P
use Rattle.sto_core.specs.declared.view.View.{View}
use Rattle.sto_core.specs.Allowed.{IsIdle}
use Rattle.sto_core.specs.Event.{Event, Start}
use Rattle.sto_attempt_log.specs.declared.verdict.Verdict.{Verdict}
use Rattle.sto_attempt_log.specs.declared.verdict.Verdict.TheVariants.{Wrote, Read, Cancelled, Locked, Changed}
use Rattle.sto_attempt_log.specs.declared.verdict.Turn.TheVariants.{Ended}
use Rattle.sto_attempt_log.specs.Answers.{OneEvent, IsCommitEvent}
use Rattle.sto_attempt_log.specs.Standing.{Ends, IsLeft, IsUnaborted}
use Rattle.sto_attempt_log.specs.CommitPhases.{Deal, EndsWith, EndsIn}
use Rattle.sto_attempt_log.specs.Verdicts.{IsWrote}
use Rattle.sto_history.specs.Records.{TransactionPlace, IsSince, IsAbove, is_abort, wrote_with}
use Rattle.sto_history.specs.Counted.{times_committed}
use Rattle.sto_history.specs.Added.{IsKnown}
use Rattle.sto_history.specs.Running.{HasNoMore, HasOneMore, HasDrawn, HasDrawnAbove, IsRunning}
use Rattle.sto_history.specs.Tried.{HasTried}
use Rattle.sto_history.proofs.Ended.{IsUnwon, tried, counted_none, counted_won, won_keeps, lost_keeps}
use Rattle.sto_history.proofs.Progress.{keeps_running}
use Rattle.sto_transaction.specs.Going.{InBody}
use Rattle.sto_transaction.specs.Plain.{verdict}
use Rattle.sto_transaction.proofs.Telling.{ends_told, ends_found, ends_since, said_told, said_found}

-- An attempt that ends while it reads has committed no entry.
unwritten : (m : Meaning) (f : Behaviour) (w : View) (at : ℕ) (rs : List PlainReply) (x : Verdict) → Ends m f w at rs x → (t : ℕ) → wrote_with t (verdict x) ≡ 0
unwritten m f w at rs (Wrote u) h t = absurd h
unwritten m f w at rs (Read n) h t = refl
unwritten m f w at rs (Cancelled n) h t = refl
unwritten m f w at rs (Locked n p) h t = refl
unwritten m f w at rs (Changed n p u) h t = refl

unwritten_above : (m : Meaning) (f : Behaviour) (w : View) (at : ℕ) (rs : List PlainReply) (x : Verdict) → Ends m f w at rs x → IsAbove w.at (verdict x)
unwritten_above m f w at rs (Wrote u) h = absurd h
unwritten_above m f w at rs (Read n) h = tt
unwritten_above m f w at rs (Cancelled n) h = tt
unwritten_above m f w at rs (Locked n p) h = tt
unwritten_above m f w at rs (Changed n p u) h = tt

pub ended_reading : (m : Meaning) (f : Behaviour) (begun w : View) (at : ℕ) (rs : List PlainReply) (x : Verdict) → InBody begun w at → IsLeft w → at ≤ w.at → Ends m f w at rs x
    → (place : TransactionPlace) → HasTried m begun w f place (record { place = place; replies = rs; verdict = verdict x })
ended_reading m f begun w at rs x h left within ends place =
    tried m begun w f place rs (verdict x) h.running left.idle (ends_told m f w at rs x within ends) (ends_found m f w at rs x ends) (ends_since m f begun w at rs x h.late ends) (unwritten_above m f w at rs x ends)
    (λ t. counted_none begun t w.entries w.draws (inl h.undrawn) ∙ ap (λ (k : ℕ). times_committed t begun.entries + k) (sym (unwritten m f w at rs x ends t)))

pub unaborted_turn : (x : Verdict) → IsUnaborted (Ended x) → is_abort (verdict x) ≡ false
unaborted_turn (Wrote t) h = refl
unaborted_turn (Read n) h = refl
unaborted_turn (Cancelled n) h = refl
unaborted_turn (Locked n p) h = absurd h
unaborted_turn (Changed n p t) h = absurd h

pub unaborted_wrote : (x : Verdict) → IsWrote x → is_abort (verdict x) ≡ false
unaborted_wrote (Wrote t) h = refl
unaborted_wrote (Read n) h = absurd h
unaborted_wrote (Cancelled n) h = absurd h
unaborted_wrote (Locked n p) h = absurd h
unaborted_wrote (Changed n p t) h = absurd h

-- The phase before the last event of a commit.
record WasWon (u : ℕ) (h : Phase) : Type 0 where
  puts : List (ℕ × ℕ)
  is : h ≡ P.Won u puts

was_won : (h : Phase) (u : ℕ) → EndsIn h (Wrote u) → WasWon u h
was_won (P.Won t puts) u same = record { puts = puts; is = ap (λ (k : ℕ). P.Won k puts) same }
was_won P.Idle u h = absurd h
was_won P.Reading u h = absurd h
was_won (P.Looking r) u h = absurd h
was_won P.Locking u h = absurd h
was_won (P.Testing r) u h = absurd h
was_won (P.Drawn t) u h = absurd h
was_won (P.Lost t) u h = absurd h

unwon_locked : (h : Phase) (n p : ℕ) → EndsIn h (Locked n p) → IsUnwon h
unwon_locked (P.Won t puts) n p h = h
unwon_locked P.Idle n p h = tt
unwon_locked P.Reading n p h = tt
unwon_locked (P.Looking r) n p h = tt
unwon_locked P.Locking n p h = tt
unwon_locked (P.Testing r) n p h = tt
unwon_locked (P.Drawn t) n p h = tt
unwon_locked (P.Lost t) n p h = tt

unwon_changed : (h : Phase) (n p t : ℕ) → EndsIn h (Changed n p t) → IsUnwon h
unwon_changed (P.Won s puts) n p t h = h
unwon_changed P.Idle n p t h = tt
unwon_changed P.Reading n p t h = tt
unwon_changed (P.Looking r) n p t h = tt
unwon_changed P.Locking n p t h = tt
unwon_changed (P.Testing r) n p t h = tt
unwon_changed (P.Drawn s) n p t h = tt
unwon_changed (P.Lost s) n p t h = tt

begins_none : (d : Deal) (e : Event) → IsCommitEvent d.us e → e ≡ Start → ⊥
begins_none d e h is = subst (λ (k : Event). IsCommitEvent d.us k) is h

-- an entry that was added stands where the entries are the same
same_more : (b : View) (u : ℕ) (fate : Fate) (es es' : List Entry) (n n' : ℕ) → es' ≡ es → n' ≡ n → HasOneMore b u fate es n → HasOneMore b u fate es' n'
same_more b u fate es es' n n' same left h =
    record { entry = h.entry; all = same ∙ h.all; drawn = h.drawn; has = h.has; since = h.since; used = ap (λ (k : ℕ). k + 1) left ∙ h.used }

-- A step of the commit leaves the view as it is told of one under way.
pub commit_runs : (d : Deal) (passes : ℕ) (begun v w : View) → IsRunning begun v → OneEvent (IsCommitEvent d.us) d.valid passes v w → IsRunning begun w
commit_runs d passes begun v w r o = keeps_running d.valid passes o.event begun v w o.number o.value (begins_none d o.event o.of_kind) o.tells.allowed o.tells r

module _ (d : Deal) (passes : ℕ) (begun v w : View) (r : IsRunning begun v) (late : (k : ℕ) → IsKnown begun k → k ≤ d.at) (o : OneEvent (IsCommitEvent d.us) d.valid passes v w) (left : IsLeft w) (within : d.at ≤ w.at) where
  won : (u : ℕ) → EndsIn v.phase (Wrote u) → HasOneMore begun u Committed w.entries w.draws
  won u by =
      let h = was_won v.phase u by in
      let before : HasOneMore begun u Committed v.entries v.draws = subst (λ (k : Phase). HasDrawn begun k v.entries v.draws) h.is r.drawn in
      let k = won_keeps d.valid o.event v o.number o.value u h.puts h.is o.tells.allowed in
      same_more begun u Committed v.entries w.entries v.draws w.draws (ap (λ (z : View). z.entries) o.tells.after ∙ k.0) (ap (λ (z : View). z.draws) o.tells.after ∙ k.1) before

  won_above : (u : ℕ) → EndsIn v.phase (Wrote u) → w.at < u
  won_above u by =
      let h = was_won v.phase u by in
      let k = won_keeps d.valid o.event v o.number o.value u h.puts h.is o.tells.allowed in
      subst (λ (n : ℕ). n < u) (sym (ap (λ (z : View). z.at) o.tells.after ∙ k.2)) (subst (λ (g : Phase). HasDrawnAbove v.at g) h.is r.above)

  lost : IsUnwon v.phase → HasNoMore begun w.entries w.draws ⊎ ((u : ℕ) × HasOneMore begun u Dropped w.entries w.draws)
  lost unwon =
      subst (λ (z : View). HasNoMore begun z.entries z.draws ⊎ ((u : ℕ) × HasOneMore begun u Dropped z.entries z.draws)) (sym o.tells.after)
      (lost_keeps d.valid o.event begun v o.number o.value (begins_none d o.event o.of_kind) unwon o.tells.allowed (subst (λ (z : View). IsIdle z.phase) o.tells.after left.idle) r.drawn)

  told_as : (x : Verdict) → EndsWith d w x → ((k : ℕ) → IsKnown begun k → IsSince k (verdict x)) → IsAbove w.at (verdict x) → ((t : ℕ) → times_committed t w.entries ≡ times_committed t begun.entries + wrote_with t (verdict x))
      → (place : TransactionPlace) → HasTried d.m begun w d.f place (record { place = place; replies = d.rs; verdict = verdict x })
  told_as x ends since above count place = tried d.m begun w d.f place d.rs (verdict x) (commit_runs d passes begun v w r o) left.idle (said_told d w x within ends) (said_found d w x ends) since above count

  pub ended_commit : (x : Verdict) → EndsWith d w x → EndsIn v.phase x → (place : TransactionPlace) → HasTried d.m begun w d.f place (record { place = place; replies = d.rs; verdict = verdict x })
  ended_commit (Wrote u) ends by = let one = won u by in told_as (Wrote u) ends one.since (won_above u by) (λ t. counted_won begun t u w.entries w.draws one)
  ended_commit (Read n) ends by = absurd ends
  ended_commit (Cancelled n) ends by = absurd ends
  ended_commit (Locked n p) ends by =
      told_as (Locked n p) ends (λ k known. (let a = late k known in let e = ends.0 in omega (arith, a, e))) tt
      (λ t. counted_none begun t w.entries w.draws (lost (unwon_locked v.phase n p by)))
  ended_commit (Changed n p u) ends by =
      told_as (Changed n p u) ends (λ k known. (let a = late k known in let e = ends.0 in omega (arith, a, e))) tt
      (λ t. counted_none begun t w.entries w.draws (lost (unwon_changed v.phase n p u by)))
