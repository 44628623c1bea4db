-- Each event of a commit lowers the number of those that are left.
use Rattle.std.proofs.Common.{◌≡◌, ◌≤◌, ◌<◌, ◌+◌, ◌-◌, ℕ, zero, suc, Option, Some, None, List, [], ◌∷◌, length, drop, refl, sym, subst, arith, slice_index_or}
use Rattle.sto_attempt_log.specs.declared.commit_phase.CommitPhase.{CommitPhase}
use Rattle.sto_attempt_log.specs.declared.commit_phase.CommitPhase.TheVariants as S
use Rattle.sto_attempt_log.specs.declared.verdict.Verdict.{Verdict}
use Rattle.sto_attempt_log.specs.CommitPhases.{Deal, IsAim, IsNextCheck, IsNextPut, task}
use Rattle.sto_attempt_log.specs.Remaining.{loading, deciding, drawing, commit_left}

pub loading_at : (widths tasks : List ℕ) (n : ℕ) → n < length tasks → loading widths (drop n tasks) ≡ slice_index_or widths (slice_index_or tasks n 0) 0 + 2 + loading widths (drop (suc n) tasks)
loading_at widths [] n l = absurd (omega (arith, l))
loading_at widths (x ∷ tasks) zero l = refl
loading_at widths (x ∷ tasks) (suc n) l = loading_at widths tasks n (omega (arith, l))

module _ (d : Deal) where
  abbrev draws : ℕ
  draws = drawing d

  -- a helper's choice of the next phase
  aimed : (n : ℕ) (commit_phase : CommitPhase) → IsAim d.us d.tasks n commit_phase → commit_left d commit_phase ≤ loading d.m.widths (drop n d.tasks) + drawing d
  aimed n S.Drawing a = omega arith
  aimed n (S.Loading k i) a = subst (λ (q : ℕ). (loading d.m.widths (drop q d.tasks) - i) + drawing d ≤ loading d.m.widths (drop n d.tasks) + drawing d) (sym a.0) (omega arith)
  aimed n (S.Testing k) a = subst (λ (q : ℕ). loading d.m.widths (drop q d.tasks) + drawing d ≤ loading d.m.widths (drop n d.tasks) + drawing d) (sym a.0) (omega arith)
  aimed n (S.Locking k) a = absurd a
  aimed n (S.Tested k i t) a = absurd a
  aimed n (S.Checking k t) a = absurd a
  aimed n (S.Deciding t) a = absurd a
  aimed n (S.Putting k t) a = absurd a
  aimed n (S.Releasing k t) a = absurd a
  aimed n (S.Dropping t verdict) a = absurd a
  aimed n (S.Leaving k e verdict) a = absurd a
  aimed n S.Over a = absurd a

  checked : (n t : ℕ) (commit_phase : CommitPhase) → IsNextCheck d.checks n t commit_phase → commit_left d commit_phase ≤ (length d.checks - n) + deciding d
  checked n t (S.Checking k s) a = omega (arith, a.0)
  checked n t (S.Deciding s) a = omega arith
  checked n t S.Drawing a = absurd a
  checked n t (S.Loading k i) a = absurd a
  checked n t (S.Testing k) a = absurd a
  checked n t (S.Locking k) a = absurd a
  checked n t (S.Tested k i s) a = absurd a
  checked n t (S.Putting k s) a = absurd a
  checked n t (S.Releasing k s) a = absurd a
  checked n t (S.Dropping s verdict) a = absurd a
  checked n t (S.Leaving k e verdict) a = absurd a
  checked n t S.Over a = absurd a

  installed : (n t : ℕ) (commit_phase : CommitPhase) → IsNextPut d.places n t commit_phase → commit_left d commit_phase ≤ (length d.places - n) + length d.us
  installed n t (S.Putting k s) a = omega (arith, a.0)
  installed n t (S.Releasing k s) a = omega (arith, a.0)
  installed n t (S.Checking k s) a = absurd a
  installed n t (S.Deciding s) a = absurd a
  installed n t S.Drawing a = absurd a
  installed n t (S.Loading k i) a = absurd a
  installed n t (S.Testing k) a = absurd a
  installed n t (S.Locking k) a = absurd a
  installed n t (S.Tested k i s) a = absurd a
  installed n t (S.Dropping s verdict) a = absurd a
  installed n t (S.Leaving k e verdict) a = absurd a
  installed n t S.Over a = absurd a

  -- each event
  pub lock_lowers : (n : ℕ) → n < length d.us → (next : ℕ) → next ≡ suc n → commit_left d (S.Locking next) < commit_left d (S.Locking n)
  lock_lowers n below next is = omega (arith, below, is)

  pub locked_lowers : (n : ℕ) → n < length d.us → (commit_phase : CommitPhase) → IsAim d.us d.tasks 0 commit_phase → commit_left d commit_phase < commit_left d (S.Locking n)
  locked_lowers n below commit_phase a = omega (arith, below, aimed 0 commit_phase a)

  pub give_lowers : (n : ℕ) → n < length d.us → (verdict : Verdict) (commit_phase : CommitPhase) (result : Option Verdict)
      → (n ≡ 0 → (result ≡ Some verdict) × (commit_phase ≡ S.Over)) → (0 < n → (result ≡ None) × (commit_phase ≡ S.Leaving 0 n verdict)) → commit_left d commit_phase < commit_left d (S.Locking n)
  give_lowers zero below verdict commit_phase result over more = subst (λ (x : CommitPhase). commit_left d x < commit_left d (S.Locking 0)) (sym (over refl).1) (omega (arith, below))
  give_lowers (suc n) below verdict commit_phase result over more = subst (λ (x : CommitPhase). commit_left d x < commit_left d (S.Locking (suc n))) (sym (more (omega arith)).1) (omega (arith, below))

  pub fail_lowers : (end : ℕ) → end ≡ length d.us → (left : ℕ) → end - 0 < left + drawing d
  fail_lowers end is left = omega (arith, is)

  module _ (n i : ℕ) (below : n < length d.tasks) where
    whole : loading d.m.widths (drop n d.tasks) ≡ slice_index_or d.m.widths (task d n) 0 + 2 + loading d.m.widths (drop (suc n) d.tasks)
    whole = loading_at d.m.widths d.tasks n below

    pub load_lowers : i < slice_index_or d.m.widths (task d n) 0 → (next : ℕ) → next ≡ suc i → commit_left d (S.Loading n next) < commit_left d (S.Loading n i)
    load_lowers within next is = omega (arith, within, whole, is)

    pub loaded_lowers : i < slice_index_or d.m.widths (task d n) 0 → (next : ℕ) → next ≡ suc n → (commit_phase : CommitPhase) → IsAim d.us d.tasks next commit_phase → commit_left d commit_phase < commit_left d (S.Loading n i)
    loaded_lowers within next is commit_phase a = omega (arith, within, whole, aimed (suc n) commit_phase (subst (λ (q : ℕ). IsAim d.us d.tasks q commit_phase) is a))

    pub test_lowers : (t : ℕ) → commit_left d (S.Tested n 0 t) < commit_left d (S.Testing n)
    test_lowers t = omega (arith, whole)

    pub word_lowers : (t : ℕ) → i < slice_index_or d.m.widths (task d n) 0 → (next : ℕ) → next ≡ suc i → commit_left d (S.Tested n next t) < commit_left d (S.Tested n i t)
    word_lowers t within next is = omega (arith, within, whole, is)

    pub tested_lowers : (t : ℕ) → i ≤ slice_index_or d.m.widths (task d n) 0 → (next : ℕ) → next ≡ suc n → (commit_phase : CommitPhase) → IsAim d.us d.tasks next commit_phase → commit_left d commit_phase < commit_left d (S.Tested n i t)
    tested_lowers t within next is commit_phase a = omega (arith, within, whole, aimed (suc n) commit_phase (subst (λ (q : ℕ). IsAim d.us d.tasks q commit_phase) is a))

  pub draw_lowers : (t : ℕ) (commit_phase : CommitPhase) → IsNextCheck d.checks 0 t commit_phase → commit_left d commit_phase < commit_left d S.Drawing
  draw_lowers t commit_phase a = omega (arith, checked 0 t commit_phase a)

  pub check_lowers : (n t : ℕ) → n < length d.checks → (next : ℕ) → next ≡ suc n → (commit_phase : CommitPhase) → IsNextCheck d.checks next t commit_phase → commit_left d commit_phase < commit_left d (S.Checking n t)
  check_lowers n t below next is commit_phase a = omega (arith, below, is, checked next t commit_phase a)

  pub refuse_lowers : (n : ℕ) → n < length d.checks → 1 + length d.us < (length d.checks - n) + deciding d
  refuse_lowers n below = omega (arith, below)

  pub decide_lowers : (t : ℕ) (commit_phase : CommitPhase) → IsNextPut d.places 0 t commit_phase → commit_left d commit_phase < commit_left d (S.Deciding t)
  decide_lowers t commit_phase a = omega (arith, installed 0 t commit_phase a)

  pub put_lowers : (n t : ℕ) → n < length d.places → (next : ℕ) → next ≡ suc n → (commit_phase : CommitPhase) → IsNextPut d.places next t commit_phase → commit_left d commit_phase < commit_left d (S.Putting n t)
  put_lowers n t below next is commit_phase a = omega (arith, below, is, installed next t commit_phase a)

  pub release_lowers : (k t : ℕ) → k < length d.us → (next : ℕ) → next ≡ suc k → commit_left d (S.Releasing next t) < commit_left d (S.Releasing k t)
  release_lowers k t below next is = omega (arith, below, is)

  pub drop_lowers : (t end : ℕ) → end ≡ length d.us → (verdict : Verdict) → commit_left d (S.Leaving 0 end verdict) < commit_left d (S.Dropping t verdict)
  drop_lowers t end is verdict = omega (arith, is)

  pub leave_lowers : (k n : ℕ) (verdict : Verdict) → k < n → (next : ℕ) → next ≡ suc k → commit_left d (S.Leaving next n verdict) < commit_left d (S.Leaving k n verdict)
  leave_lowers k n verdict below next is = omega (arith, below, is)

  pub release_ends : (k t : ℕ) → k < length d.us → commit_left d S.Over < commit_left d (S.Releasing k t)
  release_ends k t below = omega (arith, below)

  pub leave_ends : (k n : ℕ) (verdict : Verdict) → k < n → commit_left d S.Over < commit_left d (S.Leaving k n verdict)
  leave_ends k n verdict below = omega (arith, below)
