-- Where a commit goes next.
use Rattle.std.proofs.Common.{◌⊎◌, inl, inr, ◌≡◌, ◌≤◌, ◌<◌, ℕ, zero, suc, false, Bool, nat_eq, ◌||◌, Option, Some, None, List, [], ◌∷◌, length, map, refl, ap, sym, ◌∙◌, subst, arith, slice_get, slice_index_or}
use Rattle.std.specs.List.{list_any}
use Rattle.std.proofs.lemmas.Option.{get_or_from_slice_get}
use Rattle.sto_part.specs.Listed.{Listed}
use Rattle.sto_part.specs.declared.change.Change.{Change}
use Rattle.sto_item.specs.Pending.{Entry as Update, plain}
use Rattle.sto_core.specs.declared.view.Phase.{Phase}
use Rattle.sto_core.specs.declared.view.Phase.TheVariants as P
use Rattle.sto_core.specs.declared.view.View.{View}
use Rattle.sto_core.specs.History.{writes}
use Rattle.sto_core.specs.Reads.{AllRead}
use Rattle.sto_type.specs.Meaning.{is_empty}
use Rattle.sto_attempt_log.specs.declared.commit_phase.CommitPhase.{CommitPhase}
use Rattle.sto_attempt_log.specs.declared.commit_phase.CommitPhase.TheVariants as S
use Rattle.sto_attempt_log.specs.declared.commit_phase.FoundTicket.{FoundTicket}
use Rattle.sto_attempt_log.specs.declared.commit_phase.LoadedWord.{LoadedWord}
use Rattle.sto_attempt_log.specs.declared.verdict.Verdict.{Verdict}
use Rattle.sto_attempt_log.specs.declared.verdict.Verdict.TheVariants.{Wrote, Read, Cancelled, Locked, Changed}
use Rattle.sto_attempt_log.specs.Standing.{IsLeft}
use Rattle.sto_attempt_log.specs.CommitPhases.{Deal, task, reads_of, is_of_part, EndsWith, FailsWith, EndsIn, EndsBy, IsAim, IsNextCheck, IsNextPut, IsCheckingAt, IsInstallingAt, IsLeaving, IsLoadingAt, IsLoadingWord, IsTestingAt, Stands, Said}
use Rattle.sto_attempt_log.proofs.Loading.{each_at}

pub any_writes : (xs : List (ℕ × Listed Change)) (p : ℕ) → list_any (is_of_part p) xs ≡ writes (map plain xs) p
any_writes [] p = refl
any_writes (x ∷ xs) p = ap (λ (b : Bool). nat_eq x.0 p || b) (any_writes xs p)

none_read : (d : Deal) (loaded_words : List LoadedWord) (p : ℕ) → AllRead (reads_of loaded_words p) 0
none_read d loaded_words p j l = absurd (omega (arith, l))

module _ (d : Deal) (n : ℕ) (found_tickets : Listed FoundTicket) (loaded_words : List LoadedWord) (v : View) (h : IsLoadingAt d n found_tickets loaded_words v) where
  pub aimed : (commit_phase : CommitPhase) → IsAim d.us d.tasks n commit_phase → Stands d found_tickets loaded_words commit_phase v
  aimed S.Drawing a = subst (λ (k : ℕ). IsLoadingAt d k found_tickets loaded_words v) a h
  aimed (S.Loading k i) a =
      let it : IsLoadingWord d n 0 found_tickets loaded_words v = record {
        loading = h;
        below = a.2;
        writes = a.3;
        within = (each_at (λ (q : ℕ). (q < length d.m.widths) × (0 < slice_index_or d.m.widths q 0)) d.tasks n 0 h.going.planned.in_range a.2).1;
        words = none_read d loaded_words (task d n);
      } in
      subst (λ (k : ℕ). IsLoadingWord d k i found_tickets loaded_words v) (sym a.0) (subst (λ (j : ℕ). IsLoadingWord d n j found_tickets loaded_words v) (sym a.1) it)
  aimed (S.Testing k) a =
      let it : IsTestingAt d n found_tickets loaded_words v = record { loading = h; below = a.1; unwritten = a.2 } in
      subst (λ (k : ℕ). IsTestingAt d k found_tickets loaded_words v) (sym a.0) it
  aimed (S.Locking k) a = absurd a
  aimed (S.Tested k i t) a = absurd a
  aimed (S.Checking k t) a = absurd a
  aimed (S.Deciding t) a = absurd a
  aimed (S.Putting k t) a = absurd a
  aimed (S.Releasing k t) a = absurd a
  aimed (S.Dropping t verdict) a = absurd a
  aimed (S.Leaving k e verdict) a = absurd a
  aimed S.Over a = absurd a

-- giving up before the draw
pub gives_up : (d : Deal) (n : ℕ) (verdict : Verdict) (w : View) (found_tickets : Listed FoundTicket) (loaded_words : List LoadedWord) (commit_phase : CommitPhase) (result : Option Verdict)
    → (n ≡ 0 → (result ≡ Some verdict) × (commit_phase ≡ S.Over)) → (0 < n → (result ≡ None) × (commit_phase ≡ S.Leaving 0 n verdict))
    → (n ≡ 0 → IsLeft w × (d.at ≤ w.at) × EndsWith d w verdict) → (0 < n → IsLeaving d 0 n verdict w) → Said d found_tickets loaded_words commit_phase w result
gives_up d zero verdict w found_tickets loaded_words commit_phase result over more ends leaves =
    let o = over refl in
    let r = ends refl in
    subst (λ (x : Option Verdict). Said d found_tickets loaded_words commit_phase w x) (sym o.0) (o.1, r.0, r.1, r.2)
gives_up d (suc n) verdict w found_tickets loaded_words commit_phase result over more ends leaves =
    let o = more (omega arith) in
    subst (λ (x : Option Verdict). Said d found_tickets loaded_words commit_phase w x) (sym o.0) (subst (λ (x : CommitPhase). Stands d found_tickets loaded_words x w) (sym o.1) (leaves (omega arith)))

-- whether the part at a place is written
pub written_is : (xs : List (ℕ × Listed Change)) (us : List Update) (tasks : List ℕ) (n p : ℕ) (r b : Bool) → map plain xs ≡ us → slice_get tasks n ≡ Some p → r ≡ list_any (is_of_part p) xs → r ≡ b → writes us (slice_index_or tasks n 0) ≡ b
written_is xs us tasks n p r b same get is test =
    let at : slice_index_or tasks n 0 ≡ p = get_or_from_slice_get tasks n p 0 get in
    ap (writes us) at ∙ ap (λ (l : List Update). writes l p) (sym same) ∙ sym (any_writes xs p) ∙ sym is ∙ test

-- after the draw, and after a check
module _ (d : Deal) (n t : ℕ) (found_tickets : Listed FoundTicket) (loaded_words : List LoadedWord) (v : View) (h : IsCheckingAt d n t found_tickets loaded_words v) where
  pub checks_next : (commit_phase : CommitPhase) → IsNextCheck d.checks n t commit_phase → Stands d found_tickets loaded_words commit_phase v
  checks_next (S.Checking k s) a =
      let it : (n < length d.checks) × IsCheckingAt d n t found_tickets loaded_words v = (a.2, h) in
      subst (λ (k : ℕ). (k < length d.checks) × IsCheckingAt d k s found_tickets loaded_words v) (sym a.0) (subst (λ (s : ℕ). (n < length d.checks) × IsCheckingAt d n s found_tickets loaded_words v) (sym a.1) it)
  checks_next (S.Deciding s) a = subst (λ (k : ℕ). IsCheckingAt d k s found_tickets loaded_words v) a.1 (subst (λ (s : ℕ). IsCheckingAt d n s found_tickets loaded_words v) (sym a.0) h)
  checks_next S.Drawing a = absurd a
  checks_next (S.Loading k i) a = absurd a
  checks_next (S.Testing k) a = absurd a
  checks_next (S.Locking k) a = absurd a
  checks_next (S.Tested k i s) a = absurd a
  checks_next (S.Putting k s) a = absurd a
  checks_next (S.Releasing k s) a = absurd a
  checks_next (S.Dropping s verdict) a = absurd a
  checks_next (S.Leaving k e verdict) a = absurd a
  checks_next S.Over a = absurd a

-- after the decision for the commit, and after a put
module _ (d : Deal) (n t : ℕ) (puts : List (ℕ × ℕ)) (found_tickets : Listed FoundTicket) (loaded_words : List LoadedWord) (v : View) (h : IsInstallingAt d n 0 t puts loaded_words v) (law : is_empty d.us ≡ false) where
  pub puts_next : (commit_phase : CommitPhase) → IsNextPut d.places n t commit_phase → Stands d found_tickets loaded_words commit_phase v
  puts_next (S.Putting k s) a =
      let it : Stands d found_tickets loaded_words (S.Putting n t) v = (a.2, (puts, h)) in
      subst (λ (k : ℕ). Stands d found_tickets loaded_words (S.Putting k s) v) (sym a.0) (subst (λ (s : ℕ). Stands d found_tickets loaded_words (S.Putting n s) v) (sym a.1) it)
  puts_next (S.Releasing k s) a =
      let it : Stands d found_tickets loaded_words (S.Releasing 0 t) v = (more d.us law, (puts, subst (λ (k : ℕ). IsInstallingAt d k 0 t puts loaded_words v) a.2 h)) in
      subst (λ (k : ℕ). Stands d found_tickets loaded_words (S.Releasing k s) v) (sym a.0) (subst (λ (s : ℕ). Stands d found_tickets loaded_words (S.Releasing 0 s) v) (sym a.1) it)
    where
      more : (us : List Update) → is_empty us ≡ false → 0 < length us
      more [] e = cc
      more (x ∷ us) e = omega arith
  puts_next (S.Checking k s) a = absurd a
  puts_next (S.Deciding s) a = absurd a
  puts_next S.Drawing a = absurd a
  puts_next (S.Loading k i) a = absurd a
  puts_next (S.Testing k) a = absurd a
  puts_next (S.Locking k) a = absurd a
  puts_next (S.Tested k i s) a = absurd a
  puts_next (S.Dropping s verdict) a = absurd a
  puts_next (S.Leaving k e verdict) a = absurd a
  puts_next S.Over a = absurd a

pub is_in : (xs : List (ℕ × Listed Change)) (us : List Update) (p : ℕ) (r b : Bool) → map plain xs ≡ us → r ≡ list_any (is_of_part p) xs → r ≡ b → writes us p ≡ b
is_in xs us p r b same is test = ap (λ (l : List Update). writes l p) (sym same) ∙ sym (any_writes xs p) ∙ sym is ∙ test

-- a commit that gives up ends with no commit
pub give_by : (n at p : ℕ) (v : View) (commit_phase : CommitPhase) (result : Option Verdict) → (n ≡ 0 → (result ≡ Some (Locked at p)) × (commit_phase ≡ S.Over)) → (0 < n → (result ≡ None) × (commit_phase ≡ S.Leaving 0 n (Locked at p)))
    → ((n ≡ 0) × (v.phase ≡ P.Reading)) ⊎ ((0 < n) × (v.phase ≡ P.Locking)) → EndsBy v.phase result
give_by zero at p v commit_phase result over more phase =
    subst (λ (r : Option Verdict). EndsBy v.phase r) (sym (over refl).0) (elim phase [
      | inl e ↦ subst (λ (h : Phase). EndsBy h (Some (Locked at p))) (sym e.1) tt
      | inr e ↦ absurd (omega (arith, e.0))
    ])
give_by (suc n) at p v commit_phase result over more phase = subst (λ (r : Option Verdict). EndsBy v.phase r) (sym (more (omega arith)).0) tt

fails_in : (d : Deal) (v : View) (h : Phase) → (h ≡ P.Locking) ⊎ ((t : ℕ) × (h ≡ P.Lost t)) → (verdict : Verdict) → FailsWith d v verdict → EndsIn h verdict
fails_in d v h phase (Wrote t) ends = absurd ends
fails_in d v h phase (Read n) ends = absurd ends
fails_in d v h phase (Cancelled n) ends = absurd ends
fails_in d v h phase (Locked n p) ends = elim phase [
  | inl e ↦ subst (λ (k : Phase). EndsIn k (Locked n p)) (sym e) tt
  | inr e ↦ subst (λ (k : Phase). EndsIn k (Locked n p)) (sym e.1) tt
]
fails_in d v h phase (Changed n p t) ends = elim phase [
  | inl e ↦ subst (λ (k : Phase). EndsIn k (Changed n p t)) (sym e) tt
  | inr e ↦ subst (λ (k : Phase). EndsIn k (Changed n p t)) (sym e.1) tt
]

pub leave_by : (d : Deal) (k n : ℕ) (verdict : Verdict) (v : View) → IsLeaving d k n verdict v → EndsBy v.phase (Some verdict)
leave_by d k n verdict v h = fails_in d v v.phase h.phase verdict h.ends

pub release_by : (d : Deal) (n k t : ℕ) (puts : List (ℕ × ℕ)) (loaded_words : List LoadedWord) (v : View) → IsInstallingAt d n k t puts loaded_words v → EndsBy v.phase (Some (Wrote t))
release_by d n k t puts loaded_words v h = subst (λ (y : Phase). EndsBy y (Some (Wrote t))) (sym h.phase) refl
