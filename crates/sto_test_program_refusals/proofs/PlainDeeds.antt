-- Two events that lead from one view to the same view are told alike, but for which load of a version that led no further it was.
use Rattle.std.specs.Prelude.{nat_eq}
use Rattle.std.proofs.Common.{◌≡◌, ◌⊎◌, ◌+◌, ℕ, ℤ, List, [], ◌∷◌, ◌++◌, map, length, length-append, Option, None, Some, Bool, true, false, if◌then◌else◌, refl, sym, ap, ◌∙◌, subst, arith, inl, inr}
use Rattle.std.proofs.lemmas.Bool.{cases_Bool}
use Rattle.std.proofs.lemmas.Bool.Decides.{nat_tests}
use Rattle.sto_part.specs.declared.change.Change.{Change}
use Rattle.sto_part.specs.declared.change.Change.TheVariants.{Keep, Put as PutValue, Add}
use Rattle.sto_core.specs.declared.view.Held.{Held}
use Rattle.sto_core.specs.declared.view.OpenRead.{OpenRead}
use Rattle.sto_core.specs.declared.view.Phase.{Phase}
use Rattle.sto_core.specs.declared.view.Phase.TheVariants.{Idle, Reading, Looking, Locking, Testing, Drawn, Won, Lost}
use Rattle.sto_core.specs.declared.view.View.{View}
use Rattle.sto_core.specs.History.{Validity}
use Rattle.sto_core.specs.Reads.{Reads}
use Rattle.sto_core.specs.Puts.{IsPutOf}
use Rattle.sto_core.specs.Views.{holds, without}
use Rattle.sto_core.specs.Event.{Event, Start, Open, Word, Close, Renew, Recheck, Lock, Test, Draw, Check, Decide, Put, Release, Unlock, after, read_by, with_held_read, put_by, phase_left, found, rechecked_by, is_claimed_still}
use Rattle.sto_core.specs.Versions.{is_free}
use Rattle.sto_core.specs.Allowed.{Allowed, MayClose, MayLock, MayRead, MayPut, MayRelease, MayUnlock}
use Rattle.sto_trace.specs.declared.Deed.TheVariants as deeds
use Rattle.sto_trace.specs.Deeds.{deed_of}
use Rattle.sto_test_refusals.proofs.Lists.{last_same}
use Rattle.sto_test_program_refusals.specs.Told.{plain, version_told, start_told, ticket_told}
use Rattle.sto_test_program_refusals.proofs.Deeds.{load, loading, version_is, start_is, ticket_is, same_version, same_start, same_ticket}

no_some : {X : Type 0} {x : X} → None ≡ Some x → ⊥
no_some e = cc

-- The kinds of phases

abbrev kind : Phase → ℕ
kind Idle = 0
kind Reading = 1
kind (Looking r) = 2
kind Locking = 3
kind (Testing r) = 4
kind (Drawn t) = 5
kind (Won t puts) = 6
kind (Lost t) = 7

-- none is of two kinds
apart : (now h k : Phase) → now ≡ h → now ≡ k → (kind h ≡ kind k → ⊥) → ⊥
apart now h k p q differ = differ (ap kind (sym p ∙ q))

module _ (valid : Validity) (v : View) (n : ℕ) (x : ℤ) where
  -- what is left in each phase, where neither a version nor a start is told
  in_idle : (e : Event) → v.phase ≡ Idle → Allowed valid e v → version_told (deed_of e n x) ≡ None → start_told (deed_of e n x) ≡ None → ⊥
  in_idle Start phase may version start = absurd (no_some (sym start))
  in_idle (Open p) phase may version start = absurd (no_some (sym version))
  in_idle (Word p i) phase may version start = absurd (subst (MayRead v p) phase may.0)
  in_idle (Close p) phase may version start = absurd (no_some (sym version))
  in_idle Renew phase may version start = absurd (apart v.phase Idle Reading phase may (λ e. omega (arith, e)))
  in_idle (Recheck p) phase may version start = absurd (no_some (sym version))
  in_idle (Lock p) phase may version start = absurd (no_some (sym version))
  in_idle (Test p) phase may version start = absurd (no_some (sym version))
  in_idle (Draw us seen loaded) phase may version start = absurd (apart v.phase Idle Locking phase may.phase (λ e. omega (arith, e)))
  in_idle (Check p) phase may version start = absurd (no_some (sym version))
  in_idle (Decide true) phase may version start = absurd (apart v.phase Idle (Drawn may.0.0) phase may.0.1 (λ e. omega (arith, e)))
  in_idle (Decide false) phase may version start = absurd (apart v.phase Idle (Drawn may.0) phase may.1 (λ e. omega (arith, e)))
  in_idle (Put p i y) phase may version start = absurd (subst (MayPut p i y v) phase may)
  in_idle (Release p) phase may version start = absurd (subst (MayRelease p v) phase may)
  in_idle (Unlock p) phase may version start = absurd (subst (MayUnlock p v) phase may)

  in_reading : (e : Event) → v.phase ≡ Reading → Allowed valid e v → version_told (deed_of e n x) ≡ None → start_told (deed_of e n x) ≡ None → e ≡ Renew
  in_reading Start phase may version start = absurd (no_some (sym start))
  in_reading (Open p) phase may version start = absurd (no_some (sym version))
  in_reading (Word p i) phase may version start = absurd (subst (MayRead v p) phase may.0)
  in_reading (Close p) phase may version start = absurd (no_some (sym version))
  in_reading Renew phase may version start = refl
  in_reading (Recheck p) phase may version start = absurd (no_some (sym version))
  in_reading (Lock p) phase may version start = absurd (no_some (sym version))
  in_reading (Test p) phase may version start = absurd (no_some (sym version))
  in_reading (Draw us seen loaded) phase may version start = absurd (apart v.phase Reading Locking phase may.phase (λ e. omega (arith, e)))
  in_reading (Check p) phase may version start = absurd (no_some (sym version))
  in_reading (Decide true) phase may version start = absurd (apart v.phase Reading (Drawn may.0.0) phase may.0.1 (λ e. omega (arith, e)))
  in_reading (Decide false) phase may version start = absurd (apart v.phase Reading (Drawn may.0) phase may.1 (λ e. omega (arith, e)))
  in_reading (Put p i y) phase may version start = absurd (subst (MayPut p i y v) phase may)
  in_reading (Release p) phase may version start = absurd (subst (MayRelease p v) phase may)
  in_reading (Unlock p) phase may version start = absurd (subst (MayUnlock p v) phase may)

  in_looking : (e : Event) (r : OpenRead) → v.phase ≡ (Looking r) → Allowed valid e v → version_told (deed_of e n x) ≡ None → start_told (deed_of e n x) ≡ None → (i : ℕ) × (e ≡ Word r.part i)
  in_looking Start r phase may version start = absurd (no_some (sym start))
  in_looking (Open p) r phase may version start = absurd (no_some (sym version))
  in_looking (Word p i) r phase may version start = (i, ap (λ (q : ℕ). Word q i) (sym (subst (MayRead v p) phase may.0)))
  in_looking (Close p) r phase may version start = absurd (no_some (sym version))
  in_looking Renew r phase may version start = absurd (apart v.phase (Looking r) Reading phase may (λ e. omega (arith, e)))
  in_looking (Recheck p) r phase may version start = absurd (no_some (sym version))
  in_looking (Lock p) r phase may version start = absurd (no_some (sym version))
  in_looking (Test p) r phase may version start = absurd (no_some (sym version))
  in_looking (Draw us seen loaded) r phase may version start = absurd (apart v.phase (Looking r) Locking phase may.phase (λ e. omega (arith, e)))
  in_looking (Check p) r phase may version start = absurd (no_some (sym version))
  in_looking (Decide true) r phase may version start = absurd (apart v.phase (Looking r) (Drawn may.0.0) phase may.0.1 (λ e. omega (arith, e)))
  in_looking (Decide false) r phase may version start = absurd (apart v.phase (Looking r) (Drawn may.0) phase may.1 (λ e. omega (arith, e)))
  in_looking (Put p i y) r phase may version start = absurd (subst (MayPut p i y v) phase may)
  in_looking (Release p) r phase may version start = absurd (subst (MayRelease p v) phase may)
  in_looking (Unlock p) r phase may version start = absurd (subst (MayUnlock p v) phase may)

  in_testing : (e : Event) (r : OpenRead) → v.phase ≡ (Testing r) → Allowed valid e v → version_told (deed_of e n x) ≡ None → start_told (deed_of e n x) ≡ None → (i : ℕ) × (e ≡ Word r.part i)
  in_testing Start r phase may version start = absurd (no_some (sym start))
  in_testing (Open p) r phase may version start = absurd (no_some (sym version))
  in_testing (Word p i) r phase may version start = (i, ap (λ (q : ℕ). Word q i) (sym (subst (MayRead v p) phase may.0)))
  in_testing (Close p) r phase may version start = absurd (no_some (sym version))
  in_testing Renew r phase may version start = absurd (apart v.phase (Testing r) Reading phase may (λ e. omega (arith, e)))
  in_testing (Recheck p) r phase may version start = absurd (no_some (sym version))
  in_testing (Lock p) r phase may version start = absurd (no_some (sym version))
  in_testing (Test p) r phase may version start = absurd (no_some (sym version))
  in_testing (Draw us seen loaded) r phase may version start = absurd (apart v.phase (Testing r) Locking phase may.phase (λ e. omega (arith, e)))
  in_testing (Check p) r phase may version start = absurd (no_some (sym version))
  in_testing (Decide true) r phase may version start = absurd (apart v.phase (Testing r) (Drawn may.0.0) phase may.0.1 (λ e. omega (arith, e)))
  in_testing (Decide false) r phase may version start = absurd (apart v.phase (Testing r) (Drawn may.0) phase may.1 (λ e. omega (arith, e)))
  in_testing (Put p i y) r phase may version start = absurd (subst (MayPut p i y v) phase may)
  in_testing (Release p) r phase may version start = absurd (subst (MayRelease p v) phase may)
  in_testing (Unlock p) r phase may version start = absurd (subst (MayUnlock p v) phase may)

  in_drawn : (e : Event) (t : ℕ) → v.phase ≡ (Drawn t) → Allowed valid e v → version_told (deed_of e n x) ≡ None → start_told (deed_of e n x) ≡ None → (commit : Bool) × (e ≡ Decide commit)
  in_drawn Start t phase may version start = absurd (no_some (sym start))
  in_drawn (Open p) t phase may version start = absurd (no_some (sym version))
  in_drawn (Word p i) t phase may version start = absurd (subst (MayRead v p) phase may.0)
  in_drawn (Close p) t phase may version start = absurd (no_some (sym version))
  in_drawn Renew t phase may version start = absurd (apart v.phase (Drawn t) Reading phase may (λ e. omega (arith, e)))
  in_drawn (Recheck p) t phase may version start = absurd (no_some (sym version))
  in_drawn (Lock p) t phase may version start = absurd (no_some (sym version))
  in_drawn (Test p) t phase may version start = absurd (no_some (sym version))
  in_drawn (Draw us seen loaded) t phase may version start = absurd (apart v.phase (Drawn t) Locking phase may.phase (λ e. omega (arith, e)))
  in_drawn (Check p) t phase may version start = absurd (no_some (sym version))
  in_drawn (Decide true) t phase may version start = (true, refl)
  in_drawn (Decide false) t phase may version start = (false, refl)
  in_drawn (Put p i y) t phase may version start = absurd (subst (MayPut p i y v) phase may)
  in_drawn (Release p) t phase may version start = absurd (subst (MayRelease p v) phase may)
  in_drawn (Unlock p) t phase may version start = absurd (subst (MayUnlock p v) phase may)

  in_won : (e : Event) (t : ℕ) (puts : List (ℕ × ℕ)) → v.phase ≡ (Won t puts) → Allowed valid e v → version_told (deed_of e n x) ≡ None → start_told (deed_of e n x) ≡ None
      → ((p : ℕ) × (i : ℕ) × (y : ℤ) × (e ≡ Put p i y)) ⊎ ((p : ℕ) × (e ≡ Release p))
  in_won Start t puts phase may version start = absurd (no_some (sym start))
  in_won (Open p) t puts phase may version start = absurd (no_some (sym version))
  in_won (Word p i) t puts phase may version start = absurd (subst (MayRead v p) phase may.0)
  in_won (Close p) t puts phase may version start = absurd (no_some (sym version))
  in_won Renew t puts phase may version start = absurd (apart v.phase (Won t puts) Reading phase may (λ e. omega (arith, e)))
  in_won (Recheck p) t puts phase may version start = absurd (no_some (sym version))
  in_won (Lock p) t puts phase may version start = absurd (no_some (sym version))
  in_won (Test p) t puts phase may version start = absurd (no_some (sym version))
  in_won (Draw us seen loaded) t puts phase may version start = absurd (apart v.phase (Won t puts) Locking phase may.phase (λ e. omega (arith, e)))
  in_won (Check p) t puts phase may version start = absurd (no_some (sym version))
  in_won (Decide true) t puts phase may version start = absurd (apart v.phase (Won t puts) (Drawn may.0.0) phase may.0.1 (λ e. omega (arith, e)))
  in_won (Decide false) t puts phase may version start = absurd (apart v.phase (Won t puts) (Drawn may.0) phase may.1 (λ e. omega (arith, e)))
  in_won (Put p i y) t puts phase may version start = inl (p, i, y, refl)
  in_won (Release p) t puts phase may version start = inr (p, refl)
  in_won (Unlock p) t puts phase may version start = absurd (subst (MayUnlock p v) phase may)

  in_lost : (e : Event) (t : ℕ) → v.phase ≡ (Lost t) → Allowed valid e v → version_told (deed_of e n x) ≡ None → start_told (deed_of e n x) ≡ None → (p : ℕ) × (e ≡ Unlock p)
  in_lost Start t phase may version start = absurd (no_some (sym start))
  in_lost (Open p) t phase may version start = absurd (no_some (sym version))
  in_lost (Word p i) t phase may version start = absurd (subst (MayRead v p) phase may.0)
  in_lost (Close p) t phase may version start = absurd (no_some (sym version))
  in_lost Renew t phase may version start = absurd (apart v.phase (Lost t) Reading phase may (λ e. omega (arith, e)))
  in_lost (Recheck p) t phase may version start = absurd (no_some (sym version))
  in_lost (Lock p) t phase may version start = absurd (no_some (sym version))
  in_lost (Test p) t phase may version start = absurd (no_some (sym version))
  in_lost (Draw us seen loaded) t phase may version start = absurd (apart v.phase (Lost t) Locking phase may.phase (λ e. omega (arith, e)))
  in_lost (Check p) t phase may version start = absurd (no_some (sym version))
  in_lost (Decide true) t phase may version start = absurd (apart v.phase (Lost t) (Drawn may.0.0) phase may.0.1 (λ e. omega (arith, e)))
  in_lost (Decide false) t phase may version start = absurd (apart v.phase (Lost t) (Drawn may.0) phase may.1 (λ e. omega (arith, e)))
  in_lost (Put p i y) t phase may version start = absurd (subst (MayPut p i y v) phase may)
  in_lost (Release p) t phase may version start = absurd (subst (MayRelease p v) phase may)
  in_lost (Unlock p) t phase may version start = (p, refl)

  in_locking : (e : Event) → v.phase ≡ Locking → Allowed valid e v → version_told (deed_of e n x) ≡ None → start_told (deed_of e n x) ≡ None → ticket_told (deed_of e n x) ≡ None
      → ((p : ℕ) × (i : ℕ) × (e ≡ Word p i)) ⊎ ((p : ℕ) × (e ≡ Unlock p))
  in_locking Start phase may version start ticket = absurd (no_some (sym start))
  in_locking (Open p) phase may version start ticket = absurd (no_some (sym version))
  in_locking (Word p i) phase may version start ticket = inl (p, i, refl)
  in_locking (Close p) phase may version start ticket = absurd (no_some (sym version))
  in_locking Renew phase may version start ticket = absurd (apart v.phase Locking Reading phase may (λ e. omega (arith, e)))
  in_locking (Recheck p) phase may version start ticket = absurd (no_some (sym version))
  in_locking (Lock p) phase may version start ticket = absurd (no_some (sym version))
  in_locking (Test p) phase may version start ticket = absurd (no_some (sym version))
  in_locking (Draw us seen loaded) phase may version start ticket = absurd (no_some (sym ticket))
  in_locking (Check p) phase may version start ticket = absurd (no_some (sym version))
  in_locking (Decide true) phase may version start ticket = absurd (apart v.phase Locking (Drawn may.0.0) phase may.0.1 (λ e. omega (arith, e)))
  in_locking (Decide false) phase may version start ticket = absurd (apart v.phase Locking (Drawn may.0) phase may.1 (λ e. omega (arith, e)))
  in_locking (Put p i y) phase may version start ticket = absurd (subst (MayPut p i y v) phase may)
  in_locking (Release p) phase may version start ticket = absurd (subst (MayRelease p v) phase may)
  in_locking (Unlock p) phase may version start ticket = inr (p, refl)

-- What is held

-- a part that is let go is held no longer, and every other one still
lacks : (p : ℕ) (hs : List Held) → holds p (without p hs) ≡ false
lacks p [] = refl
lacks p (h ∷ hs) = elim (cases_Bool (nat_eq h.part p)) [
  | inl hit ↦ rw hit (lacks p hs)
  | inr miss ↦ rw miss (rw miss (lacks p hs))
]

keeps : (p q : ℕ) (hs : List Held) → nat_eq q p ≡ false → holds q hs ≡ true → holds q (without p hs) ≡ true
keeps p q [] other held = cc
keeps p q (h ∷ hs) other held = elim (cases_Bool (nat_eq h.part p)) [
  | inl hit ↦
      let here : h.part ≡ p = grind (arith, nat_tests) in
      let miss : nat_eq h.part q ≡ false = grind (arith, nat_tests) in
      rw hit (keeps p q hs other (rw miss at held))
  | inr miss ↦ elim (cases_Bool (nat_eq h.part q)) [
    | inl there ↦ rw miss (rw there refl)
    | inr elsewhere ↦ rw miss (rw elsewhere (keeps p q hs other (rw elsewhere at held)))
  ]
]

same_let_go : (p q : ℕ) (hs : List Held) → holds p hs ≡ true → holds q hs ≡ true → without p hs ≡ without q hs → p ≡ q
same_let_go p q hs first second same = elim (cases_Bool (nat_eq q p)) [
  | inl hit ↦ grind (arith, nat_tests)
  | inr miss ↦
      let still : holds q (without p hs) ≡ true = keeps p q hs miss second in
      let gone : holds q (without q hs) ≡ false = lacks q hs in
      let clash : true ≡ false = sym still ∙ ap (holds q) same ∙ gone in absurd cc
]

-- a read under a hold lets nothing go
held_on : (p i : ℕ) (x : ℤ) (q : ℕ) (hs : List Held) → holds q (map (with_held_read p i x) hs) ≡ holds q hs
held_on p i x q [] = refl
held_on p i x q (h ∷ hs) = elim (cases_Bool (nat_eq h.part p)) [
  | inl hit ↦ rw hit (rw (held_on p i x q hs) refl)
  | inr miss ↦ rw miss (rw (held_on p i x q hs) refl)
]

-- the reads of the first hold, and the other holds
abbrev reads_first : List Held → List (ℕ × ℤ)
reads_first [] = []
reads_first (h ∷ hs) = h.reads

abbrev others : List Held → List Held
others [] = []
others (h ∷ hs) = hs

one_more : (rs : List (ℕ × ℤ)) (r : ℕ × ℤ) → rs ++ r ∷ [] ≡ rs → ⊥
one_more rs r e =
    let many : length (rs ++ r ∷ []) ≡ length rs = ap length e in
    let one : length (rs ++ r ∷ []) ≡ length rs + 1 = length-append rs (r ∷ []) in omega (arith, many, one)

same_held_read : (p q i j : ℕ) (x y : ℤ) (hs : List Held) → holds p hs ≡ true → map (with_held_read p i x) hs ≡ map (with_held_read q j y) hs → (p ≡ q) × (◌≡◌ {A = ℕ × ℤ} (i, x) (j, y))
same_held_read p q i j x y [] held same = absurd cc
same_held_read p q i j x y (h ∷ hs) held same =
    let first : (with_held_read p i x h).reads ≡ (with_held_read q j y h).reads = ap reads_first same in
    elim (cases_Bool (nat_eq h.part p)) [
      | inl hit ↦ elim (cases_Bool (nat_eq h.part q)) [
        | inl there ↦ (grind (arith, nat_tests), last_same h.reads (i, x) (j, y) (rw there at (rw hit at first)))
        | inr miss ↦ absurd (one_more h.reads (i, x) (rw miss at (rw hit at first)))
      ]
      | inr miss ↦ same_held_read p q i j x y hs (rw miss at held) (ap others same)
    ]

-- What is put

abbrev puts_in : Phase → List (ℕ × ℕ)
puts_in (Won t puts) = puts
puts_in other = []

one_put : (c : Change) (reads : Reads) (i : ℕ) (x y : ℤ) → IsPutOf c reads i x → IsPutOf c reads i y → x ≡ y
one_put Keep reads i x y first second = absurd first
one_put (PutValue z) reads i x y first second = first ∙ sym second
one_put (Add d) reads i x y first second = first.1 ∙ sym second.1

abbrev has_won : Phase → Bool
has_won (Won t puts) = true
has_won other = false

abbrev reads_of : Phase → List (ℕ × ℤ)
reads_of (Looking r) = r.reads
reads_of (Testing r) = r.reads
reads_of other = []

-- Which load it was

-- a hold was taken
abbrev grown : ℕ → ℕ → ℕ
grown before now = if nat_eq before now then 0 else 3

abbrev load_by : Phase → (before now : ℕ) → ℕ
load_by (Looking r) before now = 1
load_by (Testing r) before now = 1
load_by (Drawn t) before now = 2
load_by other before now = grown before now

not_grown : (k : ℕ) → 0 ≡ grown k k
not_grown k = let same : nat_eq k k ≡ true = grind (arith, nat_tests) in rw same refl

one_grown : (k m : ℕ) → m ≡ k + 1 → 3 ≡ grown k m
one_grown k m e = let apart : nat_eq k m ≡ false = grind (arith, nat_tests) in rw apart refl

module _ (v : View) (p : ℕ) where
  close_load : (h : Phase) (before now : ℕ) → MayClose v p h → 1 ≡ load_by h before now
  close_load Idle before now may = absurd may
  close_load Reading before now may = absurd may
  close_load (Looking r) before now may = refl
  close_load Locking before now may = absurd may
  close_load (Testing r) before now may = refl
  close_load (Drawn t) before now may = absurd may
  close_load (Won t puts) before now may = absurd may
  close_load (Lost t) before now may = absurd may

  lock_load : (h : Phase) (before now : ℕ) → MayLock v p h → grown before now ≡ load_by h before now
  lock_load Idle before now may = absurd may
  lock_load Reading before now may = refl
  lock_load (Looking r) before now may = absurd may
  lock_load Locking before now may = refl
  lock_load (Testing r) before now may = absurd may
  lock_load (Drawn t) before now may = absurd may
  lock_load (Won t puts) before now may = absurd may
  lock_load (Lost t) before now may = absurd may

recheck_holds : (b : Bool) (v : View) (p n : ℕ) → (rechecked_by b v p n).held ≡ v.held
recheck_holds true v p n = refl
recheck_holds false v p n = refl

module _ (valid : Validity) (v : View) (n : ℕ) (x : ℤ) where
  in_phase : (h : Phase) (now : ℕ) → v.phase ≡ h → now ≡ length v.held → load_by h (length v.held) (length v.held) ≡ load_by v.phase (length v.held) now
  in_phase h now phase same = ap (λ (k : Phase). load_by k (length v.held) (length v.held)) (sym phase) ∙ ap (load_by v.phase (length v.held)) (sym same)

  load_is : (e : Event) (at : ℕ × ℕ) → Allowed valid e v → version_told (deed_of e n x) ≡ Some at → load (deed_of e n x) ≡ load_by v.phase (length v.held) (length (after e v n x).held)
  load_is Start at may told = cc
  load_is (Open p) at may told = not_grown (length v.held) ∙ in_phase Reading _ may.0 refl
  load_is (Word p i) at may told = cc
  load_is (Close p) at may told = close_load v p v.phase _ _ may.0
  load_is Renew at may told = cc
  load_is (Recheck p) at may told = not_grown (length v.held) ∙ in_phase Reading _ may.0 (ap length (recheck_holds (is_claimed_still v p n) (found v p n) p n))
  load_is (Lock p) at may told = elim (cases_Bool (is_free n)) [
    | inl free ↦ rw free (one_grown (length v.held) _ (length-append v.held _) ∙ lock_load v p v.phase _ _ may.0)
    | inr locked ↦ rw locked (not_grown (length v.held) ∙ lock_load v p v.phase _ _ may.0)
  ]
  load_is (Test p) at may told = not_grown (length v.held) ∙ in_phase Locking _ may.0 refl
  load_is (Draw us seen loaded) at may told = cc
  load_is (Check p) at may told = ap (λ (h : Phase). load_by h (length v.held) (length (after (Check p) v n x).held)) (sym may.0.1)
  load_is (Decide commit) at may told = cc
  load_is (Put p i y) at may told = cc
  load_is (Release p) at may told = cc
  load_is (Unlock p) at may told = cc

-- Two events of each phase

module _ (valid : Validity) (v : View) (n m : ℕ) (x y : ℤ) where
  abbrev AreAlike : Event → Event → Type 0
  AreAlike e f = Allowed valid e v → Allowed valid f v → after e v n x ≡ after f v m y → plain (deed_of e n x) ≡ plain (deed_of f m y)

  renewals : AreAlike Renew Renew
  renewals a b same = ap (λ (w : View). deeds.Renew w.at) same

  looks : (r : OpenRead) (i j : ℕ) → v.phase ≡ Looking r → AreAlike (Word r.part i) (Word r.part j)
  looks r i j phase a b same =
      let read : read_by (Looking r) v r.part i x ≡ read_by (Looking r) v r.part j y = subst (λ (h : Phase). read_by h v r.part i x ≡ read_by h v r.part j y) phase same in
      ap (λ (k : ℕ × ℤ). deeds.Word r.part k.0 k.1) (last_same r.reads (i, x) (j, y) (ap (λ (w : View). reads_of w.phase) read))

  tests : (r : OpenRead) (i j : ℕ) → v.phase ≡ Testing r → AreAlike (Word r.part i) (Word r.part j)
  tests r i j phase a b same =
      let read : read_by (Testing r) v r.part i x ≡ read_by (Testing r) v r.part j y = subst (λ (h : Phase). read_by h v r.part i x ≡ read_by h v r.part j y) phase same in
      ap (λ (k : ℕ × ℤ). deeds.Word r.part k.0 k.1) (last_same r.reads (i, x) (j, y) (ap (λ (w : View). reads_of w.phase) read))

  decisions : (c d : Bool) → AreAlike (Decide c) (Decide d)
  decisions true true a b same = refl
  decisions false false a b same = refl
  decisions true false a b same = let clash : true ≡ false = ap (λ (w : View). has_won w.phase) same in absurd cc
  decisions false true a b same = let clash : false ≡ true = ap (λ (w : View). has_won w.phase) same in absurd cc

  puts_two : (t : ℕ) (puts : List (ℕ × ℕ)) (p i q j : ℕ) (z u : ℤ) → v.phase ≡ Won t puts → AreAlike (Put p i z) (Put q j u)
  puts_two t puts p i q j z u phase a b same =
      let put : Won t (puts ++ (p, i) ∷ []) ≡ Won t (puts ++ (q, j) ∷ []) =
      subst (λ (h : Phase). put_by h p i ≡ put_by h q j) phase (ap (λ (w : View). w.phase) same) in
      let at : (p, i) ≡ (q, j) = last_same puts (p, i) (q, j) (ap puts_in put) in
      let first : MayPut p i z v (Won t puts) = subst (MayPut p i z v) phase a in
      let second : MayPut q j u v (Won t puts) = subst (MayPut q j u v) phase b in
      let there : MayPut p i u v (Won t puts) = subst (λ (k : ℕ × ℕ). MayPut k.0 k.1 u v (Won t puts)) (sym at) second in
      ap (λ (k : ℕ × ℕ). deeds.Put k.0 k.1 z) at ∙ ap (deeds.Put q j) (one_put _ _ i z u first.2 there.2)

  left_puts : (hs : List Held) (t : ℕ) (puts : List (ℕ × ℕ)) (at : ℕ × ℕ) → puts ++ at ∷ [] ≡ puts_in (phase_left hs (Won t puts)) → ⊥
  left_puts [] t puts at e =
      let many : length (puts ++ at ∷ []) ≡ 0 = ap length e in
      let one : length (puts ++ at ∷ []) ≡ length puts + 1 = length-append puts (at ∷ []) in omega (arith, many, one)
  left_puts (h ∷ hs) t puts at e =
      let many : length (puts ++ at ∷ []) ≡ length puts = ap length e in
      let one : length (puts ++ at ∷ []) ≡ length puts + 1 = length-append puts (at ∷ []) in omega (arith, many, one)

  put_release : (t : ℕ) (puts : List (ℕ × ℕ)) (p i q : ℕ) (z : ℤ) → v.phase ≡ Won t puts → put_by v.phase p i ≡ phase_left (without q v.held) v.phase → ⊥
  put_release t puts p i q z phase same =
      left_puts (without q v.held) t puts (p, i) (ap puts_in (subst (λ (h : Phase). put_by h p i ≡ phase_left (without q v.held) h) phase same))

  releases : (t : ℕ) (puts : List (ℕ × ℕ)) (p q : ℕ) → v.phase ≡ Won t puts → AreAlike (Release p) (Release q)
  releases t puts p q phase a b same =
      ap deeds.Release (same_let_go p q v.held (subst (MayRelease p v) phase a).1 (subst (MayRelease q v) phase b).1 (ap (λ (w : View). w.held) same))

  lost_unlocks : (t p q : ℕ) → v.phase ≡ Lost t → AreAlike (Unlock p) (Unlock q)
  lost_unlocks t p q phase a b same =
      ap deeds.Unlock (same_let_go p q v.held (subst (MayUnlock p v) phase a).1 (subst (MayUnlock q v) phase b).1 (ap (λ (w : View). w.held) same))

  unlocks : (p q : ℕ) → v.phase ≡ Locking → AreAlike (Unlock p) (Unlock q)
  unlocks p q phase a b same =
      ap deeds.Unlock (same_let_go p q v.held (subst (MayUnlock p v) phase a).1 (subst (MayUnlock q v) phase b).1 (ap (λ (w : View). w.held) same))

  held_words : (p i q j : ℕ) → v.phase ≡ Locking → AreAlike (Word p i) (Word q j)
  held_words p i q j phase a b same =
      let read : read_by Locking v p i x ≡ read_by Locking v q j y = subst (λ (h : Phase). read_by h v p i x ≡ read_by h v q j y) phase same in
      let one = same_held_read p q i j x y v.held (subst (MayRead v p) phase a.0) (ap (λ (w : View). w.held) read) in
      ap (λ (k : ℕ). deeds.Word k i x) one.0 ∙ ap (λ (k : ℕ × ℤ). deeds.Word q k.0 k.1) one.1

  word_unlock : (p i q : ℕ) (z : ℤ) → v.phase ≡ Locking → Allowed valid (Unlock q) v → (read_by v.phase v p i z).held ≡ without q v.held → ⊥
  word_unlock p i q z phase b same =
      let read : map (with_held_read p i z) v.held ≡ without q v.held = subst (λ (h : Phase). (read_by h v p i z).held ≡ without q v.held) phase same in
      let still : holds q (map (with_held_read p i z) v.held) ≡ true = held_on p i z q v.held ∙ (subst (MayUnlock q v) phase b).1 in
      let clash : true ≡ false = sym still ∙ ap (holds q) read ∙ lacks q v.held in absurd cc

  by_won : (t : ℕ) (puts : List (ℕ × ℕ)) (e f : Event) → v.phase ≡ Won t puts
      → ((p : ℕ) × (i : ℕ) × (z : ℤ) × (e ≡ Put p i z)) ⊎ ((p : ℕ) × (e ≡ Release p))
      → ((p : ℕ) × (i : ℕ) × (z : ℤ) × (f ≡ Put p i z)) ⊎ ((p : ℕ) × (f ≡ Release p)) → AreAlike e f
  by_won t puts e f phase (inl k) (inl l) =
      subst (λ (c : Event). AreAlike c f) (sym k.3) (subst (AreAlike (Put k.0 k.1 k.2)) (sym l.3) (puts_two t puts k.0 k.1 l.0 l.1 k.2 l.2 phase))
  by_won t puts e f phase (inl k) (inr l) =
      subst (λ (c : Event). AreAlike c f) (sym k.3) (subst (AreAlike (Put k.0 k.1 k.2)) (sym l.1)
      (λ a b same. absurd (put_release t puts k.0 k.1 l.0 k.2 phase (ap (λ (w : View). w.phase) same))))
  by_won t puts e f phase (inr k) (inl l) =
      subst (λ (c : Event). AreAlike c f) (sym k.1) (subst (AreAlike (Release k.0)) (sym l.3)
      (λ a b same. absurd (put_release t puts l.0 l.1 k.0 l.2 phase (sym (ap (λ (w : View). w.phase) same)))))
  by_won t puts e f phase (inr k) (inr l) =
      subst (λ (c : Event). AreAlike c f) (sym k.1) (subst (AreAlike (Release k.0)) (sym l.1) (releases t puts k.0 l.0 phase))

  by_locking : (e f : Event) → v.phase ≡ Locking
      → ((p : ℕ) × (i : ℕ) × (e ≡ Word p i)) ⊎ ((p : ℕ) × (e ≡ Unlock p)) → ((p : ℕ) × (i : ℕ) × (f ≡ Word p i)) ⊎ ((p : ℕ) × (f ≡ Unlock p)) → AreAlike e f
  by_locking e f phase (inl k) (inl l) =
      subst (λ (c : Event). AreAlike c f) (sym k.2) (subst (AreAlike (Word k.0 k.1)) (sym l.2) (held_words k.0 k.1 l.0 l.1 phase))
  by_locking e f phase (inl k) (inr l) =
      subst (λ (c : Event). AreAlike c f) (sym k.2) (subst (AreAlike (Word k.0 k.1)) (sym l.1)
      (λ a b same. absurd (word_unlock k.0 k.1 l.0 x phase b (ap (λ (w : View). w.held) same))))
  by_locking e f phase (inr k) (inl l) =
      subst (λ (c : Event). AreAlike c f) (sym k.1) (subst (AreAlike (Unlock k.0)) (sym l.2)
      (λ a b same. absurd (word_unlock l.0 l.1 k.0 y phase a (sym (ap (λ (w : View). w.held) same)))))
  by_locking e f phase (inr k) (inr l) =
      subst (λ (c : Event). AreAlike c f) (sym k.1) (subst (AreAlike (Unlock k.0)) (sym l.1) (unlocks k.0 l.0 phase))

  both : (e f c d : Event) → e ≡ c → f ≡ d → AreAlike c d → AreAlike e f
  both e f c d p q alike = subst (λ (k : Event). AreAlike k f) (sym p) (subst (AreAlike c) (sym q) alike)

  -- where neither tells a version, a start or a ticket
  module _ (e f : Event) (a : Allowed valid e v) (b : Allowed valid f v) (same : after e v n x ≡ after f v m y)
      (version : version_told (deed_of e n x) ≡ None) (start : start_told (deed_of e n x) ≡ None) (ticket : ticket_told (deed_of e n x) ≡ None)
      (version_too : version_told (deed_of f m y) ≡ None) (start_too : start_told (deed_of f m y) ≡ None) (ticket_too : ticket_told (deed_of f m y) ≡ None) where
    by_phase : (h : Phase) → v.phase ≡ h → plain (deed_of e n x) ≡ plain (deed_of f m y)
    by_phase Idle p = absurd (in_idle valid v n x e p a version start)
    by_phase Reading p = both e f Renew Renew (in_reading valid v n x e p a version start) (in_reading valid v m y f p b version_too start_too) renewals a b same
    by_phase (Looking r) p =
        let k = in_looking valid v n x e r p a version start in let l = in_looking valid v m y f r p b version_too start_too in
        both e f (Word r.part k.0) (Word r.part l.0) k.1 l.1 (looks r k.0 l.0 p) a b same
    by_phase Locking p = by_locking e f p (in_locking valid v n x e p a version start ticket) (in_locking valid v m y f p b version_too start_too ticket_too) a b same
    by_phase (Testing r) p =
        let k = in_testing valid v n x e r p a version start in let l = in_testing valid v m y f r p b version_too start_too in
        both e f (Word r.part k.0) (Word r.part l.0) k.1 l.1 (tests r k.0 l.0 p) a b same
    by_phase (Drawn t) p =
        let k = in_drawn valid v n x e t p a version start in let l = in_drawn valid v m y f t p b version_too start_too in
        both e f (Decide k.0) (Decide l.0) k.1 l.1 (decisions k.0 l.0) a b same
    by_phase (Won t puts) p = by_won t puts e f p (in_won valid v n x e t puts p a version start) (in_won valid v m y f t puts p b version_too start_too) a b same
    by_phase (Lost t) p =
        let k = in_lost valid v n x e t p a version start in let l = in_lost valid v m y f t p b version_too start_too in
        both e f (Unlock k.0) (Unlock l.0) k.1 l.1 (lost_unlocks t k.0 l.0 p) a b same

  module _ (e f : Event) (a : Allowed valid e v) (b : Allowed valid f v) (same : after e v n x ≡ after f v m y) where
    by_ticket : version_told (deed_of e n x) ≡ None → start_told (deed_of e n x) ≡ None → (o : Option ℕ) → ticket_told (deed_of e n x) ≡ o → plain (deed_of e n x) ≡ plain (deed_of f m y)
    by_ticket version start (Some t) p = ticket_is e n x t p ∙ sym (ticket_is f m y t (sym (same_ticket v e f n m x y same) ∙ p))
    by_ticket version start None p =
        by_phase e f a b same version start p (sym (same_version v e f n m x y same) ∙ version) (sym (same_start v e f n m x y same) ∙ start)
        (sym (same_ticket v e f n m x y same) ∙ p) v.phase refl

    by_start : version_told (deed_of e n x) ≡ None → (o : Option ℕ) → start_told (deed_of e n x) ≡ o → plain (deed_of e n x) ≡ plain (deed_of f m y)
    by_start version (Some c) p = start_is e n x c p ∙ sym (start_is f m y c (sym (same_start v e f n m x y same) ∙ p))
    by_start version None p = by_ticket version p (ticket_told (deed_of e n x)) refl

    same_load : (at : ℕ × ℕ) → version_told (deed_of e n x) ≡ Some at → version_told (deed_of f m y) ≡ Some at → load (deed_of e n x) ≡ load (deed_of f m y)
    same_load at p q =
        load_is valid v n x e at a p ∙ ap (λ (w : View). load_by v.phase (length v.held) (length w.held)) same ∙ sym (load_is valid v m y f at b q)

    by_version : (o : Option (ℕ × ℕ)) → version_told (deed_of e n x) ≡ o → plain (deed_of e n x) ≡ plain (deed_of f m y)
    by_version (Some at) p =
        let q = sym (same_version v e f n m x y same) ∙ p in
        version_is e n x at p ∙ ap (λ (k : ℕ). loading k at) (same_load at p q) ∙ sym (version_is f m y at q)
    by_version None p = by_start p (start_told (deed_of e n x)) refl

    -- the two events are told alike
    pub same_plain : plain (deed_of e n x) ≡ plain (deed_of f m y)
    same_plain = by_version (version_told (deed_of e n x)) refl
