-- Where the event of a phase leads a commit, told as a relation by its calls, is where the function `after_commit` leads it.
use Rattle.std.specs.Prelude.{◌&&◌, ◌||◌, not, slice_get, Option}
use Rattle.std.specs.List.{list_any, list_all}
use Rattle.std.proofs.Common.{◌≡◌, ◌≢◌, ◌+◌, ◌<◌, ◌≤◌, ℕ, zero, suc, ℤ, Bool, true, false, nat_eq, nat_lt, Some, None, List, [], ◌∷◌, ◌++◌, length, map, slice_index_or, refl, ap, ◌∙◌, arith, eq-eqb, inl, inr, ◌⊎◌}
use Rattle.std.proofs.lemmas.Bool.Decides.{nat_tests}
use Rattle.sto_item.specs.declared.item.Item.{Item}
use Rattle.sto_item.specs.Pending.{Entry as Update}
use Rattle.sto_core.specs.Versions.{ticket_of, is_free}
use Rattle.sto_core.specs.Event.{Word, Close}
use Rattle.sto_core.specs.History.{writes}
use Rattle.sto_core.specs.Lists.{Among}
use Rattle.sto_core.proofs.Lists.{not_true}
use Rattle.sto_type.specs.Meaning.{Meaning}
use Rattle.sto_attempt_log.specs.declared.commit_phase.CommitPhase.{CommitPhase}
use Rattle.sto_attempt_log.specs.declared.commit_phase.CommitPhase.TheVariants as S
use Rattle.sto_attempt_log.specs.declared.commit_phase.FoundTicket.{FoundTicket}
use Rattle.sto_attempt_log.specs.declared.commit_phase.LoadedWord.{LoadedWord}
use Rattle.sto_attempt_log.specs.declared.verdict.Verdict.{Verdict}
use Rattle.sto_attempt_log.specs.declared.verdict.Verdict.TheVariants.{Wrote, Locked, Changed}
use Rattle.sto_attempt_log.specs.CommitPhases.{Deal, IsPlanned, IsAim, IsNextCheck, IsNextPut, ticket_from, expected_of, goes_on, is_so, is_same_part}
use Rattle.sto_attempt_log.specs.Doing.{Committer, commit_event, after_commit, load_next, check_next, put_next, written_at, task_at, check_at}
use Rattle.sto_attempt_log.proofs.SeenParts.{among_any}

-- the relations are functions

pub aim_is : (c : Committer) (n : ℕ) (s : CommitPhase) → IsAim c.us c.tasks n s → s ≡ load_next c n
aim_is c n S.Drawing h = let high : nat_lt n (length c.tasks) ≡ false = grind (arith, nat_tests) in rw high refl
aim_is c n (S.Loading k i) h = let low : nat_lt n (length c.tasks) ≡ true = let l = h.2 in grind (arith, nat_tests) in rw (low, h.3) (λ j. S.Loading (h.0 j) (h.1 j))
aim_is c n (S.Testing k) h = let low : nat_lt n (length c.tasks) ≡ true = let l = h.1 in grind (arith, nat_tests) in rw (low, h.2) (λ j. S.Testing (h.0 j))
aim_is c n (S.Locking k) h = absurd h
aim_is c n (S.Tested k i t) h = absurd h
aim_is c n (S.Checking k t) h = absurd h
aim_is c n (S.Deciding t) h = absurd h
aim_is c n (S.Putting k t) h = absurd h
aim_is c n (S.Releasing k t) h = absurd h
aim_is c n (S.Dropping t v) h = absurd h
aim_is c n (S.Leaving k e v) h = absurd h
aim_is c n S.Over h = absurd h

pub check_is : (c : Committer) (n t : ℕ) (s : CommitPhase) → IsNextCheck c.checks n t s → s ≡ check_next c n t
check_is c n t (S.Checking k u) h = let low : nat_lt n (length c.checks) ≡ true = let l = h.2 in grind (arith, nat_tests) in rw low (λ j. S.Checking (h.0 j) (h.1 j))
check_is c n t (S.Deciding u) h = let high : nat_lt n (length c.checks) ≡ false = let l = h.1 in grind (arith, nat_tests) in rw high (λ j. S.Deciding (h.0 j))
check_is c n t (S.Locking k) h = absurd h
check_is c n t (S.Loading k i) h = absurd h
check_is c n t (S.Testing k) h = absurd h
check_is c n t (S.Tested k i u) h = absurd h
check_is c n t S.Drawing h = absurd h
check_is c n t (S.Putting k u) h = absurd h
check_is c n t (S.Releasing k u) h = absurd h
check_is c n t (S.Dropping u v) h = absurd h
check_is c n t (S.Leaving k e v) h = absurd h
check_is c n t S.Over h = absurd h

pub put_is : (c : Committer) (n t : ℕ) (s : CommitPhase) → IsNextPut c.places n t s → s ≡ put_next c n t
put_is c n t (S.Putting k u) h = let low : nat_lt n (length c.places) ≡ true = let l = h.2 in grind (arith, nat_tests) in rw low (λ j. S.Putting (h.0 j) (h.1 j))
put_is c n t (S.Releasing k u) h = let high : nat_lt n (length c.places) ≡ false = let l = h.2 in grind (arith, nat_tests) in rw high (λ j. S.Releasing (h.0 j) (h.1 j))
put_is c n t (S.Locking k) h = absurd h
put_is c n t (S.Loading k i) h = absurd h
put_is c n t (S.Testing k) h = absurd h
put_is c n t (S.Tested k i u) h = absurd h
put_is c n t S.Drawing h = absurd h
put_is c n t (S.Checking k u) h = absurd h
put_is c n t (S.Deciding u) h = absurd h
put_is c n t (S.Dropping u v) h = absurd h
put_is c n t (S.Leaving k e v) h = absurd h
put_is c n t S.Over h = absurd h

-- the part of an update at a place
pub written_part : (us : List Update) (k : ℕ) (u : Update) → slice_get us k ≡ Some u → slice_index_or (map (λ (e : Update). e.0) us) k 0 ≡ u.0
written_part [] k u e = cc
written_part (y ∷ us) zero u e = cc
written_part (y ∷ us) (suc k) u e = written_part us k u e

-- a part that is loaded and not seen goes on where its predicates are true, and else not
pub goes_where_so : (seen : List ℕ) (items : List Item) (ls : List LoadedWord) (p : ℕ) → list_all (is_so p ls) items ≡ true → goes_on seen items ls p ≡ true
goes_where_so seen items ls p good = by (list_any (is_same_part p) seen) (list_all (is_so p ls) items) good
  where
    by : (a b : Bool) → b ≡ true → (a || b) ≡ true
    by true b e = refl
    by false b e = e

pub stops_where_not : (d : Deal) → IsPlanned d → (p : ℕ) (ls : List LoadedWord) → Among p d.loaded → list_all (is_so p ls) d.items ≡ false → goes_on d.seen d.items ls p ≡ false
stops_where_not d planned p ls b bad =
    let unseen : list_any (is_same_part p) d.seen ≡ false = not_true (list_any (is_same_part p) d.seen) (λ e. let a = among_any d.seen p e in planned.apart a.0 p a.1 b.0 p b.1 refl) in
    rw (unseen, bad) refl

-- a commit with these findings, at this phase, and the verdict with it
abbrev pub now_at : Committer → List FoundTicket → List LoadedWord → CommitPhase → Option Verdict → Committer × Option Verdict
now_at c ts ls s end = (record c { tickets = ts; loads = ls; phase = s }, end)

abbrev pub ticketed : Committer → ℕ → ℕ → List FoundTicket
ticketed c p t = c.tickets ++ record { part = p; ticket = t } ∷ []

abbrev pub loaded_with : Committer → ℕ → ℕ → ℤ → List LoadedWord
loaded_with c p i x = c.loads ++ record { part = p; word = i; value = x } ∷ []

module _ (m : Meaning) (c : Committer) where
  -- locks
  pub lock_busy : (k n : ℕ) (x : ℤ) (s : CommitPhase) (end : Option Verdict) (p : ℕ) → p ≡ written_at c k → is_free n ≡ false
      → (k ≡ 0 → (end ≡ Some (Locked c.at p)) × (s ≡ S.Over)) → (0 < k → (end ≡ None) × (s ≡ S.Leaving 0 k (Locked c.at p)))
      → now_at c c.tickets c.loads s end ≡ after_commit m (S.Locking k) c n x
  lock_busy zero n x s end p is busy over more =
      let o = over refl in rw busy (λ j. (record c { phase = o.1 j }, (o.0 ∙ ap (λ (q : ℕ). Some (Locked c.at q)) is) j))
  lock_busy (suc k) n x s end p is busy over more =
      let o = more (omega arith) in rw busy (λ j. (record c { phase = (o.1 ∙ ap (λ (q : ℕ). S.Leaving 0 (suc k) (Locked c.at q)) is) j }, o.0 j))

  pub lock_more : (k n : ℕ) (x : ℤ) (p t : ℕ) → p ≡ written_at c k → is_free n ≡ true → t ≡ ticket_of n → k + 1 < length c.us
      → now_at c (ticketed c p t) c.loads (S.Locking (k + 1)) None ≡ after_commit m (S.Locking k) c n x
  lock_more k n x p t is free ticket l =
      let low : nat_lt (k + 1) (length c.us) ≡ true = grind (arith, nat_tests) in
      rw (free, low) (λ j. now_at c (ticketed c (is j) (ticket j)) c.loads (S.Locking (k + 1)) None)

  pub lock_all : (k n : ℕ) (x : ℤ) (p t : ℕ) (s : CommitPhase) → p ≡ written_at c k → is_free n ≡ true → t ≡ ticket_of n → length c.us ≤ k + 1 → IsAim c.us c.tasks 0 s
      → now_at c (ticketed c p t) c.loads s None ≡ after_commit m (S.Locking k) c n x
  lock_all k n x p t s is free ticket l aim =
      let high : nat_lt (k + 1) (length c.us) ≡ false = grind (arith, nat_tests) in
      rw (free, high) (λ j. now_at c (ticketed c (is j) (ticket j)) c.loads (aim_is c 0 s aim j) None)

  -- loads of held parts
  pub load_more : (k i n : ℕ) (x : ℤ) (ls : List LoadedWord) → ls ≡ loaded_with c (task_at c k) i x → i + 1 < slice_index_or m.widths (task_at c k) 0
      → now_at c c.tickets ls (S.Loading k (i + 1)) None ≡ after_commit m (S.Loading k i) c n x
  load_more k i n x ls is l =
      let low : nat_lt (i + 1) (slice_index_or m.widths (task_at c k) 0) ≡ true = grind (arith, nat_tests) in
      rw low (λ j. now_at c c.tickets (is j) (S.Loading k (i + 1)) None)

  pub load_all : (k i n : ℕ) (x : ℤ) (ls : List LoadedWord) (s : CommitPhase) → ls ≡ loaded_with c (task_at c k) i x → slice_index_or m.widths (task_at c k) 0 ≤ i + 1
      → goes_on c.seen c.items (loaded_with c (task_at c k) i x) (task_at c k) ≡ true → IsAim c.us c.tasks (k + 1) s
      → now_at c c.tickets ls s None ≡ after_commit m (S.Loading k i) c n x
  load_all k i n x ls s is l good aim =
      let high : nat_lt (i + 1) (slice_index_or m.widths (task_at c k) 0) ≡ false = grind (arith, nat_tests) in
      rw (high, good) (λ j. now_at c c.tickets (is j) (aim_is c (k + 1) s aim j) None)

  pub load_stops : (k i n : ℕ) (x : ℤ) (ls : List LoadedWord) (p t e : ℕ) → ls ≡ loaded_with c (task_at c k) i x → slice_index_or m.widths (task_at c k) 0 ≤ i + 1
      → goes_on c.seen c.items (loaded_with c (task_at c k) i x) (task_at c k) ≡ false → p ≡ task_at c k → t ≡ ticket_from 0 c.tickets (task_at c k) → e ≡ length c.us
      → now_at c c.tickets ls (S.Leaving 0 e (Changed c.at p t)) None ≡ after_commit m (S.Loading k i) c n x
  load_stops k i n x ls p t e is l bad on ticket all =
      let high : nat_lt (i + 1) (slice_index_or m.widths (task_at c k) 0) ≡ false = grind (arith, nat_tests) in
      rw (high, bad) (λ j. now_at c c.tickets (is j) (S.Leaving 0 (all j) (Changed c.at (on j) (ticket j))) None)

  -- tests of other parts
  pub test_busy : (k n : ℕ) (x : ℤ) (p e : ℕ) → is_free n ≡ false → p ≡ task_at c k → e ≡ length c.us
      → now_at c c.tickets c.loads (S.Leaving 0 e (Locked c.at p)) None ≡ after_commit m (S.Testing k) c n x
  test_busy k n x p e busy on all = rw busy (λ j. now_at c c.tickets c.loads (S.Leaving 0 (all j) (Locked c.at (on j))) None)

  pub test_on : (k n : ℕ) (x : ℤ) (ts : List FoundTicket) (t : ℕ) → is_free n ≡ true → ts ≡ ticketed c (task_at c k) t → t ≡ ticket_of n
      → now_at c ts c.loads (S.Tested k 0 t) None ≡ after_commit m (S.Testing k) c n x
  test_on k n x ts t free is ticket =
      rw free (λ j. now_at c ((is ∙ ap (λ (u : ℕ). ticketed c (task_at c k) u) ticket) j) c.loads (S.Tested k 0 (ticket j)) None)

  pub tested_word : (k i t : ℕ) → i < slice_index_or m.widths (task_at c k) 0 → commit_event m (S.Tested k i t) c ≡ Word (task_at c k) i
  tested_word k i t l = let low : nat_lt i (slice_index_or m.widths (task_at c k) 0) ≡ true = grind (arith, nat_tests) in rw low refl

  pub tested_end : (k i t : ℕ) → slice_index_or m.widths (task_at c k) 0 ≤ i → commit_event m (S.Tested k i t) c ≡ Close (task_at c k)
  tested_end k i t l = let high : nat_lt i (slice_index_or m.widths (task_at c k) 0) ≡ false = grind (arith, nat_tests) in rw high refl

  pub tested_more : (k i t n : ℕ) (x : ℤ) (ls : List LoadedWord) → ls ≡ loaded_with c (task_at c k) i x → i < slice_index_or m.widths (task_at c k) 0
      → now_at c c.tickets ls (S.Tested k (i + 1) t) None ≡ after_commit m (S.Tested k i t) c n x
  tested_more k i t n x ls is l =
      let low : nat_lt i (slice_index_or m.widths (task_at c k) 0) ≡ true = grind (arith, nat_tests) in
      rw low (λ j. now_at c c.tickets (is j) (S.Tested k (i + 1) t) None)

  pub tested_busy : (k i t n : ℕ) (x : ℤ) (p e : ℕ) → slice_index_or m.widths (task_at c k) 0 ≤ i → is_free n ≡ false → p ≡ task_at c k → e ≡ length c.us
      → now_at c c.tickets c.loads (S.Leaving 0 e (Locked c.at p)) None ≡ after_commit m (S.Tested k i t) c n x
  tested_busy k i t n x p e l busy on all =
      let high : nat_lt i (slice_index_or m.widths (task_at c k) 0) ≡ false = grind (arith, nat_tests) in
      rw (high, busy) (λ j. now_at c c.tickets c.loads (S.Leaving 0 (all j) (Locked c.at (on j))) None)

  pub tested_newer : (k i t n : ℕ) (x : ℤ) (p u e : ℕ) → slice_index_or m.widths (task_at c k) 0 ≤ i → is_free n ≡ true → ticket_of n ≢ t → p ≡ task_at c k → u ≡ ticket_of n → e ≡ length c.us
      → now_at c c.tickets c.loads (S.Leaving 0 e (Changed c.at p u)) None ≡ after_commit m (S.Tested k i t) c n x
  tested_newer k i t n x p u e l free ne on ticket all =
      let high : nat_lt i (slice_index_or m.widths (task_at c k) 0) ≡ false = grind (arith, nat_tests) in
      let other : nat_eq (ticket_of n) t ≡ false = grind (arith, nat_tests) in
      rw (high, free, other) (λ j. now_at c c.tickets c.loads (S.Leaving 0 (all j) (Changed c.at (on j) (ticket j))) None)

  pub tested_on : (k i t n : ℕ) (x : ℤ) (s : CommitPhase) → slice_index_or m.widths (task_at c k) 0 ≤ i → is_free n ≡ true → ticket_of n ≡ t
      → goes_on c.seen c.items c.loads (task_at c k) ≡ true → IsAim c.us c.tasks (k + 1) s
      → now_at c c.tickets c.loads s None ≡ after_commit m (S.Tested k i t) c n x
  tested_on k i t n x s l free same good aim =
      let high : nat_lt i (slice_index_or m.widths (task_at c k) 0) ≡ false = grind (arith, nat_tests) in
      let one : nat_eq (ticket_of n) t ≡ true = eq-eqb (ticket_of n) t same in
      rw (high, free, one, good) (λ j. now_at c c.tickets c.loads (aim_is c (k + 1) s aim j) None)

  pub tested_fails : (k i t n : ℕ) (x : ℤ) (p u e : ℕ) → slice_index_or m.widths (task_at c k) 0 ≤ i → is_free n ≡ true → ticket_of n ≡ t
      → goes_on c.seen c.items c.loads (task_at c k) ≡ false → p ≡ task_at c k → u ≡ ticket_from 0 c.tickets (task_at c k) → e ≡ length c.us
      → now_at c c.tickets c.loads (S.Leaving 0 e (Changed c.at p u)) None ≡ after_commit m (S.Tested k i t) c n x
  tested_fails k i t n x p u e l free same bad on ticket all =
      let high : nat_lt i (slice_index_or m.widths (task_at c k) 0) ≡ false = grind (arith, nat_tests) in
      let one : nat_eq (ticket_of n) t ≡ true = eq-eqb (ticket_of n) t same in
      rw (high, free, one, bad) (λ j. now_at c c.tickets c.loads (S.Leaving 0 (all j) (Changed c.at (on j) (ticket j))) None)

  -- the draw and the checks
  pub draw_on : (n : ℕ) (x : ℤ) (t : ℕ) (s : CommitPhase) → t ≡ suc n → IsNextCheck c.checks 0 t s → now_at c c.tickets c.loads s None ≡ after_commit m S.Drawing c n x
  draw_on n x t s is next = λ j. now_at c c.tickets c.loads ((check_is c 0 t s next ∙ ap (check_next c 0) is) j) None

  pub check_busy : (k t n : ℕ) (x : ℤ) (p : ℕ) → is_free n ≡ false → writes c.us (check_at c k) ≡ false → p ≡ check_at c k
      → now_at c c.tickets c.loads (S.Dropping t (Locked c.at p)) None ≡ after_commit m (S.Checking k t) c n x
  check_busy k t n x p busy other on = rw (busy, other) (λ j. now_at c c.tickets c.loads (S.Dropping t (Locked c.at (on j))) None)

  passed : (a b : Bool) → (a ≡ true) ⊎ (b ≡ true) → (not a && not b) ≡ false
  passed true b h = refl
  passed false true h = refl
  passed false false h = elim h [ inl e ↦ cc | inr e ↦ cc ]

  pub check_newer : (k t n : ℕ) (x : ℤ) (p u : ℕ) → (is_free n ≡ true) ⊎ (writes c.us (check_at c k) ≡ true) → ticket_of n ≢ expected_of c.base c.tickets c.seen (check_at c k)
      → p ≡ check_at c k → u ≡ ticket_of n
      → now_at c c.tickets c.loads (S.Dropping t (Changed c.at p u)) None ≡ after_commit m (S.Checking k t) c n x
  check_newer k t n x p u own ne on ticket =
      let other : nat_eq (ticket_of n) (expected_of c.base c.tickets c.seen (check_at c k)) ≡ false = grind (arith, nat_tests) in
      rw (passed (is_free n) (writes c.us (check_at c k)) own, other) (λ j. now_at c c.tickets c.loads (S.Dropping t (Changed c.at (on j) (ticket j))) None)

  pub check_on : (k t n : ℕ) (x : ℤ) (s : CommitPhase) → (is_free n ≡ true) ⊎ (writes c.us (check_at c k) ≡ true) → ticket_of n ≡ expected_of c.base c.tickets c.seen (check_at c k)
      → IsNextCheck c.checks (k + 1) t s → now_at c c.tickets c.loads s None ≡ after_commit m (S.Checking k t) c n x
  check_on k t n x s own same next =
      let one : nat_eq (ticket_of n) (expected_of c.base c.tickets c.seen (check_at c k)) ≡ true = eq-eqb (ticket_of n) (expected_of c.base c.tickets c.seen (check_at c k)) same in
      rw (passed (is_free n) (writes c.us (check_at c k)) own, one) (λ j. now_at c c.tickets c.loads (check_is c (k + 1) t s next j) None)

  -- the decision, the puts and the releases
  pub decide_on : (t n : ℕ) (x : ℤ) (s : CommitPhase) → IsNextPut c.places 0 t s → now_at c c.tickets c.loads s None ≡ after_commit m (S.Deciding t) c n x
  decide_on t n x s next = λ j. now_at c c.tickets c.loads (put_is c 0 t s next j) None

  pub put_on : (k t n : ℕ) (x : ℤ) (s : CommitPhase) → IsNextPut c.places (k + 1) t s → now_at c c.tickets c.loads s None ≡ after_commit m (S.Putting k t) c n x
  put_on k t n x s next = λ j. now_at c c.tickets c.loads (put_is c (k + 1) t s next j) None

  pub release_more : (k t n : ℕ) (x : ℤ) → k + 1 < length c.us → now_at c c.tickets c.loads (S.Releasing (k + 1) t) None ≡ after_commit m (S.Releasing k t) c n x
  release_more k t n x l = let low : nat_lt (k + 1) (length c.us) ≡ true = grind (arith, nat_tests) in rw low refl

  pub release_all : (k t n : ℕ) (x : ℤ) → length c.us ≤ k + 1 → now_at c c.tickets c.loads S.Over (Some (Wrote t)) ≡ after_commit m (S.Releasing k t) c n x
  release_all k t n x l = let high : nat_lt (k + 1) (length c.us) ≡ false = grind (arith, nat_tests) in rw high refl

  -- a commit that gives up
  pub drop_on : (t n : ℕ) (x : ℤ) (v : Verdict) (e : ℕ) → e ≡ length c.us → now_at c c.tickets c.loads (S.Leaving 0 e v) None ≡ after_commit m (S.Dropping t v) c n x
  drop_on t n x v e all = λ j. now_at c c.tickets c.loads (S.Leaving 0 (all j) v) None

  pub leaves_on : (k e n : ℕ) (x : ℤ) (v : Verdict) → k + 1 < e → now_at c c.tickets c.loads (S.Leaving (k + 1) e v) None ≡ after_commit m (S.Leaving k e v) c n x
  leaves_on k e n x v l = let low : nat_lt (k + 1) e ≡ true = grind (arith, nat_tests) in rw low refl

  pub leaves_last : (k e n : ℕ) (x : ℤ) (v : Verdict) → e ≤ k + 1 → now_at c c.tickets c.loads S.Over (Some v) ≡ after_commit m (S.Leaving k e v) c n x
  leaves_last k e n x v l = let high : nat_lt (k + 1) e ≡ false = grind (arith, nat_tests) in rw high refl
