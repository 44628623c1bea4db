-- What an attempt that has ended adds to what its pass knows.
use Rattle.std.specs.Prelude.{◌≢◌, ◌⊎◌, if◌then◌else◌, ◌==◌, nat_eq, ◌*◌}
use Rattle.std.proofs.Common.{◌≡◌, ℕ, ◌+◌, ◌<◌, ◌≤◌, ℤ, List, [], ◌∷◌, ◌++◌, refl, sym, ap, ◌∙◌, zero, suc, subst, arith, Bool, true, false, inl, inr, eq-eqb, ne_eqb}
use Rattle.std.proofs.lemmas.Bool.{cases_eq}
use Rattle.sto_model.specs.PlainReplies.{PlainReply}
use Rattle.sto_model.specs.Run.{Behaviour}
use Rattle.sto_type.specs.Meaning.{Meaning}
use Rattle.sto_core.specs.declared.view.Entry.{Entry}
use Rattle.sto_core.specs.declared.view.Fate.{Fate}
use Rattle.sto_core.specs.declared.view.Fate.TheVariants.{Pending, Committed, Dropped}
use Rattle.sto_core.specs.declared.view.Phase.{Phase}
use Rattle.sto_core.specs.declared.view.Phase.TheVariants as P
use Rattle.sto_core.specs.declared.view.View.{View}
use Rattle.sto_core.specs.Lists.{Each, Among}
use Rattle.sto_core.specs.History.{Validity}
use Rattle.sto_core.specs.Event.{Event, Start, Open, Word, Close, Lock, Test, Draw, Check, Decide, Put, Release, Unlock, Renew, Recheck, after, found, read_by, closed_by, rechecked_by, is_claimed_still, locked_by, checked_by, passes_check, decided}
use Rattle.sto_core.specs.Versions.{is_free}
use Rattle.sto_core.specs.Views.{own_ticket}
use Rattle.sto_core.specs.Allowed.{Allowed, IsIdle, MayRead, MayClose, MayLock, MayUnlock, MayPut, MayRelease, MayDecide}
use Rattle.sto_core.proofs.Lists.{each_snoc}
use Rattle.sto_history.specs.Records.{TransactionPlace, Verdict, Wrote, Read, Cancelled, Locked, Changed, Record, IsSince, IsAbove, wrote_with}
use Rattle.sto_history.specs.Told.{IsTold, IsFound}
use Rattle.sto_history.specs.Counted.{times_committed, if_won}
use Rattle.sto_history.specs.Added.{Grows, IsKnown}
use Rattle.sto_history.specs.Running.{HasNoMore, HasOneMore, HasSettled, Undrawn, Won, Lost, HasDrawn, IsRunning}
use Rattle.sto_history.specs.Tried.{HasTried}
use Rattle.sto_history.proofs.Among.{among_first}
use Rattle.sto_history.proofs.Progress.{committed_append, not_counted}

-- a pass that is idle has settled what it drew
pub settled_of : (b : View) (h : Phase) (es : List Entry) (n : ℕ) → IsIdle h → HasDrawn b h es n → HasSettled b es n
settled_of b P.Idle es n idle d = d
settled_of b P.Reading es n idle d = Undrawn d
settled_of b (P.Looking r) es n idle d = Undrawn d
settled_of b P.Locking es n idle d = absurd idle
settled_of b (P.Testing r) es n idle d = absurd idle
settled_of b (P.Drawn t) es n idle d = absurd idle
settled_of b (P.Won t puts) es n idle d = absurd idle
settled_of b (P.Lost t) es n idle d = absurd idle

-- entries that were there stay
kept_same : (b : View) (es : List Entry) → es ≡ b.entries → (e : Entry) → Among e b.entries → Among e es
kept_same b es same e h = subst (λ (xs : List Entry). Among e xs) (sym same) h

kept_more : (b : View) (es : List Entry) (x : Entry) → es ≡ b.entries ++ x ∷ [] → (e : Entry) → Among e b.entries → Among e es
kept_more b es x all e h = subst (λ (xs : List Entry). Among e xs) (sym all) (among_first b.entries (x ∷ []) e h)

pub kept_entries : (b : View) (es : List Entry) (n : ℕ) → HasSettled b es n → (e : Entry) → Among e b.entries → Among e es
kept_entries b es n (Undrawn h) e a = kept_same b es h.same e a
kept_entries b es n (Won t h) e a = kept_more b es h.entry h.all e a
kept_entries b es n (Lost t h) e a = kept_more b es h.entry h.all e a

-- all are decided
one_settled : (b : View) (t : ℕ) (f : Fate) (es : List Entry) (n : ℕ) → f ≢ Pending → Each (λ (e : Entry). e.fate ≢ Pending) b.entries → HasOneMore b t f es n → Each (λ (e : Entry). e.fate ≢ Pending) es
one_settled b t f es n other all h =
    subst (λ (xs : List Entry). Each (λ (e : Entry). e.fate ≢ Pending) xs) (sym h.all)
    (each_snoc (λ (e : Entry). e.fate ≢ Pending) b.entries h.entry all (λ is. other (sym h.has ∙ is)))

committed_other : Committed ≢ Pending
committed_other is = subst (λ (f : Fate). is_committed f) is tt
  where
    is_committed : Fate → Type 0
    is_committed Committed = Unit {0}
    is_committed _ = ⊥

dropped_other : Dropped ≢ Pending
dropped_other is = subst (λ (f : Fate). is_dropped f) is tt
  where
    is_dropped : Fate → Type 0
    is_dropped Dropped = Unit {0}
    is_dropped _ = ⊥

pub all_settled : (b : View) (es : List Entry) (n : ℕ) → Each (λ (e : Entry). e.fate ≢ Pending) b.entries → HasSettled b es n → Each (λ (e : Entry). e.fate ≢ Pending) es
all_settled b es n all (Undrawn h) = subst (λ (xs : List Entry). Each (λ (e : Entry). e.fate ≢ Pending) xs) (sym h.same) all
all_settled b es n all (Won t h) = one_settled b t Committed es n committed_other all h
all_settled b es n all (Lost t h) = one_settled b t Dropped es n dropped_other all h

pub draws_used : (b : View) (es : List Entry) (n : ℕ) → HasSettled b es n → b.draws ≤ n + 1
draws_used b es n (Undrawn h) = let a = h.left in omega (arith, a)
draws_used b es n (Won t h) = let a = h.used in omega (arith, a)
draws_used b es n (Lost t h) = let a = h.used in omega (arith, a)

-- how many committed entries have a ticket, once one more was decided
counted_one : (b : View) (t u : ℕ) (f : Fate) (es : List Entry) (n : ℕ) → HasOneMore b u f es n → times_committed t es ≡ times_committed t b.entries + (if nat_eq t u then if_won f else 0)
counted_one b t u f es n h =
    ap (times_committed t) h.all ∙ committed_append t b.entries (h.entry ∷ [])
    ∙ ap (λ (k : ℕ). times_committed t b.entries + k) (plus_none _ ∙ ap (λ (k : ℕ). if nat_eq t k then if_won h.entry.fate else 0) h.drawn ∙ ap (λ (g : Fate). if nat_eq t u then if_won g else 0) h.has)
  where
    plus_none : (k : ℕ) → k + 0 ≡ k
    plus_none k = omega arith

none_either : (c : Bool) → ◌≡◌ {A = ℕ} (if c then 0 else 0) 0
none_either true = refl
none_either false = refl

-- nothing more is counted where nothing was committed
same_count : (t : ℕ) (es fs : List Entry) → es ≡ fs → times_committed t es ≡ times_committed t fs + 0
same_count t es fs same = ap (times_committed t) same ∙ plus_none (times_committed t fs)
  where
    plus_none : (k : ℕ) → k ≡ k + 0
    plus_none k = omega arith

-- an attempt that has not committed
pub counted_none : (b : View) (t : ℕ) (es : List Entry) (n : ℕ) → HasNoMore b es n ⊎ ((u : ℕ) × HasOneMore b u Dropped es n) → times_committed t es ≡ times_committed t b.entries + 0
counted_none b t es n (inl h) = same_count t es b.entries h.same
counted_none b t es n (inr h) = counted_one b t h.0 Dropped es n h.1 ∙ ap (λ (k : ℕ). times_committed t b.entries + k) (none_either (nat_eq t h.0))

IsReading : Phase → Type 0
IsReading P.Reading = Unit {0}
IsReading _ = ⊥

reads_none : {t : ℕ} {puts : List (ℕ × ℕ)} → P.Reading ≡ P.Won t puts → ⊥
unfolding IsReading
reads_none is = subst (λ (h : Phase). IsReading h) is tt

IsLocking : Phase → Type 0
IsLocking P.Locking = Unit {0}
IsLocking _ = ⊥

locks_none : {t : ℕ} {puts : List (ℕ × ℕ)} → P.Locking ≡ P.Won t puts → ⊥
unfolding IsLocking
locks_none is = subst (λ (h : Phase). IsLocking h) is tt

HasDrawnOne : Phase → Type 0
HasDrawnOne (P.Drawn t) = Unit {0}
HasDrawnOne _ = ⊥

draws_none : (u : ℕ) {t : ℕ} {puts : List (ℕ × ℕ)} → P.Drawn u ≡ P.Won t puts → ⊥
unfolding HasDrawnOne
draws_none u is = subst (λ (h : Phase). HasDrawnOne h) is tt

reads_idle : P.Reading ≡ P.Idle → ⊥
unfolding IsReading
reads_idle is = subst (λ (h : Phase). IsReading h) is tt

locks_idle : P.Locking ≡ P.Idle → ⊥
unfolding IsLocking
locks_idle is = subst (λ (h : Phase). IsLocking h) is tt

draws_idle : (u : ℕ) → P.Drawn u ≡ P.Idle → ⊥
unfolding HasDrawnOne
draws_idle u is = subst (λ (h : Phase). HasDrawnOne h) is tt

draws_reads : (u : ℕ) → P.Drawn u ≡ P.Reading → ⊥
unfolding HasDrawnOne
draws_reads u is = subst (λ (h : Phase). HasDrawnOne h) is tt

draws_locks : (u : ℕ) → P.Drawn u ≡ P.Locking → ⊥
unfolding HasDrawnOne
draws_locks u is = subst (λ (h : Phase). HasDrawnOne h) is tt

-- an event that is allowed after the commit leaves what was drawn, and the number that the attempt reads as of
pub won_keeps : (valid : Validity) (e : Event) (v : View) (n : ℕ) (x : ℤ) (t : ℕ) (puts : List (ℕ × ℕ)) → v.phase ≡ P.Won t puts → Allowed valid e v
    → ((after e v n x).entries ≡ v.entries) × ((after e v n x).draws ≡ v.draws) × ((after e v n x).at ≡ v.at)
won_keeps valid Start v n x t puts is may = absurd (subst (λ (h : Phase). IsIdle h) is may)
won_keeps valid (Open p) v n x t puts is may = absurd (reads_none (sym may.0 ∙ is))
won_keeps valid (Word p i) v n x t puts is may = absurd (subst (λ (h : Phase). MayRead v p h) is may.0)
won_keeps valid (Close p) v n x t puts is may = absurd (subst (λ (h : Phase). MayClose v p h) is may.0)
won_keeps valid (Lock p) v n x t puts is may = absurd (subst (λ (h : Phase). MayLock v p h) is may.0)
won_keeps valid (Test p) v n x t puts is may = absurd (locks_none (sym may.0 ∙ is))
won_keeps valid (Draw us seen loaded) v n x t puts is may = absurd (locks_none (sym may.phase ∙ is))
won_keeps valid (Check p) v n x t puts is may = absurd (draws_none may.0.0 (sym may.0.1 ∙ is))
won_keeps valid (Decide true) v n x t puts is may = absurd (draws_none may.0.0 (sym may.0.1 ∙ is))
won_keeps valid (Decide false) v n x t puts is may = absurd (draws_none may.0 (sym may.1 ∙ is))
won_keeps valid (Put p i y) v n x t puts is may = (refl, refl, refl)
won_keeps valid (Release p) v n x t puts is may = (refl, refl, refl)
won_keeps valid (Unlock p) v n x t puts is may = absurd (subst (λ (h : Phase). MayUnlock p v h) is may)
won_keeps valid Renew v n x t puts is may = absurd (reads_none (sym may ∙ is))
won_keeps valid (Recheck p) v n x t puts is may = absurd (reads_none (sym may.0 ∙ is))

-- an event that neither draws nor decides leaves what was drawn
abbrev pub IsPlain : Event → Type 0
IsPlain (Draw us seen loaded) = ⊥
IsPlain (Decide commit) = ⊥
IsPlain _ = Unit {0}

-- two views have the same entries, and as many draws left
DrawsAlike : View → View → Type 0
DrawsAlike v w = (w.entries ≡ v.entries) × (w.draws ≡ v.draws)

either_alike : (c : Bool) (u v : View) → u.entries ≡ v.entries → u.draws ≡ v.draws → DrawsAlike v (if c then u else v)
unfolding DrawsAlike
either_alike true u v e d = (e, d)
either_alike false u v e d = (refl, refl)

read_alike : (h : Phase) (v : View) (p i : ℕ) (x : ℤ) → DrawsAlike v (read_by h v p i x)
unfolding DrawsAlike
read_alike (P.Looking r) v p i x = (refl, refl)
read_alike (P.Testing r) v p i x = (refl, refl)
read_alike _ v p i x = (refl, refl)

close_alike : (h : Phase) (v : View) (n : ℕ) → DrawsAlike v (closed_by h v n)
unfolding DrawsAlike
close_alike (P.Looking r) v n = either_alike (nat_eq n (2 * r.ticket)) _ v refl refl
close_alike (P.Testing r) v n = either_alike (nat_eq n (2 * r.ticket)) _ v refl refl
close_alike _ v n = (refl, refl)

recheck_alike : (c : Bool) (v : View) (p n : ℕ) → DrawsAlike v (rechecked_by c v p n)
unfolding DrawsAlike
recheck_alike true v p n = (refl, refl)
recheck_alike false v p n = (refl, refl)

lock_alike : (c : Bool) (v : View) (p n : ℕ) → DrawsAlike v (locked_by c v p n)
unfolding DrawsAlike
lock_alike true v p n = (refl, refl)
lock_alike false v p n = (refl, refl)

check_alike : (c : Bool) (v : View) (p n : ℕ) → DrawsAlike v (checked_by c v p n)
unfolding DrawsAlike
check_alike true v p n = (refl, refl)
check_alike false v p n = (refl, refl)

after_alike : (e : Event) → IsPlain e → (v : View) (n : ℕ) (x : ℤ) → DrawsAlike v (after e v n x)
unfolding DrawsAlike
after_alike Start h v n x = (refl, refl)
after_alike (Open p) h v n x = (refl, refl)
after_alike (Word p i) h v n x = read_alike v.phase v p i x
after_alike (Close p) h v n x = close_alike v.phase (found v p n) n
after_alike Renew h v n x = (refl, refl)
after_alike (Recheck p) h v n x = recheck_alike (is_claimed_still v p n) (found v p n) p n
after_alike (Lock p) h v n x = lock_alike (is_free n) (found v p n) p n
after_alike (Test p) h v n x = (refl, refl)
after_alike (Draw us seen loaded) h v n x = absurd h
after_alike (Check p) h v n x = check_alike (passes_check v p n) (found v p n) p n
after_alike (Decide commit) h v n x = absurd h
after_alike (Put p i y) h v n x = (refl, refl)
after_alike (Release p) h v n x = (refl, refl)
after_alike (Unlock p) h v n x = (refl, refl)

pub undrawn_keeps : (e : Event) (b v : View) (n : ℕ) (x : ℤ) → IsPlain e → HasNoMore b v.entries v.draws → HasNoMore b (after e v n x).entries (after e v n x).draws
unfolding DrawsAlike
undrawn_keeps e b v n x plain h = let k = after_alike e plain v n x in record { same = k.0 ∙ h.same; left = k.1 ∙ h.left }

dropped_keeps : (e : Event) (b v : View) (n : ℕ) (x : ℤ) (u : ℕ) → IsPlain e → HasOneMore b u Dropped v.entries v.draws → HasOneMore b u Dropped (after e v n x).entries (after e v n x).draws
unfolding DrawsAlike
dropped_keeps e b v n x u plain h =
    let k = after_alike e plain v n x in record {
      entry = h.entry;
      all = k.0 ∙ h.all;
      drawn = h.drawn;
      has = h.has;
      since = h.since;
      used = ap (λ (d : ℕ). d + 1) k.1 ∙ h.used;
    }

-- no ticket is committed
abbrev pub IsUnwon : Phase → Type 0
IsUnwon (P.Won t puts) = ⊥
IsUnwon _ = Unit {0}

-- what was drawn, where no attempt is under a pending or a committed ticket
HasLost : View → List Entry → ℕ → Type 0
HasLost b es n = HasNoMore b es n ⊎ ((u : ℕ) × HasOneMore b u Dropped es n)

-- in a phase without an attempt nothing but a start is allowed
idle_stays : (valid : Validity) (e : Event) (v : View) → (e ≡ Start → ⊥) → v.phase ≡ P.Idle → Allowed valid e v → ⊥
idle_stays valid Start v begins is may = begins refl
idle_stays valid (Open p) v begins is may = reads_idle (sym may.0 ∙ is)
idle_stays valid (Word p i) v begins is may = subst (λ (h : Phase). MayRead v p h) is may.0
idle_stays valid (Close p) v begins is may = subst (λ (h : Phase). MayClose v p h) is may.0
idle_stays valid (Lock p) v begins is may = subst (λ (h : Phase). MayLock v p h) is may.0
idle_stays valid (Test p) v begins is may = locks_idle (sym may.0 ∙ is)
idle_stays valid (Draw us seen loaded) v begins is may = locks_idle (sym may.phase ∙ is)
idle_stays valid (Check p) v begins is may = draws_idle may.0.0 (sym may.0.1 ∙ is)
idle_stays valid (Decide true) v begins is may = draws_idle may.0.0 (sym may.0.1 ∙ is)
idle_stays valid (Decide false) v begins is may = draws_idle may.0 (sym may.1 ∙ is)
idle_stays valid (Put p i y) v begins is may = subst (λ (h : Phase). MayPut p i y v h) is may
idle_stays valid (Release p) v begins is may = subst (λ (h : Phase). MayRelease p v h) is may
idle_stays valid (Unlock p) v begins is may = subst (λ (h : Phase). MayUnlock p v h) is may
idle_stays valid Renew v begins is may = reads_idle (sym may ∙ is)
idle_stays valid (Recheck p) v begins is may = reads_idle (sym may.0 ∙ is)

-- with a pending ticket the pass does not come to rest
check_busy : (c : Bool) (v : View) (p n : ℕ) → IsIdle (checked_by c v p n).phase → IsIdle v.phase
check_busy true v p n h = h
check_busy false v p n h = h

decide_busy : (c : Bool) (t : ℕ) → IsIdle (decided c t) → ⊥
decide_busy true t h = h
decide_busy false t h = h

pending_stays : (valid : Validity) (e : Event) (v : View) (n : ℕ) (x : ℤ) (t : ℕ) → (e ≡ Start → ⊥) → v.phase ≡ P.Drawn t → Allowed valid e v → IsIdle (after e v n x).phase → ⊥
pending_stays valid Start v n x t begins is may idle = begins refl
pending_stays valid (Open p) v n x t begins is may idle = draws_reads t (sym is ∙ may.0)
pending_stays valid (Word p i) v n x t begins is may idle = subst (λ (h : Phase). MayRead v p h) is may.0
pending_stays valid (Close p) v n x t begins is may idle = subst (λ (h : Phase). MayClose v p h) is may.0
pending_stays valid (Lock p) v n x t begins is may idle = subst (λ (h : Phase). MayLock v p h) is may.0
pending_stays valid (Test p) v n x t begins is may idle = draws_locks t (sym is ∙ may.0)
pending_stays valid (Draw us seen loaded) v n x t begins is may idle = idle
pending_stays valid (Check p) v n x t begins is may idle = subst (λ (h : Phase). IsIdle h) is (check_busy (passes_check v p n) (found v p n) p n idle)
pending_stays valid (Decide c) v n x t begins is may idle = decide_busy c (own_ticket v.phase) idle
pending_stays valid (Put p i y) v n x t begins is may idle = subst (λ (h : Phase). MayPut p i y v h) is may
pending_stays valid (Release p) v n x t begins is may idle = subst (λ (h : Phase). MayRelease p v h) is may
pending_stays valid (Unlock p) v n x t begins is may idle = subst (λ (h : Phase). MayUnlock p v h) is may
pending_stays valid Renew v n x t begins is may idle = draws_reads t (sym is ∙ may)
pending_stays valid (Recheck p) v n x t begins is may idle = draws_reads t (sym is ∙ may.0)

lost_before : (valid : Validity) (e : Event) (b v : View) (n : ℕ) (x : ℤ) → (e ≡ Start → ⊥) → (h : Phase) → v.phase ≡ h → IsUnwon h → Allowed valid e v → IsIdle (after e v n x).phase
    → HasDrawn b h v.entries v.draws → HasLost b v.entries v.draws
unfolding HasLost
lost_before valid e b v n x begins P.Idle is unwon may idle d = absurd (idle_stays valid e v begins is may)
lost_before valid e b v n x begins P.Reading is unwon may idle d = inl d
lost_before valid e b v n x begins (P.Looking r) is unwon may idle d = inl d
lost_before valid e b v n x begins P.Locking is unwon may idle d = inl d
lost_before valid e b v n x begins (P.Testing r) is unwon may idle d = inl d
lost_before valid e b v n x begins (P.Drawn t) is unwon may idle d = absurd (pending_stays valid e v n x t begins is may idle)
lost_before valid e b v n x begins (P.Won t puts) is unwon may idle d = absurd unwon
lost_before valid e b v n x begins (P.Lost t) is unwon may idle d = inr (t, d)

-- an event that comes to rest neither draws nor decides
rest_is_plain : (e : Event) (v : View) (n : ℕ) (x : ℤ) → IsIdle (after e v n x).phase → IsPlain e
rest_is_plain (Draw us seen loaded) v n x idle = idle
rest_is_plain (Decide c) v n x idle = decide_busy c (own_ticket v.phase) idle
rest_is_plain _ v n x idle = tt

-- An event that brings a pass to rest before the decision for the commit, or after the other one, leaves it with nothing drawn, or with what was dropped.
pub lost_keeps : (valid : Validity) (e : Event) (b v : View) (n : ℕ) (x : ℤ) → (e ≡ Start → ⊥) → IsUnwon v.phase → Allowed valid e v → IsIdle (after e v n x).phase
    → HasDrawn b v.phase v.entries v.draws
    → HasNoMore b (after e v n x).entries (after e v n x).draws ⊎ ((u : ℕ) × HasOneMore b u Dropped (after e v n x).entries (after e v n x).draws)
unfolding HasLost
lost_keeps valid e b v n x begins unwon may idle d =
    let plain : IsPlain e = rest_is_plain e v n x idle in
    elim (lost_before valid e b v n x begins v.phase refl unwon may idle d) [
      | inl none ↦ inl (undrawn_keeps e b v n x plain none)
      | inr one ↦ inr (one.0, dropped_keeps e b v n x one.0 plain one.1)
    ]

hit_same : (t u : ℕ) → nat_eq t u ≡ (u == t)
hit_same t u = elim (cases_eq t u) [
  | inl e ↦ eq-eqb t u e ∙ sym (eq-eqb u t (sym e))
  | inr n ↦ ne_eqb t u n ∙ sym (ne_eqb u t (λ e. n (sym e)))
]

-- an attempt that has committed with the ticket u
pub counted_won : (b : View) (t u : ℕ) (es : List Entry) (n : ℕ) → HasOneMore b u Committed es n → times_committed t es ≡ times_committed t b.entries + wrote_with t (Wrote u)
counted_won b t u es n h =
    counted_one b t u Committed es n h ∙ ap (λ (c : Bool). times_committed t b.entries + (if c then 1 else 0)) (hit_same t u)

-- What an attempt adds that has led from the view b to the idle view w.
pub tried : (m : Meaning) (b w : View) (f : Behaviour) (place : TransactionPlace) (replies : List PlainReply) (verdict : Verdict)
    → IsRunning b w → IsIdle w.phase → IsTold m w f replies verdict → IsFound w w.starts verdict
    → ((k : ℕ) → IsKnown b k → IsSince k verdict) → IsAbove w.at verdict
    → ((t : ℕ) → times_committed t w.entries ≡ times_committed t b.entries + wrote_with t verdict)
    → HasTried m b w f place (record { place = place; replies = replies; verdict = verdict })
tried m b w f place replies verdict r idle told found since above count =
    let d : HasSettled b w.entries w.draws = settled_of b w.phase w.entries w.draws idle r.drawn in record {
      added = record { placed = refl; told = told; since = since; above = above };
      grows = r.grows;
      kept = kept_entries b w.entries w.draws d;
      committed = count;
      settled = all_settled b w.entries w.draws r.settled d;
      starts = r.starts;
      draws = draws_used b w.entries w.draws d;
      found = found;
    }
