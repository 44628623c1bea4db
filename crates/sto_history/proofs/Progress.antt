-- Each event of an attempt keeps how its view stands to the view before it.
use Rattle.std.specs.Prelude.{◌≢◌, ◌⊎◌, ◌&&◌, if◌then◌else◌, nat_le, nat_eq}
use Rattle.std.proofs.Common.{◌≡◌, ℕ, ◌+◌, ◌-◌, ◌*◌, ◌<◌, ◌≤◌, ℤ, List, [], ◌∷◌, ◌++◌, map, refl, sym, ap, ap₂, ◌∙◌, zero, suc, pos, subst, arith, Bool, true, false, inl, inr}
use Rattle.std.proofs.lemmas.List.{map-append}
use Rattle.sto_core.specs.declared.view.Entry.{Entry}
use Rattle.sto_core.specs.declared.view.Held.{Held}
use Rattle.sto_core.specs.declared.view.OpenRead.{OpenRead}
use Rattle.sto_core.specs.declared.view.Fate.{Fate}
use Rattle.sto_core.specs.declared.view.Fate.TheVariants.{Pending, Committed, Dropped}
use Rattle.sto_core.specs.declared.view.Phase.{Phase}
use Rattle.sto_core.specs.declared.view.Phase.TheVariants as P
use Rattle.sto_core.specs.declared.view.View.{View}
use Rattle.sto_core.specs.Lists.{Each, Among}
use Rattle.sto_core.specs.Versions.{ticket_of, is_free}
use Rattle.sto_core.specs.History.{Validity, Updates}
use Rattle.sto_core.specs.Views.{holds, without, own_ticket, drawn_entry}
use Rattle.sto_core.specs.Event.{Event, Start, Open, Word, Close, Lock, Test, Draw, Check, Decide, Put, Release, Unlock, Renew, Recheck, after, found, read_by, closed_by, claimed, locked_by, checked_by, rechecked_by, is_claimed_still, passes_check, settle, settle_entry, phase_left, let_go, with_read, put_by, fresh_read}
use Rattle.sto_core.specs.Allowed.{Allowed, MayRead, MayClose, MayLock, MayDecide, MayPut, MayRelease, MayUnlock}
use Rattle.sto_core.specs.Tells.{Tells, Covers, Begins}
use Rattle.sto_core.proofs.Lasting.{lasts}
use Rattle.sto_history.specs.Counted.{times_committed, if_won}
use Rattle.sto_history.specs.Added.{Grows, IsKnown}
use Rattle.sto_history.specs.Running.{HasNoMore, HasOneMore, HasSettled, Undrawn, Won, Lost, HasDrawn, IsRunning}
use Rattle.sto_history.proofs.Events.{grows_on, event_grows, covers_known}
use Rattle.sto_history.proofs.Above.{keeps_above}

-- what is known before an attempt is known while nothing was drawn
known_still : (b v : View) (k : ℕ) → v.entries ≡ b.entries → Grows b v → IsKnown b k → IsKnown v k
known_still b v k same g (inl h) = inl (let a = g.at in omega (arith, a, h))
known_still b v k same g (inr (inl h)) = inr (inl (record { entry = h.entry; there = subst (λ (es : List Entry). Among h.entry es) (sym same) h.there; ticket = h.ticket }))
known_still b v k same g (inr (inr h)) = inr (inr (record { claim = h.claim; there = g.wrote h.claim h.there; ticket = h.ticket }))

-- what was drawn, under a phase that is told by an equation
at_phase : (b v : View) (h : Phase) → v.phase ≡ h → HasDrawn b v.phase v.entries v.draws → HasDrawn b h v.entries v.draws
at_phase b v h is d = subst (λ (x : Phase). HasDrawn b x v.entries v.draws) is d

-- an attempt that has begun
pub begun_runs : (valid : Validity) (passes : ℕ) (v w : View) (n : ℕ) (x : ℤ) → Tells valid passes Start v n x w → IsRunning v w
begun_runs valid passes v w n x t =
    subst (λ (u : View). IsRunning v u) (sym t.after) (record {
      grows = event_grows Start v n x (λ e. t.learns.0.at) (λ e. t.learns.0.at);
      starts = refl;
      settled = subst (λ (u : View). Each (λ (e : Entry). e.fate ≢ Pending) u.entries) t.after t.learns.1.decided;
      drawn = record { same = refl; left = refl };
      above = tt;
      sizes = refl;
      opening = refl;
    })

-- an open leads to a read or stays between two
open_drawn : (b : View) (c : Bool) (r : OpenRead) (es : List Entry) (n : ℕ) → HasNoMore b es n → HasDrawn b (if c then P.Looking r else P.Reading) es n
open_drawn b true r es n h = h
open_drawn b false r es n h = h

test_drawn : (b : View) (c : Bool) (r : OpenRead) (es : List Entry) (n : ℕ) → HasNoMore b es n → HasDrawn b (if c then P.Testing r else P.Locking) es n
test_drawn b true r es n h = h
test_drawn b false r es n h = h

word_drawn : (b v : View) (h : Phase) (p i : ℕ) (x : ℤ) → v.phase ≡ h → MayRead v p h → HasDrawn b h v.entries v.draws → HasDrawn b (read_by h v p i x).phase (read_by h v p i x).entries (read_by h v p i x).draws
word_drawn b v (P.Looking r) p i x is may d = d
word_drawn b v (P.Testing r) p i x is may d = d
word_drawn b v P.Locking p i x is may d = subst (λ (y : Phase). HasDrawn b y v.entries v.draws) (sym is) d
word_drawn b v P.Idle p i x is may d = absurd may
word_drawn b v P.Reading p i x is may d = absurd may
word_drawn b v (P.Drawn t) p i x is may d = absurd may
word_drawn b v (P.Won t puts) p i x is may d = absurd may
word_drawn b v (P.Lost t) p i x is may d = absurd may

claim_drawn : (b : View) (h : Phase) (c : Bool) (v : View) (u : View) → HasDrawn b h v.entries v.draws → u.entries ≡ v.entries → u.draws ≡ v.draws
    → HasDrawn b h (if c then u else v).entries (if c then u else v).draws
claim_drawn b h true v u d e k = subst (λ (n : ℕ). HasDrawn b h u.entries n) (sym k) (subst (λ (es : List Entry). HasDrawn b h es v.draws) (sym e) d)
claim_drawn b h false v u d e k = d

close_drawn : (b v : View) (h : Phase) (p n : ℕ) → MayClose v p h → HasDrawn b h v.entries v.draws → HasDrawn b (closed_by h (found v p n) n).phase (closed_by h (found v p n) n).entries (closed_by h (found v p n) n).draws
close_drawn b v (P.Looking r) p n may d = claim_drawn b P.Reading (nat_eq n (2 * r.ticket)) (found v p n) _ d refl refl
close_drawn b v (P.Testing r) p n may d = claim_drawn b P.Locking (nat_eq n (2 * r.ticket)) (found v p n) _ d refl refl
close_drawn b v P.Idle p n may d = absurd may
close_drawn b v P.Reading p n may d = absurd may
close_drawn b v P.Locking p n may d = absurd may
close_drawn b v (P.Drawn t) p n may d = absurd may
close_drawn b v (P.Won t puts) p n may d = absurd may
close_drawn b v (P.Lost t) p n may d = absurd may

recheck_drawn : (b v : View) (c : Bool) (p n : ℕ) → v.phase ≡ P.Reading → HasNoMore b v.entries v.draws → HasDrawn b (rechecked_by c (found v p n) p n).phase (rechecked_by c (found v p n) p n).entries (rechecked_by c (found v p n) p n).draws
recheck_drawn b v true p n is d = subst (λ (h : Phase). HasDrawn b h v.entries v.draws) (sym is) d
recheck_drawn b v false p n is d = subst (λ (h : Phase). HasDrawn b h v.entries v.draws) (sym is) d

lock_drawn : (b v : View) (c : Bool) (h : Phase) (p n : ℕ) → v.phase ≡ h → MayLock v p h → HasDrawn b h v.entries v.draws → HasDrawn b (locked_by c (found v p n) p n).phase (locked_by c (found v p n) p n).entries (locked_by c (found v p n) p n).draws
lock_drawn b v true P.Reading p n is may d = d
lock_drawn b v true P.Locking p n is may d = d
lock_drawn b v false P.Reading p n is may d = subst (λ (y : Phase). HasDrawn b y v.entries v.draws) (sym is) d
lock_drawn b v false P.Locking p n is may d = subst (λ (y : Phase). HasDrawn b y v.entries v.draws) (sym is) d
lock_drawn b v c P.Idle p n is may d = absurd may
lock_drawn b v c (P.Looking r) p n is may d = absurd may
lock_drawn b v c (P.Testing r) p n is may d = absurd may
lock_drawn b v c (P.Drawn t) p n is may d = absurd may
lock_drawn b v c (P.Won t puts) p n is may d = absurd may
lock_drawn b v c (P.Lost t) p n is may d = absurd may

check_drawn : (b v : View) (c : Bool) (p n : ℕ) → HasDrawn b v.phase v.entries v.draws → HasDrawn b (checked_by c (found v p n) p n).phase (checked_by c (found v p n) p n).entries (checked_by c (found v p n) p n).draws
check_drawn b v true p n d = d
check_drawn b v false p n d = d

-- entries that are decided stay
settle_same : (c : Bool) (f : Fate) → f ≢ Pending → settle c f ≡ f
settle_same true Pending h = absurd (h refl)
settle_same false Pending h = absurd (h refl)
settle_same true Committed h = refl
settle_same false Committed h = refl
settle_same true Dropped h = refl
settle_same false Dropped h = refl

settle_all : (c : Bool) (es : List Entry) → Each (λ (e : Entry). e.fate ≢ Pending) es → map (settle_entry c) es ≡ es
settle_all c [] h = refl
settle_all c (e ∷ es) h = ap₂ (λ (f : Fate) (xs : List Entry). record e { fate = f } ∷ xs) (settle_same c e.fate (h 0 e refl)) (settle_all c es (λ j x k. h (suc j) x k))

-- the added entry is decided
one_settled : (b : View) (c : Bool) (t : ℕ) (es : List Entry) (n : ℕ) → Each (λ (e : Entry). e.fate ≢ Pending) b.entries → HasOneMore b t Pending es n → HasOneMore b t (settle c Pending) (map (settle_entry c) es) n
one_settled b c t es n all h = record {
  entry = settle_entry c h.entry;
  all = ap (λ (xs : List Entry). map (settle_entry c) xs) h.all ∙ map-append (settle_entry c) b.entries (h.entry ∷ []) ∙ ap (λ (xs : List Entry). xs ++ settle_entry c h.entry ∷ []) (settle_all c b.entries all);
  drawn = h.drawn;
  has = ap (settle c) h.has;
  since = h.since;
  used = h.used;
}

decide_drawn : (b v : View) (c : Bool) (t : ℕ) → v.phase ≡ P.Drawn t → Each (λ (e : Entry). e.fate ≢ Pending) b.entries → HasOneMore b t Pending v.entries v.draws
    → HasDrawn b (after (Decide c) v 0 (pos 0)).phase (after (Decide c) v 0 (pos 0)).entries v.draws
decide_drawn b v true t is all h = subst (λ (k : ℕ). HasOneMore b k Committed (map (settle_entry true) v.entries) v.draws) (sym (ap own_ticket is)) (one_settled b true t v.entries v.draws all h)
decide_drawn b v false t is all h = subst (λ (k : ℕ). HasOneMore b k Dropped (map (settle_entry false) v.entries) v.draws) (sym (ap own_ticket is)) (one_settled b false t v.entries v.draws all h)

may_drawn : (c : Bool) (v : View) → MayDecide c v → (u : ℕ) × (v.phase ≡ P.Drawn u)
may_drawn true v may = may.0
may_drawn false v may = may

put_drawn : (b v : View) (h : Phase) (p i : ℕ) (x : ℤ) → MayPut p i x v h → HasDrawn b h v.entries v.draws → HasDrawn b (put_by h p i) v.entries v.draws
put_drawn b v (P.Won t puts) p i x may d = d
put_drawn b v P.Idle p i x may d = absurd may
put_drawn b v P.Reading p i x may d = absurd may
put_drawn b v (P.Looking r) p i x may d = absurd may
put_drawn b v P.Locking p i x may d = absurd may
put_drawn b v (P.Testing r) p i x may d = absurd may
put_drawn b v (P.Drawn t) p i x may d = absurd may
put_drawn b v (P.Lost t) p i x may d = absurd may

-- after a part was let go
left_won : (b v : View) (t : ℕ) (puts : List (ℕ × ℕ)) (hs : List Held) → HasOneMore b t Committed v.entries v.draws → HasDrawn b (phase_left hs (P.Won t puts)) v.entries v.draws
left_won b v t puts [] d = Won t d
left_won b v t puts (x ∷ hs) d = d

left_lost : (b v : View) (t : ℕ) (hs : List Held) → HasOneMore b t Dropped v.entries v.draws → HasDrawn b (phase_left hs (P.Lost t)) v.entries v.draws
left_lost b v t [] d = Lost t d
left_lost b v t (x ∷ hs) d = d

left_locking : (b v : View) (hs : List Held) → HasNoMore b v.entries v.draws → HasDrawn b (phase_left hs P.Locking) v.entries v.draws
left_locking b v [] d = Undrawn d
left_locking b v (x ∷ hs) d = d

release_drawn : (b v : View) (h : Phase) (p : ℕ) → MayRelease p v h → HasDrawn b h v.entries v.draws → HasDrawn b (phase_left (without p v.held) h) v.entries v.draws
release_drawn b v (P.Won t puts) p may d = left_won b v t puts (without p v.held) d
release_drawn b v P.Idle p may d = absurd may
release_drawn b v P.Reading p may d = absurd may
release_drawn b v (P.Looking r) p may d = absurd may
release_drawn b v P.Locking p may d = absurd may
release_drawn b v (P.Testing r) p may d = absurd may
release_drawn b v (P.Drawn t) p may d = absurd may
release_drawn b v (P.Lost t) p may d = absurd may

unlock_drawn : (b v : View) (h : Phase) (p : ℕ) → MayUnlock p v h → HasDrawn b h v.entries v.draws → HasDrawn b (phase_left (without p v.held) h) v.entries v.draws
unlock_drawn b v P.Locking p may d = left_locking b v (without p v.held) d
unlock_drawn b v (P.Lost t) p may d = left_lost b v t (without p v.held) d
unlock_drawn b v P.Idle p may d = absurd may
unlock_drawn b v P.Reading p may d = absurd may
unlock_drawn b v (P.Looking r) p may d = absurd may
unlock_drawn b v (P.Testing r) p may d = absurd may
unlock_drawn b v (P.Drawn t) p may d = absurd may
unlock_drawn b v (P.Won t puts) p may d = absurd may

same_starts : (c : Bool) (u v : View) → u.starts ≡ v.starts → (if c then u else v).starts ≡ v.starts
same_starts true u v h = h
same_starts false u v h = refl

read_starts : (h : Phase) (v : View) (p i : ℕ) (x : ℤ) → (read_by h v p i x).starts ≡ v.starts
read_starts (P.Looking r) v p i x = refl
read_starts (P.Testing r) v p i x = refl
read_starts _ v p i x = refl

close_starts : (h : Phase) (v : View) (n : ℕ) → (closed_by h v n).starts ≡ v.starts
close_starts (P.Looking r) v n = same_starts (nat_eq n (2 * r.ticket)) _ v refl
close_starts (P.Testing r) v n = same_starts (nat_eq n (2 * r.ticket)) _ v refl
close_starts _ v n = refl

recheck_starts : (c : Bool) (v : View) (p n : ℕ) → (rechecked_by c v p n).starts ≡ v.starts
recheck_starts true v p n = refl
recheck_starts false v p n = refl

lock_starts : (c : Bool) (v : View) (p n : ℕ) → (locked_by c v p n).starts ≡ v.starts
lock_starts true v p n = refl
lock_starts false v p n = refl

check_starts : (c : Bool) (v : View) (p n : ℕ) → (checked_by c v p n).starts ≡ v.starts
check_starts true v p n = refl
check_starts false v p n = refl

-- the view after an event, which tells w
kept : (valid : Validity) (passes : ℕ) (e : Event) (b v w : View) (n : ℕ) (x : ℤ) → Tells valid passes e v n x w → IsRunning b v → Grows v (after e v n x)
    → (after e v n x).starts ≡ v.starts → HasDrawn b (after e v n x).phase (after e v n x).entries (after e v n x).draws → IsRunning b w
kept valid passes e b v w n x t r g starts d =
    subst (λ (u : View). IsRunning b u) (sym t.after) (record {
      grows = grows_on b v (after e v n x) r.grows g;
      starts = starts ∙ r.starts;
      settled = r.settled;
      drawn = d;
      above = keeps_above valid passes e v w n x t r.above;
      sizes = (lasts e v n x).sizes ∙ r.sizes;
      opening = (lasts e v n x).opening ∙ r.opening;
    })

-- the event loads no clock
IsOther : Event → Type 0
IsOther Start = ⊥
IsOther Renew = ⊥
IsOther _ = Unit {0}

others_grow : (e : Event) → IsOther e → (v : View) (n : ℕ) (x : ℤ) → Grows v (after e v n x)
unfolding IsOther
others_grow e o v n x = event_grows e v n x (λ is. absurd (subst (λ (d : Event). IsOther d) is o)) (λ is. absurd (subst (λ (d : Event). IsOther d) is o))

renew_grows : (v : View) (n : ℕ) (x : ℤ) → v.at ≤ n → Grows v (after Renew v n x)
renew_grows v n x h = event_grows Renew v n x (λ is. h) (λ is. h)

-- Each event but a start leaves the attempt running since the same view.
pub keeps_running : (valid : Validity) (passes : ℕ) (e : Event) (b v w : View) (n : ℕ) (x : ℤ) → (e ≡ Start → ⊥) → Allowed valid e v → Tells valid passes e v n x w → IsRunning b v → IsRunning b w
unfolding IsOther
keeps_running valid passes Start b v w n x begins may t r = absurd (begins refl)
keeps_running valid passes (Open p) b v w n x begins may t r =
    kept valid passes (Open p) b v w n x t r (others_grow (Open p) tt v n x) refl
    (open_drawn b (is_free n && nat_le (ticket_of n) v.at) _ v.entries v.draws (at_phase b v P.Reading may.0 r.drawn))
keeps_running valid passes (Word p i) b v w n x begins may t r =
    kept valid passes (Word p i) b v w n x t r (others_grow (Word p i) tt v n x) (read_starts v.phase v p i x)
    (word_drawn b v v.phase p i x refl may.0 r.drawn)
keeps_running valid passes (Close p) b v w n x begins may t r =
    kept valid passes (Close p) b v w n x t r (others_grow (Close p) tt v n x) (close_starts v.phase (found v p n) n)
    (close_drawn b v v.phase p n may.0 r.drawn)
keeps_running valid passes Renew b v w n x begins may t r =
    kept valid passes Renew b v w n x t r (renew_grows v n x t.learns.at) refl r.drawn
keeps_running valid passes (Recheck p) b v w n x begins may t r =
    kept valid passes (Recheck p) b v w n x t r (others_grow (Recheck p) tt v n x) (recheck_starts (is_claimed_still v p n) (found v p n) p n)
    (recheck_drawn b v (is_claimed_still v p n) p n may.0 (at_phase b v P.Reading may.0 r.drawn))
keeps_running valid passes (Lock p) b v w n x begins may t r =
    kept valid passes (Lock p) b v w n x t r (others_grow (Lock p) tt v n x) (lock_starts (is_free n) (found v p n) p n)
    (lock_drawn b v (is_free n) v.phase p n refl may.0 r.drawn)
keeps_running valid passes (Test p) b v w n x begins may t r =
    kept valid passes (Test p) b v w n x t r (others_grow (Test p) tt v n x) refl
    (subst (λ (h : Phase). HasDrawn b (if is_free n then P.Testing (fresh_read p n) else h) v.entries v.draws) (sym may.0)
    (test_drawn b (is_free n) _ v.entries v.draws (at_phase b v P.Locking may.0 r.drawn)))
keeps_running valid passes (Draw us seen loaded) b v w n x begins may t r =
    let d : HasNoMore b v.entries v.draws = at_phase b v P.Locking may.phase r.drawn in
    kept valid passes (Draw us seen loaded) b v w n x t r (others_grow (Draw us seen loaded) tt v n x) refl (record {
      entry = drawn_entry v (suc n) us seen loaded;
      all = ap (λ (es : List Entry). es ++ drawn_entry v (suc n) us seen loaded ∷ []) d.same;
      drawn = refl;
      has = refl;
      since = λ k known. (let a = covers_known v n k t.learns.0 (known_still b v k d.same r.grows known) in omega (arith, a));
      used = (let a = may.draws in let c = d.left in omega (arith, a, c));
    })
keeps_running valid passes (Check p) b v w n x begins may t r =
    kept valid passes (Check p) b v w n x t r (others_grow (Check p) tt v n x) (check_starts (passes_check v p n) (found v p n) p n)
    (check_drawn b v (passes_check v p n) p n r.drawn)
keeps_running valid passes (Decide c) b v w n x begins may t r =
    let is : (u : ℕ) × (v.phase ≡ P.Drawn u) = may_drawn c v may in
    kept valid passes (Decide c) b v w n x t r (others_grow (Decide c) tt v n x) refl
    (decide_drawn b v c is.0 is.1 r.settled (at_phase b v (P.Drawn is.0) is.1 r.drawn))
keeps_running valid passes (Put p i y) b v w n x begins may t r =
    kept valid passes (Put p i y) b v w n x t r (others_grow (Put p i y) tt v n x) refl
    (put_drawn b v v.phase p i y may r.drawn)
keeps_running valid passes (Release p) b v w n x begins may t r =
    kept valid passes (Release p) b v w n x t r (others_grow (Release p) tt v n x) refl
    (release_drawn b v v.phase p may r.drawn)
keeps_running valid passes (Unlock p) b v w n x begins may t r =
    kept valid passes (Unlock p) b v w n x t r (others_grow (Unlock p) tt v n x) refl
    (unlock_drawn b v v.phase p may r.drawn)

-- How many committed entries there are with a ticket, once an attempt has ended.
pub committed_append : (t : ℕ) (xs ys : List Entry) → times_committed t (xs ++ ys) ≡ times_committed t xs + times_committed t ys
committed_append t [] ys = omega arith
committed_append t (e ∷ xs) ys = let k = committed_append t xs ys in omega (arith, k)

-- an entry that is not committed is not counted
pub not_counted : (f : Fate) → f ≢ Committed → if_won f ≡ 0
not_counted Pending h = refl
not_counted Committed h = absurd (h refl)
not_counted Dropped h = refl
