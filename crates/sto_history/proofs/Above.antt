-- Each event of an attempt keeps the ticket that was drawn above the number that the attempt reads as of.
use Rattle.std.specs.Prelude.{◌&&◌, if◌then◌else◌, nat_le, nat_eq}
use Rattle.std.proofs.Common.{◌≡◌, ℕ, ◌<◌, ◌≤◌, ◌*◌, ℤ, List, [], ◌∷◌, sym, ap, suc, subst, arith, Bool, true, false}
use Rattle.sto_core.specs.declared.view.Held.{Held}
use Rattle.sto_core.specs.declared.view.OpenRead.{OpenRead}
use Rattle.sto_core.specs.declared.view.Phase.{Phase}
use Rattle.sto_core.specs.declared.view.Phase.TheVariants as P
use Rattle.sto_core.specs.declared.view.View.{View}
use Rattle.sto_core.specs.Versions.{ticket_of, is_free}
use Rattle.sto_core.specs.History.{Validity}
use Rattle.sto_core.specs.Views.{without, own_ticket}
use Rattle.sto_core.specs.Event.{Event, Start, Open, Word, Close, Lock, Test, Draw, Check, Decide, Put, Release, Unlock, Renew, Recheck, after, found, read_by, closed_by, locked_by, checked_by, rechecked_by, is_claimed_still, passes_check, decided, phase_left, put_by, fresh_read}
use Rattle.sto_core.specs.Allowed.{Allowed, MayDecide}
use Rattle.sto_core.specs.Tells.{Tells}
use Rattle.sto_history.specs.Running.{HasDrawnAbove}

-- in a phase in which nothing was drawn
open_above : (n : ℕ) (c : Bool) (r : OpenRead) → HasDrawnAbove n (if c then P.Looking r else P.Reading)
open_above n true r = tt
open_above n false r = tt

test_above : (n : ℕ) (c : Bool) (r : OpenRead) (h : Phase) → HasDrawnAbove n h → HasDrawnAbove n (if c then P.Testing r else h)
test_above n true r h d = tt
test_above n false r h d = d

word_above : (v : View) (h : Phase) (p i : ℕ) (x : ℤ) → HasDrawnAbove v.at v.phase → HasDrawnAbove (read_by h v p i x).at (read_by h v p i x).phase
word_above v (P.Looking r) p i x d = tt
word_above v (P.Testing r) p i x d = tt
word_above v _ p i x d = d

close_above : (v : View) (h : Phase) (n : ℕ) → HasDrawnAbove v.at v.phase → HasDrawnAbove (closed_by h v n).at (closed_by h v n).phase
close_above v (P.Looking r) n d = tt
close_above v (P.Testing r) n d = tt
close_above v _ n d = d

recheck_above : (c : Bool) (v : View) (p n : ℕ) → HasDrawnAbove v.at v.phase → HasDrawnAbove (rechecked_by c v p n).at (rechecked_by c v p n).phase
recheck_above true v p n d = d
recheck_above false v p n d = d

lock_above : (c : Bool) (v : View) (p n : ℕ) → HasDrawnAbove v.at v.phase → HasDrawnAbove (locked_by c v p n).at (locked_by c v p n).phase
lock_above true v p n d = tt
lock_above false v p n d = d

check_above : (c : Bool) (v : View) (p n : ℕ) → HasDrawnAbove v.at v.phase → HasDrawnAbove (checked_by c v p n).at (checked_by c v p n).phase
check_above true v p n d = d
check_above false v p n d = d

-- a decision is of the ticket that was drawn
may_drawn : (c : Bool) (v : View) → MayDecide c v → (u : ℕ) × (v.phase ≡ P.Drawn u)
may_drawn true v may = may.0
may_drawn false v may = may

decide_above : (n : ℕ) (c : Bool) (t : ℕ) → n < t → HasDrawnAbove n (decided c t)
decide_above n true t d = d
decide_above n false t d = d

put_above : (n : ℕ) (h : Phase) (p i : ℕ) → HasDrawnAbove n h → HasDrawnAbove n (put_by h p i)
put_above n (P.Won t puts) p i d = d
put_above n _ p i d = d

left_above : (n : ℕ) (hs : List Held) (h : Phase) → HasDrawnAbove n h → HasDrawnAbove n (phase_left hs h)
left_above n [] h d = tt
left_above n (x ∷ hs) h d = d

pub keeps_above : (valid : Validity) (passes : ℕ) (e : Event) (v w : View) (n : ℕ) (x : ℤ) → Tells valid passes e v n x w → HasDrawnAbove v.at v.phase
    → HasDrawnAbove (after e v n x).at (after e v n x).phase
keeps_above valid passes Start v w n x t d = tt
keeps_above valid passes (Open p) v w n x t d = open_above v.at (is_free n && nat_le (ticket_of n) v.at) (fresh_read p n)
keeps_above valid passes (Word p i) v w n x t d = word_above v v.phase p i x d
keeps_above valid passes (Close p) v w n x t d = close_above (found v p n) v.phase n d
keeps_above valid passes Renew v w n x t d = subst (λ (h : Phase). HasDrawnAbove n h) (sym t.allowed) tt
keeps_above valid passes (Recheck p) v w n x t d = recheck_above (is_claimed_still v p n) (found v p n) p n d
keeps_above valid passes (Lock p) v w n x t d = lock_above (is_free n) (found v p n) p n d
keeps_above valid passes (Test p) v w n x t d = test_above v.at (is_free n) (fresh_read p n) v.phase d
keeps_above valid passes (Draw us seen loaded) v w n x t d = let a = t.learns.0.at in omega (arith, a)
keeps_above valid passes (Check p) v w n x t d = check_above (passes_check v p n) (found v p n) p n d
keeps_above valid passes (Decide c) v w n x t d =
    let is : (u : ℕ) × (v.phase ≡ P.Drawn u) = may_drawn c v t.allowed in
    decide_above v.at c (own_ticket v.phase) (subst (λ (u : ℕ). v.at < u) (sym (ap own_ticket is.1)) (subst (λ (h : Phase). HasDrawnAbove v.at h) is.1 d))
keeps_above valid passes (Put p i y) v w n x t d = put_above v.at v.phase p i d
keeps_above valid passes (Release p) v w n x t d = left_above v.at (without p v.held) v.phase d
keeps_above valid passes (Unlock p) v w n x t d = left_above v.at (without p v.held) v.phase d
