-- What a pass knows, it knows after every event.
use Rattle.std.specs.Prelude.{◌⊎◌, if◌then◌else◌, nat_lt, nat_eq, ◌&&◌, ◌*◌}
use Rattle.std.proofs.Common.{◌≡◌, ℕ, zero, suc, ◌+◌, ◌<◌, ◌≤◌, ℤ, List, [], ◌∷◌, ◌++◌, map, refl, sym, ap, ◌∙◌, subst, arith, Bool, true, false, inl, inr}
use mathlib.Core.Option.{some, some-injective, some-ne-none}
use lib.ListN.{get_elem?}
use Rattle.sto_core.specs.declared.view.Entry.{Entry}
use Rattle.sto_core.specs.declared.view.Claim.{Claim}
use Rattle.sto_core.specs.declared.view.Wrote.{Wrote}
use Rattle.sto_core.specs.declared.view.Finding.{Finding}
use Rattle.sto_core.specs.declared.view.Held.{Held}
use Rattle.sto_core.specs.declared.view.OpenRead.{OpenRead}
use Rattle.sto_core.specs.declared.view.Fate.{Fate}
use Rattle.sto_core.specs.declared.view.Fate.TheVariants.{Pending, Committed, Dropped}
use Rattle.sto_core.specs.declared.view.Phase.{Phase}
use Rattle.sto_core.specs.declared.view.Phase.TheVariants.{Looking, Testing}
use Rattle.sto_core.specs.declared.view.View.{View}
use Rattle.sto_core.specs.Lists.{Each, Among}
use Rattle.sto_core.specs.Versions.{ticket_of, is_free}
use Rattle.sto_core.specs.Views.{holds, own_ticket, drawn_entry}
use Rattle.sto_core.specs.Event.{Event, Start, Open, Word, Close, Lock, Test, Draw, Check, Decide, Put, Release, Unlock, Renew, Recheck, found, rechecked_by, is_claimed_still, is_own_or_free, passes_check, read_by, claimed, closed_by, locked_by, checked_by, settle, settle_entry, after}
use Rattle.sto_core.specs.Tells.{Covers}
use Rattle.sto_history.specs.Added.{Grows, IsKnown}
use Rattle.sto_history.proofs.Among.{among_first}

-- what grows and then grows has grown
pub grows_on : (u v w : View) → Grows u v → Grows v w → Grows u w
grows_on u v w g h = record {
  at = (let a = g.at in let b = h.at in omega (arith, a, b));
  entries = λ e k c. h.entries e (g.entries e k c) c;
  claims = λ c k. h.claims c (g.claims c k);
  wrote = λ c k. h.wrote c (g.wrote c k);
  findings = λ f k. h.findings f (g.findings f k);
}

found_one : View → ℕ → ℕ → List Finding
found_one v p n = record { start = v.starts; part = p; version = n; held = holds p v.held } ∷ []

wrote_kept : (v : View) (p n : ℕ) (c : Wrote) → Among c v.wrote → Among c (found v p n).wrote
wrote_kept v p n c h = by (is_own_or_free v p n && nat_lt 0 (ticket_of n))
  where
    by : (b : Bool) → Among c (if b then v.wrote ++ record { start = v.starts; ticket = ticket_of n; part = p } ∷ [] else v.wrote)
    by true = among_first v.wrote (record { start = v.starts; ticket = ticket_of n; part = p } ∷ []) c h
    by false = h

found_grows : (v : View) (p n : ℕ) → Grows v (found v p n)
unfolding found_one
found_grows v p n = record { at = omega arith; entries = λ e h c. h; claims = λ c h. h; wrote = λ c h. wrote_kept v p n c h; findings = λ f h. among_first v.findings (found_one v p n) f h }

-- a view with other fields than those of which `Grows` speaks
read_grows : (h : Phase) (v : View) (p i : ℕ) (x : ℤ) → Grows v (read_by h v p i x)
read_grows (Looking r) v p i x = record { at = omega arith; entries = λ e h c. h; claims = λ c h. h; wrote = λ c h. h; findings = λ f h. h }
read_grows (Testing r) v p i x = record { at = omega arith; entries = λ e h c. h; claims = λ c h. h; wrote = λ c h. h; findings = λ f h. h }
read_grows _ v p i x = record { at = omega arith; entries = λ e h c. h; claims = λ c h. h; wrote = λ c h. h; findings = λ f h. h }

claim_grows : (b : Bool) (v : View) (c : Claim) (h : Phase) → Grows v (record (if b then record v { claims = v.claims ++ c ∷ [] } else v) { phase = h })
claim_grows true v c h = record { at = omega arith; entries = λ e k d. k; claims = λ d k. among_first v.claims (c ∷ []) d k; wrote = λ d k. k; findings = λ f k. k }
claim_grows false v c h = record { at = omega arith; entries = λ e k d. k; claims = λ d k. k; wrote = λ d k. k; findings = λ f k. k }

close_grows : (h : Phase) (v : View) (n : ℕ) → Grows v (closed_by h v n)
close_grows (Looking r) v n = claim_grows (nat_eq n (2 * r.ticket)) v _ _
close_grows (Testing r) v n = claim_grows (nat_eq n (2 * r.ticket)) v _ _
close_grows _ v n = record { at = omega arith; entries = λ e h c. h; claims = λ c h. h; wrote = λ c h. h; findings = λ f h. h }

lock_grows : (b : Bool) (v : View) (p n : ℕ) → Grows v (locked_by b v p n)
lock_grows true v p n = record { at = omega arith; entries = λ e h c. h; claims = λ c h. h; wrote = λ c h. h; findings = λ f h. h }
lock_grows false v p n = record { at = omega arith; entries = λ e h c. h; claims = λ c h. h; wrote = λ c h. h; findings = λ f h. h }

recheck_grows : (b : Bool) (v : View) (p n : ℕ) → Grows v (rechecked_by b v p n)
recheck_grows true v p n = record { at = omega arith; entries = λ e h c. h; claims = λ c h. among_first v.claims _ c h; wrote = λ c h. h; findings = λ f h. h }
recheck_grows false v p n = record { at = omega arith; entries = λ e h c. h; claims = λ c h. h; wrote = λ c h. h; findings = λ f h. h }

check_grows : (b : Bool) (v : View) (p n : ℕ) → Grows v (checked_by b v p n)
check_grows true v p n = record { at = omega arith; entries = λ e h c. h; claims = λ c h. h; wrote = λ c h. h; findings = λ f h. h }
check_grows false v p n = record { at = omega arith; entries = λ e h c. h; claims = λ c h. h; wrote = λ c h. h; findings = λ f h. h }

-- a decision leaves what is committed
settled_same : (b : Bool) (e : Entry) → e.fate ≡ Committed → settle_entry b e ≡ e
settled_same b e is = ap (λ (f : Fate). with_fate e (settle b f)) is ∙ same b ∙ ap (with_fate e) (sym is)
  where
    with_fate : Entry → Fate → Entry
    with_fate x f = record x { fate = f }

    same : (c : Bool) → with_fate e (settle c Committed) ≡ with_fate e Committed
    same true = refl
    same false = refl

settled_among : (b : Bool) (es : List Entry) (e : Entry) → Among e es → e.fate ≡ Committed → Among e (map (settle_entry b) es)
settled_among b [] e h c = absurd (some-ne-none e (sym h.1))
settled_among b (x ∷ es) e (zero, h) c =
    let is : x ≡ e = some-injective x e h in
    (0, ap (λ (y : Entry). some (settle_entry b y)) is ∙ ap some (settled_same b e c))
settled_among b (x ∷ es) e (suc j, h) c = let k = settled_among b es e (j, h) c in (suc k.0, k.1)

-- What a pass knows, it knows after every event, where a start finds a clock that is not below its own.
pub event_grows : (e : Event) (v : View) (n : ℕ) (x : ℤ) → (e ≡ Start → v.at ≤ n) → (e ≡ Renew → v.at ≤ n) → Grows v (after e v n x)
event_grows Start v n x h late = record { at = h refl; entries = λ e k c. k; claims = λ c k. k; wrote = λ c k. k; findings = λ f k. k }
event_grows (Open p) v n x h late = grows_on v (found v p n) (after (Open p) v n x) (found_grows v p n) (record { at = omega arith; entries = λ e h c. h; claims = λ c h. h; wrote = λ c h. h; findings = λ f h. h })
event_grows (Word p i) v n x h late = read_grows v.phase v p i x
event_grows (Close p) v n x h late = grows_on v (found v p n) (after (Close p) v n x) (found_grows v p n) (close_grows v.phase (found v p n) n)
event_grows Renew v n x h late = record { at = late refl; entries = λ e k c. k; claims = λ c k. k; wrote = λ c k. k; findings = λ f k. k }
event_grows (Recheck p) v n x h late = grows_on v (found v p n) (after (Recheck p) v n x) (found_grows v p n) (recheck_grows (is_claimed_still v p n) (found v p n) p n)
event_grows (Lock p) v n x h late = grows_on v (found v p n) (after (Lock p) v n x) (found_grows v p n) (lock_grows (is_free n) (found v p n) p n)
event_grows (Test p) v n x h late = grows_on v (found v p n) (after (Test p) v n x) (found_grows v p n) (record { at = omega arith; entries = λ e h c. h; claims = λ c h. h; wrote = λ c h. h; findings = λ f h. h })
event_grows (Draw us seen loaded) v n x h late = record {
  at = omega arith;
  entries = λ e k c. among_first v.entries (drawn_entry v (suc n) us seen loaded ∷ []) e k;
  claims = λ c k. k;
  wrote = λ c k. k;
  findings = λ f k. k;
}
event_grows (Check p) v n x h late = grows_on v (found v p n) (after (Check p) v n x) (found_grows v p n) (check_grows (passes_check v p n) (found v p n) p n)
event_grows (Decide commit) v n x h late = record {
  at = omega arith;
  entries = λ e k c. settled_among commit v.entries e k c;
  claims = λ c k. k;
  wrote = λ c k. k;
  findings = λ f k. k;
}
event_grows (Put p i y) v n x h late = record { at = omega arith; entries = λ e h c. h; claims = λ c h. h; wrote = λ c h. h; findings = λ f h. h }
event_grows (Release p) v n x h late = record { at = omega arith; entries = λ e h c. h; claims = λ c h. h; wrote = λ c h. h; findings = λ f h. h }
event_grows (Unlock p) v n x h late = record { at = omega arith; entries = λ e h c. h; claims = λ c h. h; wrote = λ c h. h; findings = λ f h. h }

-- A clock that covers a view is not below any number that the view knows.
pub covers_known : (v : View) (n k : ℕ) → Covers v n → IsKnown v k → k ≤ n
covers_known v n k c (inl h) = (let a = c.at in omega (arith, a, h))
covers_known v n k c (inr (inl h)) = (let a = c.entries h.there.0 h.entry h.there.1 in let b = h.ticket in omega (arith, a, b))
covers_known v n k c (inr (inr h)) = (let a = c.wrote h.there.0 h.claim h.there.1 in let b = h.ticket in omega (arith, a, b))
