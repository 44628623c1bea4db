-- A commit that gives up.
use Rattle.std.proofs.Common.{◌≡◌, ◌+◌, ◌≢◌, Bool, ◌≤◌, ◌<◌, ℕ, zero, suc, ℤ, true, false, Some, List, [], ◌∷◌, length, take, drop, map, refl, ap, sym, ◌∙◌, subst, arith, inl, inr, slice_get}
use Rattle.std.proofs.lemmas.Option.{slice_get-get_or}
use mathlib.Core.Option.{some, some-ne-none, some-injective}
use lib.ListN.{get_elem?}
use Rattle.sto_item.specs.Pending.{Entry as Update}
use Rattle.sto_core.specs.declared.view.Claim.{Claim}
use Rattle.sto_core.specs.declared.view.Entry.{Entry}
use Rattle.sto_core.specs.declared.view.Fate.{Fate}
use Rattle.sto_core.specs.declared.view.Fate.TheVariants.{Pending, Committed, Dropped}
use Rattle.sto_core.specs.declared.view.Held.{Held}
use Rattle.sto_core.specs.declared.view.Wrote.{Wrote as WroteOf}
use Rattle.sto_core.specs.declared.view.Finding.{Finding}
use Rattle.sto_core.specs.declared.view.Phase.{Phase}
use Rattle.sto_core.specs.declared.view.Phase.TheVariants as P
use Rattle.sto_core.specs.declared.view.View.{View}
use Rattle.sto_core.specs.Lists.{Each, Among}
use Rattle.sto_core.specs.Views.{own_ticket}
use Rattle.sto_core.specs.Event.{Unlock, Decide, let_go, phase_left, decided, settle, settle_entry}
use Rattle.sto_core.specs.Allowed.{Allowed, IsIdle, HasPart, HoldsPart, MayUnlock}
use Rattle.sto_core.specs.Tells.{Tells, ClaimsFit}
use Rattle.sto_type.specs.Meaning.{IsLawful, is_empty}
use Rattle.sto_attempt_log.specs.declared.verdict.Verdict.{Verdict}
use Rattle.sto_attempt_log.specs.declared.verdict.Verdict.TheVariants.{Wrote, Read, Cancelled, Locked, Changed}
use Rattle.sto_type.specs.Touching.{HasTouched}
use Rattle.sto_attempt_log.specs.Answers.{IsPrefix, WasLocked, WasChanged}
use Rattle.sto_attempt_log.specs.Standing.{IsLeft}
use Rattle.sto_attempt_log.specs.Committing.{written, IsSealed}
use Rattle.sto_attempt_log.specs.CommitPhases.{Deal, FailsWith, EndsWith, IsLeaving, IsDropping}
use Rattle.sto_attempt_log.proofs.Claimed.{claimed_still}
use Rattle.sto_attempt_log.proofs.Reading.{own_still, has_part}
use Rattle.sto_attempt_log.proofs.Holding.{parts_held, all_get, rest_from, drop_past, without_first, holds_first, none_left, phase_stays}

abbrev pub Sealed : Deal → View → Type 0
Sealed d v = IsSealed d.m d.valid d.sizes d.f d.at d.base d.items d.us d.rs v

-- what an event leaves that makes no claim
module _ (d : Deal) (v w : View) (starts : w.starts ≡ v.starts) (claims : w.claims ≡ v.claims) where
  there_before : (j : ℕ) (c : Claim) → get_elem? w.claims j ≡ some c → get_elem? v.claims j ≡ some c
  there_before j c e = subst (λ (l : List Claim). get_elem? l j ≡ some c) claims e

  pub sealed_still : w.sizes ≡ v.sizes → w.opening ≡ v.opening → w.at ≡ v.at → ClaimsFit d.valid w → Sealed d v → Sealed d w
  sealed_still sizes opening at fit h = record {
    own = own_still d.m d.sizes v w sizes opening h.own;
    number = at ∙ h.number;
    claimed = claimed_still v w d.at d.base starts (λ c x. subst (λ (l : List Claim). Among c l) (sym claims) x) h.claimed;
    only = λ j c e start number. h.only j c (there_before j c e) (start ∙ starts) number;
    fit = fit;
    log = h.log;
    ends = h.ends;
    some = h.some;
  }

  pub prefix_still : IsPrefix d.m d.f v d.at d.rs → IsPrefix d.m d.f w d.at d.rs
  prefix_still h c valid has = h c valid (λ j x e start number. has j x (subst (λ (l : List Claim). get_elem? l j ≡ some x) (sym claims) e) (start ∙ sym starts) number)

  module _ (findings : (x : Finding) → Among x v.findings → Among x w.findings) (wrote : (x : WroteOf) → Among x v.wrote → Among x w.wrote) where
    pub locked_still : (p : ℕ) → WasLocked d.m d.f v d.at p d.rs → WasLocked d.m d.f w d.at p d.rs
    locked_still p h =
        let it : Finding = record { start = w.starts; part = p; version = h.found.version; held = false } in
        let same : Among it v.findings = subst (λ (k : ℕ). Among (record { start = k; part = p; version = h.found.version; held = false }) v.findings) (sym starts) h.found.among in
        record { runs = prefix_still h.runs; touched = h.touched; unsettled = h.unsettled; found = record { version = h.found.version; among = findings it same; locked = h.found.locked } }

    pub changed_still : (p t : ℕ) → WasChanged d.m d.f v d.at p t d.rs → WasChanged d.m d.f w d.at p t d.rs
    changed_still p t h =
        let it : WroteOf = record { start = w.starts; ticket = t; part = p } in
        let same : Among it v.wrote = subst (λ (k : ℕ). Among (record { start = k; ticket = t; part = p }) v.wrote) (sym starts) h.wrote in
        record {
          runs = prefix_still h.runs;
          touched = h.touched;
          unsettled = h.unsettled;
          found = record { finding = h.found.finding; among = findings h.found.finding h.found.among; start = h.found.start ∙ sym starts; on = h.found.on; is = h.found.is; own = h.found.own };
          later = h.later;
          wrote = wrote it same;
        }

    pub fails_still : (verdict : Verdict) → FailsWith d v verdict → FailsWith d w verdict
    fails_still (Wrote t) h = h
    fails_still (Read n) h = h
    fails_still (Cancelled n) h = h
    fails_still (Locked n p) h = (h.0, locked_still p h.1)
    fails_still (Changed n p t) h = (h.0, changed_still p t h.1)

pub ends_of : (d : Deal) (v : View) (verdict : Verdict) → FailsWith d v verdict → EndsWith d v verdict
ends_of d v (Wrote t) h = absurd h
ends_of d v (Read n) h = h
ends_of d v (Cancelled n) h = h
ends_of d v (Locked n p) h = h
ends_of d v (Changed n p t) h = h

pub take_short : (n : ℕ) (l : List ℕ) → length (take n l) ≤ n
take_short zero [] = omega arith
take_short zero (y ∷ l) = omega arith
take_short (suc n) [] = omega arith
take_short (suc n) (y ∷ l) = omega (arith, take_short n l)

-- an unlock
module _ (d : Deal) (law : IsLawful d.m) (k n : ℕ) (verdict : Verdict) (v : View) (h : IsLeaving d k n verdict v) (u : Update) (get : slice_get d.us k ≡ Some u) where
  first : parts_held v.held ≡ u.0 ∷ drop (suc k) (take n (written d.us))
  first = h.holding.held ∙ (rest_from 0 d.us k n u h.planned.ordered.0 get h.below.0).0

  touched : HasTouched d.m d.f d.rs u.0
  touched = all_get (λ (e : Update). HasTouched d.m d.f d.rs e.0) d.us k u get h.sealed.log.touched_updates

  pub may_unlock : Allowed d.valid (Unlock u.0) v
  may_unlock =
      let both : HasPart v u.0 × HoldsPart v u.0 = (has_part d.m law d.valid d.sizes d.f d.at u.0 d.rs v h.sealed.own touched, holds_first u.0 v.held (drop (suc k) (take n (written d.us))) first) in
      elim h.phase [
        | inl e ↦ subst (MayUnlock u.0 v) (sym e) both
        | inr e ↦ subst (MayUnlock u.0 v) (sym e.1) both
      ]

  module _ (w : View) (passes found : ℕ) (x : ℤ) (t : Tells d.valid passes (Unlock u.0) v found x w) where
    abbrev gone : View
    gone = let_go v u.0

    left : parts_held gone.held ≡ drop (suc k) (take n (written d.us))
    left = without_first u.0 v.held (drop (suc k) (take n (written d.us))) first (rest_from 0 d.us k n u h.planned.ordered.0 get h.below.0).1

    sealed : Sealed d gone
    sealed = sealed_still d v gone refl refl refl refl refl (subst (ClaimsFit d.valid) t.after t.fit) h.sealed

    fails : FailsWith d gone verdict
    fails = fails_still d v gone refl refl (λ c a. a) (λ c a. a) verdict h.ends

    pub leave_more : (next : ℕ) → next ≡ suc k → suc k < n → IsLeaving d next n verdict w
    leave_more next is l =
        let there = slice_get-get_or d.us (suc k) u (omega (arith, l, h.below.1)) in
        let after_it = rest_from 0 d.us (suc k) n _ h.planned.ordered.0 there l in
        let same : gone.phase ≡ v.phase = phase_stays gone.held _ (drop (suc (suc k)) (take n (written d.us))) v.phase (left ∙ after_it.0) in
        let it : IsLeaving d (suc k) n verdict gone = record {
          below = (l, h.below.1);
          sealed = sealed;
          phase = elim h.phase [
            | inl e ↦ inl (same ∙ e)
            | inr e ↦ inr (e.0, same ∙ e.1)
          ];
          holding = record { held = left };
          planned = h.planned;
          decided = h.decided;
          ends = fails;
        } in
        subst (λ (k : ℕ). IsLeaving d k n verdict w) (sym is) (subst (λ (y : View). IsLeaving d (suc k) n verdict y) (sym t.after) it)

    pub leave_last : n ≤ suc k → IsLeft w × (d.at ≤ w.at) × EndsWith d w verdict
    leave_last l =
        let short : length (take n (written d.us)) ≤ suc k = omega (arith, l, take_short n (written d.us)) in
        let none : gone.held ≡ [] = none_left gone.held (left ∙ drop_past (suc k) (take n (written d.us)) short) in
        let idle : IsIdle gone.phase = subst (λ (hs : List Held). IsIdle (phase_of hs)) (sym none) tt in
        let it : IsLeft gone × (d.at ≤ gone.at) × EndsWith d gone verdict = (record { idle = idle; unheld = none; decided = h.decided }, omega (arith, h.sealed.number), ends_of d gone verdict fails) in
        subst (λ (y : View). IsLeft y × (d.at ≤ y.at) × EndsWith d y verdict) (sym t.after) it
      where
        phase_of : List Held → Phase
        phase_of hs = phase_left hs v.phase

-- there is an update
pub some_update : (d : Deal) → is_empty d.us ≡ false → 0 < length d.us
some_update d e = by d.us e
  where
    by : (us : List Update) → is_empty us ≡ false → 0 < length us
    by [] e = cc
    by (x ∷ us) e = omega arith

-- after a decision no entry is pending
pub all_settled : (b : Bool) (es : List Entry) → Each (λ (e : Entry). e.fate ≢ Pending) (map (settle_entry b) es)
all_settled b [] j x e = absurd (some-ne-none x (sym e))
all_settled b (y ∷ es) zero x e = subst (λ (z : Entry). z.fate ≢ Pending) (some-injective (settle_entry b y) x e) (never b y.fate)
  where
    never : (b : Bool) (fate : Fate) → settle b fate ≢ Pending
    never true Pending h = cc
    never false Pending h = cc
    never b Committed h = cc
    never b Dropped h = cc
all_settled b (y ∷ es) (suc j) x e = all_settled b es j x e

-- the entry is dropped
module _ (d : Deal) (ticket : ℕ) (verdict : Verdict) (v : View) (h : IsDropping d ticket verdict v) where
  pub may_drop : Allowed d.valid (Decide false) v
  may_drop = (ticket, h.phase)

  module _ (w : View) (passes found : ℕ) (x : ℤ) (t : Tells d.valid passes (Decide false) v found x w) where
    abbrev lost : View
    lost = record v { steps = v.steps + 1; phase = P.Lost ticket; entries = map (settle_entry false) v.entries }

    is_lost : w ≡ lost
    is_lost = t.after ∙ ap (λ (y : Phase). record v { steps = v.steps + 1; phase = decided false (own_ticket y); entries = map (settle_entry false) v.entries }) h.phase

    pub drop_goes : IsLeaving d 0 (length d.us) verdict w
    drop_goes =
        let it : IsLeaving d 0 (length d.us) verdict lost = record {
          below = (some_update d h.sealed.some, omega arith);
          sealed = sealed_still d v lost refl refl refl refl refl (subst (ClaimsFit d.valid) is_lost t.fit) h.sealed;
          phase = inr (ticket, refl);
          holding = record { held = h.holding.held };
          planned = h.planned;
          decided = all_settled false v.entries;
          ends = fails_still d v lost refl refl (λ c a. a) (λ c a. a) verdict h.ends;
        } in
        subst (λ (y : View). IsLeaving d 0 (length d.us) verdict y) (sym is_lost) it
