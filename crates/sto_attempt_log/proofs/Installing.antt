-- The decision for the commit, and what follows it.
use Rattle.std.proofs.Common.{◌≡◌, ◌+◌, ◌≤◌, ◌<◌, ℕ, zero, suc, ℤ, true, false, Bool, nat_eq, ◌&&◌, ◌||◌, Some, List, [], ◌∷◌, ◌++◌, length, take, drop, map, refl, ap, sym, ◌∙◌, subst, arith, inl, inr, eq-eqb, eqb-true, slice_get, slice_index_or}
use Rattle.std.proofs.lemmas.Bool.{cases_Bool}
use Rattle.std.proofs.lemmas.Option.{slice_get-get_or, slice_get_within}
use Rattle.std.proofs.Math.Seq.{take-length}
use Rattle.sto_type.proofs.Answering.{take_get}
use mathlib.Core.Option.{some, some-ne-none, some-injective}
use lib.ListN.{get_elem?}
use Rattle.sto_part.specs.Listed.{Listed}
use Rattle.sto_part.specs.declared.change.Change.{Change}
use Rattle.sto_item.specs.Pending.{Entry as Update, change_at, is_keep}
use Rattle.sto_core.specs.declared.view.Entry.{Entry}
use Rattle.sto_core.specs.declared.view.Held.{Held}
use Rattle.sto_core.specs.declared.view.Phase.{Phase}
use Rattle.sto_core.specs.declared.view.Phase.TheVariants as P
use Rattle.sto_core.specs.declared.view.Fate.TheVariants.{Pending, Committed}
use Rattle.sto_core.specs.declared.view.View.{View}
use Rattle.sto_core.specs.Lists.{Each, Among}
use Rattle.sto_core.specs.History.{writes}
use Rattle.sto_core.specs.Reads.{Reads, value_read}
use Rattle.sto_core.specs.Puts.{IsPutOf}
use Rattle.sto_core.specs.Views.{holds, hold_of, width_in, was_put, own_ticket, entry_of, own_entry, without}
use Rattle.sto_core.specs.Event.{Decide, Put as PutAt, Release, decided, settle, settle_entry, put_by, let_go, phase_left}
use Rattle.sto_core.specs.Allowed.{Allowed, IsIdle, HasPart, HasWord, MayPut, MayRelease, AllPut}
use Rattle.sto_core.specs.Tells.{Tells, ClaimsFit}
use Rattle.sto_core.proofs.Lists.{each_nothing, each_snoc}
use Rattle.sto_type.specs.Known.{Parts}
use Rattle.sto_type.specs.Meaning.{IsLawful}
use Rattle.sto_attempt_log.specs.declared.commit_phase.FoundTicket.{FoundTicket}
use Rattle.sto_attempt_log.specs.declared.commit_phase.LoadedWord.{LoadedWord}
use Rattle.sto_attempt_log.specs.declared.verdict.Verdict.TheVariants.{Wrote}
use Rattle.sto_attempt_log.specs.Every.{AllOf}
use Rattle.sto_type.specs.Touching.{HasTouched}
use Rattle.sto_attempt_log.specs.Answers.{HasWritten}
use Rattle.sto_attempt_log.specs.ReadSet.{words_in}
use Rattle.sto_attempt_log.specs.Looking.{LooksAt}
use Rattle.sto_attempt_log.specs.Standing.{IsLeft}
use Rattle.sto_attempt_log.specs.Committing.{written}
use Rattle.sto_attempt_log.specs.CommitPhases.{Deal, reads_of, IsPlace, EndsWith, IsCheckingAt, IsInstallingAt}
use Rattle.sto_part.specs.Changes.{applied}
use Rattle.sto_attempt_log.proofs.Values.{put_value}
use Rattle.sto_attempt_log.proofs.Looking.{has_written_of}
use Rattle.sto_attempt_log.proofs.Prefix.{some_contents}
use Rattle.sto_attempt_log.proofs.Moving.{width_of}
use Rattle.sto_attempt_log.proofs.Reading.{has_part}
use Rattle.sto_attempt_log.proofs.Ticketing.{held_written}
use Rattle.sto_attempt_log.proofs.Holding.{parts_held, all_get, rest_from, drop_past, without_first, holds_first, none_left, phase_stays}
use Rattle.sto_attempt_log.proofs.Leaving.{Sealed, sealed_still, take_short, all_settled}
use Rattle.sto_attempt_log.proofs.Loading.{hold_has, each_cons}

-- the entry of a ticket, after a decision
pub settled_entry : (t : ℕ) (es : List Entry) (j : ℕ) (x : Entry) → get_elem? es j ≡ some x → x.ticket ≡ t → entry_of t (map (settle_entry true) es) ≡ settle_entry true (entry_of t es)
settled_entry t [] j x e same = absurd (some-ne-none x (sym e))
settled_entry t (y ∷ es) zero x e same =
    let hit : nat_eq t y.ticket ≡ true = eq-eqb t y.ticket (sym same ∙ ap (λ (z : Entry). z.ticket) (sym (some-injective y x e))) in
    rw hit refl
settled_entry t (y ∷ es) (suc j) x e same = elim (cases_Bool (nat_eq t y.ticket)) [
  | inl hit ↦ rw hit refl
  | inr miss ↦ rw miss (settled_entry t es j x e same)
]

among_settled : (es : List Entry) (x : Entry) → Among x es → Among (settle_entry true x) (map (settle_entry true) es)
among_settled es x a = (a.0, at es a.0 a.1)
  where
    at : (es : List Entry) (j : ℕ) → get_elem? es j ≡ some x → get_elem? (map (settle_entry true) es) j ≡ some (settle_entry true x)
    at [] j e = absurd (some-ne-none x (sym e))
    at (y ∷ es) zero e = ap (λ z. some (settle_entry true z)) (some-injective y x e)
    at (y ∷ es) (suc j) e = at es j e

module _ (d : Deal) (ticket : ℕ) (found_tickets : Listed FoundTicket) (loaded_words : List LoadedWord) (v : View) (n : ℕ) (h : IsCheckingAt d n ticket found_tickets loaded_words v)
    (w : View) (passes found : ℕ) (x : ℤ) (t : Tells d.valid passes (Decide true) v found x w) where
  abbrev won : View
  won = record v { steps = v.steps + 1; phase = P.Won ticket []; entries = map (settle_entry true) v.entries }

  is_won : w ≡ won
  is_won = t.after ∙ ap (λ (y : Phase). record v { steps = v.steps + 1; phase = decided true (own_ticket y); entries = map (settle_entry true) v.entries }) h.phase

  ticket_is : own_ticket v.phase ≡ ticket
  ticket_is = ap own_ticket h.phase

  own : own_entry won ≡ settle_entry true (own_entry v)
  own = settled_entry ticket v.entries h.entry.0 (own_entry v) h.entry.1 h.drawn ∙ ap (λ (k : ℕ). settle_entry true (entry_of k v.entries)) (sym ticket_is)

  committed : (e : Entry) → e.fate ≡ Pending → (settle_entry true e).fate ≡ Committed
  committed e is = ap (settle true) is

  pub decide_goes : IsInstallingAt d 0 0 ticket [] loaded_words w
  decide_goes =
      let it : IsInstallingAt d 0 0 ticket [] loaded_words won = record {
        sealed = sealed_still d v won refl refl refl refl refl (subst (ClaimsFit d.valid) is_won t.fit) h.sealed;
        planned = h.planned;
        phase = refl;
        holding = record { held = h.holding.held };
        reads = h.found.reads;
        adds = h.adds;
        entry = subst (λ (y : Entry). Among y won.entries) (sym own) (among_settled v.entries (own_entry v) h.entry);
        drawn = ap (λ (y : Entry). y.ticket) own ∙ h.drawn;
        fate = ap (λ (y : Entry). y.fate) own ∙ committed (own_entry v) h.fate;
        updates = ap (λ (y : Entry). y.updates) own ∙ h.updates;
        decided = all_settled true v.entries;
        looks = subst (λ (y : Entry). AllOf (LooksAt (words_in d.base) y.looked) d.items) (sym own) h.looks;
        done = each_nothing (λ (x : ℕ × ℕ). was_put [] x.0 x.1 ≡ true);
      } in
      subst (λ (y : View). IsInstallingAt d 0 0 ticket [] loaded_words y) (sym is_won) it

put_front : (puts : List (ℕ × ℕ)) (y : ℕ × ℕ) (p i : ℕ) → was_put puts p i ≡ true → was_put (puts ++ y ∷ []) p i ≡ true
put_front [] y p i e = cc
put_front (z ∷ puts) y p i e = elim (cases_Bool (nat_eq z.0 p && nat_eq z.1 i)) [
  | inl hit ↦ rw hit refl
  | inr miss ↦ rw miss (put_front puts y p i (rw miss at e))
]

or_true : (a : Bool) → (a || true) ≡ true
or_true true = refl
or_true false = refl

put_last : (puts : List (ℕ × ℕ)) (p i : ℕ) → was_put (puts ++ (p, i) ∷ []) p i ≡ true
put_last [] p i = rw (eq-eqb p p refl, eq-eqb i i refl) refl
put_last (z ∷ puts) p i = ap (λ (b : Bool). (nat_eq z.0 p && nat_eq z.1 i) || b) (put_last puts p i) ∙ or_true (nat_eq z.0 p && nat_eq z.1 i)

module _ (d : Deal) (law : IsLawful d.m) (n k ticket : ℕ) (puts : List (ℕ × ℕ)) (loaded_words : List LoadedWord) (v : View) (h : IsInstallingAt d n k ticket puts loaded_words v) where
  wide : (p : ℕ) → width_in v p ≡ slice_index_or d.m.widths p 0
  wide p = sym (width_of v.opening p) ∙ ap (λ (l : List ℕ). slice_index_or l p 0) (law.widths v.opening h.sealed.own.opening)

  reads_are : (p : ℕ) → holds p v.held ≡ true → (hold_of p v.held).reads ≡ reads_of loaded_words p
  reads_are p e =
      let r = hold_has (λ (y : Held). y.reads ≡ reads_of loaded_words y.part) p v.held h.reads e in
      r.0 ∙ ap (reads_of loaded_words) r.1

  own_same : (w : View) → own_ticket w.phase ≡ ticket → w.entries ≡ v.entries → own_entry w ≡ own_entry v
  own_same w e es =
      let was : own_ticket v.phase ≡ ticket = ap own_ticket h.phase in
      ap (λ (l : List Entry). entry_of (own_ticket w.phase) l) es ∙ ap (λ (j : ℕ). entry_of j v.entries) (e ∙ sym was)

  in_range : (p : ℕ) (us : List Update) → writes us p ≡ true → AllOf (λ (e : Update). HasTouched d.m d.f d.rs e.0) us → HasTouched d.m d.f d.rs p
  in_range p [] e a = cc
  in_range p (u ∷ us) e a = elim (cases_Bool (nat_eq u.0 p)) [
    | inl hit ↦ subst (HasTouched d.m d.f d.rs) (eqb-true u.0 p hit) a.0
    | inr miss ↦ in_range p us (rw miss at e) a.1
  ]

  place_at : (y : ℕ × ℕ) → slice_get d.places n ≡ Some y → IsPlace d.m.widths d.us y
  place_at y get = at d.places n get h.planned.of_places
    where
      at : (l : List (ℕ × ℕ)) (j : ℕ) → slice_get l j ≡ Some y → Each (IsPlace d.m.widths d.us) l → IsPlace d.m.widths d.us y
      at [] j e all = cc
      at (z ∷ l) zero e all = let same : z ≡ y = cc in subst (IsPlace d.m.widths d.us) same (all 0 z refl)
      at (z ∷ l) (suc j) e all = at l j e (λ i x s. all (suc i) x s)

  -- the value that is put
  pub put_is : (y : ℕ × ℕ) → slice_get d.places n ≡ Some y → (set : List Update) → set ≡ d.us → (change : Change) → change ≡ change_at set y.0 y.1
      → (old : ℤ) → old ≡ value_read (reads_of loaded_words y.0) y.1 → (value : ℤ) → value ≡ applied change old → IsPutOf (change_at d.us y.0 y.1) (reads_of loaded_words y.0) y.1 value
  put_is y get set copy change is old was value sum =
      let place : IsPlace d.m.widths d.us y = place_at y get in
      let now : change ≡ change_at d.us y.0 y.1 = is ∙ ap (λ (l : List Update). change_at l y.0 y.1) copy in
      let made : value ≡ applied (change_at d.us y.0 y.1) (value_read (reads_of loaded_words y.0) y.1) = sum ∙ ap (λ (c : Change). applied c old) now ∙ ap (applied (change_at d.us y.0 y.1)) was in
      put_value (change_at d.us y.0 y.1) (reads_of loaded_words y.0) y.1 value made place.changes (λ x e. h.adds y.0 y.1 x e (omega (arith, place.within, wide y.0)))

  -- a word is put
  module _ (none : k ≡ 0) (y : ℕ × ℕ) (get : slice_get d.places n ≡ Some y) (value : ℤ) (is_value : IsPutOf (change_at d.us y.0 y.1) (reads_of loaded_words y.0) y.1 value) where
    place : IsPlace d.m.widths d.us y
    place = place_at y get

    holds_it : holds y.0 v.held ≡ true
    holds_it =
        let held : parts_held v.held ≡ take (length d.us) (written d.us) = subst (λ (j : ℕ). parts_held v.held ≡ drop j (take (length d.us) (written d.us))) none h.holding.held in
        sym (held_written d.us v y.0 (record { held = held })) ∙ place.written

    pub may_put : Allowed d.valid (PutAt y.0 y.1 value) v
    may_put =
        let touched : HasTouched d.m d.f d.rs y.0 = in_range y.0 d.us place.written h.sealed.log.touched_updates in
        let range : HasPart v y.0 = has_part d.m law d.valid d.sizes d.f d.at y.0 d.rs v h.sealed.own touched in
        let word : HasWord v y.0 y.1 = (range, omega (arith, place.within, wide y.0)) in
        let put : IsPutOf (change_at (own_entry v).updates y.0 y.1) (hold_of y.0 v.held).reads y.1 value =
        subst (λ (l : List Update). IsPutOf (change_at l y.0 y.1) (hold_of y.0 v.held).reads y.1 value) (sym h.updates)
        (subst (λ (r : Reads). IsPutOf (change_at d.us y.0 y.1) r y.1 value) (sym (reads_are y.0 holds_it)) is_value) in
        subst (MayPut y.0 y.1 value v) (sym h.phase) (holds_it, word, put)

    module _ (w : View) (passes found : ℕ) (x : ℤ) (t : Tells d.valid passes (PutAt y.0 y.1 value) v found x w) where
      abbrev more : List (ℕ × ℕ)
      more = puts ++ (y.0, y.1) ∷ []

      abbrev put : View
      put = record v { steps = v.steps + 1; phase = P.Won ticket more }

      is_put : w ≡ put
      is_put = t.after ∙ ap (λ (z : Phase). record v { steps = v.steps + 1; phase = put_by z y.0 y.1 }) h.phase

      own_put : own_entry put ≡ own_entry v
      own_put = own_same put refl refl

      done_more : Each (λ (x : ℕ × ℕ). was_put more x.0 x.1 ≡ true) (take (suc n) d.places)
      done_more =
          let Q : ℕ × ℕ → Type 0 = λ x. was_put more x.0 x.1 ≡ true in
          subst (λ (l : List (ℕ × ℕ)). Each Q l) (sym (take_get d.places n y get))
          (each_snoc Q (take n d.places) y (λ j x e. put_front puts (y.0, y.1) x.0 x.1 (h.done j x e)) (put_last puts y.0 y.1))

      pub put_goes : (next : ℕ) → next ≡ suc n → IsInstallingAt d next k ticket more loaded_words w
      put_goes next is =
          let it : IsInstallingAt d (suc n) k ticket more loaded_words put = record {
            sealed = sealed_still d v put refl refl refl refl refl (subst (ClaimsFit d.valid) is_put t.fit) h.sealed;
            planned = h.planned;
            phase = refl;
            holding = record { held = h.holding.held };
            reads = h.reads;
            adds = h.adds;
            entry = subst (λ (z : Entry). Among z v.entries) (sym own_put) h.entry;
            drawn = ap (λ (z : Entry). z.ticket) own_put ∙ h.drawn;
            fate = ap (λ (z : Entry). z.fate) own_put ∙ h.fate;
            updates = ap (λ (z : Entry). z.updates) own_put ∙ h.updates;
            decided = h.decided;
            looks = subst (λ (z : Entry). AllOf (LooksAt (words_in d.base) z.looked) d.items) (sym own_put) h.looks;
            done = done_more;
          } in
          subst (λ (j : ℕ). IsInstallingAt d j k ticket more loaded_words w) (sym is) (subst (λ (z : View). IsInstallingAt d (suc n) k ticket more loaded_words z) (sym is_put) it)

  -- a part is released
  module _ (u : Update) (get : slice_get d.us k ≡ Some u) (all : n ≡ length d.places) where
    short : k < length d.us
    short = slice_get_within d.us k u get

    rest : (drop k (take (length d.us) (written d.us)) ≡ u.0 ∷ drop (suc k) (take (length d.us) (written d.us))) × AllOf (λ (q : ℕ). u.0 < q) (drop (suc k) (take (length d.us) (written d.us)))
    rest = rest_from 0 d.us k (length d.us) u h.planned.ordered.0 get short

    first : parts_held v.held ≡ u.0 ∷ drop (suc k) (take (length d.us) (written d.us))
    first = h.holding.held ∙ rest.0

    is_written : writes d.us u.0 ≡ true
    is_written = at d.us k get
      where
        at : (us : List Update) (j : ℕ) → slice_get us j ≡ Some u → writes us u.0 ≡ true
        at [] j e = cc
        at (z ∷ us) zero e = let same : z.0 ≡ u.0 = cc in rw (eq-eqb z.0 u.0 same) refl
        at (z ∷ us) (suc j) e = ap (λ (b : Bool). nat_eq z.0 u.0 || b) (at us j e) ∙ or_true (nat_eq z.0 u.0)

    all_put : AllPut u.0 v puts
    all_put = λ i l keep.
        let place : IsPlace d.m.widths d.us (u.0, i) = record {
          written = is_written;
          changes = subst (λ (us : List Update). is_keep (change_at us u.0 i) ≡ false) h.updates keep;
          within = omega (arith, l, wide u.0);
        } in
        let there = h.planned.all_places (u.0, i) place in
        let whole : take n d.places ≡ d.places = ap (λ (j : ℕ). take j d.places) all ∙ take-length d.places in
        subst (λ (l : List (ℕ × ℕ)). Each (λ (x : ℕ × ℕ). was_put puts x.0 x.1 ≡ true) l) whole h.done there.0 (u.0, i) there.1

    pub may_release : Allowed d.valid (Release u.0) v
    may_release =
        let touched : HasTouched d.m d.f d.rs u.0 = all_get (λ (e : Update). HasTouched d.m d.f d.rs e.0) d.us k u get h.sealed.log.touched_updates in
        let range : HasPart v u.0 = has_part d.m law d.valid d.sizes d.f d.at u.0 d.rs v h.sealed.own touched in
        subst (MayRelease u.0 v) (sym h.phase) (range, holds_first u.0 v.held (drop (suc k) (take (length d.us) (written d.us))) first, all_put)

    module _ (w : View) (passes found : ℕ) (x : ℤ) (t : Tells d.valid passes (Release u.0) v found x w) where
      abbrev gone : View
      gone = let_go v u.0

      left : parts_held gone.held ≡ drop (suc k) (take (length d.us) (written d.us))
      left = without_first u.0 v.held (drop (suc k) (take (length d.us) (written d.us))) first rest.1

      sealed : Sealed d gone
      sealed = sealed_still d v gone refl refl refl refl refl (subst (ClaimsFit d.valid) t.after t.fit) h.sealed

      each_without : (P : Held → Type 0) (hs : List Held) → Each P hs → Each P (without u.0 hs)
      each_without P [] e = e
      each_without P (y ∷ hs) e = elim (cases_Bool (nat_eq y.part u.0)) [
        | inl hit ↦ rw hit (each_without P hs (λ j z s. e (suc j) z s))
        | inr miss ↦ rw miss (each_cons P y (without u.0 hs) (e 0 y refl) (each_without P hs (λ j z s. e (suc j) z s)))
      ]

      pub release_goes : (next : ℕ) → next ≡ suc k → suc k < length d.us → IsInstallingAt d n next ticket puts loaded_words w
      release_goes next is l =
          let there = slice_get-get_or d.us (suc k) u l in
          let after_it = rest_from 0 d.us (suc k) (length d.us) _ h.planned.ordered.0 there l in
          let same : gone.phase ≡ v.phase = phase_stays gone.held _ (drop (suc (suc k)) (take (length d.us) (written d.us))) v.phase (left ∙ after_it.0) in
          let own : own_entry gone ≡ own_entry v = own_same gone (ap own_ticket (same ∙ h.phase)) refl in
          let it : IsInstallingAt d n (suc k) ticket puts loaded_words gone = record {
            sealed = sealed;
            planned = h.planned;
            phase = same ∙ h.phase;
            holding = record { held = left };
            reads = each_without (λ (y : Held). y.reads ≡ reads_of loaded_words y.part) v.held h.reads;
            adds = h.adds;
            entry = subst (λ (z : Entry). Among z v.entries) (sym own) h.entry;
            drawn = ap (λ (z : Entry). z.ticket) own ∙ h.drawn;
            fate = ap (λ (z : Entry). z.fate) own ∙ h.fate;
            updates = ap (λ (z : Entry). z.updates) own ∙ h.updates;
            decided = h.decided;
            looks = subst (λ (z : Entry). AllOf (LooksAt (words_in d.base) z.looked) d.items) (sym own) h.looks;
            done = h.done;
          } in
          subst (λ (j : ℕ). IsInstallingAt d n j ticket puts loaded_words w) (sym is) (subst (λ (z : View). IsInstallingAt d n (suc k) ticket puts loaded_words z) (sym t.after) it)

      pub release_last : ((c : Parts) → d.valid v.sizes c → d.m.valid c) → length d.us ≤ suc k → IsLeft w × (d.at ≤ w.at) × EndsWith d w (Wrote ticket)
      release_last here l =
          let none : gone.held ≡ [] = none_left gone.held (left ∙ drop_past (suc k) (take (length d.us) (written d.us)) (omega (arith, l, take_short (length d.us) (written d.us)))) in
          let idle : IsIdle gone.phase = subst (λ (hs : List Held). IsIdle (phase_left hs v.phase)) (sym none) tt in
          let c = some_contents d.m d.valid v d.at d.base here h.sealed.fit h.sealed.claimed in
          let wrote : HasWritten d.m d.f gone ticket d.rs =
          has_written_of d.m law d.f (words_in d.base) d.items d.us d.rs gone ticket (own_entry v) c.0 c.1 c.2 h.sealed.log h.looks h.entry h.drawn h.fate h.updates h.sealed.ends h.sealed.some in
          let it : IsLeft gone × (d.at ≤ gone.at) × EndsWith d gone (Wrote ticket) = (record { idle = idle; unheld = none; decided = h.decided }, omega (arith, h.sealed.number), wrote) in
          subst (λ (y : View). IsLeft y × (d.at ≤ y.at) × EndsWith d y (Wrote ticket)) (sym t.after) it
