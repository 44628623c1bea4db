-- The lock of a written part.
use Rattle.std.proofs.Common.{◌≡◌, ◌≤◌, ◌<◌, ◌+◌, ◌-◌, ℕ, suc, ℤ, true, false, Bool, nat_eq, nat_lt, ◌&&◌, if◌then◌else◌, Some, List, [], ◌∷◌, ◌++◌, length, length-append, take, refl, ap, sym, ◌∙◌, subst, arith, inl, inr, slice_get, eq-eqb}
use Rattle.std.proofs.lemmas.Bool.Decides.{nat_tests}
use Rattle.sto_part.specs.Listed.{Listed}
use Rattle.sto_item.specs.Pending.{Entry as Update}
use Rattle.sto_core.specs.declared.view.Held.{Held}
use Rattle.sto_core.specs.declared.view.Finding.{Finding}
use Rattle.sto_core.specs.declared.view.Wrote.{Wrote as WroteOf}
use Rattle.sto_core.specs.declared.view.Phase.TheVariants as P
use Rattle.sto_core.specs.declared.view.View.{View}
use Rattle.sto_core.specs.Lists.{Each, Among}
use Rattle.sto_core.specs.Versions.{ticket_of, is_free}
use Rattle.sto_core.specs.Views.{holds}
use Rattle.sto_core.specs.Event.{Lock, found, locked_by, is_own_or_free}
use Rattle.sto_core.specs.Allowed.{Allowed, IsIdle, MayLock}
use Rattle.sto_core.specs.Tells.{Tells, ClaimsFit}
use Rattle.sto_core.proofs.Lists.{among_snoc, each_snoc, each_nothing}
use Rattle.sto_type.specs.Meaning.{IsLawful}
use Rattle.sto_attempt_log.specs.declared.commit_phase.FoundTicket.{FoundTicket}
use Rattle.sto_attempt_log.specs.declared.commit_phase.LoadedWord.{LoadedWord}
use Rattle.sto_attempt_log.specs.declared.verdict.Verdict.TheVariants.{Locked}
use Rattle.sto_attempt_log.specs.Every.{AllOf}
use Rattle.sto_type.specs.Touching.{HasTouched}
use Rattle.sto_attempt_log.specs.Answers.{HasFound}
use Rattle.sto_attempt_log.specs.Standing.{IsLeft}
use Rattle.sto_attempt_log.specs.Committing.{written}
use Rattle.sto_attempt_log.specs.CommitPhases.{Deal, ticket_from, reads_of, FailsWith, EndsWith, IsDone, IsAsBefore, IsFreshAt, WasFound, IsLeaving, IsLockingAt, IsLoadingAt}
use Rattle.sto_attempt_log.proofs.Prefix.{prefix}
use Rattle.sto_attempt_log.proofs.Reading.{has_part, among_front, idle_reading}
use Rattle.sto_attempt_log.proofs.Holding.{parts_held, all_get, first_below, each_held, not_held, take_more, map_snoc, none_left}
use Rattle.sto_attempt_log.proofs.Leaving.{Sealed, sealed_still, prefix_still}
use Rattle.sto_attempt_log.proofs.Unsettled.{unsettled_sealed}

pub ticket_other : (t : ℕ) (xs : List FoundTicket) (x : FoundTicket) (p : ℕ) → nat_eq x.part p ≡ false → ticket_from t (xs ++ x ∷ []) p ≡ ticket_from t xs p
ticket_other t [] x p e = rw e refl
ticket_other t (y ∷ xs) x p e = ticket_other (if nat_eq y.part p then y.ticket else t) xs x p e

pub ticket_own : (t : ℕ) (xs : List FoundTicket) (x : FoundTicket) (p : ℕ) → nat_eq x.part p ≡ true → ticket_from t (xs ++ x ∷ []) p ≡ x.ticket
ticket_own t [] x p e = rw e refl
ticket_own t (y ∷ xs) x p e = ticket_own (if nat_eq y.part p then y.ticket else t) xs x p e

-- what was found stays so
pub found_still : (v w : View) → w.starts ≡ v.starts → ((x : Finding) → Among x v.findings → Among x w.findings) → ((x : WroteOf) → Among x v.wrote → Among x w.wrote) → (p t : ℕ) → WasFound v p t → WasFound w p t
found_still v w starts findings wrote p t h = record {
  found = record { finding = h.found.finding; among = findings h.found.finding h.found.among; start = h.found.start ∙ sym starts; on = h.found.on; is = h.found.is; own = h.found.own };
  wrote = λ l. wrote (record { start = w.starts; ticket = t; part = p }) (subst (λ (k : ℕ). Among (record { start = k; ticket = t; part = p }) v.wrote) (sym starts) (h.wrote l));
}

pub wrote_kept : (v : View) (p m : ℕ) (x : WroteOf) → Among x v.wrote → Among x (found v p m).wrote
wrote_kept v p m x a = by (is_own_or_free v p m && nat_lt 0 (ticket_of m))
  where
    by : (b : Bool) → Among x (if b then v.wrote ++ record { start = v.starts; ticket = ticket_of m; part = p } ∷ [] else v.wrote)
    by true = among_front v.wrote (record { start = v.starts; ticket = ticket_of m; part = p }) x a
    by false = a

module _ (d : Deal) (law : IsLawful d.m) (n : ℕ) (found_tickets : Listed FoundTicket) (loaded_words : List LoadedWord) (v : View) (h : IsLockingAt d n found_tickets loaded_words v) (u : Update) (get : slice_get d.us n ≡ Some u) where
  below : AllOf (λ (q : ℕ). q < u.0) (parts_held v.held)
  below = subst (λ (l : List ℕ). AllOf (λ (q : ℕ). q < u.0) l) (sym h.holding.held) (first_below 0 d.us n u h.going.planned.ordered.0 get)

  each_below : Each (λ (x : Held). x.part < u.0) v.held
  each_below = each_held (λ (q : ℕ). q < u.0) v.held below

  touched : HasTouched d.m d.f d.rs u.0
  touched = all_get (λ (e : Update). HasTouched d.m d.f d.rs e.0) d.us n u get h.going.sealed.log.touched_updates

  unheld : holds u.0 v.held ≡ false
  unheld = not_held u.0 v.held below

  pub lock_unheld : holds u.0 v.held ≡ false
  lock_unheld = unheld

  pub may_lock : Allowed d.valid (Lock u.0) v
  may_lock = (
    elim h.phase [
      | inl e ↦ subst (MayLock v u.0) (sym e.1) tt
      | inr e ↦ subst (MayLock v u.0) (sym e.1) each_below
    ],
    has_part d.m law d.valid d.sizes d.f d.at u.0 d.rs v h.going.sealed.own touched,
  )

  module _ (w : View) (passes m : ℕ) (x : ℤ) (t : Tells d.valid passes (Lock u.0) v m x w) where
    -- it was locked
    module _ (busy : is_free m ≡ false) where
      is_found : w ≡ found v u.0 m
      is_found = t.after ∙ ap (λ (b : Bool). locked_by b (found v u.0 m) u.0 m) busy

      fails : FailsWith d (found v u.0 m) (Locked d.at u.0)
      fails =
          let one : Finding = record { start = v.starts; part = u.0; version = m; held = false } in
          let there : Among one (found v u.0 m).findings =
          subst (λ (b : Bool). Among one (v.findings ++ record { start = v.starts; part = u.0; version = m; held = b } ∷ [])) (sym unheld) (among_snoc v.findings one) in (
            refl,
            record {
              runs = prefix_still d v (found v u.0 m) refl refl (prefix d.m d.f v d.at d.base d.items d.us d.rs h.going.sealed.log h.going.sealed.claimed);
              touched = touched;
              unsettled = unsettled_sealed d.m d.valid d.sizes d.f d.at d.base d.items d.us d.rs v h.going.sealed;
              found = record { version = m; among = there; locked = busy };
            },
          )

      sealed_found : Sealed d (found v u.0 m)
      sealed_found = sealed_still d v (found v u.0 m) refl refl refl refl refl (subst (ClaimsFit d.valid) is_found t.fit) h.going.sealed

      pub lock_ends : n ≡ 0 → IsLeft w × (d.at ≤ w.at) × EndsWith d w (Locked d.at u.0)
      lock_ends first =
          let none : v.held ≡ [] = none_left v.held (subst (λ (k : ℕ). parts_held v.held ≡ take k (written d.us)) first h.holding.held) in
          let idle : IsIdle (found v u.0 m).phase = elim h.phase [
            | inl e ↦ idle_reading v e.1
            | inr e ↦ absurd (omega (arith, e.0, first))
          ] in
          let it : IsLeft (found v u.0 m) × (d.at ≤ (found v u.0 m).at) × EndsWith d (found v u.0 m) (Locked d.at u.0) =
          (record { idle = idle; unheld = none; decided = h.going.decided }, omega (arith, h.going.sealed.number), fails) in
          subst (λ (y : View). IsLeft y × (d.at ≤ y.at) × EndsWith d y (Locked d.at u.0)) (sym is_found) it

      pub lock_leaves : 0 < n → IsLeaving d 0 n (Locked d.at u.0) w
      lock_leaves more =
          let it : IsLeaving d 0 n (Locked d.at u.0) (found v u.0 m) = record {
            below = (more, omega (arith, h.below));
            sealed = sealed_found;
            phase = elim h.phase [
              | inl e ↦ absurd (omega (arith, e.0, more))
              | inr e ↦ inl e.1
            ];
            holding = record { held = h.holding.held };
            planned = h.going.planned;
            decided = h.going.decided;
            ends = fails;
          } in
          subst (λ (y : View). IsLeaving d 0 n (Locked d.at u.0) y) (sym is_found) it

    -- it was free
    module _ (free : is_free m ≡ true) (ticket : ℕ) (is_ticket : ticket ≡ ticket_of m) (found_tickets' : Listed FoundTicket) (pushed : found_tickets' ≡ record { items = found_tickets.items ++ record { part = u.0; ticket = ticket } ∷ []; spare = found_tickets.spare - 1 }) where
      more : found_tickets'.items ≡ found_tickets.items ++ record { part = u.0; ticket = ticket_of m } ∷ []
      more = ap (λ (l : Listed FoundTicket). l.items) pushed ∙ ap (λ (k : ℕ). found_tickets.items ++ record { part = u.0; ticket = k } ∷ []) is_ticket

      spare : found_tickets'.spare ≡ found_tickets.spare - 1
      spare = ap (λ (l : Listed FoundTicket). l.spare) pushed

      abbrev one : Held
      one = record { part = u.0; ticket = ticket_of m; reads = [] }

      abbrev new : FoundTicket
      new = record { part = u.0; ticket = ticket_of m }

      abbrev won : View
      won = record (found v u.0 m) { phase = P.Locking; held = v.held ++ one ∷ [] }

      is_won : w ≡ won
      is_won = t.after ∙ ap (λ (b : Bool). locked_by b (found v u.0 m) u.0 m) free

      sealed_won : Sealed d won
      sealed_won = sealed_still d v won refl refl refl refl refl (subst (ClaimsFit d.valid) is_won t.fit) h.going.sealed

      held_won : parts_held won.held ≡ take (suc n) (written d.us)
      held_won = map_snoc v.held one ∙ ap (λ (l : List ℕ). l ++ u.0 ∷ []) h.holding.held ∙ sym (take_more d.us n u get)

      tickets_won : Each (λ (y : Held). y.ticket ≡ ticket_from 0 found_tickets'.items y.part) won.held
      tickets_won =
          let Q : Held → Type 0 = λ y. y.ticket ≡ ticket_from 0 (found_tickets.items ++ new ∷ []) y.part in
          let all : Each Q won.held = each_snoc Q v.held one (λ j y e. h.found.tickets j y e ∙ sym (ticket_other 0 found_tickets.items new y.part (other y (each_below j y e)))) (sym (ticket_own 0 found_tickets.items new u.0 (eq-eqb u.0 u.0 refl))) in
          subst (λ (l : List FoundTicket). Each (λ (y : Held). y.ticket ≡ ticket_from 0 l y.part) won.held) (sym more) all
        where
          other : (y : Held) → y.part < u.0 → nat_eq u.0 y.part ≡ false
          other y l = grind (arith, nat_tests, l)

      reads_won : Each (λ (y : Held). y.reads ≡ reads_of loaded_words y.part) won.held
      reads_won =
          let Q : Held → Type 0 = λ y. y.reads ≡ reads_of loaded_words y.part in
          each_snoc Q v.held one h.found.reads (subst (λ (l : List LoadedWord). [] ≡ reads_of l u.0) (sym h.none) refl)

      known_won : Each (λ (y : Held). WasFound won y.part y.ticket) won.held
      known_won =
          let finding : Finding = record { start = v.starts; part = u.0; version = m; held = holds u.0 v.held } in
          let here : HasFound won u.0 (ticket_of m) = record { finding = finding; among = among_snoc v.findings finding; start = refl; on = refl; is = refl; own = inl free } in
          let own : is_own_or_free v u.0 m ≡ true = rw free refl in
          let same : w.starts ≡ v.starts = ap (λ (y : View). y.starts) is_won in
          let wrote : 0 < ticket_of m → Among (record { start = v.starts; ticket = ticket_of m; part = u.0 }) won.wrote = λ l.
          let there = t.learns.wrote own l in subst (λ (y : View). Among (record { start = v.starts; ticket = ticket_of m; part = u.0 }) y.wrote) is_won there in
          each_snoc (λ (y : Held). WasFound won y.part y.ticket) v.held one
          (λ j y e. found_still v won refl (λ x a. among_front v.findings finding x a) (wrote_kept v u.0 m) y.part y.ticket (h.found.known j y e))
          (record { found = here; wrote = wrote })

      length_more : length found_tickets'.items ≡ length found_tickets.items + 1
      length_more = ap length more ∙ length-append found_tickets.items (new ∷ [])

      pub lock_goes : (next : ℕ) → next ≡ suc n → suc n < length d.us → IsLockingAt d next found_tickets' loaded_words w
      lock_goes next is l =
          let it : IsLockingAt d (suc n) found_tickets' loaded_words won = record {
            going = record { sealed = sealed_won; planned = h.going.planned; draws = h.going.draws; decided = h.going.decided };
            below = l;
            phase = inr (omega arith, refl);
            holding = record { held = held_won };
            found = record { tickets = tickets_won; reads = reads_won; known = known_won };
            room = record { used = omega (arith, length_more, h.room.used); spare = omega (arith, spare, h.room.spare, l) };
            none = h.none;
          } in
          subst (λ (k : ℕ). IsLockingAt d k found_tickets' loaded_words w) (sym is) (subst (λ (y : View). IsLockingAt d (suc n) found_tickets' loaded_words y) (sym is_won) it)

      pub lock_done : length d.us ≤ suc n → IsLoadingAt d 0 found_tickets' loaded_words w
      lock_done l =
          let all : suc n ≡ length d.us = omega (arith, l, h.below) in
          let it : IsLoadingAt d 0 found_tickets' loaded_words won = record {
            going = record { sealed = sealed_won; planned = h.going.planned; draws = h.going.draws; decided = h.going.decided };
            phase = refl;
            holding = record { held = held_won ∙ ap (λ (k : ℕ). take k (written d.us)) all };
            found = record { tickets = tickets_won; reads = reads_won; known = known_won };
            room = record { used = omega (arith, length_more, h.room.used, l, h.below); spare = omega (arith, spare, h.room.spare, l, h.below) };
            done = each_nothing (IsDone d found_tickets'.items loaded_words won);
            same = subst (λ (l : List LoadedWord). Each (IsAsBefore d found_tickets'.items) l) (sym h.none) (each_nothing (IsAsBefore d found_tickets'.items));
            fresh = subst (λ (l : List LoadedWord). Each (IsFreshAt d 0) l) (sym h.none) (each_nothing (IsFreshAt d 0));
          } in
          subst (λ (y : View). IsLoadingAt d 0 found_tickets' loaded_words y) (sym is_won) it
