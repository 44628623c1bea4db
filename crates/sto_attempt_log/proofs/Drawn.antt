-- The draw of a commit that has loaded all its parts, and its decision.
use Rattle.std.proofs.Common.{◌≡◌, ◌≤◌, ◌⊎◌, ℕ, suc, ℤ, pos, true, false, Bool, nat_eq, if◌then◌else◌, List, [], ◌∷◌, ◌++◌, length, map, refl, ap, sym, ◌∙◌, subst, arith, inl, inr, eq-eqb, eqb-true, IsSome}
use Rattle.std.proofs.lemmas.Bool.{cases_Bool}
use Rattle.std.proofs.lemmas.Bool.Decides.{nat_tests}
use Rattle.std.proofs.Math.Seq.{take-length}
use Rattle.sto_part.specs.Listed.{Listed}
use Rattle.sto_item.specs.declared.item.Item.{Item}
use Rattle.sto_item.specs.declared.item.Item.TheVariants.{Seen, Holds}
use Rattle.sto_core.specs.declared.view.Claim.{Claim}
use Rattle.sto_core.specs.declared.view.Entry.{Entry}
use Rattle.sto_core.specs.declared.view.Held.{Held}
use Rattle.sto_core.specs.declared.view.Looked.{Looked}
use Rattle.sto_core.specs.declared.view.View.{View}
use Rattle.sto_core.specs.Lists.{Each, Among}
use Rattle.sto_core.specs.History.{writes}
use Rattle.sto_core.specs.Reads.{Reads, AllRead, words_read}
use Rattle.sto_core.specs.Views.{holds, hold_of, width_in, last_claim, no_claim, is_recent, seen_part, loaded_part, looked_by_hold, looked_by_claim, looked_parts, drawn_entry, entry_of, own_entry}
use Rattle.sto_core.specs.Event.{Draw, drawn}
use Rattle.sto_core.specs.Allowed.{Allowed, WasSeen, LoadedByHold, LoadedByClaim, IsConfirmed, MayDecide}
use Rattle.sto_core.specs.Tells.{Tells, ClaimsFit}
use Rattle.sto_core.proofs.Lists.{among_snoc, both_are, each_nothing, each_append}
use Rattle.sto_core.proofs.Claims.{last_among}
use Rattle.sto_type.specs.Known.{Parts}
use Rattle.sto_type.specs.Meaning.{IsLawful}
use Rattle.sto_attempt_log.specs.declared.commit_phase.FoundTicket.{FoundTicket}
use Rattle.sto_attempt_log.specs.declared.commit_phase.LoadedWord.{LoadedWord}
use Rattle.sto_attempt_log.specs.Every.{AllOf}
use Rattle.sto_attempt_log.specs.Log.{IsRead}
use Rattle.sto_attempt_log.specs.ReadSet.{words_in, IsTrueIn, HasClaims}
use Rattle.sto_attempt_log.specs.Looking.{LooksAt, IsCovered}
use Rattle.sto_attempt_log.specs.CommitPhases.{Deal, ticket_from, reads_of, words_loaded, IsNamed, IsTrueOn, IsDone, WasFound, WasTested, IsLookedAt, IsChecked, IsLoadingAt, IsCheckingAt}
use Rattle.sto_attempt_log.proofs.Every.{all_contained}
use Rattle.sto_attempt_log.proofs.Claimed.{claims_fit, part_of_claims, claimed_words}
use Rattle.sto_attempt_log.proofs.Drawing.{was_seen, seen_ticket, read_words, draw_looks, were_true}
use Rattle.sto_attempt_log.proofs.Ticketing.{held_written, may_draw}
use Rattle.sto_attempt_log.proofs.Leaving.{Sealed, sealed_still}
use Rattle.sto_attempt_log.proofs.Locking.{found_still}
use Rattle.sto_attempt_log.proofs.Loading.{each_map, each_but, hold_has}
use Rattle.sto_attempt_log.proofs.SeenParts.{loaded_apart}

-- the entry with a ticket above all others
pub last_entry : (k : ℕ) (es : List Entry) (e : Entry) → Each (λ (y : Entry). y.ticket ≤ k) es → e.ticket ≡ suc k → entry_of (suc k) (es ++ e ∷ []) ≡ e
last_entry k [] e h is = rw (eq-eqb (suc k) e.ticket (sym is)) refl
last_entry k (y ∷ es) e h is =
    let other : nat_eq (suc k) y.ticket ≡ false = lower y.ticket (h 0 y refl) in
    rw other (last_entry k es e (λ j z s. h (suc j) z s) is)
  where
    lower : (t : ℕ) → t ≤ k → nat_eq (suc k) t ≡ false
    lower t l = grind (arith, nat_tests, l)

module _ (d : Deal) (law : IsLawful d.m) (found_tickets : Listed FoundTicket) (loaded_words : List LoadedWord) (v : View) (h : IsLoadingAt d (length d.tasks) found_tickets loaded_words v) where
  done_at : (p : ℕ) → Among p d.tasks → IsDone d found_tickets.items loaded_words v p
  done_at p a =
      let all : Each (IsDone d found_tickets.items loaded_words v) d.tasks = subst (λ (l : List ℕ). Each (IsDone d found_tickets.items loaded_words v) l) (take-length d.tasks) h.done in
      all a.0 p a.1

  held_is : (p : ℕ) → writes d.us p ≡ holds p v.held
  held_is p = held_written d.us v p (record { held = h.holding.held })

  hold_reads : (p : ℕ) → holds p v.held ≡ true → (hold_of p v.held).reads ≡ reads_of loaded_words p
  hold_reads p e =
      let r = hold_has (λ (y : Held). y.reads ≡ reads_of loaded_words y.part) p v.held h.found.reads e in
      r.0 ∙ ap (reads_of loaded_words) r.1

  of_loaded : (p : ℕ) → Among p d.loaded → IsDone d found_tickets.items loaded_words v p
  of_loaded p a = done_at p (h.going.planned.of_loaded a.0 p a.1)

  held_all : (p : ℕ) → Among p d.loaded → holds p v.held ≡ true → LoadedByHold v p
  held_all p a e = (e, subst (λ (r : Reads). AllRead r (width_in v p)) (sym (hold_reads p e)) (of_loaded p a).read)

  claimed_all : (p : ℕ) → Among p d.loaded → holds p v.held ≡ false → LoadedByClaim v p
  claimed_all p a e = (e, ((of_loaded p a).tested (held_is p ∙ e)).0)

  loaded_words_by : (p : ℕ) → Among p d.loaded → LoadedByHold v p ⊎ LoadedByClaim v p
  loaded_words_by p a = elim (cases_Bool (holds p v.held)) [
    | inl e ↦ inl (held_all p a e)
    | inr e ↦ inr (claimed_all p a e)
  ]

  abbrev part_by : Bool → ℕ → Looked
  part_by b p = if b then looked_by_hold v p (hold_of p v.held) else looked_by_claim p (last_claim (is_recent v p) no_claim v.claims)

  words_by : (p : ℕ) → Among p d.loaded → (loaded_part v p).words ≡ words_loaded loaded_words v p
  words_by p a = by (holds p v.held) refl
    where
      by : (b : Bool) → holds p v.held ≡ b → (part_by b p).words ≡ words_loaded loaded_words v p
      by true e = ap (λ (r : Reads). words_read r (width_in v p)) (hold_reads p e)
      by false e = ((of_loaded p a).tested (held_is p ∙ e)).1

  covers : (is : List Item) → AllOf (IsNamed d.seen d.loaded) is → ((p : ℕ) → Among p d.loaded → AllOf (IsTrueOn p (words_loaded loaded_words v p)) is) → AllOf (IsCovered v d.seen d.loaded) is
  covers [] n f = tt
  covers (Seen p ∷ is) n f = (n.0, covers is n.1 (λ q a. (f q a).1))
  covers (Holds q ∷ is) n f = (
    elim n.0 [
      | inl s ↦ inl s
      | inr l ↦ inr (l, subst (λ (ws : List ℤ). IsTrueIn ws q) (sym (words_by q.part l)) ((f q.part l).0 refl))
    ],
    covers is n.1 (λ p a. (f p a).1),
  )

  covered : AllOf (IsCovered v d.seen d.loaded) d.items
  covered = covers d.items h.going.planned.named (λ p a. (of_loaded p a).true_on (loaded_apart d h.going.planned p a))

  read_seen : Each (λ (p : ℕ). IsSome (words_in d.base p)) d.seen
  read_seen = λ j p e. all_contained (IsRead (words_in d.base)) d.items (Seen p) (h.going.planned.of_seen j p e) h.going.sealed.log.read

  module _ (here : (c : Parts) → d.valid v.sizes c → d.m.valid c) (there : (c : Parts) → d.m.valid c → d.valid v.sizes c) where
    pub the_draw : Allowed d.valid (Draw d.us d.seen d.loaded) v
    the_draw =
        may_draw d.m law d.valid d.sizes d.f d.at d.base d.items d.us d.rs v h.going.sealed here there d.seen d.loaded h.phase h.going.draws (record { held = h.holding.held }) h.going.planned.seen_rise
        h.going.planned.loaded_rise h.going.planned.apart read_seen (λ j p e. loaded_words_by p (j, e)) covered

    looks_at : AllOf (LooksAt (words_in d.base) (looked_parts v d.seen d.loaded)) d.items
    looks_at =
        let c : (x : Parts) × d.valid v.sizes x × HasClaims v d.at x = claims_fit d.valid v d.at h.going.sealed.fit in
        let ok : d.m.valid c.0 = here c.0 c.1 in
        let part = part_of_claims v d.at d.base c.0 h.going.sealed.claimed c.2 in
        let true_then = were_true d.m (words_in d.base) d.items c.0 (λ p ws e. claimed_words v d.at d.base c.0 p ws h.going.sealed.claimed c.2 e) (h.going.sealed.log.carried.holds c.0 ok part) in
        draw_looks d.valid v d.at d.base h.going.sealed.number h.going.sealed.claimed h.going.sealed.fit d.seen d.loaded d.items h.going.sealed.log.read true_then covered

    module _ (w : View) (passes clock ticket : ℕ) (is : ticket ≡ suc clock) (t : Tells d.valid passes (Draw d.us d.seen d.loaded) v clock (pos 0) w) where
      abbrev it : View
      it = drawn v clock d.us d.seen d.loaded

      abbrev new : Entry
      new = drawn_entry v (suc clock) d.us d.seen d.loaded

      own : own_entry it ≡ new
      own = last_entry clock v.entries new t.learns.0.entries refl

      looked_seen : Each (IsLookedAt d found_tickets.items it) (map (seen_part v) d.seen)
      looked_seen = each_map (seen_part v) (IsLookedAt d found_tickets.items it) d.seen (λ j p e.
          let k = read_words d.base p (read_seen j p e) in
          let seen : WasSeen v p = was_seen d.valid v d.at d.base h.going.sealed.number h.going.sealed.claimed h.going.sealed.fit p k.0 k.1 in
          inl ((j, e), seen_ticket v d.at d.base p h.going.sealed.number h.going.sealed.only seen))

      looked_one : (p : ℕ) → Among p d.loaded → IsLookedAt d found_tickets.items it (loaded_part v p)
      looked_one p a = by (holds p v.held) refl
        where
          by : (b : Bool) → holds p v.held ≡ b → IsLookedAt d found_tickets.items it (part_by b p)
          by true e = inr (inl (held_is p ∙ e, (refl, (held_all p a e).1, refl)))
          by false e = inr (inr (a, held_is p ∙ e, ((of_loaded p a).tested (held_is p ∙ e)).2))

      looked_all : Each (IsLookedAt d found_tickets.items it) (looked_parts v d.seen d.loaded)
      looked_all =
          each_append (IsLookedAt d found_tickets.items it) (map (seen_part v) d.seen) (map (loaded_part v) d.loaded) looked_seen
          (each_map (loaded_part v) (IsLookedAt d found_tickets.items it) d.loaded (λ j p e. looked_one p (j, e)))

      tests : (p : ℕ) → Among p d.loaded → writes d.us p ≡ false → WasTested d (suc clock) found_tickets.items it p
      tests p a e =
          let k = (of_loaded p a).tested e in
          let c : Claim = last_claim (is_recent v p) no_claim v.claims in
          let last = last_among (is_recent v p) no_claim v.claims k.0 in
          let both : (nat_eq c.part p ≡ true) × (nat_eq c.start v.starts ≡ true) = both_are (nat_eq c.part p) (nat_eq c.start v.starts) last.2 in
          record {
            claim = c;
            among = (last.0, last.1);
            on = eqb-true c.part p both.0;
            with_ticket = k.2;
            not_before = k.3;
            known = found_still v it refl (λ z a. a) (λ z a. a) p (ticket_from 0 found_tickets.items p) k.4;
            below = omega (arith, k.2, (t.learns.0.claims last.0 c last.1).1);
          }

      pub draw_goes : IsCheckingAt d 0 ticket found_tickets loaded_words w
      draw_goes =
          let sealed : Sealed d it = sealed_still d v it refl refl refl refl refl (subst (ClaimsFit d.valid) t.after t.fit) h.going.sealed in
          let same : IsCheckingAt d 0 (suc clock) found_tickets loaded_words it = record {
            sealed = sealed;
            planned = h.going.planned;
            phase = refl;
            above = omega (arith, h.going.sealed.number, t.learns.0.at);
            holding = record { held = h.holding.held };
            found = record {
              tickets = h.found.tickets;
              reads = h.found.reads;
              known = each_but (λ (y : Held). WasFound v y.part y.ticket) (λ (y : Held). WasFound it y.part y.ticket) (λ y k. found_still v it refl (λ z a. a) (λ z a. a) y.part y.ticket k) v.held h.found.known;
            };
            adds = λ p i x e l. (done_at p (h.going.planned.of_adds p i x e)).read i l;
            entry = subst (λ (y : Entry). Among y it.entries) (sym own) (among_snoc v.entries new);
            drawn = ap (λ (y : Entry). y.ticket) own;
            fate = ap (λ (y : Entry). y.fate) own;
            updates = ap (λ (y : Entry). y.updates) own;
            looks = subst (λ (y : Entry). AllOf (LooksAt (words_in d.base) y.looked) d.items) (sym own) looks_at;
            looked = subst (λ (y : Entry). Each (IsLookedAt d found_tickets.items it) y.looked) (sym own) looked_all;
            tests = tests;
            checked = each_nothing (IsChecked d found_tickets.items it);
          } in
          subst (λ (k : ℕ). IsCheckingAt d 0 k found_tickets loaded_words w) (sym is) (subst (λ (y : View). IsCheckingAt d 0 (suc clock) found_tickets loaded_words y) (sym t.after) same)

-- the decision for the commit is allowed where all parts are checked
pub may_decide : (d : Deal) (ticket : ℕ) (found_tickets : Listed FoundTicket) (loaded_words : List LoadedWord) (v : View) → IsCheckingAt d (length d.checks) ticket found_tickets loaded_words v → MayDecide true v
may_decide d ticket found_tickets loaded_words v h = ((ticket, h.phase), λ j l e. one l (h.looked j l e))
  where
    checked_at : (p : ℕ) → Among p d.checks → IsChecked d found_tickets.items v p
    checked_at p a = subst (λ (l : List ℕ). Each (IsChecked d found_tickets.items v) l) (take-length d.checks) h.checked a.0 p a.1

    one : (l : Looked) → IsLookedAt d found_tickets.items v l → IsConfirmed v l
    one l k = elim k [
      | inl s ↦ inl ((checked_at l.part (h.planned.of_checks s.0.0 l.part s.0.1)).seen l.ticket s.0 s.1)
      | inr r ↦ elim r [
        | inl held ↦ inr (sym (held_written d.us v l.part (record { held = h.holding.held })) ∙ held.0, held.1)
        | inr tested ↦
            let c = (checked_at l.part (h.planned.of_tests tested.0.0 l.part tested.0.1 tested.1)).tested tested.0 tested.1 in
            inl (subst (λ (k : ℕ). Among (l.part, k) v.checked) (sym tested.2) c)
      ]
    ]
