-- The check of a part after the draw, by the phase of the commit.
use Rattle.std.proofs.Common.{◌≡◌, ◌≢◌, ◌≤◌, ◌<◌, ◌⊎◌, ℕ, zero, suc, ℤ, true, false, Bool, nat_eq, nat_lt, ◌||◌, if◌then◌else◌, Some, List, [], ◌∷◌, ◌++◌, take, refl, ap, sym, ◌∙◌, subst, arith, inl, inr, eqb-true, slice_get, IsSome}
use Rattle.std.proofs.lemmas.Bool.{cases_Bool}
use Rattle.std.proofs.lemmas.Bool.Decides.{nat_tests}
use Rattle.std.specs.List.{Contains, list_any}
use Rattle.sto_type.proofs.Answering.{take_get}
use Rattle.sto_part.specs.Listed.{Listed}
use Rattle.sto_item.specs.declared.item.Item.{Item}
use Rattle.sto_item.specs.declared.item.Item.TheVariants.{Seen, Holds}
use Rattle.sto_item.specs.Observed.{part_of_item}
use Rattle.sto_core.specs.declared.view.Claim.{Claim}
use Rattle.sto_core.specs.declared.view.Held.{Held}
use Rattle.sto_core.specs.declared.view.Finding.{Finding}
use Rattle.sto_core.specs.declared.view.View.{View}
use Rattle.sto_core.specs.Lists.{Each, Among}
use Rattle.sto_core.specs.Versions.{ticket_of, is_free}
use Rattle.sto_core.specs.History.{writes}
use Rattle.sto_core.specs.Views.{holds, own_ticket}
use Rattle.sto_core.specs.Event.{Check, found, is_own_or_free, passes_check, checked_by}
use Rattle.sto_core.specs.Allowed.{Allowed}
use Rattle.sto_core.specs.Tells.{Tells, ClaimsFit}
use Rattle.sto_core.proofs.Lists.{among_snoc, both_true, each_snoc, not_true}
use Rattle.sto_type.specs.Meaning.{IsLawful}
use Rattle.sto_attempt_log.specs.declared.read_entry.ReadEntry.{ReadEntry}
use Rattle.sto_attempt_log.specs.declared.commit_phase.FoundTicket.{FoundTicket}
use Rattle.sto_attempt_log.specs.declared.commit_phase.LoadedWord.{LoadedWord}
use Rattle.sto_attempt_log.specs.declared.verdict.Verdict.{Verdict}
use Rattle.sto_attempt_log.specs.declared.verdict.Verdict.TheVariants.{Locked, Changed}
use Rattle.sto_type.specs.Touching.{HasTouched}
use Rattle.sto_attempt_log.specs.Answers.{HasFound}
use Rattle.sto_attempt_log.specs.Log.{IsRead}
use Rattle.sto_attempt_log.specs.ReadSet.{words_in, ticket_in, AreClaimed, claim_of}
use Rattle.sto_attempt_log.specs.Reasons.{IsByTest}
use Rattle.sto_attempt_log.specs.CommitPhases.{Deal, ticket_from, is_same_part, expected_of, IsExpected, WasFound, IsChecked, FailsWith, IsDropping, IsCheckingAt}
use Rattle.sto_attempt_log.proofs.Every.{all_contained}
use Rattle.sto_attempt_log.proofs.Prefix.{prefix}
use Rattle.sto_attempt_log.proofs.Reading.{has_part, among_front}
use Rattle.sto_attempt_log.proofs.Ticketing.{held_written}
use Rattle.sto_attempt_log.proofs.Leaving.{Sealed, sealed_still}
use Rattle.sto_attempt_log.proofs.Locking.{found_still, wrote_kept}
use Rattle.sto_attempt_log.proofs.Loading.{each_but}
use Rattle.sto_attempt_log.proofs.SeenParts.{among_any, any_among, loaded_unseen}
use Rattle.sto_attempt_log.proofs.Unsettled.{unsettled_sealed}

-- the claim of a part that was read
pub record ClaimAt (v : View) (number p t : ℕ) : Type 0 where
  pub claim : Claim
  pub among : Among claim v.claims
  pub on : claim.part ≡ p
  pub at_number : claim.number ≡ number
  pub with_ticket : claim.ticket ≡ t
  pub early : t ≤ number

pub claim_at : (v : View) (number : ℕ) (ss : List ReadEntry) (p t : ℕ) → AreClaimed v number ss → ticket_in ss p ≡ Some t → ClaimAt v number p t
claim_at v number [] p t a e = cc
claim_at v number (s ∷ ss) p t a e = elim (cases_Bool (nat_eq s.part p)) [
  | inl hit ↦
      let known = rw hit at e in
      let own : s.ticket ≡ t = cc in
      record { claim = claim_of v number s; among = a.0.among; on = eqb-true s.part p hit; at_number = refl; with_ticket = own; early = omega (arith, a.0.early, own) }
  | inr miss ↦ claim_at v number ss p t a.1 (rw miss at e)
]

pub read_ticket : (ss : List ReadEntry) (p : ℕ) → IsSome (words_in ss p) → (t : ℕ) × (ticket_in ss p ≡ Some t)
read_ticket [] p h = cc
read_ticket (s ∷ ss) p h = elim (cases_Bool (nat_eq s.part p)) [
  | inl hit ↦ (s.ticket, rw hit refl)
  | inr miss ↦ let rest = read_ticket ss p (rw miss at h) in (rest.0, rw miss rest.1)
]

pub each_get : {A : Type 0} (P : A → Type 0) (l : List A) (n : ℕ) (x : A) → slice_get l n ≡ Some x → Each P l → P x
each_get P [] n x e a = cc
each_get P (y ∷ l) zero x e a = let same : y ≡ x = cc in subst P same (a 0 y refl)
each_get P (y ∷ l) (suc n) x e a = each_get P l n x e (λ j z s. a (suc j) z s)

is_checked : (b : Bool) (f : View) (p m : ℕ) → checked_by b f p m ≡ record f { checked = (if b then f.checked ++ (p, ticket_of m) ∷ [] else f.checked) }
is_checked true f p m = refl
is_checked false f p m = refl

or_cases : (a b : Bool) → (a || b) ≡ true → (a ≡ true) ⊎ (b ≡ true)
or_cases true b e = inl refl
or_cases false b e = inr e

not_below : (t at s : ℕ) → (t ≤ at → t ≡ s) → t ≢ s → at < t
not_below t at s same ne = grind arith

module _ (d : Deal) (law : IsLawful d.m) (n ticket : ℕ) (found_tickets : Listed FoundTicket) (loaded_words : List LoadedWord) (v : View) (h : IsCheckingAt d n ticket found_tickets loaded_words v) (p : ℕ) (get : slice_get d.checks n ≡ Some p) where
  touched_seen : Among p d.seen → HasTouched d.m d.f d.rs p
  touched_seen a = all_contained (λ (y : Item). HasTouched d.m d.f d.rs (part_of_item y)) d.items (Seen p) (h.planned.of_seen a.0 p a.1) h.sealed.log.touched_items

  touched_loaded : Among p d.loaded → HasTouched d.m d.f d.rs p
  touched_loaded a =
      let k = h.planned.on_loaded a.0 p a.1 in
      subst (HasTouched d.m d.f d.rs) k.2 (all_contained (λ (y : Item). HasTouched d.m d.f d.rs (part_of_item y)) d.items (Holds k.0) k.1 h.sealed.log.touched_items)

  read_loaded : Among p d.loaded → IsSome (words_in d.base p)
  read_loaded a =
      let k = h.planned.on_loaded a.0 p a.1 in
      subst (λ (q : ℕ). IsSome (words_in d.base q)) k.2 (all_contained (IsRead (words_in d.base)) d.items (Holds k.0) k.1 h.sealed.log.read)

  touched : HasTouched d.m d.f d.rs p
  touched = elim (each_get (λ (p : ℕ). Among p d.seen ⊎ (Among p d.loaded × (writes d.us p ≡ false))) d.checks n p get h.planned.from_checks) [
    | inl s ↦ touched_seen s
    | inr l ↦ touched_loaded l.0
  ]

  pub may_check : Allowed d.valid (Check p) v
  may_check = ((ticket, h.phase), has_part d.m law d.valid d.sizes d.f d.at p d.rs v h.sealed.own touched)

  held_is : writes d.us p ≡ holds p v.held
  held_is = held_written d.us v p (record { held = h.holding.held })

  pub check_unheld : writes d.us p ≡ false → holds p v.held ≡ false
  check_unheld other = sym held_is ∙ other

  module _ (w : View) (passes m : ℕ) (x : ℤ) (t : Tells d.valid passes (Check p) v m x w) where
    abbrev it : View
    it = record (found v p m) { checked = (if passes_check v p m then v.checked ++ (p, ticket_of m) ∷ [] else v.checked) }

    is_it : w ≡ it
    is_it = t.after ∙ is_checked (passes_check v p m) (found v p m) p m

    sealed : Sealed d it
    sealed = sealed_still d v it refl refl refl refl refl (subst (ClaimsFit d.valid) is_it t.fit) h.sealed

    dropping : (verdict : Verdict) → FailsWith d it verdict → IsDropping d ticket verdict w
    dropping verdict fails =
        let same : IsDropping d ticket verdict it = record { sealed = sealed; planned = h.planned; phase = h.phase; holding = record { held = h.holding.held }; ends = fails } in
        subst (λ (y : View). IsDropping d ticket verdict y) (sym is_it) same

    pub check_locked : is_free m ≡ false → writes d.us p ≡ false → IsDropping d ticket (Locked d.at p) w
    check_locked busy other =
        let unheld : holds p v.held ≡ false = sym held_is ∙ other in
        let one : Finding = record { start = v.starts; part = p; version = m; held = false } in
        let there : Among one it.findings = subst (λ (b : Bool). Among one (v.findings ++ record { start = v.starts; part = p; version = m; held = b } ∷ [])) (sym unheld) (among_snoc v.findings one) in
        dropping (Locked d.at p) (
          refl,
          record {
            runs = prefix d.m d.f it d.at d.base d.items d.us d.rs sealed.log sealed.claimed;
            touched = touched;
            unsettled = unsettled_sealed d.m d.valid d.sizes d.f d.at d.base d.items d.us d.rs v h.sealed;
            found = record { version = m; among = there; locked = busy };
          },
        )

    module _ (own : is_own_or_free v p m ≡ true) (s : ℕ) (expected : IsExpected d found_tickets.items p s) where
      later_seen : ticket_in d.base p ≡ Some s → ticket_of m ≢ s → d.at < ticket_of m
      later_seen e ne =
          let c = claim_at v d.at d.base p s h.sealed.claimed e in
          not_below (ticket_of m) d.at s (λ l. (t.learns.fresh own).same c.among.0 c.claim c.among.1 c.on (omega (arith, l, c.at_number)) ∙ c.with_ticket) ne

      later_tested : Among p d.loaded → writes d.us p ≡ false → s ≡ ticket_from 0 found_tickets.items p → ticket_of m ≢ s → d.at < ticket_of m
      later_tested a e is ne =
          let k = h.tests p a e in
          let r = read_ticket d.base p (read_loaded a) in
          let c = claim_at v d.at d.base p r.0 h.sealed.claimed r.1 in
          let above : k.claim.ticket ≤ ticket_of m = (t.learns.fresh own).claims k.among.0 k.claim k.among.1 k.on in
          let low : r.0 ≤ ticket_from 0 found_tickets.items p = k.not_before r.0 r.1 in
          not_below (ticket_of m) d.at s (λ l.
          let as_read : ticket_of m ≡ r.0 = (t.learns.fresh own).same c.among.0 c.claim c.among.1 c.on (omega (arith, l, c.at_number)) ∙ c.with_ticket in
          omega (arith, as_read, above, low, is, k.with_ticket)) ne

      later : ticket_of m ≢ s → d.at < ticket_of m
      later ne = elim expected [
        | inl k ↦ later_seen k.1 ne
        | inr k ↦ later_tested k.0 k.1 k.2 ne
      ]

      pub check_changed : ticket_of m ≢ s → IsDropping d ticket (Changed d.at p (ticket_of m)) w
      check_changed ne =
          let one : Finding = record { start = v.starts; part = p; version = m; held = holds p v.held } in
          let same : w.starts ≡ v.starts = ap (λ (y : View). y.starts) is_it in
          let there : HasFound it p (ticket_of m) = record { finding = one; among = among_snoc v.findings one; start = refl; on = refl; is = refl; own = or_cases (is_free m) (holds p v.held) own } in
          dropping (Changed d.at p (ticket_of m)) (
            refl,
            record {
              runs = prefix d.m d.f it d.at d.base d.items d.us d.rs sealed.log sealed.claimed;
              touched = touched;
              unsettled = unsettled_sealed d.m d.valid d.sizes d.f d.at d.base d.items d.us d.rs v h.sealed;
              found = there;
              later = later ne;
              wrote = subst (λ (y : View). Among (record { start = v.starts; ticket = ticket_of m; part = p }) y.wrote) is_it (t.learns.wrote own (omega (arith, later ne)));
            },
          )

      pub check_reason : ticket_of m ≢ s → Contains d.items (Seen p) ⊎ IsByTest d.items w p (ticket_of m)
      check_reason ne = elim expected [
        | inl k ↦ inl (h.planned.of_seen k.0.0 p k.0.1)
        | inr k ↦
            let old : WasFound v p s = subst (λ (y : ℕ). WasFound v p y) (sym k.2) (h.tests p k.0 k.1).known in
            let now = found_still v it refl (λ z a. among_front v.findings _ z a) (wrote_kept v p m) p s old in
            let is : IsByTest d.items it p (ticket_of m) = record { unseen = loaded_unseen d h.planned p k.0; before = s; found = now.found; other = λ e. ne (sym e) } in
            inr (subst (λ (y : View). IsByTest d.items y p (ticket_of m)) (sym is_it) is)
      ]

      low : s < ticket
      low = elim expected [
        | inl k ↦ let c = claim_at v d.at d.base p s h.sealed.claimed k.1 in omega (arith, c.early, h.above)
        | inr k ↦ let y = h.tests p k.0 k.1 in omega (arith, y.below, k.2)
      ]

      pub check_goes : ticket_of m ≡ s → (next : ℕ) → next ≡ suc n → IsCheckingAt d next ticket found_tickets loaded_words w
      check_goes same next to =
          let ticket_is : own_ticket v.phase ≡ ticket = ap own_ticket h.phase in
          let below : nat_lt (ticket_of m) (own_ticket v.phase) ≡ true = under (ticket_of m) (own_ticket v.phase) (omega (arith, same, low, ticket_is)) in
          let passed : passes_check v p m ≡ true = both_true (is_own_or_free v p m) (nat_lt (ticket_of m) (own_ticket v.phase)) own below in
          let all_checked : it.checked ≡ v.checked ++ (p, s) ∷ [] =
          ap (λ (b : Bool). if b then v.checked ++ (p, ticket_of m) ∷ [] else v.checked) passed ∙ ap (λ (k : ℕ). v.checked ++ (p, k) ∷ []) same in
          let here : Among (p, s) it.checked = subst (λ (l : List (ℕ × ℕ)). Among (p, s) l) (sym all_checked) (among_snoc v.checked (p, s)) in
          let front : (y : ℕ × ℕ) → Among y v.checked → Among y it.checked = λ y a. subst (λ (l : List (ℕ × ℕ)). Among y l) (sym all_checked) (among_front v.checked (p, s) y a) in
          let old : (q : ℕ) → IsChecked d found_tickets.items v q → IsChecked d found_tickets.items it q = λ q k. record { seen = λ r a e. front (q, r) (k.seen r a e); tested = λ a e. front (q, ticket_from 0 found_tickets.items q) (k.tested a e) } in
          let new : IsChecked d found_tickets.items it p = record { seen = λ r a e. new_seen r a e here; tested = λ a e. new_tested a e here } in
          let checks : Each (IsChecked d found_tickets.items it) (take (suc n) d.checks) =
          subst (λ (l : List ℕ). Each (IsChecked d found_tickets.items it) l) (sym (take_get d.checks n p get)) (each_snoc (IsChecked d found_tickets.items it) (take n d.checks) p (each_but (IsChecked d found_tickets.items v) (IsChecked d found_tickets.items it) old (take n d.checks) h.checked) new) in
          let all : IsCheckingAt d (suc n) ticket found_tickets loaded_words it = record {
            sealed = sealed;
            planned = h.planned;
            phase = h.phase;
            above = h.above;
            holding = record { held = h.holding.held };
            found = record {
              tickets = h.found.tickets;
              reads = h.found.reads;
              known = each_but (λ (y : Held). WasFound v y.part y.ticket) (λ (y : Held). WasFound it y.part y.ticket) (λ y k. found_still v it refl (λ z a. among_front v.findings (record { start = v.starts; part = p; version = m; held = holds p v.held }) z a) (wrote_kept v p m) y.part y.ticket k) v.held h.found.known;
            };
            adds = h.adds;
            entry = h.entry;
            drawn = h.drawn;
            fate = h.fate;
            updates = h.updates;
            looks = h.looks;
            looked = h.looked;
            tests = λ q a e. let k = h.tests q a e in record { claim = k.claim; among = k.among; on = k.on; with_ticket = k.with_ticket; known = found_still v it refl (λ z a. among_front v.findings _ z a) (wrote_kept v p m) q (ticket_from 0 found_tickets.items q) k.known; not_before = k.not_before; below = k.below };
            checked = checks;
          } in
          subst (λ (k : ℕ). IsCheckingAt d k ticket found_tickets loaded_words w) (sym to) (subst (λ (y : View). IsCheckingAt d (suc n) ticket found_tickets loaded_words y) (sym is_it) all)
        where
          under : (a b : ℕ) → a < b → nat_lt a b ≡ true
          under a b l = grind (arith, nat_tests, l)

          new_seen : (r : ℕ) → Among p d.seen → ticket_in d.base p ≡ Some r → Among (p, s) it.checked → Among (p, r) it.checked
          new_seen r a e here = elim expected [
            | inl k ↦ let both : Some s ≡ Some r = sym k.1 ∙ e in let same : s ≡ r = cc in subst (λ (k : ℕ). Among (p, k) it.checked) same here
            | inr k ↦ absurd (h.planned.apart a.0 p a.1 k.0.0 p k.0.1 refl)
          ]

          new_tested : Among p d.loaded → writes d.us p ≡ false → Among (p, s) it.checked → Among (p, ticket_from 0 found_tickets.items p) it.checked
          new_tested a e here = elim expected [
            | inl k ↦ absurd (h.planned.apart k.0.0 p k.0.1 a.0 p a.1 refl)
            | inr k ↦ subst (λ (k : ℕ). Among (p, k) it.checked) k.2 here
          ]

-- the number that the code expects is the one that the check is to find
module _ (d : Deal) (law : IsLawful d.m) (n ticket : ℕ) (found_tickets : Listed FoundTicket) (loaded_words : List LoadedWord) (v : View) (h : IsCheckingAt d n ticket found_tickets loaded_words v) (p : ℕ) (get : slice_get d.checks n ≡ Some p) where
  pub expected_is : (s : ℕ) → s ≡ expected_of d.base found_tickets.items d.seen p → IsExpected d found_tickets.items p s
  expected_is s is = elim (each_get (λ (p : ℕ). Among p d.seen ⊎ (Among p d.loaded × (writes d.us p ≡ false))) d.checks n p get h.planned.from_checks) [
    | inl a ↦
        let seen : list_any (is_same_part p) d.seen ≡ true = any_among d.seen p a.0 a.1 in
        let read = all_contained (IsRead (words_in d.base)) d.items (Seen p) (h.planned.of_seen a.0 p a.1) h.sealed.log.read in
        let r = read_ticket d.base p read in
        let now : expected_of d.base found_tickets.items d.seen p ≡ r.0 = rw (seen, r.1) refl in
        inl (a, r.1 ∙ ap (λ (k : ℕ). Some k) (sym (is ∙ now)))
    | inr b ↦
        let unseen : list_any (is_same_part p) d.seen ≡ false = not_true (list_any (is_same_part p) d.seen) (λ e. let a = among_any d.seen p e in h.planned.apart a.0 p a.1 b.0.0 p b.0.1 refl) in
        let now : expected_of d.base found_tickets.items d.seen p ≡ ticket_from 0 found_tickets.items p = rw unseen refl in
        inr (b.0, b.1, is ∙ now)
  ]

or_right : (a b : Bool) → b ≡ true → (a || b) ≡ true
or_right true b e = refl
or_right false b e = e

or_left : (a b : Bool) → a ≡ true → (a || b) ≡ true
or_left true b e = refl
or_left false b e = cc

-- whether a version is free, or the part is held, by what the code tests
module _ (d : Deal) (n ticket : ℕ) (found_tickets : Listed FoundTicket) (loaded_words : List LoadedWord) (v : View) (h : IsCheckingAt d n ticket found_tickets loaded_words v) (p m : ℕ) where
  pub own_free : is_free m ≡ true → is_own_or_free v p m ≡ true
  own_free e = or_left (is_free m) (holds p v.held) e

  pub own_written : writes d.us p ≡ true → is_own_or_free v p m ≡ true
  own_written e = or_right (is_free m) (holds p v.held) (sym (held_written d.us v p (record { held = h.holding.held })) ∙ e)
