-- The test of a part that is not held.
use Rattle.std.proofs.Common.{◌≡◌, ◌≤◌, ◌<◌, ◌+◌, ◌-◌, ℕ, zero, suc, ℤ, true, false, Bool, nat_eq, if◌then◌else◌, Some, List, [], ◌∷◌, ◌++◌, length, length-append, take, refl, ap, sym, ◌∙◌, subst, arith, inl, inr, slice_index_or, eq-eqb, eqb-true, true≢false}
use Rattle.std.proofs.lemmas.Bool.{cases_Bool}
use Rattle.std.proofs.lemmas.Bool.Decides.{nat_tests}
use Rattle.std.specs.List.{Contains}
use Rattle.sto_part.specs.Listed.{Listed}
use Rattle.sto_part.specs.declared.pred.Pred.{Pred}
use Rattle.sto_item.specs.declared.item.Item.{Item}
use Rattle.sto_item.specs.declared.item.Item.TheVariants.{Holds}
use Rattle.sto_item.specs.Observed.{part_of_item}
use Rattle.sto_core.specs.declared.view.Held.{Held}
use Rattle.sto_core.specs.declared.view.Finding.{Finding}
use Rattle.sto_core.specs.declared.view.Phase.{Phase}
use Rattle.sto_core.specs.declared.view.Phase.TheVariants as P
use Rattle.sto_core.specs.declared.view.View.{View}
use Rattle.sto_core.specs.Lists.{Each, Among}
use Rattle.sto_core.specs.Versions.{ticket_of, is_free}
use Rattle.sto_core.specs.History.{writes}
use Rattle.sto_core.specs.Reads.{Reads, AllRead, words_read}
use Rattle.sto_core.specs.Views.{holds, width_in}
use Rattle.sto_core.specs.Event.{Test, Word, found, fresh_read, read_by, is_own_or_free}
use Rattle.sto_core.specs.Allowed.{Allowed, HasPart, MayRead, Rises, RisesFrom}
use Rattle.sto_core.specs.Tells.{Tells, ClaimsFit, Fresh}
use Rattle.sto_core.proofs.Lists.{among_snoc, each_snoc}
use Rattle.sto_type.specs.Meaning.{IsLawful}
use Rattle.sto_attempt_log.specs.declared.read_entry.ReadEntry.{ReadEntry}
use Rattle.sto_attempt_log.specs.declared.commit_phase.FoundTicket.{FoundTicket}
use Rattle.sto_attempt_log.specs.declared.commit_phase.LoadedWord.{LoadedWord}
use Rattle.sto_attempt_log.specs.declared.verdict.Verdict.TheVariants.{Locked}
use Rattle.sto_attempt_log.specs.Every.{AllOf}
use Rattle.sto_type.specs.Touching.{HasTouched}
use Rattle.sto_attempt_log.specs.Answers.{HasFound}
use Rattle.sto_attempt_log.specs.Log.{IsRead}
use Rattle.sto_attempt_log.specs.ReadSet.{words_in, ticket_in, claim_of, IsClaimed}
use Rattle.sto_attempt_log.specs.CommitPhases.{Deal, task, ticket_from, reads_of, FailsWith, IsDone, IsAsBefore, IsTrueOn, IsFreshAt, IsPlanned, WasFound, IsLeaving, IsTestingAt, IsTestedWord}
use Rattle.sto_attempt_log.proofs.Every.{all_contained}
use Rattle.sto_attempt_log.proofs.Drawing.{read_entry_of, read_words}
use Rattle.sto_attempt_log.proofs.Moving.{width_of}
use Rattle.sto_attempt_log.proofs.Prefix.{prefix}
use Rattle.sto_attempt_log.proofs.Reading.{has_part, among_front}
use Rattle.sto_attempt_log.proofs.Ticketing.{held_written}
use Rattle.sto_attempt_log.proofs.Leaving.{Sealed, sealed_still, prefix_still, some_update}
use Rattle.sto_attempt_log.proofs.Locking.{ticket_other, ticket_own, found_still, wrote_kept}
use Rattle.sto_attempt_log.proofs.Loading.{each_at, each_but, each_cons, before_below, reads_own, reads_other, all_more}
use Rattle.sto_attempt_log.proofs.Unsettled.{unsettled_sealed}

turned : (q p : ℕ) → nat_eq q p ≡ false → nat_eq p q ≡ false
turned q p e = grind (arith, nat_tests, e)

above_at : (k : ℕ) (l : List ℕ) (n : ℕ) → RisesFrom k l → n < length l → k < slice_index_or l n 0
above_at k [] n r h = absurd (omega (arith, h))
above_at k (x ∷ l) zero r h = r.0
above_at k (x ∷ l) (suc n) r h = omega (arith, r.0, above_at x l n r.1 (omega (arith, h)))

rises_after : (k : ℕ) (l : List ℕ) (n j : ℕ) → RisesFrom k l → n < j → j < length l → slice_index_or l n 0 < slice_index_or l j 0
rises_after k [] n j r m h = absurd (omega (arith, h))
rises_after k (x ∷ l) n zero r m h = absurd (omega (arith, m))
rises_after k (x ∷ l) zero (suc j) r m h = above_at x l j r.1 (omega (arith, h))
rises_after k (x ∷ l) (suc n) (suc j) r m h = rises_after x l n j r.1 (omega (arith, m)) (omega (arith, h))

pub rises_at : (l : List ℕ) (n j : ℕ) → Rises l → n < j → j < length l → slice_index_or l n 0 < slice_index_or l j 0
rises_at [] n j r m h = absurd (omega (arith, h))
rises_at (x ∷ l) n zero r m h = absurd (omega (arith, m))
rises_at (x ∷ l) zero (suc j) r m h = above_at x l j r (omega (arith, h))
rises_at (x ∷ l) (suc n) (suc j) r m h = rises_after x l n j r (omega (arith, m)) (omega (arith, h))

-- no word of a part that is not held was loaded before its place
none_loaded : (d : Deal) (n : ℕ) (loaded_words : List LoadedWord) → n < length d.tasks → writes d.us (task d n) ≡ false → Each (IsFreshAt d n) loaded_words → reads_of loaded_words (task d n) ≡ []
none_loaded d n [] b free e = refl
none_loaded d n (l ∷ loaded_words) b free e = elim (cases_Bool (nat_eq l.part (task d n))) [
  | inl hit ↦
      let same : l.part ≡ task d n = eqb-true l.part (task d n) hit in
      let is : writes d.us l.part ≡ true = (e 0 l refl).held n (omega arith) b same in
      absurd (true≢false (sym is ∙ ap (writes d.us) same ∙ free))
  | inr miss ↦ rw miss (none_loaded d n loaded_words b free (λ j x s. e (suc j) x s))
]

-- a part of those to be loaded that is not held
module _ (d : Deal) (law : IsLawful d.m) (n : ℕ) (v : View) (sealed : Sealed d v) (planned : IsPlanned d) (below : n < length d.tasks) (unwritten : writes d.us (task d n) ≡ false) where
  pub task_loaded : Among (task d n) d.loaded
  task_loaded = each_at (λ (q : ℕ). writes d.us q ≡ false → Among q d.loaded) d.tasks n 0 planned.from_tasks below unwritten

  on : (q : Pred) × Contains d.items (Holds q) × (q.part ≡ task d n)
  on = planned.on_loaded task_loaded.0 (task d n) task_loaded.1

  pub task_touched : HasTouched d.m d.f d.rs (task d n)
  task_touched = subst (HasTouched d.m d.f d.rs) on.2 (all_contained (λ (y : Item). HasTouched d.m d.f d.rs (part_of_item y)) d.items (Holds on.0) on.1 sealed.log.touched_items)

  pub task_read : (ws : List ℤ) × (words_in d.base (task d n) ≡ Some ws)
  task_read =
      let k : (ws : List ℤ) × (words_in d.base on.0.part ≡ Some ws) = read_words d.base on.0.part (all_contained (IsRead (words_in d.base)) d.items (Holds on.0) on.1 sealed.log.read) in
      (k.0, subst (λ (y : ℕ). words_in d.base y ≡ Some k.0) on.2 k.1)

  pub task_read_entry : (s : ReadEntry) × IsClaimed v d.at s × (s.part ≡ task d n) × (s.words.items ≡ task_read.0)
  task_read_entry = read_entry_of v d.at d.base (task d n) task_read.0 sealed.claimed task_read.1

  pub read_entry_ticket : ticket_in d.base (task d n) ≡ Some task_read_entry.0.ticket
  read_entry_ticket = subst (λ (q : ℕ). ticket_in d.base q ≡ Some task_read_entry.0.ticket) task_read_entry.2 (sealed.only task_read_entry.1.among.0 (claim_of v d.at task_read_entry.0) task_read_entry.1.among.1 refl refl)

  pub part_there : HasPart v (task d n)
  part_there = has_part d.m law d.valid d.sizes d.f d.at (task d n) d.rs v sealed.own task_touched

  pub part_wide : width_in v (task d n) ≡ slice_index_or d.m.widths (task d n) 0
  part_wide = sym (width_of v.opening (task d n)) ∙ ap (λ (l : List ℕ). slice_index_or l (task d n) 0) (law.widths v.opening sealed.own.opening)

  module _ (t : ℕ) (fresh : Fresh v (task d n) t) where
    pub not_before_it : (s : ℕ) → ticket_in d.base (task d n) ≡ Some s → s ≤ t
    not_before_it s e =
        let same : Some s ≡ Some task_read_entry.0.ticket = sym e ∙ read_entry_ticket in
        let is : s ≡ task_read_entry.0.ticket = cc in
        omega (arith, is, fresh.claims task_read_entry.1.among.0 (claim_of v d.at task_read_entry.0) task_read_entry.1.among.1 task_read_entry.2)

    pub early_is : t ≤ d.at → ticket_in d.base (task d n) ≡ Some t
    early_is l = read_entry_ticket ∙ ap (λ (k : ℕ). Some k) (sym (fresh.same task_read_entry.1.among.0 (claim_of v d.at task_read_entry.0) task_read_entry.1.among.1 task_read_entry.2 l))

-- the test
module _ (d : Deal) (law : IsLawful d.m) (n : ℕ) (found_tickets : Listed FoundTicket) (loaded_words : List LoadedWord) (v : View) (h : IsTestingAt d n found_tickets loaded_words v) where
  abbrev p : ℕ
  p = task d n

  unheld : holds p v.held ≡ false
  unheld = sym (held_written d.us v p (record { held = h.loading.holding.held })) ∙ h.unwritten

  touched : HasTouched d.m d.f d.rs p
  touched = task_touched d law n v h.loading.going.sealed h.loading.going.planned h.below h.unwritten

  pub test_unheld : holds (task d n) v.held ≡ false
  test_unheld = unheld

  pub may_test : Allowed d.valid (Test (task d n)) v
  may_test = (h.loading.phase, part_there d law n v h.loading.going.sealed h.loading.going.planned h.below h.unwritten, unheld)

  module _ (w : View) (passes m : ℕ) (x : ℤ) (t : Tells d.valid passes (Test (task d n)) v m x w) where
    module _ (busy : is_free m ≡ false) where
      abbrev met : View
      met = record (found v p m) { phase = v.phase }

      is_met : w ≡ met
      is_met = t.after ∙ ap (λ (b : Bool). record (found v p m) { phase = if b then P.Testing (fresh_read p m) else v.phase }) busy

      fails : FailsWith d met (Locked d.at p)
      fails =
          let one : Finding = record { start = v.starts; part = p; version = m; held = false } in
          let there : Among one met.findings =
          subst (λ (b : Bool). Among one (v.findings ++ record { start = v.starts; part = p; version = m; held = b } ∷ [])) (sym unheld) (among_snoc v.findings one) in (
            refl,
            record {
              runs = prefix_still d v met refl refl (prefix d.m d.f v d.at d.base d.items d.us d.rs h.loading.going.sealed.log h.loading.going.sealed.claimed);
              touched = touched;
              unsettled = unsettled_sealed d.m d.valid d.sizes d.f d.at d.base d.items d.us d.rs v h.loading.going.sealed;
              found = record { version = m; among = there; locked = busy };
            },
          )

      pub test_leaves : IsLeaving d 0 (length d.us) (Locked d.at (task d n)) w
      test_leaves =
          let it : IsLeaving d 0 (length d.us) (Locked d.at p) met = record {
            below = (some_update d h.loading.going.sealed.some, omega arith);
            sealed = sealed_still d v met refl refl refl refl refl (subst (ClaimsFit d.valid) is_met t.fit) h.loading.going.sealed;
            phase = inl h.loading.phase;
            holding = record { held = h.loading.holding.held };
            planned = h.loading.going.planned;
            decided = h.loading.going.decided;
            ends = fails;
          } in
          subst (λ (y : View). IsLeaving d 0 (length d.us) (Locked d.at p) y) (sym is_met) it

    module _ (free : is_free m ≡ true) (ticket : ℕ) (is_ticket : ticket ≡ ticket_of m) (found_tickets' : Listed FoundTicket) (pushed : found_tickets' ≡ record { items = found_tickets.items ++ record { part = task d n; ticket = ticket } ∷ []; spare = found_tickets.spare - 1 }) where
      abbrev new : FoundTicket
      new = record { part = p; ticket = ticket }

      more : found_tickets'.items ≡ found_tickets.items ++ new ∷ []
      more = ap (λ (l : Listed FoundTicket). l.items) pushed

      spare : found_tickets'.spare ≡ found_tickets.spare - 1
      spare = ap (λ (l : Listed FoundTicket). l.spare) pushed

      length_more : length found_tickets'.items ≡ length found_tickets.items + 1
      length_more = ap length more ∙ length-append found_tickets.items (new ∷ [])

      abbrev begun : View
      begun = record (found v p m) { phase = P.Testing (fresh_read p m) }

      is_begun : w ≡ begun
      is_begun = t.after ∙ ap (λ (b : Bool). record (found v p m) { phase = if b then P.Testing (fresh_read p m) else v.phase }) free

      own : is_own_or_free v p m ≡ true
      own = rw free refl

      fresh : Fresh v p ticket
      fresh = subst (λ (k : ℕ). Fresh v p k) (sym is_ticket) (t.learns.fresh own)

      -- other parts keep their tickets
      stays : (q : ℕ) → nat_eq p q ≡ false → ticket_from 0 found_tickets.items q ≡ ticket_from 0 found_tickets'.items q
      stays q e = sym (ap (λ (l : List FoundTicket). ticket_from 0 l q) more ∙ ticket_other 0 found_tickets.items new q e)

      written_other : (q : ℕ) → writes d.us q ≡ true → nat_eq p q ≡ false
      written_other q e = elim (cases_Bool (nat_eq p q)) [
        | inl hit ↦ absurd (true≢false (sym e ∙ ap (writes d.us) (sym (eqb-true p q hit)) ∙ h.unwritten))
        | inr miss ↦ miss
      ]

      held_other : (hs : List Held) → holds p hs ≡ false → Each (λ (y : Held). nat_eq p y.part ≡ false) hs
      held_other [] e = λ j y s. cc
      held_other (y ∷ hs) e = elim (cases_Bool (nat_eq y.part p)) [
        | inl hit ↦ let bad : true ≡ false = rw hit at e in absurd (true≢false bad)
        | inr miss ↦ each_cons (λ (z : Held). nat_eq p z.part ≡ false) y hs (turned y.part p miss) (held_other hs (rw miss at e))
      ]

      tickets_begun : Each (λ (y : Held). y.ticket ≡ ticket_from 0 found_tickets'.items y.part) v.held
      tickets_begun = λ j y e. h.loading.found.tickets j y e ∙ stays y.part (held_other v.held unheld j y e)

      known_begun : Each (λ (y : Held). WasFound begun y.part y.ticket) v.held
      known_begun = λ j y e. found_still v begun refl (λ z a. among_front v.findings _ z a) (wrote_kept v p m) y.part y.ticket (h.loading.found.known j y e)

      done_begun : Each (IsDone d found_tickets'.items loaded_words begun) (take n d.tasks)
      done_begun = λ j q e.
          let below : q < p = before_below d.tasks n h.loading.going.planned.tasks_rise h.below j q e in
          one q (stays q (apart q below)) (h.loading.done j q e)
        where
          apart : (q : ℕ) → q < p → nat_eq p q ≡ false
          apart q l = grind (arith, nat_tests, l)

          one : (q : ℕ) → ticket_from 0 found_tickets.items q ≡ ticket_from 0 found_tickets'.items q → IsDone d found_tickets.items loaded_words v q → IsDone d found_tickets'.items loaded_words begun q
          one q same was = record {
            read = was.read;
            tested = λ free. let old = was.tested free in (old.0, old.1, old.2 ∙ same, λ s e. subst (λ (k : ℕ). s ≤ k) same (old.3 s e), subst (λ (k : ℕ). WasFound begun q k) same (found_still v begun refl (λ z a. among_front v.findings _ z a) (wrote_kept v p m) q (ticket_from 0 found_tickets.items q) old.4));
            true_on = was.true_on;
          }

      same_begun : Each (IsAsBefore d found_tickets'.items) loaded_words
      same_begun = each_but (IsAsBefore d found_tickets.items) (IsAsBefore d found_tickets'.items) one loaded_words h.loading.same
        where
          one : (l : LoadedWord) → IsAsBefore d found_tickets.items l → IsAsBefore d found_tickets'.items l
          one l was = record { same = λ is early ws e. was.same is (subst (λ (k : ℕ). k ≤ d.at) (sym (stays l.part (written_other l.part is))) early) ws e }

      known_it : WasFound begun p ticket
      known_it =
          let finding : Finding = record { start = v.starts; part = p; version = m; held = holds p v.held } in
          let here : HasFound begun p (ticket_of m) = record { finding = finding; among = among_snoc v.findings finding; start = refl; on = refl; is = refl; own = inl free } in
          let wrote : 0 < ticket_of m → Among (record { start = v.starts; ticket = ticket_of m; part = p }) begun.wrote = λ l.
          let there = t.learns.wrote own l in subst (λ (y : View). Among (record { start = v.starts; ticket = ticket_of m; part = p }) y.wrote) is_begun there in
          let it : WasFound begun p (ticket_of m) = record { found = here; wrote = wrote } in
          subst (λ (k : ℕ). WasFound begun p k) (sym is_ticket) it

      phase_begun : P.Testing (fresh_read p m) ≡ P.Testing (record { part = p; ticket = ticket; reads = reads_of loaded_words p })
      phase_begun =
          ap (λ (k : ℕ). P.Testing (record { part = p; ticket = k; reads = [] })) (sym is_ticket)
          ∙ ap (λ (l : Reads). P.Testing (record { part = p; ticket = ticket; reads = l })) (sym (none_loaded d n loaded_words h.below h.unwritten h.loading.fresh))

      pub test_goes : IsTestedWord d n 0 ticket found_tickets' loaded_words w
      test_goes =
          let it : IsTestedWord d n 0 ticket found_tickets' loaded_words begun = record {
            going = record { sealed = sealed_still d v begun refl refl refl refl refl (subst (ClaimsFit d.valid) is_begun t.fit) h.loading.going.sealed; planned = h.loading.going.planned; draws = h.loading.going.draws; decided = h.loading.going.decided };
            phase = phase_begun;
            holding = record { held = h.loading.holding.held };
            found = record { tickets = tickets_begun; reads = h.loading.found.reads; known = known_begun };
            room = record { used = omega (arith, length_more, h.loading.room.used); spare = omega (arith, spare, h.loading.room.spare, h.below) };
            done = done_begun;
            same = same_begun;
            fresh = each_but (IsFreshAt d n) (IsFreshAt d (suc n)) (λ l f. record { held = λ k m. f.held k (omega (arith, m)) }) loaded_words h.loading.fresh;
            below = h.below;
            unwritten = h.unwritten;
            within = omega arith;
            words = λ j l. absurd (omega (arith, l));
            ticket = ap (λ (l : List FoundTicket). ticket_from 0 l p) more ∙ ticket_own 0 found_tickets.items new p (eq-eqb p p refl);
            known = known_it;
            not_before = not_before_it d law n v h.loading.going.sealed h.loading.going.planned h.below h.unwritten ticket fresh;
            early = early_is d law n v h.loading.going.sealed h.loading.going.planned h.below h.unwritten ticket fresh;
          } in
          subst (λ (y : View). IsTestedWord d n 0 ticket found_tickets' loaded_words y) (sym is_begun) it

-- a word of the part
module _ (d : Deal) (law : IsLawful d.m) (n i t : ℕ) (found_tickets : Listed FoundTicket) (loaded_words : List LoadedWord) (v : View) (h : IsTestedWord d n i t found_tickets loaded_words v) where
  abbrev r : ℕ
  r = task d n

  there_wide : width_in v r ≡ slice_index_or d.m.widths r 0
  there_wide = part_wide d law n v h.going.sealed h.going.planned h.below h.unwritten

  pub may_read_word : i < slice_index_or d.m.widths (task d n) 0 → Allowed d.valid (Word (task d n) i) v
  may_read_word l = (subst (MayRead v r) (sym h.phase) refl, (part_there d law n v h.going.sealed h.going.planned h.below h.unwritten, omega (arith, l, there_wide)))

  module _ (l : i < slice_index_or d.m.widths (task d n) 0) (w : View) (passes m : ℕ) (x : ℤ) (tells : Tells d.valid passes (Word (task d n) i) v m x w) where
    abbrev word : LoadedWord
    word = record { part = task d n; word = i; value = x }

    abbrev loaded_words' : List LoadedWord
    loaded_words' = loaded_words ++ word ∷ []

    abbrev read : View
    read = record v { steps = v.steps + 1; phase = P.Testing (record { part = r; ticket = t; reads = reads_of loaded_words r ++ (i, x) ∷ [] }) }

    is_read : w ≡ read
    is_read = tells.after ∙ ap (λ (k : Phase). read_by k v r i x) h.phase

    own_reads : reads_of loaded_words' r ≡ reads_of loaded_words r ++ (i, x) ∷ []
    own_reads = reads_own loaded_words word r (eq-eqb r r refl)

    done_read : Each (IsDone d found_tickets.items loaded_words' read) (take n d.tasks)
    done_read = λ j q e.
        let below : q < r = before_below d.tasks n h.going.planned.tasks_rise h.below j q e in
        one q (apart q below) (h.done j q e)
      where
        apart : (q : ℕ) → q < r → nat_eq r q ≡ false
        apart q l = grind (arith, nat_tests, l)

        one : (q : ℕ) → nat_eq r q ≡ false → IsDone d found_tickets.items loaded_words v q → IsDone d found_tickets.items loaded_words' read q
        one q other was =
            let same : reads_of loaded_words q ≡ reads_of loaded_words' q = sym (reads_other loaded_words word q other) in
            record {
              read = subst (λ (l : Reads). AllRead l (width_in v q)) same was.read;
              tested = λ free. let old = was.tested free in (old.0, old.1 ∙ ap (λ (l : Reads). words_read l (width_in v q)) same, old.2, old.3, found_still v read refl (λ z a. a) (λ z a. a) q (ticket_from 0 found_tickets.items q) old.4);
              true_on = λ unseen. subst (λ (l : Reads). AllOf (IsTrueOn q (words_read l (width_in v q))) d.items) same (was.true_on unseen);
            }

    unheld_r : holds r v.held ≡ false
    unheld_r = sym (held_written d.us v r (record { held = h.holding.held })) ∙ h.unwritten

    reads_read : (hs : List Held) → holds r hs ≡ false → Each (λ (y : Held). y.reads ≡ reads_of loaded_words y.part) hs → Each (λ (y : Held). y.reads ≡ reads_of loaded_words' y.part) hs
    reads_read [] f e = λ j y s. cc
    reads_read (y ∷ hs) f e = elim (cases_Bool (nat_eq y.part r)) [
      | inl hit ↦ let bad : true ≡ false = rw hit at f in absurd (true≢false bad)
      | inr miss ↦ each_cons (λ (z : Held). z.reads ≡ reads_of loaded_words' z.part) y hs (e 0 y refl ∙ sym (reads_other loaded_words word y.part (turned y.part r miss))) (reads_read hs (rw miss at f) (λ j z s. e (suc j) z s))
    ]

    fresh_read_word : IsFreshAt d (suc n) word
    fresh_read_word = record { held = λ k m l e. absurd (apart k e (rises_at d.tasks n k h.going.planned.tasks_rise (omega (arith, m)) l)) }
      where
        apart : (k : ℕ) → r ≡ slice_index_or d.tasks k 0 → r < slice_index_or d.tasks k 0 → ⊥
        apart k e l = omega (arith, e, l)

    pub word_goes : (next : ℕ) → next ≡ suc i → IsTestedWord d n next t found_tickets loaded_words' w
    word_goes next is =
        let it : IsTestedWord d n (suc i) t found_tickets loaded_words' read = record {
          going = record { sealed = sealed_still d v read refl refl refl refl refl (subst (ClaimsFit d.valid) is_read tells.fit) h.going.sealed; planned = h.going.planned; draws = h.going.draws; decided = h.going.decided };
          phase = ap (λ (l : Reads). P.Testing (record { part = r; ticket = t; reads = l })) (sym own_reads);
          holding = record { held = h.holding.held };
          found = record { tickets = h.found.tickets; reads = reads_read v.held unheld_r h.found.reads; known = λ j y e. found_still v read refl (λ z a. a) (λ z a. a) y.part y.ticket (h.found.known j y e) };
          room = h.room;
          done = done_read;
          same = each_snoc (IsAsBefore d found_tickets.items) loaded_words word h.same (record { same = λ is. absurd (true≢false (sym is ∙ h.unwritten)) });
          fresh = each_snoc (IsFreshAt d (suc n)) loaded_words word h.fresh fresh_read_word;
          below = h.below;
          unwritten = h.unwritten;
          within = l;
          words = subst (λ (l : Reads). AllRead l (suc i)) (sym own_reads) (all_more (reads_of loaded_words r) i x h.words);
          ticket = h.ticket;
          known = found_still v read refl (λ z a. a) (λ z a. a) r t h.known;
          not_before = h.not_before;
          early = h.early;
        } in
        subst (λ (k : ℕ). IsTestedWord d n k t found_tickets loaded_words' w) (sym is) (subst (λ (y : View). IsTestedWord d n (suc i) t found_tickets loaded_words' y) (sym is_read) it)
