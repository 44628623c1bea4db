-- The last word of a held part: its predicates are true of what was loaded, or its ticket is a later one.
use Rattle.std.proofs.Common.{◌≡◌, ◌≤◌, ◌<◌, ◌+◌, ℕ, zero, suc, ℤ, pos, true, false, Bool, nat_eq, nat_le, Some, List, [], ◌∷◌, ◌++◌, length, take, refl, ap, sym, ◌∙◌, subst, arith, inl, inr, eqb-true, eq-eqb, slice_index_or, slice_get, true≢false}
use Rattle.std.proofs.lemmas.Bool.{cases_Bool}
use Rattle.std.proofs.lemmas.Bool.Decides.{nat_tests}
use Rattle.std.proofs.lemmas.Option.{slice_get-get_or}
use Rattle.std.specs.List.{Contains, list_all}
use Rattle.sto_type.proofs.Answering.{take_get}
use mathlib.Core.Option.{some, some-ne-none}
use lib.ListN.{get_elem?}
use Rattle.sto_part.specs.Listed.{Listed}
use Rattle.sto_part.specs.Parts.{part_of}
use Rattle.sto_part.specs.declared.pred.Pred.{Pred}
use Rattle.sto_item.specs.declared.item.Item.{Item}
use Rattle.sto_item.specs.declared.item.Item.TheVariants.{Seen, Holds}
use Rattle.sto_item.specs.Observed.{part_of_item}
use Rattle.sto_core.specs.declared.view.Held.{Held}
use Rattle.sto_core.specs.declared.view.View.{View}
use Rattle.sto_core.specs.Lists.{Each, Among}
use Rattle.sto_core.specs.History.{writes}
use Rattle.sto_core.specs.Reads.{Reads, AllRead, ReadsAgree, words_read, words_from, value_read}
use Rattle.sto_core.specs.Views.{holds, hold_of, width_in}
use Rattle.sto_core.specs.Event.{Word}
use Rattle.sto_core.specs.Tells.{Tells}
use Rattle.sto_core.proofs.Lists.{each_snoc, both_are}
use Rattle.sto_core.proofs.ReadWords.{read_whole}
use Rattle.sto_type.specs.Known.{Parts}
use Rattle.sto_type.specs.Meaning.{IsLawful}
use Rattle.sto_attempt_log.specs.declared.commit_phase.FoundTicket.{FoundTicket}
use Rattle.sto_attempt_log.specs.declared.commit_phase.LoadedWord.{LoadedWord}
use Rattle.sto_attempt_log.specs.declared.verdict.Verdict.TheVariants.{Changed}
use Rattle.sto_attempt_log.specs.Every.{AllOf}
use Rattle.sto_type.specs.Touching.{HasTouched}
use Rattle.sto_attempt_log.specs.Log.{IsRead, IsInside}
use Rattle.sto_part.specs.Preds.{holds_of}
use Rattle.sto_attempt_log.specs.ReadSet.{words_in, IsTrueIn, HasClaims}
use Rattle.sto_attempt_log.specs.Reasons.{IsReadHeld, IsByPredicate}
use Rattle.sto_attempt_log.specs.CommitPhases.{Deal, task, ticket_from, reads_of, is_so, words_loaded, IsTrueOn, IsDone, IsAsBefore, IsFreshAt, WasFound, IsLeaving, IsLoadingAt, IsLoadingWord}
use Rattle.sto_attempt_log.proofs.Every.{all_contained}
use Rattle.sto_attempt_log.proofs.Claimed.{claims_fit, part_of_claims, claimed_words}
use Rattle.sto_attempt_log.proofs.Drawing.{read_words, were_true}
use Rattle.sto_attempt_log.proofs.Moving.{width_of}
use Rattle.sto_attempt_log.proofs.Observing.{WasTrue}
use Rattle.sto_attempt_log.proofs.Prefix.{prefix}
use Rattle.sto_attempt_log.proofs.Ticketing.{held_written}
use Rattle.sto_attempt_log.proofs.Leaving.{some_update}
use Rattle.sto_attempt_log.proofs.Loading.{each_but, each_cons, hold_has, task_wide, read_view, is_read, after_read, words_more}
use Rattle.sto_attempt_log.proofs.Unsettled.{unsettled_sealed}

-- what was loaded of a part under its hold is what was read before
pub agrees_of : (d : Deal) (found_tickets : List FoundTicket) (loaded_words : List LoadedWord) (p : ℕ) (ws : List ℤ) → Each (IsAsBefore d found_tickets) loaded_words → writes d.us p ≡ true → ticket_from 0 found_tickets p ≤ d.at → words_in d.base p ≡ Some ws → ReadsAgree (reads_of loaded_words p) ws
agrees_of d found_tickets [] p ws e is early read = λ j x h. absurd (some-ne-none x (sym h))
agrees_of d found_tickets (l ∷ loaded_words) p ws e is early read = elim (cases_Bool (nat_eq l.part p)) [
  | inl hit ↦
      let same : l.part ≡ p = eqb-true l.part p hit in
      let one : get_elem? ws l.word ≡ some l.value =
      (e 0 l refl).same (subst (λ (q : ℕ). writes d.us q ≡ true) (sym same) is) (subst (λ (q : ℕ). ticket_from 0 found_tickets q ≤ d.at) (sym same) early) ws (subst (λ (q : ℕ). words_in d.base q ≡ Some ws) (sym same) read) in
      rw hit (each_cons (λ (x : ℕ × ℤ). get_elem? ws x.0 ≡ some x.1) (l.word, l.value) (reads_of loaded_words p) one (agrees_of d found_tickets loaded_words p ws (λ j x s. e (suc j) x s) is early read))
  | inr miss ↦ rw miss (agrees_of d found_tickets loaded_words p ws (λ j x s. e (suc j) x s) is early read)
]

module _ (d : Deal) (law : IsLawful d.m) (n i : ℕ) (found_tickets : Listed FoundTicket) (loaded_words : List LoadedWord) (v : View) (h : IsLoadingWord d n i found_tickets loaded_words v) (w : View) (passes m : ℕ) (x : ℤ) (t : Tells d.valid passes (Word (task d n) i) v m x w)
    (last : suc i ≡ slice_index_or d.m.widths (task d n) 0) where
  abbrev p : ℕ
  p = task d n

  abbrev loaded_words' : List LoadedWord
  loaded_words' = loaded_words ++ record { part = task d n; word = i; value = x } ∷ []

  abbrev read : View
  read = read_view d law n i found_tickets loaded_words v h w passes m x t

  is : w ≡ read
  is = is_read d law n i found_tickets loaded_words v h w passes m x t

  going : IsLoadingAt d n found_tickets loaded_words' read
  going = after_read d law n i found_tickets loaded_words v h w passes m x t

  read_all : AllRead (reads_of loaded_words' p) (width_in v p)
  read_all = subst (AllRead (reads_of loaded_words' p)) (last ∙ sym (task_wide d law n i found_tickets loaded_words v h)) (words_more d law n i found_tickets loaded_words v h w passes m x t)

  pub load_done : ((Among (task d n) d.seen → ⊥) → AllOf (IsTrueOn (task d n) (words_loaded loaded_words' v (task d n))) d.items) → (next : ℕ) → next ≡ suc n → IsLoadingAt d next found_tickets loaded_words' w
  load_done true_all next to =
      let one : IsDone d found_tickets.items loaded_words' read p = record {
        read = read_all;
        tested = λ e. absurd (true≢false (sym h.writes ∙ e));
        true_on = true_all;
      } in
      let at : slice_get d.tasks n ≡ Some p = slice_get-get_or d.tasks n 0 h.below in
      let all : Each (IsDone d found_tickets.items loaded_words' read) (take (suc n) d.tasks) =
      subst (λ (l : List ℕ). Each (IsDone d found_tickets.items loaded_words' read) l) (sym (take_get d.tasks n p at)) (each_snoc (IsDone d found_tickets.items loaded_words' read) (take n d.tasks) p going.done one) in
      let it : IsLoadingAt d (suc n) found_tickets loaded_words' read = record {
        going = going.going;
        phase = going.phase;
        holding = going.holding;
        found = going.found;
        room = record { used = omega (arith, going.room.used); spare = omega (arith, going.room.spare) };
        done = all;
        same = going.same;
        fresh = each_but (IsFreshAt d n) (IsFreshAt d (suc n)) (λ l f. record { held = λ k m. f.held k (omega (arith, m)) }) loaded_words' going.fresh;
      } in
      subst (λ (k : ℕ). IsLoadingAt d k found_tickets loaded_words' w) (sym to) (subst (λ (y : View). IsLoadingAt d (suc n) found_tickets loaded_words' y) (sym is) it)

  module _ (here : (c : Parts) → d.valid v.sizes c → d.m.valid c) (q : Pred) (there : Contains d.items (Holds q)) (on : q.part ≡ task d n) (fails : IsTrueIn (words_loaded loaded_words' v (task d n)) q → ⊥) (unseen : Contains d.items (Seen (task d n)) → ⊥) where
    -- the ticket found is above the number
    not_early : ticket_from 0 found_tickets.items p ≤ d.at → ⊥
    not_early early =
        let c : (y : Parts) × d.valid v.sizes y × HasClaims v d.at y = claims_fit d.valid v d.at h.loading.going.sealed.fit in
        let ok : d.m.valid c.0 = here c.0 c.1 in
        let part = part_of_claims v d.at d.base c.0 h.loading.going.sealed.claimed c.2 in
        let known : (y : ℕ) (ws : List ℤ) → words_in d.base y ≡ Some ws → part_of c.0 y ≡ ws = λ y ws e. claimed_words v d.at d.base c.0 y ws h.loading.going.sealed.claimed c.2 e in
        let were : AllOf (WasTrue (words_in d.base)) d.items = were_true d.m (words_in d.base) d.items c.0 known (h.loading.going.sealed.log.carried.holds c.0 ok part) in
        let was = all_contained (IsRead (words_in d.base)) d.items (Holds q) there h.loading.going.sealed.log.read in
        let k : (ws : List ℤ) × (words_in d.base q.part ≡ Some ws) = read_words d.base q.part was in
        let true_of : IsTrueIn k.0 q = all_contained (WasTrue (words_in d.base)) d.items (Holds q) there were k.0 k.1 in
        let read_p : words_in d.base p ≡ Some k.0 = subst (λ (y : ℕ). words_in d.base y ≡ Some k.0) on k.1 in
        let wide : width_in v p ≡ length k.0 =
        task_wide d law n i found_tickets loaded_words v h ∙ ap (λ (l : List ℕ). slice_index_or l p 0) (sym (law.widths c.0 ok)) ∙ width_of c.0 p ∙ ap length (known p k.0 read_p) in
        let whole : words_loaded loaded_words' v p ≡ k.0 = read_whole (reads_of loaded_words' p) k.0 (width_in v p) wide read_all (agrees_of d found_tickets.items loaded_words' p k.0 going.same h.writes early read_p) in
        fails (subst (λ (ws : List ℤ). IsTrueIn ws q) (sym whole) true_of)

    later : d.at < ticket_from 0 found_tickets.items p
    later = elim (cases_Bool (nat_le (ticket_from 0 found_tickets.items p) d.at)) [
      | inl low ↦ absurd (not_early (below_is low))
      | inr high ↦ above_is high
    ]
      where
        below_is : nat_le (ticket_from 0 found_tickets.items p) d.at ≡ true → ticket_from 0 found_tickets.items p ≤ d.at
        below_is e = grind (arith, nat_tests, e)

        above_is : nat_le (ticket_from 0 found_tickets.items p) d.at ≡ false → d.at < ticket_from 0 found_tickets.items p
        above_is e = grind (arith, nat_tests, e)

    held : holds p read.held ≡ true
    held = sym (held_written d.us read p (record { held = going.holding.held })) ∙ h.writes

    known_p : WasFound read p (ticket_from 0 found_tickets.items p)
    known_p =
        let k = hold_has (λ (y : Held). WasFound read y.part y.ticket) p read.held going.found.known held in
        let s = hold_has (λ (y : Held). y.ticket ≡ ticket_from 0 found_tickets.items y.part) p read.held going.found.tickets held in
        let same : (hold_of p read.held).ticket ≡ ticket_from 0 found_tickets.items p = s.0 ∙ ap (ticket_from 0 found_tickets.items) s.1 in
        subst (λ (y : ℕ). WasFound read p y) same (subst (λ (y : ℕ). WasFound read y (hold_of p read.held).ticket) k.1 k.0)

    pub load_reason : IsByPredicate d.items w (task d n) (ticket_from 0 found_tickets.items (task d n))
    load_reason =
        let a = hold_has (λ (y : Held). Among y read.held) p read.held (λ j y e. (j, e)) held in
        let s = hold_has (λ (y : Held). y.ticket ≡ ticket_from 0 found_tickets.items y.part) p read.held going.found.tickets held in
        let r = hold_has (λ (y : Held). y.reads ≡ reads_of loaded_words' y.part) p read.held going.found.reads held in
        let under : IsReadHeld read p (ticket_from 0 found_tickets.items p) (words_loaded loaded_words' v p) = record {
          hold = hold_of p read.held;
          among = a.0;
          on = a.1;
          with_ticket = s.0 ∙ ap (ticket_from 0 found_tickets.items) s.1;
          with_words = ap (λ (l : Reads). words_read l (width_in v p)) (r.0 ∙ ap (reads_of loaded_words') r.1);
        } in
        let it : IsByPredicate d.items read p (ticket_from 0 found_tickets.items p) =
        record { unseen = unseen; pred = q; among = there; on = on; words = words_loaded loaded_words' v p; were_read = inr under; fails = fails } in
        subst (λ (y : View). IsByPredicate d.items y (task d n) (ticket_from 0 found_tickets.items (task d n))) (sym is) it

    pub load_fails : IsLeaving d 0 (length d.us) (Changed d.at (task d n) (ticket_from 0 found_tickets.items (task d n))) w
    load_fails =
        let touched : HasTouched d.m d.f d.rs p = subst (HasTouched d.m d.f d.rs) on (all_contained (λ (y : Item). HasTouched d.m d.f d.rs (part_of_item y)) d.items (Holds q) there h.loading.going.sealed.log.touched_items) in
        let it : IsLeaving d 0 (length d.us) (Changed d.at p (ticket_from 0 found_tickets.items p)) read = record {
          below = (some_update d going.going.sealed.some, omega arith);
          sealed = going.going.sealed;
          phase = inl going.phase;
          holding = going.holding;
          planned = going.going.planned;
          decided = going.going.decided;
          ends = (
            refl,
            record {
              runs = prefix d.m d.f read d.at d.base d.items d.us d.rs going.going.sealed.log going.going.sealed.claimed;
              touched = touched;
              unsettled = unsettled_sealed d.m d.valid d.sizes d.f d.at d.base d.items d.us d.rs read going.going.sealed;
              found = known_p.found;
              later = later;
              wrote = known_p.wrote (omega (arith, later));
            },
          );
        } in
        subst (λ (y : View). IsLeaving d 0 (length d.us) (Changed d.at (task d n) (ticket_from 0 found_tickets.items (task d n))) y) (sym is) it

-- what the code tests of an item: where it is a predicate on the part, that it is true of the word that was loaded
words_at : (reads : Reads) (k n j : ℕ) (x : ℤ) → j < n → slice_index_or (words_from reads k n) j x ≡ value_read reads (k + j)
words_at reads k zero j x l = absurd (omega (arith, l))
words_at reads k (suc n) zero x l = ap (value_read reads) (omega arith)
words_at reads k (suc n) (suc j) x l = words_at reads (suc k) n j x (omega (arith, l)) ∙ ap (value_read reads) (omega arith)

words_zero : (reads : Reads) (n j : ℕ) → j < n → slice_index_or (words_read reads n) j (pos 0) ≡ value_read reads j
words_zero reads n j l = words_at reads 0 n j (pos 0) l ∙ ap (value_read reads) (omega arith)

module _ (widths : List ℕ) (loaded_words : List LoadedWord) (v : View) (p : ℕ) (wide : width_in v p ≡ slice_index_or widths p 0) where
  same_test : (q : Pred) → q.part ≡ p → q.word < slice_index_or widths q.part 0 → holds_of q (value_read (reads_of loaded_words p) q.word) ≡ holds_of q (slice_index_or (words_loaded loaded_words v p) q.word (pos 0))
  same_test q on l =
      let low : q.word < width_in v p = omega (arith, l, wide, ap (λ (k : ℕ). slice_index_or widths k 0) on) in
      ap (holds_of q) (sym (words_zero (reads_of loaded_words p) (width_in v p) q.word low))

  pub all_true : (is : List Item) → AllOf (IsInside widths) is → list_all (is_so p loaded_words) is ≡ true → AllOf (IsTrueOn p (words_loaded loaded_words v p)) is
  all_true [] i e = tt
  all_true (Seen q ∷ is) i e = (tt, all_true is i.1 e)
  all_true (Holds q ∷ is) i e =
      let b = both_are (is_so p loaded_words (Holds q)) (list_all (is_so p loaded_words) is) e in
      (λ on. let now : holds_of q (value_read (reads_of loaded_words p) q.word) ≡ true = rw (eq-eqb q.part p on) at b.0 in sym (same_test q on i.0) ∙ now, all_true is i.1 b.1)

  -- a predicate on the part that is false
  pub record Fails (is : List Item) : Type 0 where
    pub pred : Pred
    pub there : Contains is (Holds pred)
    pub on : pred.part ≡ p
    pub fails : IsTrueIn (words_loaded loaded_words v p) pred → ⊥

  later_item : (i : Item) (is : List Item) → Fails is → Fails (i ∷ is)
  later_item i is f = record { pred = f.pred; there = (suc f.there.0, omega (arith, f.there.1), f.there.2); on = f.on; fails = f.fails }

  pub one_fails : (is : List Item) → AllOf (IsInside widths) is → list_all (is_so p loaded_words) is ≡ false → Fails is
  one_fails [] i e = cc
  one_fails (Seen q ∷ is) i e = later_item (Seen q) is (one_fails is i.1 e)
  one_fails (Holds q ∷ is) i e = elim (cases_Bool (is_so p loaded_words (Holds q))) [
    | inl good ↦ later_item (Holds q) is (one_fails is i.1 (rw good at e))
    | inr bad ↦ elim (cases_Bool (nat_eq q.part p)) [
      | inl hit ↦
          let on : q.part ≡ p = eqb-true q.part p hit in
          let now : holds_of q (value_read (reads_of loaded_words p) q.word) ≡ false = rw hit at bad in
          record { pred = q; there = (0, omega arith, refl); on = on; fails = λ t. true≢false (sym t ∙ sym (same_test q on i.0) ∙ now) }
      | inr miss ↦ let other : true ≡ false = rw miss at bad in absurd (true≢false other)
    ]
  ]

pub so_of : (p q : ℕ) → q ≡ p → (loaded_words more : List LoadedWord) → loaded_words ≡ more → (items : List Item) → (r : Bool) → r ≡ list_all (is_so p loaded_words) items → (b : Bool) → r ≡ b → list_all (is_so q more) items ≡ b
so_of p q at loaded_words more same items r test b e =
    ap (λ (k : ℕ). list_all (is_so k more) items) at ∙ ap (λ (l : List LoadedWord). list_all (is_so p l) items) (sym same) ∙ sym test ∙ e

pub leaving_as : (d : Deal) (n end : ℕ) → end ≡ n → (q p : ℕ) → q ≡ p → (s t : ℕ) → s ≡ t → (w : View) → IsLeaving d 0 n (Changed d.at q s) w → IsLeaving d 0 end (Changed d.at p t) w
leaving_as d n end e q p at s t same w h = subst (λ (k : ℕ). IsLeaving d 0 k (Changed d.at p t) w) (sym e) (subst (λ (k : ℕ). IsLeaving d 0 n (Changed d.at k t) w) at (subst (λ (k : ℕ). IsLeaving d 0 n (Changed d.at q k) w) same h))
