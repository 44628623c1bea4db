-- The loading of a held part.
use Rattle.std.proofs.Common.{◌≡◌, ◌+◌, ◌≤◌, ◌<◌, ℕ, zero, suc, ℤ, true, false, Bool, nat_eq, ◌||◌, Some, List, [], ◌∷◌, ◌++◌, length, take, map, refl, ap, sym, ◌∙◌, subst, arith, inl, inr, slice_index_or, eq-eqb, eqb-true}
use Rattle.std.proofs.lemmas.Bool.{cases_Bool}
use Rattle.std.proofs.lemmas.Bool.Decides.{nat_tests}
use Rattle.std.proofs.lemmas.List.{length-map}
use mathlib.Core.Option.{some, some-ne-none, some-injective}
use lib.ListN.{get_elem?}
use Rattle.sto_part.specs.Listed.{Listed}
use Rattle.sto_core.specs.declared.view.Held.{Held}
use Rattle.sto_core.specs.declared.view.Phase.{Phase}
use Rattle.sto_core.specs.declared.view.Phase.TheVariants as P
use Rattle.sto_core.specs.declared.view.View.{View}
use Rattle.sto_core.specs.Lists.{Each}
use Rattle.sto_core.specs.History.{writes}
use Rattle.sto_core.specs.Reads.{Reads, was_read, AllRead, words_read}
use Rattle.sto_core.specs.Views.{holds, hold_of, width_in}
use Rattle.sto_core.specs.Event.{Word, read_by, with_held_read}
use Rattle.sto_core.specs.Allowed.{Allowed, HasPart, MayRead, Rises, RisesFrom}
use Rattle.sto_core.specs.Tells.{Tells, ClaimsFit, ReadsHeld}
use Rattle.sto_core.proofs.Lists.{each_snoc, each_nothing}
use Rattle.sto_type.specs.Meaning.{IsLawful}
use Rattle.sto_attempt_log.specs.declared.commit_phase.FoundTicket.{FoundTicket}
use Rattle.sto_attempt_log.specs.declared.commit_phase.LoadedWord.{LoadedWord}
use Rattle.sto_attempt_log.specs.Every.{AllOf}
use Rattle.sto_attempt_log.specs.ReadSet.{words_in}
use Rattle.sto_attempt_log.specs.CommitPhases.{Deal, task, ticket_from, reads_of, IsTrueOn, IsDone, IsAsBefore, IsFreshAt, WasFound, IsLoadingAt, IsLoadingWord}
use Rattle.sto_attempt_log.proofs.Drawing.{read_entry_of}
use Rattle.sto_attempt_log.proofs.Moving.{width_of}
use Rattle.sto_attempt_log.proofs.Ticketing.{held_written}
use Rattle.sto_attempt_log.proofs.Holding.{parts_held}
use Rattle.sto_attempt_log.proofs.Leaving.{Sealed, sealed_still}
use Rattle.sto_attempt_log.proofs.Locking.{found_still}

pub each_at : {A : Type 0} (P : A → Type 0) (l : List A) (n : ℕ) (x : A) → Each P l → n < length l → P (slice_index_or l n x)
each_at P [] n x e h = absurd (omega (arith, h))
each_at P (y ∷ l) zero x e h = e 0 y refl
each_at P (y ∷ l) (suc n) x e h = each_at P l n x (λ j z s. e (suc j) z s) (omega (arith, h))

-- those before a place of a rising list are below the one at it
above_from : (k : ℕ) (l : List ℕ) (n : ℕ) → RisesFrom k l → n < length l → k < slice_index_or l n 0
above_from k [] n r h = absurd (omega (arith, h))
above_from k (x ∷ l) zero r h = r.0
above_from k (x ∷ l) (suc n) r h = omega (arith, r.0, above_from x l n r.1 (omega (arith, h)))

rest_rises : (k : ℕ) (l : List ℕ) → RisesFrom k l → Rises l
rest_rises k [] r = tt
rest_rises k (y ∷ l) r = r.1

pub each_cons : {A : Type 0} (P : A → Type 0) (x : A) (l : List A) → P x → Each P l → Each P (x ∷ l)
each_cons P x l h e zero y s = subst P (some-injective x y s) h
each_cons P x l h e (suc j) y s = e j y s

pub before_below : (l : List ℕ) (n : ℕ) → Rises l → n < length l → Each (λ (q : ℕ). q < slice_index_or l n 0) (take n l)
before_below [] n r h = absurd (omega (arith, h))
before_below (x ∷ l) zero r h = each_nothing (λ (q : ℕ). q < x)
before_below (x ∷ l) (suc n) r h =
    let short : n < length l = omega (arith, h) in
    each_cons (λ (q : ℕ). q < slice_index_or l n 0) x (take n l) (above_from x l n r short) (before_below l n (rest_rises x l r) short)

pub each_map : {A B : Type 0} (f : A → B) (P : B → Type 0) (l : List A) → Each (λ (x : A). P (f x)) l → Each P (map f l)
each_map f P [] e j x h = absurd (some-ne-none x (sym h))
each_map f P (y ∷ l) e zero x h = subst P (some-injective (f y) x h) (e 0 y refl)
each_map f P (y ∷ l) e (suc j) x h = each_map f P l (λ i z s. e (suc i) z s) j x h

pub each_but : {A : Type 0} (P Q : A → Type 0) → ((x : A) → P x → Q x) → (l : List A) → Each P l → Each Q l
each_but P Q f l e = λ j x h. f x (e j x h)

-- the words of a part with one more
pub reads_own : (xs : List LoadedWord) (x : LoadedWord) (p : ℕ) → nat_eq x.part p ≡ true → reads_of (xs ++ x ∷ []) p ≡ reads_of xs p ++ (x.word, x.value) ∷ []
reads_own [] x p e = rw e refl
reads_own (y ∷ xs) x p e = elim (cases_Bool (nat_eq y.part p)) [
  | inl hit ↦ rw hit (ap (λ (l : Reads). (y.word, y.value) ∷ l) (reads_own xs x p e))
  | inr miss ↦ rw miss (reads_own xs x p e)
]

pub reads_other : (xs : List LoadedWord) (x : LoadedWord) (p : ℕ) → nat_eq x.part p ≡ false → reads_of (xs ++ x ∷ []) p ≡ reads_of xs p
reads_other [] x p e = rw e refl
reads_other (y ∷ xs) x p e = elim (cases_Bool (nat_eq y.part p)) [
  | inl hit ↦ rw hit (ap (λ (l : Reads). (y.word, y.value) ∷ l) (reads_other xs x p e))
  | inr miss ↦ rw miss (reads_other xs x p e)
]

or_true : (a : Bool) → (a || true) ≡ true
or_true true = refl
or_true false = refl

was_front : (rs : Reads) (x : ℕ × ℤ) (i : ℕ) → was_read rs i ≡ true → was_read (rs ++ x ∷ []) i ≡ true
was_front [] x i e = cc
was_front (y ∷ rs) x i e = elim (cases_Bool (nat_eq y.0 i)) [
  | inl hit ↦ rw hit refl
  | inr miss ↦ rw miss (was_front rs x i (rw miss at e))
]

was_last : (rs : Reads) (i : ℕ) (x : ℤ) → was_read (rs ++ (i, x) ∷ []) i ≡ true
was_last [] i x = rw (eq-eqb i i refl) refl
was_last (y ∷ rs) i x = ap (λ (b : Bool). nat_eq y.0 i || b) (was_last rs i x) ∙ or_true (nat_eq y.0 i)

pub all_more : (rs : Reads) (i : ℕ) (x : ℤ) → AllRead rs i → AllRead (rs ++ (i, x) ∷ []) (suc i)
all_more rs i x a j l = elim (cases_Bool (nat_eq j i)) [
  | inl same ↦ subst (λ (k : ℕ). was_read (rs ++ (i, x) ∷ []) k ≡ true) (sym (eqb-true j i same)) (was_last rs i x)
  | inr other ↦ was_front rs (i, x) j (a j (lower other))
]
  where
    lower : nat_eq j i ≡ false → j < i
    lower e = grind (arith, nat_tests, l, e)

pub same_parts : (p i : ℕ) (x : ℤ) (hs : List Held) → parts_held (map (with_held_read p i x) hs) ≡ parts_held hs
same_parts p i x [] = refl
same_parts p i x (h ∷ hs) = elim (cases_Bool (nat_eq h.part p)) [
  | inl hit ↦ rw hit (ap (λ (l : List ℕ). h.part ∷ l) (same_parts p i x hs))
  | inr miss ↦ rw miss (ap (λ (l : List ℕ). h.part ∷ l) (same_parts p i x hs))
]

-- the ticket of a hold
pub hold_has : (P : Held → Type 0) (p : ℕ) (hs : List Held) → Each P hs → holds p hs ≡ true → P (hold_of p hs) × ((hold_of p hs).part ≡ p)
hold_has P p [] e h = cc
hold_has P p (x ∷ hs) e h = elim (cases_Bool (nat_eq x.part p)) [
  | inl hit ↦ rw hit (e 0 x refl, eqb-true x.part p hit)
  | inr miss ↦ rw miss (hold_has P p hs (λ j y s. e (suc j) y s) (rw miss at h))
]

turned : (q p : ℕ) → nat_eq q p ≡ false → nat_eq p q ≡ false
turned q p e = grind (arith, nat_tests, e)

module _ (d : Deal) (law : IsLawful d.m) (n i : ℕ) (found_tickets : Listed FoundTicket) (loaded_words : List LoadedWord) (v : View) (h : IsLoadingWord d n i found_tickets loaded_words v) where
  abbrev p : ℕ
  p = task d n

  range : (p < length d.m.widths) × (0 < slice_index_or d.m.widths p 0)
  range = each_at (λ (q : ℕ). (q < length d.m.widths) × (0 < slice_index_or d.m.widths q 0)) d.tasks n 0 h.loading.going.planned.in_range h.below

  pub in_widths : task d n < length d.m.widths
  in_widths = range.0

  widths : map length v.opening ≡ d.m.widths
  widths = law.widths v.opening h.loading.going.sealed.own.opening

  pub has_task : HasPart v (task d n)
  has_task = omega (arith, range.0, ap length widths, length-map v.opening length)

  pub task_wide : width_in v (task d n) ≡ slice_index_or d.m.widths (task d n) 0
  task_wide = sym (width_of v.opening p) ∙ ap (λ (l : List ℕ). slice_index_or l p 0) widths

  held : holds p v.held ≡ true
  held = sym (held_written d.us v p (record { held = h.loading.holding.held })) ∙ h.writes

  pub may_load : Allowed d.valid (Word (task d n) i) v
  may_load = (subst (MayRead v p) (sym h.loading.phase) held, (has_task, omega (arith, h.within, task_wide)))

  module _ (w : View) (passes m : ℕ) (x : ℤ) (t : Tells d.valid passes (Word (task d n) i) v m x w) where
    abbrev new : LoadedWord
    new = record { part = task d n; word = i; value = x }

    abbrev loaded_words' : List LoadedWord
    loaded_words' = loaded_words ++ new ∷ []

    abbrev pub read_view : View
    read_view = record v { steps = v.steps + 1; held = map (with_held_read (task d n) i x) v.held }

    abbrev read : View
    read = read_view

    pub is_read : w ≡ read
    is_read = t.after ∙ ap (λ (h : Phase). read_by h v p i x) h.loading.phase

    sealed_read : Sealed d read
    sealed_read = sealed_still d v read refl refl refl refl refl (subst (ClaimsFit d.valid) is_read t.fit) h.loading.going.sealed

    by_hold : (Q : Held → Type 0) → ((y : Held) → nat_eq y.part p ≡ true → Q (record y { reads = y.reads ++ (i, x) ∷ [] })) → ((y : Held) → nat_eq y.part p ≡ false → Q y) → (y : Held) → Q (with_held_read p i x y)
    by_hold Q own other y = elim (cases_Bool (nat_eq y.part p)) [
      | inl hit ↦ rw hit (own y hit)
      | inr miss ↦ rw miss (other y miss)
    ]

    reads_read : Each (λ (y : Held). y.reads ≡ reads_of loaded_words' y.part) read.held
    reads_read = each_map (with_held_read p i x) (λ (y : Held). y.reads ≡ reads_of loaded_words' y.part) v.held (λ j y e. one y (h.loading.found.reads j y e))
      where
        one : (y : Held) → y.reads ≡ reads_of loaded_words y.part → (with_held_read p i x y).reads ≡ reads_of loaded_words' (with_held_read p i x y).part
        one y was = elim (cases_Bool (nat_eq y.part p)) [
          | inl hit ↦ rw hit (ap (λ (l : Reads). l ++ (i, x) ∷ []) was ∙ sym (reads_own loaded_words new y.part (eq-eqb p y.part (sym (eqb-true y.part p hit)))))
          | inr miss ↦ rw miss (was ∙ sym (reads_other loaded_words new y.part (turned y.part p miss)))
        ]

    tickets_read : Each (λ (y : Held). y.ticket ≡ ticket_from 0 found_tickets.items y.part) read.held
    tickets_read = each_map (with_held_read p i x) (λ (y : Held). y.ticket ≡ ticket_from 0 found_tickets.items y.part) v.held (λ j y e. one y (h.loading.found.tickets j y e))
      where
        one : (y : Held) → y.ticket ≡ ticket_from 0 found_tickets.items y.part → (with_held_read p i x y).ticket ≡ ticket_from 0 found_tickets.items (with_held_read p i x y).part
        one y was = elim (cases_Bool (nat_eq y.part p)) [
          | inl hit ↦ rw hit was
          | inr miss ↦ rw miss was
        ]

    known_read : Each (λ (y : Held). WasFound read y.part y.ticket) read.held
    known_read = each_map (with_held_read p i x) (λ (y : Held). WasFound read y.part y.ticket) v.held (λ j y e. one y (found_still v read refl (λ z a. a) (λ z a. a) y.part y.ticket (h.loading.found.known j y e)))
      where
        one : (y : Held) → WasFound read y.part y.ticket → WasFound read (with_held_read p i x y).part (with_held_read p i x y).ticket
        one y was = elim (cases_Bool (nat_eq y.part p)) [
          | inl hit ↦ rw hit was
          | inr miss ↦ rw miss was
        ]

    -- parts that were loaded before
    done_read : Each (IsDone d found_tickets.items loaded_words' read) (take n d.tasks)
    done_read = λ j q e.
        let below : q < p = before_below d.tasks n h.loading.going.planned.tasks_rise h.below j q e in
        one q (apart q below) (h.loading.done j q e)
      where
        apart : (q : ℕ) → q < p → nat_eq p q ≡ false
        apart q l = grind (arith, nat_tests, l)

        one : (q : ℕ) → nat_eq p q ≡ false → IsDone d found_tickets.items loaded_words v q → IsDone d found_tickets.items loaded_words' read q
        one q other was =
            let same : reads_of loaded_words q ≡ reads_of loaded_words' q = sym (reads_other loaded_words new q other) in
            record {
              read = subst (λ (l : Reads). AllRead l (width_in v q)) same was.read;
              tested = λ free. let old = was.tested free in (old.0, old.1 ∙ ap (λ (l : Reads). words_read l (width_in v q)) same, old.2, old.3, found_still v read refl (λ z a. a) (λ z a. a) q (ticket_from 0 found_tickets.items q) old.4);
              true_on = λ unseen. subst (λ (l : Reads). AllOf (IsTrueOn q (words_read l (width_in v q))) d.items) same (was.true_on unseen);
            }

    as_before : Each (IsAsBefore d found_tickets.items) loaded_words'
    as_before = each_snoc (IsAsBefore d found_tickets.items) loaded_words new h.loading.same (record { same = one })
      where
        one : writes d.us p ≡ true → ticket_from 0 found_tickets.items p ≤ d.at → (ws : List ℤ) → words_in d.base p ≡ Some ws → get_elem? ws i ≡ some x
        one is_written early ws e =
            let reads : ReadsHeld P.Locking v p i x = subst (λ (k : Phase). ReadsHeld k v p i x) h.loading.phase t.learns in
            let s = read_entry_of v d.at d.base p ws h.loading.going.sealed.claimed e in
            let ticket : ((hold_of p v.held).ticket ≡ ticket_from 0 found_tickets.items (hold_of p v.held).part) × ((hold_of p v.held).part ≡ p) = hold_has (λ (y : Held). y.ticket ≡ ticket_from 0 found_tickets.items y.part) p v.held h.loading.found.tickets held in
            let same : (hold_of p v.held).ticket ≡ ticket_from 0 found_tickets.items p = ticket.0 ∙ ap (ticket_from 0 found_tickets.items) ticket.1 in
            subst (λ (l : List ℤ). get_elem? l i ≡ some x) s.3 (reads s.1.among.0 _ s.1.among.1 s.2 (omega (arith, same, early)))

    pub after_read : IsLoadingAt d n found_tickets loaded_words' read
    after_read = record {
      going = record { sealed = sealed_read; planned = h.loading.going.planned; draws = h.loading.going.draws; decided = h.loading.going.decided };
      phase = h.loading.phase;
      holding = record { held = same_parts p i x v.held ∙ h.loading.holding.held };
      found = record { tickets = tickets_read; reads = reads_read; known = known_read };
      room = h.loading.room;
      done = done_read;
      same = as_before;
      fresh = each_snoc (IsFreshAt d n) loaded_words new h.loading.fresh (record { held = λ k m l e. h.writes });
    }

    pub words_more : AllRead (reads_of loaded_words' p) (suc i)
    words_more = subst (λ (l : Reads). AllRead l (suc i)) (sym (reads_own loaded_words new p (eq-eqb p p refl))) (all_more (reads_of loaded_words p) i x h.words)

    pub load_goes : (next : ℕ) → next ≡ suc i → suc i < slice_index_or d.m.widths (task d n) 0 → IsLoadingWord d n next found_tickets loaded_words' w
    load_goes next is l =
        let it : IsLoadingWord d n (suc i) found_tickets loaded_words' read = record { loading = after_read; below = h.below; writes = h.writes; within = l; words = words_more } in
        subst (λ (k : ℕ). IsLoadingWord d n k found_tickets loaded_words' w) (sym is) (subst (λ (y : View). IsLoadingWord d n (suc i) found_tickets loaded_words' y) (sym is_read) it)
