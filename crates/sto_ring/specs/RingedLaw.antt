-- A ring is lawful.
use Rattle.std.specs.Prelude.{◌≡◌, ◌<◌, ◌≤◌, ◌+◌, ◌^◌, ◌⊎◌, ℕ, zero, suc, ℤ, pos, nat_lt, nat_le, nat_eq, not, Bool, true, false, if◌then◌else◌, List, [], ◌∷◌, ◌++◌, map, length, replicate, slice_index_or, IsTrue, refl}
use Rattle.std.specs.Ordering.{int_eq}
use Rattle.std.specs.Int.{w64}
use Rattle.std.specs.Int.RustNames.{FitsSigned}
use Rattle.std.proofs.Common.{ap, sym, ◌∙◌, arith, subst, inl, inr}
use Rattle.std.proofs.lemmas.Bool.Decides.{nat_tests}
use Rattle.sto_part.specs.Parts.{part_of}
use Rattle.sto_part.specs.Changes.{applied_all}
use Rattle.sto_part.specs.declared.change.Change.TheVariants as C
use Rattle.sto_part.specs.declared.pred.Test.TheVariants.{Eq}
use Rattle.sto_item.specs.declared.item.Item.TheVariants.{Seen}
use Rattle.sto_item.specs.Pending.{Entry, applied_updates}
use Rattle.sto_item.specs.Agreement.{Agrees, word_of}
use Rattle.sto_item.proofs.Applied.{part_of-set_other, part_of-set_same}
use Rattle.sto_model.specs.declared.call.Call.{Call}
use Rattle.sto_model.specs.declared.operation.Operation.{Operation}
use Rattle.sto_model.specs.declared.operation.Operation.TheVariants.{Get, Set, Add, Test as TestWord, Take, Put, Remove, Has, Len, Next, Count, Scan, Push, Pop}
use Rattle.sto_model.specs.Calls.{call_of}
use Rattle.sto_model.specs.Rows.{Row, with_row}
use Rattle.sto_model.specs.PlainReplies.{is_write}
use Rattle.sto_model.specs.PlainReplies as T
use Rattle.sto_model.specs.Objects.{push_effect}
use Rattle.sto_model.specs.SequentialObjects.{reply_to, state_after}
use Rattle.sto_model.proofs.RowFacts.{by_test}
use Rattle.sto_type.specs.Known.{Parts, ContentsFit}
use Rattle.sto_type.specs.Meaning.{Meaning, IsLawful, IsUpdated}
use Rattle.sto_type.specs.Reading.{items_at, updates_at, IsRead}
use Rattle.sto_type.specs.Telling.{Telling, reading_of, told_at}
use Rattle.sto_type.specs.OneObject.{IsTold, IsType}
use Rattle.sto_type.specs.OneObjectLaw.{one_object_lawful}
use Rattle.sto_type.specs.Numbered.{numbered, values-numbered, length-numbered, more_numbered}
use Rattle.sto_type.specs.Words.{word, compared, is_equal, tells_equal, fits_after, widths_after, owned_all}
use Rattle.sto_container.specs.Places.{wrapped, next, offset, next_below, wrapped_below, wrapped_next, next_wrapped, natural, is_live}
use Rattle.sto_ring.specs.LivePlaces.{tail_live, head_live, wrapped_apart, more_live, new_live, less_live, old_live}
use Rattle.sto_ring.specs.Ringed.{front_of, pop_front, ring_machine, takes_by, bit, place_part, along, ring_rows, IsRing, push_told, pop_told, front_told, some_told, len_told, at_end, ring_telling, RingTakes, telling, ring_widths, ring_opened, ring_meaning}
use Rattle.sto_ring.specs.RingedRows.{bit_live, value_at, length-along, along-same, along-more, live_is, size_is, rows_are}
use Rattle.sto_container.specs.Endings.{told_by}

-- the operations that a ring takes
by_operation :
    {P : Type 0} (operation : Operation) → IsTrue (takes_by operation) → (operation ≡ Get → P) → (operation ≡ Has → P) → (operation ≡ Len → P) → (operation ≡ Push → P) → (operation ≡ Pop → P) → P
by_operation Get h front some len push pop = front refl
by_operation Set h front some len push pop = cc
by_operation Add h front some len push pop = cc
by_operation TestWord h front some len push pop = cc
by_operation Take h front some len push pop = cc
by_operation Put h front some len push pop = cc
by_operation Remove h front some len push pop = cc
by_operation Has h front some len push pop = some refl
by_operation Len h front some len push pop = len refl
by_operation Next h front some len push pop = cc
by_operation Count h front some len push pop = cc
by_operation Scan h front some len push pop = cc
by_operation Push h front some len push pop = push refl
by_operation Pop h front some len push pop = pop refl

by_call :
    (P : Call → Type 0) → ((a b : ℤ) → P (call_of 0 Get a b)) → ((a b : ℤ) → P (call_of 0 Has a b)) → ((a b : ℤ) → P (call_of 0 Len a b)) → ((a b : ℤ) → FitsSigned w64 a → P (call_of 0 Push a b))
    → ((a b : ℤ) → P (call_of 0 Pop a b)) → (call : Call) → RingTakes call → P call
by_call P front some len push pop call t =
    let same : (o : Operation) → call.operation ≡ o → call ≡ call_of 0 o call.a call.b = λ o e i. record { object = t.object i; operation = e i; a = call.a; b = call.b; c = t.third i } in
    by_operation call.operation t.taken
    (λ e. subst P (sym (same Get e)) (front call.a call.b))
    (λ e. subst P (sym (same Has e)) (some call.a call.b))
    (λ e. subst P (sym (same Len e)) (len call.a call.b))
    (λ e. subst P (sym (same Push e)) (push call.a call.b t.fits))
    (λ e. subst P (sym (same Pop e)) (pop call.a call.b))

heads : (x y : ℕ) (xs ys : List ℕ) → x ∷ xs ≡ y ∷ ys → (x ≡ y) × (xs ≡ ys)
heads x y xs ys e = (cc, cc)

one_word : (ws : List ℤ) (x : ℤ) → length ws ≡ 1 → word ws 0 ≡ x → ws ≡ x ∷ []
one_word [] x e h = cc
one_word (y ∷ []) x e h = ap (λ z. z ∷ []) h
one_word (y ∷ z ∷ ws) x e h = absurd (omega (arith, e))

-- contents of both ends and the places
abbrev ringed : ℕ → ℕ → ℕ → Parts → Parts
ringed n h s ps = (pos h ∷ []) ∷ (pos (wrapped n (h + s)) ∷ []) ∷ ps

apart : (n : ℕ) (c : Parts) (v : IsRing n c) → (ps : Parts) × (c ≡ ringed n v.first v.size ps)
apart n [] v = let e = v.widths in cc
apart n (hs ∷ []) v = let e = (heads (length hs) 1 [] (1 ∷ replicate n 2) v.widths).1 in cc
apart n (hs ∷ ts ∷ ps) v =
    let w : (length hs ≡ 1) × (length ts ∷ map length ps ≡ 1 ∷ replicate n 2) = heads (length hs) 1 (length ts ∷ map length ps) (1 ∷ replicate n 2) v.widths in
    let u : length ts ≡ 1 = (heads (length ts) 1 (map length ps) (replicate n 2) w.1).0 in
    let f : hs ≡ pos v.first ∷ [] = one_word hs (pos v.first) w.0 v.head in
    let g : ts ≡ pos (wrapped n (v.first + v.size)) ∷ [] = one_word ts (pos (wrapped n (v.first + v.size))) u v.tail in
    (ps, λ i. f i ∷ g i ∷ ps)

-- a list of equal widths
width_at : (n i : ℕ) → i < n → slice_index_or {A = ℕ} (replicate n 2) i 0 ≡ 2
width_at zero i l = absurd (omega (arith, l))
width_at (suc n) zero l = refl
width_at (suc n) (suc i) l = width_at n i (omega (arith, l))

pub length_twos : (n : ℕ) → length (replicate {A = ℕ} n 2) ≡ n
length_twos zero = refl
length_twos (suc n) = ap suc (length_twos n)

width_of : (n : ℕ) (ps : Parts) (i : ℕ) → map length ps ≡ replicate n 2 → i < n → (i < length ps) × (length (part_of ps i) ≡ 2)
width_of zero ps i e l = absurd (omega (arith, l))
width_of (suc n) [] i e l = cc
width_of (suc n) (p ∷ ps) zero e l = (omega arith, (heads (length p) 2 (map length ps) (replicate n 2) e).0)
width_of (suc n) (p ∷ ps) (suc i) e l =
    let r : (i < length ps) × (length (part_of ps i) ≡ 2) = width_of n ps i (heads (length p) 2 (map length ps) (replicate n 2) e).1 (omega (arith, l)) in
    (omega (arith, r.0), r.1)

two_put : (x y : ℤ) (ws : List ℤ) → length ws ≡ 2 → applied_all (C.Put x ∷ C.Put y ∷ []) ws ≡ x ∷ y ∷ []
two_put x y [] e = cc
two_put x y (a ∷ []) e = absurd (omega (arith, e))
two_put x y (a ∷ b ∷ []) e = refl
two_put x y (a ∷ b ∷ d ∷ ws) e = absurd (omega (arith, e))

one_put : (x : ℤ) (ws : List ℤ) → length ws ≡ 2 → applied_all (C.Put x ∷ C.Keep ∷ []) ws ≡ x ∷ word ws 1 ∷ []
one_put x [] e = cc
one_put x (a ∷ []) e = absurd (omega (arith, e))
one_put x (a ∷ b ∷ []) e = refl
one_put x (a ∷ b ∷ d ∷ ws) e = absurd (omega (arith, e))

-- tellings that read an end and its place
module _ (e : Parts) (p x : ℕ) (f : ℕ → List ℤ → Telling) (at : word_of e p 0 ≡ pos x) where
  end_told : told_at (at_end p f) e ≡ told_at (f x (part_of e (place_part x))) e
  end_told = ap (λ y. told_at (f (natural y) (part_of e (place_part (natural y)))) e) at

  end_items : items_at (reading_of (at_end p f)) e ≡ items_at (reading_of (f x (part_of e (place_part x)))) e
  end_items = ap (λ y. items_at (reading_of (f (natural y) (part_of e (place_part (natural y))))) e) at

  end_updates : updates_at (reading_of (at_end p f)) e ≡ updates_at (reading_of (f x (part_of e (place_part x)))) e
  end_updates = ap (λ y. updates_at (reading_of (f (natural y) (part_of e (place_part (natural y))))) e) at

-- no more is read
pub no_push : (n t : ℕ) (v : ℤ) (b : Bool) (c : Parts) (q : ℕ) → IsRead (reading_of (push_told n v t b)) c q → ⊥
no_push n t v true c q h = h
no_push n t v false c q h = h

pub no_pop : (n h : ℕ) (ws : List ℤ) (b : Bool) (c : Parts) (q : ℕ) → IsRead (reading_of (pop_told n h ws b)) c q → ⊥
no_pop n h ws true c q r = r
no_pop n h ws false c q r = r

no_front : (h : ℕ) (ws : List ℤ) (b : Bool) (c : Parts) (q : ℕ) → IsRead (reading_of (front_told h ws b)) c q → ⊥
no_front h ws true c q r = r
no_front h ws false c q r = r

above_zero : (r : ℕ) → nat_lt 0 (suc r) ≡ true
above_zero r = grind (arith, nat_tests)

same_numbers : (i j : ℕ) → (i ≡ j) ⊎ (i ≡ j → ⊥)
same_numbers i j = grind arith

dead : (w : ℤ) → w ≡ pos 0 → int_eq w (pos 1) ≡ false
dead w e = ap (λ x. int_eq x (pos 1)) e

live : (w : ℤ) → w ≡ pos 1 → int_eq w (pos 1) ≡ true
live w e = ap (λ x. int_eq x (pos 1)) e

module _ (n : ℕ) (small : n + 2 < 2 ^ 32) where
  abbrev m : Meaning
  m = ring_meaning n

  number_fits : (i : ℕ) → i < n → FitsSigned w64 (pos i)
  number_fits i l = record { sfits = omega (arith, l, small) }

  -- what valid contents tell, in words of head, size and places
  module _ (h s : ℕ) (ps : Parts) (below : h < n) (few : s ≤ n) (widths : map length (ringed n h s ps) ≡ ring_widths n) (fits : ContentsFit (ringed n h s ps))
      (lives : (i : ℕ) → i < n → word (part_of ps i) 0 ≡ bit (nat_lt (offset n h i) s)) where
    abbrev c : Parts
    c = ringed n h s ps

    abbrev t : ℕ
    t = wrapped n (h + s)

    abbrev v : IsRing n c
    v = record { widths = widths; fits = fits; first = h; size = s; below = below; few = few; head = refl; tail = refl; lives = lives }

    place_widths : map length ps ≡ replicate n 2
    place_widths = (heads 1 1 (map length ps) (replicate n 2) (heads 1 1 (1 ∷ map length ps) (1 ∷ replicate n 2) widths).1).1

    place : (i : ℕ) → i < n → (i < length ps) × (length (part_of ps i) ≡ 2)
    place i l = width_of n ps i place_widths l

    tail_in : t < n
    tail_in = wrapped_below n h s below few

    abbrev xs : List ℤ
    xs = along n c h s

    rows_is : ring_rows n c ≡ numbered 0 xs
    rows_is = rows_are n c v

    many : length (ring_rows n c) ≡ s
    many = ap length rows_is ∙ length-numbered 0 xs ∙ length-along n c h s

    live_tail : is_live (part_of ps t) ≡ not (nat_lt s n)
    live_tail = live_is n c v t tail_in ∙ tail_live n h s below few

    live_head : is_live (part_of ps h) ≡ nat_lt 0 s
    live_head = live_is n c v h below ∙ head_live n h s

    word_of_bit : (i : ℕ) (b : Bool) → i < n → is_live (part_of ps i) ≡ b → word (part_of ps i) 0 ≡ bit b
    word_of_bit i b l e = lives i l ∙ ap bit (sym (live_is n c v i l) ∙ e)

    -- the parts that are read
    within_two : (p x q : ℕ) (P : Type 0) → p < 2 → x < n → (P → ⊥) → (p ≡ q) ⊎ ((place_part x ≡ q) ⊎ P) → q < length (ring_widths n)
    within_two p x q P a b out (inl e) = omega (arith, a, e)
    within_two p x q P a b out (inr (inl e)) = omega (arith, b, e, length_twos n)
    within_two p x q P a b out (inr (inr z)) = absurd (out z)

    inside_place : (i : ℕ) → i < n → 0 < slice_index_or (ring_widths n) (place_part i) 0
    inside_place i l = omega (arith, width_at n i l)

    left_alone : (call : Call) → ring_rows n c ∷ [] ≡ state_after m.machines call (ring_rows n c ∷ []) → is_write call.operation (reply_to m.machines call (ring_rows n c ∷ [])) ≡ false → IsUpdated m call c []
    left_alone call r z = record { ordered = (tt, tt); owned = tt; widths = tt; valid = v; rows = r; writes = z }

    -- push
    abbrev rows : List Row
    rows = ring_rows n c

    push_reply : (a : ℤ) → (push_effect (nat_le n (length rows)) a rows).reply ≡ (if nat_lt s n then T.Done else T.Full)
    push_reply a = ap (λ k. (push_effect (nat_le n k) a rows).reply) many ∙ by_test (nat_lt s n) (λ e. let f : nat_le n s ≡ false = room e in rw (e, f) refl) (λ e. let f : nat_le n s ≡ true = full e in rw (e, f) refl)
      where
        room : nat_lt s n ≡ true → nat_le n s ≡ false
        room e = grind (arith, nat_tests)

        full : nat_lt s n ≡ false → nat_le n s ≡ true
        full e = grind (arith, nat_tests)

    push_after : (a : ℤ) → nat_lt s n ≡ true → (push_effect (nat_le n (length rows)) a rows).after ≡ numbered 0 (xs ++ a ∷ [])
    push_after a e =
        ap (λ r. (push_effect (nat_le n (length r)) a r).after) rows_is
        ∙ ap (λ k. (push_effect (nat_le n k) a (numbered 0 xs)).after) (length-numbered 0 xs ∙ length-along n c h s)
        ∙ ap (λ b. (push_effect b a (numbered 0 xs)).after) room
        ∙ ap (λ k. with_row (numbered 0 xs) (pos k) a) (length-numbered 0 xs)
        ∙ more_numbered xs a
      where
        room : nat_le n s ≡ false
        room = grind (arith, nat_tests)

    push_kept : (a : ℤ) → nat_lt s n ≡ false → (push_effect (nat_le n (length rows)) a rows).after ≡ rows
    push_kept a e = ap (λ k. (push_effect (nat_le n k) a rows).after) many ∙ ap (λ b. (push_effect b a rows).after) full
      where
        full : nat_le n s ≡ true
        full = grind (arith, nat_tests)

    abbrev pushed : ℤ → List Entry
    pushed a = (1, C.Put (pos (next n t)) ∷ []) ∷ (place_part t, C.Put (pos 1) ∷ C.Put a ∷ []) ∷ []

    abbrev after_push : ℤ → Parts
    after_push a = applied_updates (pushed a) c

    place_pushed : (a : ℤ) → part_of (after_push a) (place_part t) ≡ pos 1 ∷ a ∷ []
    place_pushed a = part_of-set_same ps t _ (place t tail_in).0 ∙ two_put (pos 1) a (part_of ps t) (place t tail_in).1

    place_kept : (a : ℤ) (i : ℕ) → (i ≡ t → ⊥) → part_of (after_push a) (place_part i) ≡ part_of ps i
    place_kept a i other = part_of-set_other ps t i _ other

    abbrev is_pushed : (a : ℤ) → FitsSigned w64 a → s < n → IsRing n (after_push a)
    is_pushed a f room = record {
      widths = widths_after (pushed a) c ∙ widths;
      fits = fits_after (pushed a) c ((number_fits (next n t) (next_below n t tail_in), tt), ((record { sfits = omega arith }, (f, tt)), tt)) fits;
      first = h;
      size = suc s;
      below = below;
      few = omega (arith, room);
      head = refl;
      tail = ap pos (wrapped_next n h s below room);
      lives = λ i l. elim (same_numbers i t) [
        | inl same ↦ ap (λ j. word (part_of (after_push a) (place_part j)) 0) same ∙ ap (λ ws. word ws 0) (place_pushed a) ∙ sym (ap bit (ap (λ j. nat_lt (offset n h j) (suc s)) same ∙ new_live n h s below room))
        | inr other ↦ ap (λ ws. word ws 0) (place_kept a i other) ∙ lives i l ∙ ap bit (sym (more_live n h s i below room l other))
      ];
    }

    rows_pushed : (a : ℤ) → FitsSigned w64 a → s < n → ring_rows n (after_push a) ≡ numbered 0 (xs ++ a ∷ [])
    rows_pushed a f room =
        let front : along n (after_push a) h s ≡ xs =
        along-same n (after_push a) c h s below few (λ j b. ap (λ ws. word ws 1) (place_kept a (wrapped n (h + j)) (wrapped_apart n h j s below b room))) in
        let last : value_at (after_push a) t ≡ a = ap (λ ws. word ws 1) (place_pushed a) in
        rows_are n (after_push a) (is_pushed a f room) ∙ ap (numbered 0) (along-more n (after_push a) h s below room ∙ (λ i. front i ++ last i ∷ []))

    end_fits : word_of c 1 0 ≡ pos t
    end_fits = refl

    push_told_at : (a b : ℤ) → FitsSigned w64 a → IsTold m (call_of 0 Push a b) (ring_telling n Push a) c
    push_told_at a b f = by_test (nat_lt s n)
        (λ room.
        let below_n : s < n = lt_of room in
        let quiet : is_live (part_of ps t) ≡ false = live_tail ∙ ap not room in
        told_by m (call_of 0 Push a b) (ring_telling n Push a) c T.Done (compared 1 0 Eq (pos t) ∷ compared (place_part t) 0 Eq (pos 0) ∷ []) (pushed a)
        (ap (λ x. told_at (push_told n a t x) c) quiet, ap (λ x. items_at (reading_of (push_told n a t x)) c) quiet, ap (λ x. updates_at (reading_of (push_told n a t x)) c) quiet)
        (λ q r. within_two 1 t q (IsRead (reading_of (push_told n a t (is_live (part_of ps t)))) c q) (omega arith) tail_in (no_push n t a (is_live (part_of ps t)) c q) r)
        (inl refl, (inr (inl refl), tt))
        (omega arith, (inside_place t tail_in, tt))
        (is_equal c 1 0 (pos t) fits refl, (is_equal c (place_part t) 0 (pos 0) fits (word_of_bit t false tail_in quiet), tt))
        (λ e w g.
        let at : word_of e 1 0 ≡ pos t = tells_equal e c 1 0 (pos t) (compared (place_part t) 0 Eq (pos 0) ∷ []) w.fits g in
        let still : is_live (part_of e (place_part t)) ≡ false = dead (word_of e (place_part t) 0) (tells_equal e c (place_part t) 0 (pos 0) [] w.fits g.1) in (
          end_told e 1 t (λ x ws. push_told n a x (is_live ws)) at ∙ ap (λ x. told_at (push_told n a t x) e) still,
          end_updates e 1 t (λ x ws. push_told n a x (is_live ws)) at ∙ ap (λ x. updates_at (reading_of (push_told n a t x)) e) still,
        ))
        (sym (push_reply a ∙ ap (λ x. if x then T.Done else T.Full) room))
        (record {
          ordered = ((omega arith, (omega arith, tt)), (refl, (refl, tt)));
          owned = owned_all (ring_widths n) 0 (pushed a) c refl widths (omega arith, refl, (omega (arith, (place t tail_in).0), (place t tail_in).1, tt));
          widths = (omega arith, refl, (omega (arith, (place t tail_in).0), (place t tail_in).1, tt));
          valid = is_pushed a f below_n;
          rows = ap (λ r. r ∷ []) (rows_pushed a f below_n ∙ sym (push_after a room));
          writes = ap (is_write Push) (push_reply a ∙ ap (λ x. if x then T.Done else T.Full) room);
        }))
        (λ full.
        let loud : is_live (part_of ps t) ≡ true = live_tail ∙ ap not full in
        told_by m (call_of 0 Push a b) (ring_telling n Push a) c T.Full (compared 1 0 Eq (pos t) ∷ compared (place_part t) 0 Eq (pos 1) ∷ []) []
        (ap (λ x. told_at (push_told n a t x) c) loud, ap (λ x. items_at (reading_of (push_told n a t x)) c) loud, ap (λ x. updates_at (reading_of (push_told n a t x)) c) loud)
        (λ q r. within_two 1 t q (IsRead (reading_of (push_told n a t (is_live (part_of ps t)))) c q) (omega arith) tail_in (no_push n t a (is_live (part_of ps t)) c q) r)
        (inl refl, (inr (inl refl), tt))
        (omega arith, (inside_place t tail_in, tt))
        (is_equal c 1 0 (pos t) fits refl, (is_equal c (place_part t) 0 (pos 1) fits (word_of_bit t true tail_in loud), tt))
        (λ e w g.
        let at : word_of e 1 0 ≡ pos t = tells_equal e c 1 0 (pos t) (compared (place_part t) 0 Eq (pos 1) ∷ []) w.fits g in
        let still : is_live (part_of e (place_part t)) ≡ true = live (word_of e (place_part t) 0) (tells_equal e c (place_part t) 0 (pos 1) [] w.fits g.1) in (
          end_told e 1 t (λ x ws. push_told n a x (is_live ws)) at ∙ ap (λ x. told_at (push_told n a t x) e) still,
          end_updates e 1 t (λ x ws. push_told n a x (is_live ws)) at ∙ ap (λ x. updates_at (reading_of (push_told n a t x)) e) still,
        ))
        (sym (push_reply a ∙ ap (λ x. if x then T.Done else T.Full) full))
        (left_alone (call_of 0 Push a b) (ap (λ r. r ∷ []) (sym (push_kept a full))) (ap (is_write Push) (push_reply a ∙ ap (λ x. if x then T.Done else T.Full) full))))
      where
        lt_of : nat_lt s n ≡ true → s < n
        lt_of e = grind (arith, nat_tests)

    -- pop and front, by the size
    by_size : {P : Type 0} → (s ≡ 0 → P) → ((r : ℕ) → s ≡ suc r → P) → P
    by_size none some = cases s refl none some
      where
        cases : {P : Type 0} (k : ℕ) → s ≡ k → (s ≡ 0 → P) → ((r : ℕ) → s ≡ suc r → P) → P
        cases zero e f g = f e
        cases (suc r) e f g = g r e

    no_rows : s ≡ 0 → rows ≡ []
    no_rows e = rows_is ∙ ap (λ k. numbered 0 (along n c h k)) e

    some_rows : (r : ℕ) → s ≡ suc r → rows ≡ (pos 0, value_at c h) ∷ numbered 1 (along n c (next n h) r)
    some_rows r e = rows_is ∙ ap (λ k. numbered 0 (along n c h k)) e

    none_live : s ≡ 0 → is_live (part_of ps h) ≡ false
    none_live e = live_head ∙ ap (nat_lt 0) e

    some_live : (r : ℕ) → s ≡ suc r → is_live (part_of ps h) ≡ true
    some_live r e = live_head ∙ ap (nat_lt 0) e ∙ above_zero r

    abbrev popped : List Entry
    popped = (0, C.Put (pos (next n h)) ∷ []) ∷ (place_part h, C.Put (pos 0) ∷ C.Keep ∷ []) ∷ []

    abbrev after_pop : Parts
    after_pop = applied_updates popped c

    place_popped : part_of after_pop (place_part h) ≡ pos 0 ∷ value_at c h ∷ []
    place_popped = part_of-set_same ps h _ (place h below).0 ∙ one_put (pos 0) (part_of ps h) (place h below).1

    place_left : (i : ℕ) → (i ≡ h → ⊥) → part_of after_pop (place_part i) ≡ part_of ps i
    place_left i other = part_of-set_other ps h i _ other

    value_left : (i : ℕ) → value_at after_pop i ≡ value_at c i
    value_left i = elim (same_numbers i h) [
      | inl same ↦ ap (value_at after_pop) same ∙ ap (λ ws. word ws 1) place_popped ∙ sym (ap (value_at c) same)
      | inr other ↦ ap (λ ws. word ws 1) (place_left i other)
    ]

    abbrev is_popped : (r : ℕ) → s ≡ suc r → IsRing n after_pop
    is_popped r e =
        let room : r < n = omega (arith, e, few) in
        record {
          widths = widths_after popped c ∙ widths;
          fits = fits_after popped c ((number_fits (next n h) (next_below n h below), tt), ((record { sfits = omega arith }, (tt, tt)), tt)) fits;
          first = next n h;
          size = r;
          below = next_below n h below;
          few = omega (arith, room);
          head = refl;
          tail = ap (λ k. pos (wrapped n (h + k))) e ∙ ap pos (sym (next_wrapped n h r below room));
          lives = λ i l. elim (same_numbers i h) [
            | inl same ↦ ap (λ j. word (part_of after_pop (place_part j)) 0) same ∙ ap (λ ws. word ws 0) place_popped ∙ sym (ap bit (ap (λ j. nat_lt (offset n (next n h) j) r) same ∙ old_live n h r below room))
            | inr other ↦ ap (λ ws. word ws 0) (place_left i other) ∙ lives i l ∙ ap bit (ap (nat_lt (offset n h i)) e ∙ sym (less_live n h r i below room l other))
          ];
        }

    rows_popped : (r : ℕ) → s ≡ suc r → ring_rows n after_pop ≡ numbered 0 (along n c (next n h) r)
    rows_popped r e =
        let room : r < n = omega (arith, e, few) in
        rows_are n after_pop (is_popped r e)
        ∙ ap (numbered 0) (along-same n after_pop c (next n h) r (next_below n h below) (omega (arith, room)) (λ j b. value_left (wrapped n (next n h + j))))

    pop_told_at : (a b : ℤ) → IsTold m (call_of 0 Pop a b) (ring_telling n Pop a) c
    pop_told_at a b = by_size
        (λ none.
        let quiet : is_live (part_of ps h) ≡ false = none_live none in
        told_by m (call_of 0 Pop a b) (ring_telling n Pop a) c T.Absent (compared 0 0 Eq (pos h) ∷ compared (place_part h) 0 Eq (pos 0) ∷ []) []
        (ap (λ x. told_at (pop_told n h (part_of ps h) x) c) quiet, ap (λ x. items_at (reading_of (pop_told n h (part_of ps h) x)) c) quiet, ap (λ x. updates_at (reading_of (pop_told n h (part_of ps h) x)) c) quiet)
        (λ q r. within_two 0 h q (IsRead (reading_of (pop_told n h (part_of ps h) (is_live (part_of ps h)))) c q) (omega arith) below (no_pop n h (part_of ps h) (is_live (part_of ps h)) c q) r)
        (inl refl, (inr (inl refl), tt))
        (omega arith, (inside_place h below, tt))
        (is_equal c 0 0 (pos h) fits refl, (is_equal c (place_part h) 0 (pos 0) fits (word_of_bit h false below quiet), tt))
        (λ e w g.
        let at : word_of e 0 0 ≡ pos h = tells_equal e c 0 0 (pos h) (compared (place_part h) 0 Eq (pos 0) ∷ []) w.fits g in
        let still : is_live (part_of e (place_part h)) ≡ false = dead (word_of e (place_part h) 0) (tells_equal e c (place_part h) 0 (pos 0) [] w.fits g.1) in (
          end_told e 0 h (λ x ws. pop_told n x ws (is_live ws)) at ∙ ap (λ x. told_at (pop_told n h (part_of e (place_part h)) x) e) still,
          end_updates e 0 h (λ x ws. pop_told n x ws (is_live ws)) at ∙ ap (λ x. updates_at (reading_of (pop_told n h (part_of e (place_part h)) x)) e) still,
        ))
        (sym (ap (λ r. (pop_front r).reply) (no_rows none)))
        (left_alone (call_of 0 Pop a b) (ap (λ r. r ∷ []) (no_rows none ∙ sym (ap (λ r. (pop_front r).after) (no_rows none)))) (ap (λ r. is_write Pop (pop_front r).reply) (no_rows none))))
        (λ r some.
        let loud : is_live (part_of ps h) ≡ true = some_live r some in
        told_by m (call_of 0 Pop a b) (ring_telling n Pop a) c (T.Value (value_at c h)) (compared 0 0 Eq (pos h) ∷ Seen (place_part h) ∷ []) popped
        (ap (λ x. told_at (pop_told n h (part_of ps h) x) c) loud, ap (λ x. items_at (reading_of (pop_told n h (part_of ps h) x)) c) loud, ap (λ x. updates_at (reading_of (pop_told n h (part_of ps h) x)) c) loud)
        (λ q r. within_two 0 h q (IsRead (reading_of (pop_told n h (part_of ps h) (is_live (part_of ps h)))) c q) (omega arith) below (no_pop n h (part_of ps h) (is_live (part_of ps h)) c q) r)
        (inl refl, (inr (inl refl), tt))
        (omega arith, tt)
        (is_equal c 0 0 (pos h) fits refl, (refl, tt))
        (λ e w g.
        let at : word_of e 0 0 ≡ pos h = tells_equal e c 0 0 (pos h) (Seen (place_part h) ∷ []) w.fits g in
        let still : is_live (part_of e (place_part h)) ≡ true = ap is_live g.1.0 ∙ loud in (
          end_told e 0 h (λ x ws. pop_told n x ws (is_live ws)) at ∙ ap (λ x. told_at (pop_told n h (part_of e (place_part h)) x) e) still ∙ ap (λ ws. T.Value (word ws 1)) g.1.0,
          end_updates e 0 h (λ x ws. pop_told n x ws (is_live ws)) at ∙ ap (λ x. updates_at (reading_of (pop_told n h (part_of e (place_part h)) x)) e) still,
        ))
        (sym (ap (λ r. (pop_front r).reply) (some_rows r some)))
        (record {
          ordered = ((omega arith, (omega arith, tt)), (refl, (refl, tt)));
          owned = owned_all (ring_widths n) 0 popped c refl widths (omega arith, refl, (omega (arith, (place h below).0), (place h below).1, tt));
          widths = (omega arith, refl, (omega (arith, (place h below).0), (place h below).1, tt));
          valid = is_popped r some;
          rows = ap (λ x. x ∷ []) (rows_popped r some ∙ ap (numbered 0) (sym (values-numbered 1 (along n c (next n h) r))) ∙ sym (ap (λ x. (pop_front x).after) (some_rows r some)));
          writes = ap (λ x. is_write Pop (pop_front x).reply) (some_rows r some);
        }))

    front_told_at : (a b : ℤ) → IsTold m (call_of 0 Get a b) (ring_telling n Get a) c
    front_told_at a b = by_size
        (λ none.
        let quiet : is_live (part_of ps h) ≡ false = none_live none in
        told_by m (call_of 0 Get a b) (ring_telling n Get a) c T.Absent (compared 0 0 Eq (pos h) ∷ compared (place_part h) 0 Eq (pos 0) ∷ []) []
        (ap (λ x. told_at (front_told h (part_of ps h) x) c) quiet, ap (λ x. items_at (reading_of (front_told h (part_of ps h) x)) c) quiet, ap (λ x. updates_at (reading_of (front_told h (part_of ps h) x)) c) quiet)
        (λ q r. within_two 0 h q (IsRead (reading_of (front_told h (part_of ps h) (is_live (part_of ps h)))) c q) (omega arith) below (no_front h (part_of ps h) (is_live (part_of ps h)) c q) r)
        (inl refl, (inr (inl refl), tt))
        (omega arith, (inside_place h below, tt))
        (is_equal c 0 0 (pos h) fits refl, (is_equal c (place_part h) 0 (pos 0) fits (word_of_bit h false below quiet), tt))
        (λ e w g.
        let at : word_of e 0 0 ≡ pos h = tells_equal e c 0 0 (pos h) (compared (place_part h) 0 Eq (pos 0) ∷ []) w.fits g in
        let still : is_live (part_of e (place_part h)) ≡ false = dead (word_of e (place_part h) 0) (tells_equal e c (place_part h) 0 (pos 0) [] w.fits g.1) in (
          end_told e 0 h (λ x ws. front_told x ws (is_live ws)) at ∙ ap (λ x. told_at (front_told h (part_of e (place_part h)) x) e) still,
          end_updates e 0 h (λ x ws. front_told x ws (is_live ws)) at ∙ ap (λ x. updates_at (reading_of (front_told h (part_of e (place_part h)) x)) e) still,
        ))
        (sym (ap front_of (no_rows none)))
        (left_alone (call_of 0 Get a b) refl (ap (λ r. is_write Get (front_of r)) (no_rows none))))
        (λ r some.
        let loud : is_live (part_of ps h) ≡ true = some_live r some in
        told_by m (call_of 0 Get a b) (ring_telling n Get a) c (T.Value (value_at c h)) (compared 0 0 Eq (pos h) ∷ Seen (place_part h) ∷ []) []
        (ap (λ x. told_at (front_told h (part_of ps h) x) c) loud, ap (λ x. items_at (reading_of (front_told h (part_of ps h) x)) c) loud, ap (λ x. updates_at (reading_of (front_told h (part_of ps h) x)) c) loud)
        (λ q r. within_two 0 h q (IsRead (reading_of (front_told h (part_of ps h) (is_live (part_of ps h)))) c q) (omega arith) below (no_front h (part_of ps h) (is_live (part_of ps h)) c q) r)
        (inl refl, (inr (inl refl), tt))
        (omega arith, tt)
        (is_equal c 0 0 (pos h) fits refl, (refl, tt))
        (λ e w g.
        let at : word_of e 0 0 ≡ pos h = tells_equal e c 0 0 (pos h) (Seen (place_part h) ∷ []) w.fits g in
        let still : is_live (part_of e (place_part h)) ≡ true = ap is_live g.1.0 ∙ loud in (
          end_told e 0 h (λ x ws. front_told x ws (is_live ws)) at ∙ ap (λ x. told_at (front_told h (part_of e (place_part h)) x) e) still ∙ ap (λ ws. T.Value (word ws 1)) g.1.0,
          end_updates e 0 h (λ x ws. front_told x ws (is_live ws)) at ∙ ap (λ x. updates_at (reading_of (front_told h (part_of e (place_part h)) x)) e) still,
        ))
        (sym (ap front_of (some_rows r some)))
        (left_alone (call_of 0 Get a b) refl (ap (λ x. is_write Get (front_of x)) (some_rows r some))))

    -- some
    live_same : (e : Parts) (b : Bool) → ContentsFit e → Agrees e (compared (place_part h) 0 Eq (bit b) ∷ []) c → is_live (part_of e (place_part h)) ≡ b
    live_same e b f g = ap (λ x. int_eq x (pos 1)) (tells_equal e c (place_part h) 0 (bit b) [] f g) ∙ bit_live b

    some_told_at : (a b : ℤ) → IsTold m (call_of 0 Has a b) (ring_telling n Has a) c
    some_told_at a b =
        let b0 : Bool = is_live (part_of ps h) in
        told_by m (call_of 0 Has a b) (ring_telling n Has a) c (T.Flag b0) (compared 0 0 Eq (pos h) ∷ compared (place_part h) 0 Eq (bit b0) ∷ []) []
        (refl, refl, refl)
        (λ q r. within_two 0 h q ⊥ (omega arith) below (λ z. z) r)
        (inl refl, (inr (inl refl), tt))
        (omega arith, (inside_place h below, tt))
        (is_equal c 0 0 (pos h) fits refl, (is_equal c (place_part h) 0 (bit b0) fits (word_of_bit h b0 below refl), tt))
        (λ e w g.
        let at : word_of e 0 0 ≡ pos h = tells_equal e c 0 0 (pos h) (compared (place_part h) 0 Eq (bit b0) ∷ []) w.fits g in (
          end_told e 0 h (λ x ws. some_told x (is_live ws)) at ∙ ap T.Flag (live_same e b0 w.fits g.1),
          end_updates e 0 h (λ x ws. some_told x (is_live ws)) at,
        ))
        (ap T.Flag (live_head ∙ ap (nat_lt 0) (sym many)))
        (left_alone (call_of 0 Has a b) refl refl)

    -- len
    len_ends : (e : Parts) (x y : ℕ) → word_of e 0 0 ≡ pos x → word_of e 1 0 ≡ pos y → (told_at (ring_telling n Len (pos 0)) e ≡ told_at (len_told n x y (nat_eq x y)) e) × (updates_at (reading_of (ring_telling n Len (pos 0))) e ≡ updates_at (reading_of (len_told n x y (nat_eq x y))) e)
    len_ends e x y p q = (
      ap (λ z. told_at (len_told n (natural z) (natural (word_of e 1 0)) (nat_eq (natural z) (natural (word_of e 1 0)))) e) p ∙ ap (λ z. told_at (len_told n x (natural z) (nat_eq x (natural z))) e) q,
      ap (λ z. updates_at (reading_of (len_told n (natural z) (natural (word_of e 1 0)) (nat_eq (natural z) (natural (word_of e 1 0))))) e) p ∙ ap (λ z. updates_at (reading_of (len_told n x (natural z) (nat_eq x (natural z)))) e) q,
    )

    within_ends : (q : ℕ) (b : Bool) → (0 ≡ q) ⊎ ((1 ≡ q) ⊎ IsRead (reading_of (len_told n h t b)) c q) → q < length (ring_widths n)
    within_ends q b (inl e) = omega (arith, e)
    within_ends q b (inr (inl e)) = omega (arith, e)
    within_ends q true (inr (inr (inl e))) = omega (arith, e, below, length_twos n)
    within_ends q true (inr (inr (inr z))) = absurd z
    within_ends q false (inr (inr z)) = absurd z

    len_told_at : (a b : ℤ) → IsTold m (call_of 0 Len a b) (ring_telling n Len a) c
    len_told_at a b = by_test (nat_eq h t)
        (λ same.
        let b0 : Bool = is_live (part_of ps h) in
        told_by m (call_of 0 Len a b) (ring_telling n Len a) c (T.Value (pos (if b0 then n else 0))) (compared 0 0 Eq (pos h) ∷ compared 1 0 Eq (pos t) ∷ compared (place_part h) 0 Eq (bit b0) ∷ []) []
        (ap (λ x. told_at (len_told n h t x) c) same, ap (λ x. items_at (reading_of (len_told n h t x)) c) same, ap (λ x. updates_at (reading_of (len_told n h t x)) c) same)
        (λ q r. within_ends q (nat_eq h t) r)
        (inl refl, (inr (inl refl), (inr (inr (read_of (nat_eq h t) same)), tt)))
        (omega arith, (omega arith, (inside_place h below, tt)))
        (is_equal c 0 0 (pos h) fits refl, (is_equal c 1 0 (pos t) fits refl, (is_equal c (place_part h) 0 (bit b0) fits (word_of_bit h b0 below refl), tt)))
        (λ e w g.
        let at : word_of e 0 0 ≡ pos h = tells_equal e c 0 0 (pos h) (compared 1 0 Eq (pos t) ∷ compared (place_part h) 0 Eq (bit b0) ∷ []) w.fits g in
        let to : word_of e 1 0 ≡ pos t = tells_equal e c 1 0 (pos t) (compared (place_part h) 0 Eq (bit b0) ∷ []) w.fits g.1 in (
          (len_ends e h t at to).0 ∙ ap (λ x. told_at (len_told n h t x) e) same ∙ ap (λ x. T.Value (pos (if x then n else 0))) (live_same e b0 w.fits g.1.1),
          (len_ends e h t at to).1 ∙ ap (λ x. updates_at (reading_of (len_told n h t x)) e) same,
        ))
        (ap (λ k. T.Value (pos k)) (sym (ap (λ x. if x then (if b0 then n else 0) else offset n h t) same) ∙ size_is n c v ∙ sym many))
        (left_alone (call_of 0 Len a b) refl refl))
        (λ other.
        told_by m (call_of 0 Len a b) (ring_telling n Len a) c (T.Value (pos (offset n h t))) (compared 0 0 Eq (pos h) ∷ compared 1 0 Eq (pos t) ∷ []) []
        (ap (λ x. told_at (len_told n h t x) c) other, ap (λ x. items_at (reading_of (len_told n h t x)) c) other, ap (λ x. updates_at (reading_of (len_told n h t x)) c) other)
        (λ q r. within_ends q (nat_eq h t) r)
        (inl refl, (inr (inl refl), tt))
        (omega arith, (omega arith, tt))
        (is_equal c 0 0 (pos h) fits refl, (is_equal c 1 0 (pos t) fits refl, tt))
        (λ e w g.
        let at : word_of e 0 0 ≡ pos h = tells_equal e c 0 0 (pos h) (compared 1 0 Eq (pos t) ∷ []) w.fits g in
        let to : word_of e 1 0 ≡ pos t = tells_equal e c 1 0 (pos t) [] w.fits g.1 in (
          (len_ends e h t at to).0 ∙ ap (λ x. told_at (len_told n h t x) e) other,
          (len_ends e h t at to).1 ∙ ap (λ x. updates_at (reading_of (len_told n h t x)) e) other,
        ))
        (ap (λ k. T.Value (pos k)) (sym (ap (λ x. if x then (if is_live (part_of ps h) then n else 0) else offset n h t) other) ∙ size_is n c v ∙ sym many))
        (left_alone (call_of 0 Len a b) refl refl))
      where
        read_of : (x : Bool) → x ≡ true → IsRead (reading_of (len_told n h t x)) c (place_part h)
        read_of true e = inl refl
        read_of false e = cc

  abbrev ToldAt : Call → Type 0
  ToldAt call = (c : Parts) → IsRing n c → IsTold m call (telling n call) c

  on_parts :
      (call : Call)
      → ((h s : ℕ) (ps : Parts) → h < n → s ≤ n → map length (ringed n h s ps) ≡ ring_widths n → ContentsFit (ringed n h s ps)
      → ((i : ℕ) → i < n → word (part_of ps i) 0 ≡ bit (nat_lt (offset n h i) s)) → IsTold m call (telling n call) (ringed n h s ps))
      → ToldAt call
  on_parts call each c v =
      let a : (ps : Parts) × (c ≡ ringed n v.first v.size ps) = apart n c v in
      subst (λ (d : Parts). IsTold m call (telling n call) d) (sym a.1)
      (each v.first v.size a.0 v.below v.few (subst (λ (d : Parts). map length d ≡ ring_widths n) a.1 v.widths) (subst ContentsFit a.1 v.fits)
      (λ i l. sym (ap (λ (d : Parts). word (part_of d (place_part i)) 0) a.1) ∙ v.lives i l))

  told : (call : Call) → RingTakes call → ToldAt call
  told = by_call ToldAt
      (λ a b. on_parts (call_of 0 Get a b) (λ h s ps below few widths fits lives. front_told_at h s ps below few widths fits lives a b))
      (λ a b. on_parts (call_of 0 Has a b) (λ h s ps below few widths fits lives. some_told_at h s ps below few widths fits lives a b))
      (λ a b. on_parts (call_of 0 Len a b) (λ h s ps below few widths fits lives. len_told_at h s ps below few widths fits lives a b))
      (λ a b f. on_parts (call_of 0 Push a b) (λ h s ps below few widths fits lives. push_told_at h s ps below few widths fits lives a b f))
      (λ a b. on_parts (call_of 0 Pop a b) (λ h s ps below few widths fits lives. pop_told_at h s ps below few widths fits lives a b))

  -- the opening
  opened_widths : (k : ℕ) → map length (replicate k (pos 0 ∷ pos 0 ∷ [])) ≡ replicate k 2
  opened_widths zero = refl
  opened_widths (suc k) = ap (λ l. 2 ∷ l) (opened_widths k)

  zero_fits : FitsSigned w64 (pos 0)
  zero_fits = record { sfits = omega arith }

  opened_fits : (k : ℕ) → ContentsFit (replicate k (pos 0 ∷ pos 0 ∷ []))
  opened_fits zero = tt
  opened_fits (suc k) = ((zero_fits, (zero_fits, tt)), opened_fits k)

  opened_place : (k i : ℕ) → i < k → word (part_of (replicate k (pos 0 ∷ pos 0 ∷ [])) i) 0 ≡ pos 0
  opened_place zero i l = absurd (omega (arith, l))
  opened_place (suc k) zero l = refl
  opened_place (suc k) (suc i) l = opened_place k i (omega (arith, l))

  at_zero : 1 ≤ n → wrapped n (0 + 0) ≡ 0
  at_zero l = grind (arith, nat_tests)

  none_below : (i : ℕ) → nat_lt i 0 ≡ false
  none_below i = grind (arith, nat_tests)

  abbrev opened_ring : 1 ≤ n → IsRing n (ring_opened n)
  opened_ring some = record {
    widths = ap (λ l. 1 ∷ 1 ∷ l) (opened_widths n);
    fits = ((zero_fits, tt), ((zero_fits, tt), opened_fits n));
    first = 0;
    size = 0;
    below = some;
    few = omega arith;
    head = refl;
    tail = ap pos (sym (at_zero some));
    lives = λ i l. opened_place n i l ∙ ap bit (sym (none_below (offset n 0 i)));
  }

  pub ring_type : 1 ≤ n → IsType m (telling n)
  ring_type some = record {
    opening = opened_ring some;
    widths = λ c v. v.widths;
    fits = λ c v. v.fits;
    object = λ call t. t.object;
    calls = λ call c t v. told call t c v;
  }

  pub ring_lawful : 1 ≤ n → IsLawful m
  ring_lawful some =
      one_object_lawful (ring_machine n) (ring_widths n) (ring_opened n) (IsRing n) (ring_rows n) RingTakes (telling n) (ring_type some) (rows_are n (ring_opened n) (opened_ring some))
