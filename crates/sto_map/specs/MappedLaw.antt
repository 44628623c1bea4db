-- A map is lawful.
use Rattle.std.specs.Prelude.{◌≡◌, ◌<◌, ◌≤◌, ◌+◌, ◌⊎◌, ℕ, zero, suc, ℤ, pos, negsuc, nat_le, int_lt, not, Bool, true, false, ◌&&◌, if◌then◌else◌, Option, Some, None, is_some, List, [], ◌∷◌, ◌++◌, length, replicate, slice_index_or, IsTrue, refl}
use Rattle.std.specs.Ordering.{int_eq}
use Rattle.std.specs.Int.{w64}
use Rattle.std.specs.Int.RustNames.{FitsSigned}
use Rattle.std.proofs.Common.{ap, sym, ◌∙◌, arith, subst, inl, inr}
use Rattle.std.proofs.lemmas.Int.{ints}
use Rattle.std.proofs.lemmas.Bool.Decides.{nat_tests}
use Rattle.sto_part.specs.Parts.{part_of}
use Rattle.sto_part.specs.Changes.{applied, applied_all}
use Rattle.sto_part.specs.declared.change.Change.{Change}
use Rattle.sto_part.specs.declared.change.Change.TheVariants as C
use Rattle.sto_item.specs.declared.item.Item.{Item}
use Rattle.sto_item.specs.declared.item.Item.TheVariants.{Seen, Holds}
use Rattle.sto_item.specs.Pending.{Entry, is_keep, applied_updates}
use Rattle.sto_item.specs.Agreement.{Agrees}
use Rattle.sto_item.proofs.Applied.{part_of-set_other, part_of-set_same}
use Rattle.sto_model.specs.declared.call.Call.{Call}
use Rattle.sto_model.specs.declared.operation.Operation.{Operation}
use Rattle.sto_model.specs.declared.operation.Operation.TheVariants.{Get, Set, Add, Test as TestWord, Take, Put, Remove, Has, Len, Next, Count, Scan, Push, Pop}
use Rattle.sto_model.specs.Calls.{call_of}
use Rattle.sto_model.specs.Rows.{Row, value_at, has_key, with_row, without}
use Rattle.sto_model.specs.PlainReplies.{PlainReply, is_write}
use Rattle.sto_model.specs.PlainReplies as T
use Rattle.sto_model.specs.Objects.{effect, value_or_absent, put_effect, remove_effect}
use Rattle.sto_model.specs.SequentialObjects.{reply_to, state_after}
use Rattle.sto_model.proofs.RowFacts.{by_test}
use Rattle.sto_type.specs.Known.{Parts}
use Rattle.sto_type.specs.Meaning.{Meaning, IsLawful, IsUpdated, EachInside}
use Rattle.sto_type.specs.Reading.{IsRead}
use Rattle.sto_type.specs.Observing.{EachRead}
use Rattle.sto_type.specs.Telling.{Telling, Tell, reading_of}
use Rattle.sto_type.specs.OneObject.{IsTold, IsType}
use Rattle.sto_type.specs.OneObjectLaw.{one_object_lawful}
use Rattle.sto_type.specs.Words.{word, ChangeFits, fits_after, widths_after, owned_all}
use Rattle.sto_container.specs.Places.{wrapped, is_live, natural}
use Rattle.sto_map.specs.Counts.{total, total-same, one, one-total, same_or_below}
use Rattle.sto_map.specs.Mapped.{Sizes, AreSizes, key_part, over_part, value_part, map_widths, key_of, holds, before, passes, count, rooms, IsNatural, IsMap, map_rows, set_at, add_at, map_machine, takes_by, look_all, get_found, has_found, change_found, removed, remove_found, added, put_absent, place_from_home, map_telling, MapTakes, telling, map_meaning}
use Rattle.sto_map.specs.Finding.{EndAlike, IsHere, NoneHere, IsWalk, missed, both_agree, found_walk, not_missed, absent_walk, reads_absent, missed_read, look_within, then_alike}
use Rattle.sto_map.specs.Widths.{length_same, past_front, in_last, long_front, width_there, one_word}
use Rattle.sto_map.specs.Removing.{rising, wide, is_removed, rows_without, overs-change, room_wide}
use Rattle.sto_map.specs.Adding.{rising as added_rise, changes as added_change, wide as added_wide, is_added, rows_more}
use Rattle.sto_map.specs.Putting.{place_found, place_seen, place_end, room_found, room_seen, room_end, place_walks, room_walks, place_keeps, place_alike, room_keeps, room_alike}
use Rattle.sto_map.specs.PutFacts.{IsFirst, IsNowhere, ring_spec, live_at, no_room, place_first, room_first, place_reads, room_reads, room_then, room_within, place_true, room_true, place_inside, room_inside, length-rows}
use Rattle.sto_map.specs.Placing.{value_of, none_placed, one_placed, rows_with}
use Rattle.sto_container.specs.Endings.{told_by}

-- the operations that a map takes
by_operation :
    {P : Type 0} (operation : Operation) → IsTrue (takes_by operation) → (operation ≡ Get → P) → (operation ≡ Set → P) → (operation ≡ Add → P)
    → (operation ≡ Put → P) → (operation ≡ Remove → P) → (operation ≡ Has → P) → P
by_operation Get h get set add put remove has = get refl
by_operation Set h get set add put remove has = set refl
by_operation Add h get set add put remove has = add refl
by_operation TestWord h get set add put remove has = cc
by_operation Take h get set add put remove has = cc
by_operation Put h get set add put remove has = put refl
by_operation Remove h get set add put remove has = remove refl
by_operation Has h get set add put remove has = has refl
by_operation Len h get set add put remove has = cc
by_operation Next h get set add put remove has = cc
by_operation Count h get set add put remove has = cc
by_operation Scan h get set add put remove has = cc
by_operation Push h get set add put remove has = cc
by_operation Pop h get set add put remove has = cc

by_call :
    (P : Call → Type 0) → ((a b : ℤ) → P (call_of 0 Get a b)) → ((a b : ℤ) → FitsSigned w64 b → P (call_of 0 Set a b)) → ((a b : ℤ) → P (call_of 0 Add a b))
    → ((a b : ℤ) → FitsSigned w64 a → FitsSigned w64 b → P (call_of 0 Put a b)) → ((a b : ℤ) → P (call_of 0 Remove a b)) → ((a b : ℤ) → P (call_of 0 Has a b))
    → (call : Call) → MapTakes call → P call
by_call P get set add put remove has call t =
    let same : (o : Operation) → call.operation ≡ o → call ≡ call_of 0 o call.a call.b = λ o e i. record { object = t.object i; operation = e i; a = call.a; b = call.b; c = t.third i } in
    by_operation call.operation t.taken
    (λ e. subst P (sym (same Get e)) (get call.a call.b))
    (λ e. subst P (sym (same Set e)) (set call.a call.b t.fits_too))
    (λ e. subst P (sym (same Add e)) (add call.a call.b))
    (λ e. subst P (sym (same Put e)) (put call.a call.b t.fits t.fits_too))
    (λ e. subst P (sym (same Remove e)) (remove call.a call.b))
    (λ e. subst P (sym (same Has e)) (has call.a call.b))

-- a key stands somewhere, or nowhere
true_is_not : true ≡ false → ⊥
true_is_not e = cc

find : (z : Sizes) (c : Parts) (k : ℤ) (n : ℕ) → ((p : ℕ) × (p < n) × (holds k (part_of c (key_part z p)) ≡ true)) ⊎ ((p : ℕ) → p < n → holds k (part_of c (key_part z p)) ≡ false)
find z c k zero = inr (λ p l. absurd (omega (arith, l)))
find z c k (suc n) =
    by_test (holds k (part_of c (key_part z n)))
    (λ t. inl (n, omega arith, t))
    (λ t. elim (find z c k n) [
      | inl f ↦ inl (f.0, omega (arith, f.1), f.2)
      | inr f ↦ inr (λ p l. elim (same_or_below p n l) [
        | inl same ↦ ap (λ q. holds k (part_of c (key_part z q))) same ∙ t
        | inr below ↦ f p below
      ])
    ])

inside_both : (ws : List ℕ) (xs ys : List Item) → EachInside ws xs → EachInside ws ys → EachInside ws (xs ++ ys)
inside_both ws [] ys f g = g
inside_both ws (Seen p ∷ xs) ys f g = inside_both ws xs ys f g
inside_both ws (Holds p ∷ xs) ys f g = (f.0, inside_both ws xs ys f.1 g)

seen_inside : (z : Sizes) (ws : List ℕ) (left p : ℕ) (seen : List Item) (e : Parts) → EachInside ws seen → EachInside ws (missed z left p seen e)
seen_inside z ws zero p seen e h = h
seen_inside z ws (suc left) p seen e h =
    by_test (int_eq (word (part_of e (over_part z p)) 0) (pos 0))
    (λ o. subst (λ (b : Bool). EachInside ws (if b then seen ++ Seen (key_part z p) ∷ Seen (over_part z p) ∷ [] else missed z left (wrapped z.places (suc p)) (seen ++ Seen (key_part z p) ∷ []) e)) (sym o) (inside_both ws seen (Seen (key_part z p) ∷ Seen (over_part z p) ∷ []) h tt))
    (λ o. subst (λ (b : Bool). EachInside ws (if b then seen ++ Seen (key_part z p) ∷ Seen (over_part z p) ∷ [] else missed z left (wrapped z.places (suc p)) (seen ++ Seen (key_part z p) ∷ []) e)) (sym o)
    (seen_inside z ws left (wrapped z.places (suc p)) (seen ++ Seen (key_part z p) ∷ []) e (inside_both ws seen (Seen (key_part z p) ∷ []) h tt)))

missed_true : (z : Sizes) (left p : ℕ) (seen : List Item) (e : Parts) → Agrees e seen e → Agrees e (missed z left p seen e) e
missed_true z zero p seen e h = h
missed_true z (suc left) p seen e h =
    by_test (int_eq (word (part_of e (over_part z p)) 0) (pos 0))
    (λ o. subst (λ (b : Bool). Agrees e (if b then seen ++ Seen (key_part z p) ∷ Seen (over_part z p) ∷ [] else missed z left (wrapped z.places (suc p)) (seen ++ Seen (key_part z p) ∷ []) e) e) (sym o) (both_agree e e seen (Seen (key_part z p) ∷ Seen (over_part z p) ∷ []) h (refl, (refl, tt))))
    (λ o. subst (λ (b : Bool). Agrees e (if b then seen ++ Seen (key_part z p) ∷ Seen (over_part z p) ∷ [] else missed z left (wrapped z.places (suc p)) (seen ++ Seen (key_part z p) ∷ []) e) e) (sym o)
    (missed_true z left (wrapped z.places (suc p)) (seen ++ Seen (key_part z p) ∷ []) e (both_agree e e seen (Seen (key_part z p) ∷ []) h (refl, tt))))

start_below : (z : Sizes) → AreSizes z → (k : ℤ) → z.home k ≡ wrapped z.places (z.home k + 0)
start_below z a k = let l : z.home k < z.places = a.homes k in sym (here (z.home k) l)
  where
    here : (h : ℕ) → h < z.places → wrapped z.places (h + 0) ≡ h
    here h l = grind (arith, nat_tests)

module _ (z : Sizes) (a : AreSizes z) (opened : Parts) where
  abbrev m : Meaning
  m = map_meaning z opened

  many : length (map_widths z) ≡ z.stripes + (z.places + (z.places + z.places))
  many =
      long_front z.stripes 1 (replicate z.places 2 ++ (replicate z.places 1 ++ replicate z.places 1))
      ∙ ap (λ x. z.stripes + x) (long_front z.places 2 (replicate z.places 1 ++ replicate z.places 1) ∙ ap (λ x. z.places + x) (long_front z.places 1 (replicate z.places 1) ∙ ap (λ x. z.places + x) (length_same z.places 1)))

  value_width : (p : ℕ) → p < z.places → slice_index_or (map_widths z) (value_part z p) 0 ≡ 1
  value_width p l =
      past_front z.stripes 1 (replicate z.places 2 ++ (replicate z.places 1 ++ replicate z.places 1)) (z.places + (z.places + p))
      ∙ past_front z.places 2 (replicate z.places 1 ++ replicate z.places 1) (z.places + p) ∙ past_front z.places 1 (replicate z.places 1) p ∙ in_last z.places 1 p l

  -- the law of one call: what it says where the key is found and where it is not
  module _ (c : Parts) (v : IsMap z c) (k : ℤ) where
    left_alone : (call : Call) → map_rows z c ∷ [] ≡ state_after m.machines call (map_rows z c ∷ []) → is_write call.operation (reply_to m.machines call (map_rows z c ∷ [])) ≡ false → IsUpdated m call c []
    left_alone call r w = record { ordered = (tt, tt); owned = tt; widths = tt; valid = v; rows = r; writes = w }

    once_at : (p : ℕ) → IsHere z c k p → (q : ℕ) → q < z.places → holds k (part_of c (key_part z q)) ≡ true → q ≡ p
    once_at p h q l t = v.once q p k l h.below t h.holds

    there : (p : ℕ) → IsHere z c k p → value_at (map_rows z c) k ≡ Some (value_of z c p)
    there p h = one_placed z c k p z.places h.below h.holds (once_at p h)

    nowhere : NoneHere z c k → value_at (map_rows z c) k ≡ None
    nowhere none = none_placed z c k z.places none

    walk : (found : ℕ → Telling) (absent : List Item → Telling) (p : ℕ) (e : Parts) (w : IsMap z e) → IsHere z e k p → IsWalk z found e (look_all z k found absent) p
    walk found absent p e w h = found_walk z a e w k p h found absent z.places 0 (z.home k) [] (omega arith) (start_below z a k) (omega arith)

    within : (found : ℕ → Telling) (absent : List Item → Telling) → ((p x : ℕ) → p < z.places → IsRead (reading_of (found p)) c x → x < length (map_widths z)) → ((is : List Item) (x : ℕ) → IsRead (reading_of (absent is)) c x → x < length (map_widths z))
        → (x : ℕ) → IsRead (reading_of (look_all z k found absent)) c x → x < length (map_widths z)
    within found absent f g x r =
        look_within z a c v k (length (map_widths z)) found absent (λ q l. omega (arith, l, many)) (λ q l. omega (arith, l, many)) f g z.places (z.home k) [] (a.homes k) x r

    -- a call whose absent case says one thing and writes nothing
    absent_told :
        (call : Call) (found : ℕ → Telling) (t : PlainReply) → NoneHere z c k → ((p x : ℕ) → p < z.places → IsRead (reading_of (found p)) c x → x < length (map_widths z))
        → t ≡ reply_to m.machines call (m.rows c) → IsUpdated m call c [] → IsTold m call (look_all z k found (λ is. Tell t is [])) c
    absent_told call found t none f says u =
        let absent : List Item → Telling = λ is. Tell t is [] in
        let end : EndAlike (look_all z k found absent) (absent (missed z z.places (z.home k) [] c)) c = absent_walk z a c v k none found absent z.places (z.home k) [] (a.homes k) in
        told_by m call (look_all z k found absent) c t (missed z z.places (z.home k) [] c) [] (end.told, end.items, end.updates)
        (within found absent f (λ is x r. absurd r))
        (missed_read z a c v k none found absent (look_all z k found absent) z.places (z.home k) [] (a.homes k) (λ x r. r) tt)
        (seen_inside z (map_widths z) z.places (z.home k) [] c tt)
        (missed_true z z.places (z.home k) [] c tt)
        (λ e w g.
        let nobody : NoneHere z e k =
        λ p l. by_test (holds k (part_of e (key_part z p)))
        (λ y. absurd (not_missed z a e w k p (record { below = l; holds = y }) c none z.places 0 (z.home k) [] (omega arith) (start_below z a k) (omega arith) g))
        (λ y. y) in
        let other : EndAlike (look_all z k found absent) (absent (missed z z.places (z.home k) [] e)) e = absent_walk z a e w k nobody found absent z.places (z.home k) [] (a.homes k) in
        (other.told, other.updates))
        says
        u

  get_in : (c : Parts) (p x : ℕ) → p < z.places → IsRead (reading_of (get_found z p)) c x → x < length (map_widths z)
  get_in c p x l (inl e) = omega (arith, e, l, many)
  get_in c p x l (inr r) = absurd r

  module _ (c : Parts) (v : IsMap z c) (k : ℤ) where
    get_told : (b : ℤ) → IsTold m (call_of 0 Get k b) (map_telling z Get k b) c
    get_told b = elim (find z c k z.places) [
      | inl f ↦
          let p : ℕ = f.0 in
          let h : IsHere z c k p = record { below = f.1; holds = f.2 } in
          let absent : List Item → Telling = λ is. Tell T.Absent is [] in
          let w : IsWalk z (get_found z) c (look_all z k (get_found z) absent) p = walk c v k (get_found z) absent p c v h in
          told_by m (call_of 0 Get k b) (look_all z k (get_found z) absent) c (T.Value (value_of z c p)) (Seen (key_part z p) ∷ Seen (value_part z p) ∷ []) [] (w.ends.told, w.ends.items, w.ends.updates)
          (within c v k (get_found z) absent (get_in c) (λ is x r. absurd r))
          (w.reads_key, (w.reads (value_part z p) (inl refl), tt))
          tt
          (refl, (refl, tt))
          (λ e x g.
          let there_too : IsHere z e k p = record { below = f.1; holds = ap (holds k) g.0 ∙ f.2 } in
          let y : IsWalk z (get_found z) e (look_all z k (get_found z) absent) p = walk c v k (get_found z) absent p e x there_too in
          (y.ends.told ∙ ap (λ ws. T.Value (word ws 0)) g.1.0, y.ends.updates))
          (sym (ap value_or_absent (there c v k p h)))
          (left_alone c v k (call_of 0 Get k b) refl (ap (λ o. is_write Get (value_or_absent o)) (there c v k p h)))
      | inr none ↦
          absent_told c v k (call_of 0 Get k b) (get_found z) T.Absent none (get_in c) (sym (ap value_or_absent (nowhere c v k none)))
          (left_alone c v k (call_of 0 Get k b) refl (ap (λ o. is_write Get (value_or_absent o)) (nowhere c v k none)))
    ]

    has_told : (b : ℤ) → IsTold m (call_of 0 Has k b) (map_telling z Has k b) c
    has_told b = elim (find z c k z.places) [
      | inl f ↦
          let p : ℕ = f.0 in
          let h : IsHere z c k p = record { below = f.1; holds = f.2 } in
          let absent : List Item → Telling = λ is. Tell (T.Flag false) is [] in
          let w : IsWalk z (has_found z) c (look_all z k (has_found z) absent) p = walk c v k (has_found z) absent p c v h in
          told_by m (call_of 0 Has k b) (look_all z k (has_found z) absent) c (T.Flag true) (Seen (key_part z p) ∷ []) [] (w.ends.told, w.ends.items, w.ends.updates)
          (within c v k (has_found z) absent (λ q x l r. absurd r) (λ is x r. absurd r))
          (w.reads_key, tt)
          tt
          (refl, tt)
          (λ e x g.
          let there_too : IsHere z e k p = record { below = f.1; holds = ap (holds k) g.0 ∙ f.2 } in
          let y : IsWalk z (has_found z) e (look_all z k (has_found z) absent) p = walk c v k (has_found z) absent p e x there_too in
          (y.ends.told, y.ends.updates))
          (sym (ap (λ o. T.Flag (is_some o)) (there c v k p h)))
          (left_alone c v k (call_of 0 Has k b) refl refl)
      | inr none ↦
          absent_told c v k (call_of 0 Has k b) (has_found z) (T.Flag false) none (λ q x l r. absurd r) (sym (ap (λ o. T.Flag (is_some o)) (nowhere c v k none)))
          (left_alone c v k (call_of 0 Has k b) refl refl)
    ]

  -- the value of one place changes
  module _ (c : Parts) (v : IsMap z c) (p : ℕ) (l : p < z.places) (ch : Change) where
    abbrev changes : List Entry
    changes = (value_part z p, ch ∷ []) ∷ []

    abbrev after : Parts
    after = applied_updates changes c

    value_in : (value_part z p < length c) × (length (part_of c (value_part z p)) ≡ 1)
    value_in =
        let r : (value_part z p < length c) × (length (part_of c (value_part z p)) ≡ slice_index_or (map_widths z) (value_part z p) 0) = width_there c (map_widths z) (value_part z p) v.widths (omega (arith, l, many)) in
        (r.0, r.1 ∙ value_width p l)

    other_kept : (q : ℕ) → (q ≡ value_part z p → ⊥) → part_of after q ≡ part_of c q
    other_kept q other = part_of-set_other c (value_part z p) q _ other

    value_new : part_of after (value_part z p) ≡ applied ch (value_of z c p) ∷ []
    value_new = part_of-set_same c (value_part z p) _ value_in.0 ∙ ap (applied_all (ch ∷ [])) (one_word (part_of c (value_part z p)) value_in.1)

    key_kept : (q : ℕ) → q < z.places → part_of after (key_part z q) ≡ part_of c (key_part z q)
    key_kept q b = other_kept (key_part z q) (λ e. omega (arith, b, e))

    over_kept : (q : ℕ) → q < z.places → part_of after (over_part z q) ≡ part_of c (over_part z q)
    over_kept q b = other_kept (over_part z q) (λ e. omega (arith, b, e))

    room_kept : (s : ℕ) → s < z.stripes → part_of after s ≡ part_of c s
    room_kept s b = other_kept s (λ e. omega (arith, b, e))

    value_kept : (q : ℕ) → q < z.places → (q ≡ p → ⊥) → value_of z after q ≡ value_of z c q
    value_kept q b other = ap (λ ws. word ws 0) (other_kept (value_part z q) (λ e. other (omega (arith, e))))

    changed_map : ChangeFits ch → IsMap z after
    changed_map f = record {
      widths = widths_after changes c ∙ v.widths;
      fits = fits_after changes c ((f, tt), tt) v.fits;
      bits = λ q b. subst (λ (ws : List ℤ). word ws 0 ≡ pos (one (is_live ws))) (sym (key_kept q b)) (v.bits q b);
      once = λ q r k b d f g. v.once q r k b d (sym (ap (holds k) (key_kept q b)) ∙ f) (sym (ap (holds k) (key_kept r d)) ∙ g);
      overs = λ q b. ap (λ ws. word ws 0) (over_kept q b) ∙ v.overs q b
          ∙ ap pos (total-same z.places (passes z c q) (passes z after q) (λ r d. ap (λ ws. one (is_live ws && before z (key_of ws) q r)) (sym (key_kept r d))));
      natural_rooms = λ s b. subst IsNatural (sym (ap (λ ws. word ws 0) (room_kept s b))) (v.natural_rooms s b);
      counted =
          let left : rooms z after ≡ rooms z c = total-same z.stripes (λ s. natural (word (part_of after s) 0)) (λ s. natural (word (part_of c s) 0)) (λ s b. ap (λ ws. natural (word ws 0)) (room_kept s b)) in
          let right : count z after ≡ count z c = total-same z.places (λ q. one (is_live (part_of after (key_part z q)))) (λ q. one (is_live (part_of c (key_part z q)))) (λ q b. ap (λ ws. one (is_live ws)) (key_kept q b)) in
          (λ i. left i + right i) ∙ v.counted;
    }

    changed_rows : (k : ℤ) → IsHere z c k p → map_rows z after ≡ with_row (map_rows z c) k (applied ch (value_of z c p))
    changed_rows k h = rows_with z c after key_kept k (applied ch (value_of z c p)) p l h.holds (once_at c v k p h) (ap (λ ws. word ws 0) value_new) value_kept

  module _ (c : Parts) (v : IsMap z c) (k : ℤ) (call : Call) (ch : Change) (object : call.object ≡ 0) (keeps : is_keep ch ≡ false) (fit : ChangeFits ch) (writes : is_write call.operation T.Done ≡ true)
      (done : (x : ℤ) → value_at (map_rows z c) k ≡ Some x → (T.Done ≡ reply_to m.machines call (map_rows z c ∷ [])) × (with_row (map_rows z c) k (applied ch x) ∷ [] ≡ state_after m.machines call (map_rows z c ∷ [])))
      (not_done : value_at (map_rows z c) k ≡ None → (T.Absent ≡ reply_to m.machines call (map_rows z c ∷ [])) × (map_rows z c ∷ [] ≡ state_after m.machines call (map_rows z c ∷ []))) where
    change_told : IsTold m call (look_all z k (change_found z ch) (λ seen. Tell T.Absent seen [])) c
    change_told = elim (find z c k z.places) [
      | inl f ↦
          let p : ℕ = f.0 in
          let h : IsHere z c k p = record { below = f.1; holds = f.2 } in
          let absent : List Item → Telling = λ is. Tell T.Absent is [] in
          let w : IsWalk z (change_found z ch) c (look_all z k (change_found z ch) absent) p = walk c v k (change_found z ch) absent p c v h in
          let said : (T.Done ≡ reply_to m.machines call (map_rows z c ∷ [])) × (with_row (map_rows z c) k (applied ch (value_of z c p)) ∷ [] ≡ state_after m.machines call (map_rows z c ∷ [])) = done (value_of z c p) (there c v k p h) in
          let vin : (value_part z p < length c) × (length (part_of c (value_part z p)) ≡ 1) = value_in c v p f.1 ch in
          told_by m call (look_all z k (change_found z ch) absent) c T.Done (Seen (key_part z p) ∷ []) ((value_part z p, ch ∷ []) ∷ []) (w.ends.told, w.ends.items, w.ends.updates)
          (within c v k (change_found z ch) absent (λ q x l r. absurd r) (λ is x r. absurd r))
          (w.reads_key, tt)
          tt
          (refl, tt)
          (λ e x g.
          let there_too : IsHere z e k p = record { below = f.1; holds = ap (holds k) g.0 ∙ f.2 } in
          let y : IsWalk z (change_found z ch) e (look_all z k (change_found z ch) absent) p = walk c v k (change_found z ch) absent p e x there_too in
          (y.ends.told, y.ends.updates))
          said.0
          (record {
            ordered = ((omega arith, tt), (ap (λ b. b && true) keeps, tt));
            owned = owned_all (map_widths z) call.object ((value_part z p, ch ∷ []) ∷ []) c object v.widths (vin.0, vin.1, tt);
            widths = (vin.0, vin.1, tt);
            valid = changed_map c v p f.1 ch fit;
            rows = ap (λ r. r ∷ []) (changed_rows c v p f.1 ch k h) ∙ said.1;
            writes = ap (is_write call.operation) (sym said.0) ∙ writes;
          })
      | inr none ↦
          let said : (T.Absent ≡ reply_to m.machines call (map_rows z c ∷ [])) × (map_rows z c ∷ [] ≡ state_after m.machines call (map_rows z c ∷ [])) = not_done (nowhere c v k none) in
          absent_told c v k call (change_found z ch) T.Absent none (λ q x l r. absurd r) said.0
          (left_alone c v k call said.1 (ap (is_write call.operation) (sym said.0)))
    ]

  -- remove
  remove_told : (c : Parts) (v : IsMap z c) (k b : ℤ) → IsTold m (call_of 0 Remove k b) (map_telling z Remove k b) c
  remove_told c v k b = elim (find z c k z.places) [
    | inl f ↦
        let p : ℕ = f.0 in
        let h : IsHere z c k p = record { below = f.1; holds = f.2 } in
        let absent : List Item → Telling = λ is. Tell (T.Flag false) is [] in
        let w : IsWalk z (remove_found z k) c (look_all z k (remove_found z k) absent) p = walk c v k (remove_found z k) absent p c v h in
        let has : has_key (map_rows z c) k ≡ true = ap is_some (there c v k p h) in
        told_by m (call_of 0 Remove k b) (look_all z k (remove_found z k) absent) c (T.Flag true) (Seen (key_part z p) ∷ []) (removed z k p) (w.ends.told, w.ends.items, w.ends.updates)
        (within c v k (remove_found z k) absent (λ q x l r. absurd r) (λ is x r. absurd r))
        (w.reads_key, tt)
        tt
        (refl, tt)
        (λ e x g.
        let there_too : IsHere z e k p = record { below = f.1; holds = ap (holds k) g.0 ∙ f.2 } in
        let y : IsWalk z (remove_found z k) e (look_all z k (remove_found z k) absent) p = walk c v k (remove_found z k) absent p e x there_too in
        (y.ends.told, y.ends.updates))
        (sym (reply_by true has))
        (record {
          ordered = (rising z c v k p h (a.rooms k) a.small, (refl, (refl, overs-change z k p (negsuc 0) 0 z.places)));
          owned = owned_all (map_widths z) 0 (removed z k p) c refl v.widths (wide z c v k p h (a.rooms k) a.small);
          widths = wide z c v k p h (a.rooms k) a.small;
          valid = is_removed z c v k p h (a.rooms k) a.small;
          rows = ap (λ r. r ∷ []) (rows_without z c v k p h (a.rooms k) a.small ∙ sym (after_by true has));
          writes = ap (is_write Remove) (reply_by true has);
        })
    | inr none ↦
        let has : has_key (map_rows z c) k ≡ false = ap is_some (nowhere c v k none) in
        absent_told c v k (call_of 0 Remove k b) (remove_found z k) (T.Flag false) none (λ q x l r. absurd r) (sym (reply_by false has))
        (left_alone c v k (call_of 0 Remove k b) (ap (λ r. r ∷ []) (sym (after_by false has))) (ap (is_write Remove) (reply_by false has)))
  ]
    where
      reply_by : (x : Bool) → has_key (map_rows z c) k ≡ x → (remove_effect k (map_rows z c)).reply ≡ T.Flag x
      reply_by true e = rw e refl
      reply_by false e = rw e refl

      after_by : (x : Bool) → has_key (map_rows z c) k ≡ x → (remove_effect k (map_rows z c)).after ≡ (if x then without (map_rows z c) k else map_rows z c)
      after_by true e = rw e refl
      after_by false e = rw e refl

  -- put
  found_told :
      (c : Parts) (v : IsMap z c) (k x : ℤ) (absent : List Item → Telling) → FitsSigned w64 x → ((is : List Item) (y : ℕ) → IsRead (reading_of (absent is)) c y → y < length (map_widths z)) → (p : ℕ) → IsHere z c k p
      → IsTold m (call_of 0 Put k x) (look_all z k (change_found z (C.Put x)) absent) c
  found_told c v k x absent fit absent_in p h =
      let found : ℕ → Telling = change_found z (C.Put x) in
      let w : IsWalk z found c (look_all z k found absent) p = walk c v k found absent p c v h in
      let has : has_key (map_rows z c) k ≡ true = ap is_some (there c v k p h) in
      let full : Bool = nat_le z.keys (length (map_rows z c)) in
      let reply : (put_effect full k x (map_rows z c)).reply ≡ T.Done = ap (λ b. (if not b && full then effect T.Full (map_rows z c) else effect T.Done (with_row (map_rows z c) k x)).reply) has in
      let rows : (put_effect full k x (map_rows z c)).after ≡ with_row (map_rows z c) k x = ap (λ b. (if not b && full then effect T.Full (map_rows z c) else effect T.Done (with_row (map_rows z c) k x)).after) has in
      let vin : (value_part z p < length c) × (length (part_of c (value_part z p)) ≡ 1) = value_in c v p h.below (C.Put x) in
      told_by m (call_of 0 Put k x) (look_all z k found absent) c T.Done (Seen (key_part z p) ∷ []) ((value_part z p, C.Put x ∷ []) ∷ []) (w.ends.told, w.ends.items, w.ends.updates)
      (within c v k found absent (λ q y l r. absurd r) absent_in)
      (w.reads_key, tt)
      tt
      (refl, tt)
      (λ e u g.
      let there_too : IsHere z e k p = record { below = h.below; holds = ap (holds k) g.0 ∙ h.holds } in
      let y : IsWalk z found e (look_all z k found absent) p = walk c v k found absent p e u there_too in
      (y.ends.told, y.ends.updates))
      (sym reply)
      (record {
        ordered = ((omega arith, tt), (refl, tt));
        owned = owned_all (map_widths z) 0 ((value_part z p, C.Put x ∷ []) ∷ []) c refl v.widths (vin.0, vin.1, tt);
        widths = (vin.0, vin.1, tt);
        valid = changed_map c v p h.below (C.Put x) fit;
        rows = ap (λ r. r ∷ []) (changed_rows c v p h.below (C.Put x) k h ∙ sym rows);
        writes = ap (is_write Put) reply;
      })

  room_none : (w : ℤ) → IsNatural w → int_lt w (pos 1) ≡ true → natural w ≡ 0
  room_none (pos zero) h e = refl
  room_none (pos (suc n)) h e = let f : int_lt (pos (suc n)) (pos 1) ≡ false = grind (arith, ints) in absurd (true_is_not (sym e ∙ f))
  room_none (negsuc n) h e = absurd h

  room_some : (w : ℤ) → IsNatural w → int_lt w (pos 1) ≡ false → (r : ℕ) × (natural w ≡ suc r)
  room_some (pos zero) h e = let f : int_lt (pos 0) (pos 1) ≡ true = refl in absurd (true_is_not (sym f ∙ e))
  room_some (pos (suc n)) h e = (n, refl)
  room_some (negsuc n) h e = absurd h

  total-none : (n : ℕ) (f : ℕ → ℕ) → ((q : ℕ) → q < n → f q ≡ 0) → total n f ≡ 0
  total-none zero f e = refl
  total-none (suc n) f e = omega (arith, total-none n f (λ q l. e q (omega (arith, l))), e n (omega arith))

  total-ones : (n : ℕ) (f : ℕ → ℕ) → ((q : ℕ) → q < n → f q ≡ 1) → total n f ≡ n
  total-ones zero f e = refl
  total-ones (suc n) f e = omega (arith, total-ones n f (λ q l. e q (omega (arith, l))), e n (omega arith))

  le_true : (i j : ℕ) → i ≤ j → nat_le i j ≡ true
  le_true i j l = grind (arith, nat_tests)

  le_false : (i j : ℕ) → j < i → nat_le i j ≡ false
  le_false i j l = grind (arith, nat_tests)

  module _ (c : Parts) (v : IsMap z c) (k x : ℤ) (k_fits : FitsSigned w64 k) (x_fits : FitsSigned w64 x) (none : NoneHere z c k) where
    abbrev found : ℕ → Telling
    found = change_found z (C.Put x)

    abbrev absent : List Item → Telling
    absent = put_absent z k x

    abbrev whole : Telling
    whole = look_all z k found absent

    abbrev gone : List Item
    gone = missed z z.places (z.home k) [] c

    abbrev roomed : List Item
    roomed = room_seen z k x z.stripes (z.stripe k) gone c

    abbrev stripe_found : Parts → Option ℕ
    stripe_found e = room_found z k x z.stripes (z.stripe k) e

    abbrev rows : List Row
    rows = map_rows z c

    abbrev full : Bool
    full = nat_le z.keys (length rows)

    has_none : has_key rows k ≡ false
    has_none = ap is_some (nowhere c v k none)

    put_reply : (b : Bool) → full ≡ b → (put_effect full k x rows).reply ≡ (if b then T.Full else T.Done)
    put_reply true e = ap (λ y. (if not y && full then effect T.Full rows else effect T.Done (with_row rows k x)).reply) has_none ∙ ap (λ y. (if y then effect T.Full rows else effect T.Done (with_row rows k x)).reply) e
    put_reply false e = ap (λ y. (if not y && full then effect T.Full rows else effect T.Done (with_row rows k x)).reply) has_none ∙ ap (λ y. (if y then effect T.Full rows else effect T.Done (with_row rows k x)).reply) e

    put_after : (b : Bool) → full ≡ b → (put_effect full k x rows).after ≡ (if b then rows else with_row rows k x)
    put_after true e = ap (λ y. (if not y && full then effect T.Full rows else effect T.Done (with_row rows k x)).after) has_none ∙ ap (λ y. (if y then effect T.Full rows else effect T.Done (with_row rows k x)).after) e
    put_after false e = ap (λ y. (if not y && full then effect T.Full rows else effect T.Done (with_row rows k x)).after) has_none ∙ ap (λ y. (if y then effect T.Full rows else effect T.Done (with_row rows k x)).after) e

    rows_counted : length rows ≡ count z c
    rows_counted = length-rows z c v

    -- what is read
    absent_in : (is : List Item) (y : ℕ) → IsRead (reading_of (absent is)) c y → y < length (map_widths z)
    absent_in is y h = room_within z k x c (length (map_widths z)) (λ q l. omega (arith, l, many)) (λ s l. omega (arith, l, many)) (a.homes k) z.stripes (z.stripe k) is (a.rooms k) y h

    all_within : (y : ℕ) → IsRead (reading_of whole) c y → y < length (map_widths z)
    all_within = within c v k found absent (λ q y l r. absurd r) absent_in

    up_absent : (y : ℕ) → IsRead (reading_of (absent gone)) c y → IsRead (reading_of whole) c y
    up_absent y h = reads_absent z a c v k none found absent z.places (z.home k) [] (a.homes k) y h

    gone_read : EachRead (reading_of whole) c gone
    gone_read = missed_read z a c v k none found absent whole z.places (z.home k) [] (a.homes k) (λ y r. r) tt

    roomed_read : EachRead (reading_of whole) c roomed
    roomed_read = room_reads z k x c whole z.stripes (z.stripe k) gone up_absent gone_read

    room_width_at : (s : ℕ) → s < z.stripes → 0 < slice_index_or (map_widths z) s 0
    room_width_at s l =
        let r : (s < length c) × (length (part_of c s) ≡ slice_index_or (map_widths z) s 0) = width_there c (map_widths z) s v.widths (omega (arith, l, many)) in
        omega (arith, r.1, (room_wide z c v s l).1)

    roomed_inside : EachInside (map_widths z) roomed
    roomed_inside = room_inside z k x c (map_widths z) room_width_at z.stripes (z.stripe k) gone (a.rooms k) (seen_inside z (map_widths z) z.places (z.home k) [] c tt)

    roomed_true : Agrees c roomed c
    roomed_true = room_true z k x c v.fits z.stripes (z.stripe k) gone (missed_true z z.places (z.home k) [] c tt)

    -- the ends, on contents that agree with the rooms
    to_rooms : EndAlike whole (room_end z k x (stripe_found c) roomed) c
    to_rooms = then_alike whole (absent gone) (room_end z k x (stripe_found c) roomed) c (absent_walk z a c v k none found absent z.places (z.home k) [] (a.homes k)) (room_walks z k x c z.stripes (z.stripe k) gone)

    module _ (e : Parts) (w : IsMap z e) (g : Agrees e roomed c) where
      nobody : NoneHere z e k
      nobody p l =
          by_test (holds k (part_of e (key_part z p)))
          (λ y. absurd (not_missed z a e w k p (record { below = l; holds = y }) c none z.places 0 (z.home k) [] (omega arith) (start_below z a k) (omega arith) (room_keeps z k x e c w.fits z.stripes (z.stripe k) gone g)))
          (λ y. y)

      abbrev gone_too : List Item
      gone_too = missed z z.places (z.home k) [] e

      abbrev roomed_too : List Item
      roomed_too = room_seen z k x z.stripes (z.stripe k) gone_too e

      ends_too : EndAlike whole (room_end z k x (stripe_found c) roomed_too) e
      ends_too =
          then_alike whole (absent gone_too) (room_end z k x (stripe_found c) roomed_too) e (absent_walk z a e w k nobody found absent z.places (z.home k) [] (a.homes k))
          (subst (λ (o : Option ℕ). EndAlike (absent gone_too) (room_end z k x o roomed_too) e) (room_alike z k x e c w.fits z.stripes (z.stripe k) gone g) (room_walks z k x e z.stripes (z.stripe k) gone_too))

    -- no room
    put_full : IsNowhere z.stripes (no_room z k x c) (stripe_found c) → IsTold m (call_of 0 Put k x) whole c
    put_full f =
        let to_end : EndAlike whole (Tell T.Full roomed []) c = subst (λ (o : Option ℕ). EndAlike whole (room_end z k x o roomed) c) f.is to_rooms in
        let nothing : rooms z c ≡ 0 = total-none z.stripes (λ s. natural (word (part_of c s) 0)) (λ s l. room_none (word (part_of c s) 0) (v.natural_rooms s l) (f.all s l)) in
        let is_full : full ≡ true = le_true z.keys (length rows) (omega (arith, nothing, v.counted, rows_counted)) in
        told_by m (call_of 0 Put k x) whole c T.Full roomed [] (to_end.told, to_end.items, to_end.updates)
        all_within
        roomed_read
        roomed_inside
        roomed_true
        (λ e w g.
        let y : EndAlike whole (Tell T.Full (roomed_too e w g) []) e = subst (λ (o : Option ℕ). EndAlike whole (room_end z k x o (roomed_too e w g)) e) f.is (ends_too e w g) in
        (y.told, y.updates))
        (sym (put_reply true is_full))
        (left_alone c v k (call_of 0 Put k x) (ap (λ r. r ∷ []) (sym (put_after true is_full))) (ap (is_write Put) (put_reply true is_full)))

    -- room at stripe s, and a place
    module _ (s : ℕ) (f : IsFirst z.stripes (no_room z k x c) (stripe_found c) s) where
      some_room : (r : ℕ) × (natural (word (part_of c s) 0) ≡ suc r)
      some_room = room_some (word (part_of c s) 0) (v.natural_rooms s f.below) f.fails

      few : count z c < z.keys
      few = omega (arith, one-total z.stripes (λ t. natural (word (part_of c t) 0)) s f.below, some_room.1, v.counted)

      not_full : full ≡ false
      not_full = le_false z.keys (length rows) (omega (arith, few, rows_counted))

      abbrev home_found : Parts → Option ℕ
      home_found e = place_found z k x z.places (z.home k) e

      abbrev placed_seen : List Item
      placed_seen = place_seen z k x z.places (z.home k) roomed c

      to_places : EndAlike whole (place_end z k x s (home_found c) placed_seen) c
      to_places =
          then_alike whole (place_from_home z k x s roomed) (place_end z k x s (home_found c) placed_seen) c (subst (λ (o : Option ℕ). EndAlike whole (room_end z k x o roomed) c) f.is to_rooms)
          (place_walks z k x c s z.places (z.home k) roomed)

      put_at : (p : ℕ) → IsFirst z.places (live_at z k x c) (home_found c) p → IsTold m (call_of 0 Put k x) whole c
      put_at p h =
          let to_end : EndAlike whole (Tell T.Done placed_seen (added z k x s p)) c = subst (λ (o : Option ℕ). EndAlike whole (place_end z k x s o placed_seen) c) h.is to_places in
          told_by m (call_of 0 Put k x) whole c T.Done placed_seen (added z k x s p) (to_end.told, to_end.items, to_end.updates)
          all_within
          (place_reads z k x c whole s z.places (z.home k) roomed (λ y r. up_absent y (room_then z k x c z.stripes (z.stripe k) s gone f.is y r)) roomed_read)
          (place_inside z k x c (map_widths z) z.places (z.home k) roomed roomed_inside)
          (place_true z k x c z.places (z.home k) roomed roomed_true)
          (λ e w g.
          let r : Agrees e roomed c = place_keeps z k x e c w.fits z.places (z.home k) roomed g in
          let on : EndAlike whole (place_from_home z k x s (roomed_too e w r)) e = subst (λ (o : Option ℕ). EndAlike whole (room_end z k x o (roomed_too e w r)) e) f.is (ends_too e w r) in
          let last : EndAlike (place_from_home z k x s (roomed_too e w r)) (Tell T.Done (place_seen z k x z.places (z.home k) (roomed_too e w r) e) (added z k x s p)) e =
          subst (λ (o : Option ℕ). EndAlike (place_from_home z k x s (roomed_too e w r)) (place_end z k x s o (place_seen z k x z.places (z.home k) (roomed_too e w r) e)) e) (place_alike z k x e c w.fits z.places (z.home k) roomed g ∙ h.is)
          (place_walks z k x e s z.places (z.home k) (roomed_too e w r)) in
          let y : EndAlike whole (Tell T.Done (place_seen z k x z.places (z.home k) (roomed_too e w r) e) (added z k x s p)) e =
          then_alike whole (place_from_home z k x s (roomed_too e w r)) (Tell T.Done (place_seen z k x z.places (z.home k) (roomed_too e w r) e) (added z k x s p)) e on last in
          (y.told, y.updates))
          (sym (put_reply false not_full))
          (record {
            ordered = (added_rise z c v k x s p f.below h.below none h.fails some_room.0 some_room.1 a.small k_fits x_fits, added_change z c v k x s p f.below h.below none h.fails some_room.0 some_room.1 a.small k_fits x_fits);
            owned = owned_all (map_widths z) 0 (added z k x s p) c refl v.widths (added_wide z c v k x s p f.below h.below none h.fails some_room.0 some_room.1 a.small k_fits x_fits);
            widths = added_wide z c v k x s p f.below h.below none h.fails some_room.0 some_room.1 a.small k_fits x_fits;
            valid = is_added z c v k x s p f.below h.below none h.fails some_room.0 some_room.1 a.small k_fits x_fits;
            rows = ap (λ r. r ∷ []) (rows_more z c v k x s p f.below h.below none h.fails some_room.0 some_room.1 a.small k_fits x_fits ∙ sym (put_after false not_full));
            writes = ap (is_write Put) (put_reply false not_full);
          })

      put_there : IsTold m (call_of 0 Put k x) whole c
      put_there = elim (ring_spec z.places (z.home k) (live_at z k x c) (a.homes k) z.places 0 (z.home k) (omega arith) (start_below z a k) (λ t l o. absurd (omega (arith, o)))) [
        | inl h ↦ put_at h.0 (record { is = place_first z k x c z.places (z.home k) ∙ h.1.is; below = h.1.below; fails = h.1.fails })
        | inr h ↦
            let all : count z c ≡ z.places = total-ones z.places (λ p. one (is_live (part_of c (key_part z p)))) (λ q l. ap one (h.all q l)) in
            absurd (omega (arith, all, few, a.enough))
      ]

    put_new : IsTold m (call_of 0 Put k x) whole c
    put_new = elim (ring_spec z.stripes (z.stripe k) (no_room z k x c) (a.rooms k) z.stripes 0 (z.stripe k) (omega arith) (stripe_below (z.stripe k) (a.rooms k)) (λ t l o. absurd (omega (arith, o)))) [
      | inl h ↦ put_there h.0 (record { is = room_first z k x c z.stripes (z.stripe k) ∙ h.1.is; below = h.1.below; fails = h.1.fails })
      | inr h ↦ put_full (record { is = room_first z k x c z.stripes (z.stripe k) ∙ h.is; all = h.all })
    ]
      where
        stripe_below : (s : ℕ) → s < z.stripes → s ≡ wrapped z.stripes (s + 0)
        stripe_below s l = grind (arith, nat_tests)

  put_told : (c : Parts) (v : IsMap z c) (k x : ℤ) → FitsSigned w64 k → FitsSigned w64 x → IsTold m (call_of 0 Put k x) (map_telling z Put k x) c
  put_told c v k x f g = elim (find z c k z.places) [
    | inl h ↦ found_told c v k x (put_absent z k x) g (λ is y r. room_within z k x c (length (map_widths z)) (λ q l. omega (arith, l, many)) (λ s l. omega (arith, l, many)) (a.homes k) z.stripes (z.stripe k) is (a.rooms k) y r) h.0 (record { below = h.1; holds = h.2 })
    | inr none ↦ put_new c v k x f g none
  ]

  abbrev ToldAt : Call → Type 0
  ToldAt call = (c : Parts) → IsMap z c → IsTold m call (telling z call) c

  told : (call : Call) → MapTakes call → ToldAt call
  told = by_call ToldAt
      (λ k b c v. get_told c v k b)
      (λ k b f c v. change_told c v k (call_of 0 Set k b) (C.Put b) refl refl f refl
      (λ x e. (sym (ap (λ o. (set_at o k b (map_rows z c)).reply) e), sym (ap (λ o. (set_at o k b (map_rows z c)).after ∷ []) e)))
      (λ e. (sym (ap (λ o. (set_at o k b (map_rows z c)).reply) e), sym (ap (λ o. (set_at o k b (map_rows z c)).after ∷ []) e))))
      (λ k b c v. change_told c v k (call_of 0 Add k b) (C.Add b) refl refl tt refl
      (λ x e. (sym (ap (λ o. (add_at o k b (map_rows z c)).reply) e), sym (ap (λ o. (add_at o k b (map_rows z c)).after ∷ []) e)))
      (λ e. (sym (ap (λ o. (add_at o k b (map_rows z c)).reply) e), sym (ap (λ o. (add_at o k b (map_rows z c)).after ∷ []) e))))
      (λ k b f g c v. put_told c v k b f g)
      (λ k b c v. remove_told c v k b)
      (λ k b c v. has_told c v k b)

  -- from any valid opening
  pub map_type : IsMap z opened → IsType m (telling z)
  map_type o = record {
    opening = o;
    widths = λ c v. v.widths;
    fits = λ c v. v.fits;
    object = λ call t. t.object;
    calls = λ call c t v. told call t c v;
  }

  pub map_lawful : IsMap z opened → map_rows z opened ≡ [] → IsLawful m
  map_lawful o e = one_object_lawful (map_machine z.keys) (map_widths z) opened (IsMap z) (map_rows z) MapTakes (telling z) (map_type o) e
