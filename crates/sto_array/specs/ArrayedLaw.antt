-- An array is lawful.
use Rattle.std.specs.Prelude.{◌≡◌, ◌<◌, ◌+◌, ◌+ℤ◌, ℕ, zero, suc, ℤ, pos, Bool, true, false, ◌&&◌, if◌then◌else◌, Option, Some, None, List, [], ◌∷◌, length, slice_index_or, slice_set, IsTrue, is_some, refl}
use Rattle.std.specs.Int.{w64}
use Rattle.std.specs.Int.RustNames.{FitsSigned}
use Rattle.std.proofs.Common.{ap, sym, ◌∙◌, arith, subst}
use Rattle.std.proofs.lemmas.Int.{SFits-int_wrap}
use Rattle.sto_part.specs.Parts.{part_of}
use Rattle.sto_part.specs.Changes.{wrapped_sum, applied, applied_all}
use Rattle.sto_part.specs.declared.change.Change.{Change}
use Rattle.sto_part.specs.declared.change.Change.TheVariants as C
use Rattle.sto_item.specs.declared.item.Item.TheVariants.{Seen}
use Rattle.sto_item.specs.Pending.{is_keep}
use Rattle.sto_item.specs.Agreement.{Agrees, AreTrueOf, word_of}
use Rattle.sto_model.specs.declared.call.Call.{Call}
use Rattle.sto_model.specs.declared.operation.Operation.{Operation}
use Rattle.sto_model.specs.declared.operation.Operation.TheVariants.{Get, Set, Add, Test as TestWord, Take, Put, Remove, Has, Len, Next, Count, Scan, Push, Pop}
use Rattle.sto_model.specs.declared.shape.Shape.TheVariants.{Array}
use Rattle.sto_model.specs.Rows.{Row, value_at, with_row}
use Rattle.sto_model.specs.PlainReplies.{PlainReply, is_write}
use Rattle.sto_model.specs.PlainReplies as T
use Rattle.sto_model.specs.Calls.{call_of}
use Rattle.sto_model.specs.Objects.{Effect, effect, effect_of, value_or_absent, added_at, in_range, takes}
use Rattle.sto_model.specs.SequentialObjects.{reply_to, state_after}
use Rattle.sto_type.specs.Known.{Parts, Known, IsPartOf}
use Rattle.sto_type.specs.Meaning.{Meaning, IsLawful, IsUpdated, IsPartOfObject, EachKnown, EachInside, EachOwner}
use Rattle.sto_type.specs.Plans.{IsSaid, IsPlan, planned, said_is_plan}
use Rattle.sto_type.specs.declared.answer.Answer.{Answer}
use Rattle.sto_counter.specs.Sums.{grows, add_items, add_updates}
use Rattle.sto_counter.specs.SumsLaw.{add_observed, grown, not_grown}
use Rattle.sto_counter.specs.Replies.{add_reply}
use Rattle.sto_array.specs.ArrayedSteady.{array_steady}
use Rattle.sto_array.specs.Arrayed.{place_of, asked, array_need, value_known, array_items, array_updates, array_rows, homes_from, IsArray, ArrayTakes, array_meaning}
use Rattle.sto_array.specs.ArrayedRows.{by_test, one_at, value_of_place, with_place, place_some, place_none, length-ones, part_is, widths-set, fits-set, word_fits, length-homes, home_owner, length-replicate, opened_widths, opened_fits, opened_rows}

by_operation : {P : Type 0} (o : Operation) (a : ℤ) → IsTrue (takes (Array 0 (pos 0)) o a) → (o ≡ Get → P) → (o ≡ Set → P) → (o ≡ Add → P) → P
by_operation Get a h get set add = get refl
by_operation Set a h get set add = set refl
by_operation Add a h get set add = add refl
by_operation TestWord a h get set add = cc
by_operation Take a h get set add = cc
by_operation Put a h get set add = cc
by_operation Remove a h get set add = cc
by_operation Has a h get set add = cc
by_operation Len a h get set add = cc
by_operation Next a h get set add = cc
by_operation Count a h get set add = cc
by_operation Scan a h get set add = cc
by_operation Push a h get set add = cc
by_operation Pop a h get set add = cc

-- what is so of the three calls is so of each call that is taken
pub by_call :
    (P : Call → Type 0) → ((a b : ℤ) → P (call_of 0 Get a b)) → ((a b : ℤ) → FitsSigned w64 b → P (call_of 0 Set a b)) → ((a b : ℤ) → FitsSigned w64 b → P (call_of 0 Add a b))
    → (call : Call) → ArrayTakes call → P call
by_call P get set add call t =
    let same : (o : Operation) → call.operation ≡ o → call ≡ call_of 0 o call.a call.b = λ o e i. record { object = t.object i; operation = e i; a = call.a; b = call.b; c = t.third i } in
    by_operation call.operation call.a t.taken
    (λ e. subst P (sym (same Get e)) (get call.a call.b))
    (λ e. subst P (sym (same Set e)) (set call.a call.b t.fits_too))
    (λ e. subst P (sym (same Add e)) (add call.a call.b t.fits_too))

-- cases of a place
by_place : {P : Type 0} (o : Option ℕ) → (o ≡ None → P) → ((i : ℕ) → o ≡ Some i → P) → P
by_place None none some = none refl
by_place (Some i) none some = some i refl

-- what is asked for
asked_some : (i : ℕ) (o : Option (List ℤ)) (p : ℕ) → asked i o ≡ Some p → (o ≡ None) × (p ≡ i)
asked_some i None p e = (refl, cc)
asked_some i (Some ws) p e = cc

asked_none : (i : ℕ) (o : Option (List ℤ)) → asked i o ≡ None → (ws : List ℤ) × (o ≡ Some ws)
asked_none i None e = cc
asked_none i (Some ws) e = (ws, refl)

module _ (n : ℕ) (first : ℤ) where
  abbrev m : Meaning
  m = array_meaning n first

  here : (i object : ℕ) → i < n → object ≡ 0 → IsPartOfObject (homes_from 0 n) object i
  here i object l o = record { in_range = omega (arith, l, length-homes 0 n); owner = home_owner 0 n i l ∙ sym o }

  owners_from : (j k : ℕ) → EachOwner 1 (homes_from j k)
  owners_from j zero = tt
  owners_from j (suc k) = (omega arith, owners_from (suc j) k)

  place_is : (a : ℤ) (i : ℕ) → place_of n a ≡ Some i → (a ≡ pos i) × (i < n)
  place_is a i e = place_some n a i e

  -- the value is known as it is
  value_same : (k : Known) (d : Parts) (i : ℕ) → IsArray n d → IsPartOf k d → i < n → asked i (k i) ≡ None → value_known (k i) ≡ word_of d i 0
  value_same k d i v part l e =
      let s : (ws : List ℤ) × (k i ≡ Some ws) = asked_none i (k i) e in
      let within : i < length d = omega (arith, l, length-ones n d v.widths) in
      ap value_known s.1 ∙ sym (ap (λ (l : List ℤ). slice_index_or l 0 (pos 0)) (part.same i s.0 within s.1))

  -- the needs
  needs_at : (o : Operation) (q : Option ℕ) (k : Known) (p : ℕ) → array_need o q k ≡ Some p → (k p ≡ None) × (q ≡ Some p)
  needs_at Get (Some i) k p e =
      let h : (k i ≡ None) × (p ≡ i) = asked_some i (k i) p e in
      (subst (λ x. k x ≡ None) (sym h.1) h.0, ap Some (sym h.1))
  needs_at Add (Some i) k p e =
      let h : (k i ≡ None) × (p ≡ i) = asked_some i (k i) p e in
      (subst (λ x. k x ≡ None) (sym h.1) h.0, ap Some (sym h.1))
  needs_at o q k p e = cc

  abbrev IsWithin : Option ℕ → Type 0
  IsWithin q = (i : ℕ) → q ≡ Some i → i < n

  knows_at : (o : Operation) (q : Option ℕ) (b : ℤ) (k : Known) (object : ℕ) → IsWithin q → object ≡ 0 → array_need o q k ≡ None → EachKnown (homes_from 0 n) object k (array_items o q b k)
  knows_at Get (Some i) b k object w z e =
      let s : (ws : List ℤ) × (k i ≡ Some ws) = asked_none i (k i) e in
      (here i object (w i refl) z, rw s.1 refl, tt)
  knows_at Add (Some i) b k object w z e =
      let s : (ws : List ℤ) × (k i ≡ Some ws) = asked_none i (k i) e in
      (here i object (w i refl) z, rw s.1 refl, tt)
  knows_at o q b k object w z e = tt

  inside_at : (o : Operation) (q : Option ℕ) (b : ℤ) (k : Known) → IsWithin q → EachInside m.widths (array_items o q b k)
  inside_at Get (Some i) b k w = tt
  inside_at Add (Some i) b k w = (omega (arith, one_at n i (w i refl)), tt)
  inside_at o q b k w = tt

  holds_at :
      (o : Operation) (q : Option ℕ) (b : ℤ) (k : Known) (d : Parts) → IsWithin q → FitsSigned w64 b → IsArray n d → IsPartOf k d → array_need o q k ≡ None
      → AreTrueOf d (array_items o q b k)
  holds_at Get (Some i) b k d w f v part e = (refl, tt)
  holds_at Add (Some i) b k d w f v part e =
      let x : value_known (k i) ≡ word_of d i 0 = value_same k d i v part (w i refl) e in
      subst (λ (y : ℤ). AreTrueOf d (add_items i b y)) (sym x) ((add_observed i b (word_of d i 0) (grows b (word_of d i 0)) f (word_fits d i v.fits)).1 refl, tt)
  holds_at o q b k d w f v part e = tt

  -- the value at an index, by its place
  abbrev value_at_place : Option ℕ → Parts → Option ℤ
  value_at_place None c = None
  value_at_place (Some i) c = Some (word_of c i 0)

  value_is : (c : Parts) (a : ℤ) (q : Option ℕ) → IsArray n c → place_of n a ≡ q → value_at (array_rows 0 c) a ≡ value_at_place q c
  value_is c a None v e = place_none c a (ap (λ l. place_of l a) (length-ones n c v.widths) ∙ e)
  value_is c a (Some i) v e =
      let h : (a ≡ pos i) × (i < n) = place_some n a i e in
      let z : 0 + i ≡ i = omega arith in
      value_of_place 0 i c a (h.0 ∙ ap pos (sym z)) (omega (arith, h.1, length-ones n c v.widths))

  added_reply : (x a b : ℤ) (rows : List Row) → (added_at (Some x) a b rows).reply ≡ add_reply b x
  added_reply x a b rows = by_test (grows b x) (λ e. rw (grown b x e).0 refl) (λ e. rw (not_grown b x e) refl)

  added_rows : (x a b : ℤ) (rows : List Row) → in_range (x +ℤ b) ≡ Some (x +ℤ b) → (added_at (Some x) a b rows).after ≡ with_row rows a (x +ℤ b)
  added_rows x a b rows g = rw g refl

  not_added : (x a b : ℤ) (rows : List Row) → in_range (x +ℤ b) ≡ None → (added_at (Some x) a b rows).after ≡ rows
  not_added x a b rows g = rw g refl

  -- what agrees with the items of a get has its value, and what agrees with those of an add takes it alike
  same_value : (q : Option ℕ) (b : ℤ) (k : Known) (d e : Parts) → Agrees e (array_items Get q b k) d → value_at_place q e ≡ value_at_place q d
  same_value None b k d e g = refl
  same_value (Some i) b k d e g = ap (λ (ws : List ℤ). Some (slice_index_or ws 0 (pos 0))) g.0

  same_growth :
      (i : ℕ) (b : ℤ) (k : Known) (d e : Parts) → i < n → FitsSigned w64 b → IsArray n d → IsArray n e → IsPartOf k d → asked i (k i) ≡ None → Agrees e (add_items i b (value_known (k i))) d
      → grows b (word_of e i 0) ≡ grows b (word_of d i 0)
  same_growth i b k d e l f v w part s g =
      let x : value_known (k i) ≡ word_of d i 0 = value_same k d i v part l s in
      let h : Agrees e (add_items i b (word_of d i 0)) d = subst (λ (y : ℤ). Agrees e (add_items i b y) d) x g in
      (add_observed i b (word_of e i 0) (grows b (word_of d i 0)) f (word_fits e i w.fits)).0 h.0

  add_is : (c : Parts) (a b : ℤ) (q : Option ℕ) → IsArray n c → place_of n a ≡ q → reply_to m.machines (call_of 0 Add a b) (m.rows c) ≡ (added_at (value_at_place q c) a b (array_rows 0 c)).reply
  add_is c a b q v e = ap (λ o. (added_at o a b (array_rows 0 c)).reply) (value_is c a q v e)

  same_add :
      (a b : ℤ) (k : Known) (d e : Parts) (q : Option ℕ) → place_of n a ≡ q → IsWithin q → FitsSigned w64 b → IsArray n d → IsArray n e → IsPartOf k d → array_need Add q k ≡ None
      → Agrees e (array_items Add q b k) d → (added_at (value_at_place q e) a b (array_rows 0 e)).reply ≡ (added_at (value_at_place q d) a b (array_rows 0 d)).reply
  same_add a b k d e None p w f v u part s g = refl
  same_add a b k d e (Some i) p w f v u part s g =
      added_reply (word_of e i 0) a b (array_rows 0 e) ∙ ap (λ z. if z then T.Done else T.Range) (same_growth i b k d e (w i refl) f v u part s g) ∙ sym (added_reply (word_of d i 0) a b (array_rows 0 d))

  within : (a : ℤ) → IsWithin (place_of n a)
  within a i e = (place_some n a i e).1

  -- a set by what stands at the index
  abbrev set_at : Option ℤ → ℤ → ℤ → List Row → Effect
  set_at o a b rows = if is_some o then effect T.Done (with_row rows a b) else effect T.Absent rows

  set_is : (c : Parts) (a b : ℤ) (o : Option ℤ) → value_at (array_rows 0 c) a ≡ o → reply_to m.machines (call_of 0 Set a b) (m.rows c) ≡ (set_at o a b (array_rows 0 c)).reply
  set_is c a b o e = ap (λ z. (set_at z a b (array_rows 0 c)).reply) e

  set_after : (c : Parts) (a b : ℤ) (o : Option ℤ) → value_at (array_rows 0 c) a ≡ o → state_after m.machines (call_of 0 Set a b) (m.rows c) ≡ (set_at o a b (array_rows 0 c)).after ∷ []
  set_after c a b o e = ap (λ z. (set_at z a b (array_rows 0 c)).after ∷ []) e

  add_after : (c : Parts) (a b : ℤ) (o : Option ℤ) → value_at (array_rows 0 c) a ≡ o → state_after m.machines (call_of 0 Add a b) (m.rows c) ≡ (added_at o a b (array_rows 0 c)).after ∷ []
  add_after c a b o e = ap (λ z. (added_at z a b (array_rows 0 c)).after ∷ []) e

  set_told : (q : Option ℕ) (c d : Parts) (a b : ℤ) (rows other : List Row) → (set_at (value_at_place q c) a b rows).reply ≡ (set_at (value_at_place q d) a b other).reply
  set_told None c d a b rows other = refl
  set_told (Some i) c d a b rows other = refl

  abbrev SameReply : Call → Type 0
  SameReply call =
      (k : Known) (d e : Parts) → IsArray n d → IsArray n e → IsPartOf k d → m.need call k ≡ None → Agrees e (m.items call k) d
      → reply_to m.machines call (m.rows e) ≡ reply_to m.machines call (m.rows d)

  same_reply : (call : Call) → ArrayTakes call → SameReply call
  same_reply = by_call SameReply
      (λ a b k d e v w part s g.
      ap value_or_absent (value_is e a (place_of n a) w refl ∙ same_value (place_of n a) b k d e g ∙ sym (value_is d a (place_of n a) v refl)))
      (λ a b f k d e v w part s g.
      set_is e a b (value_at_place (place_of n a) e) (value_is e a (place_of n a) w refl) ∙ set_told (place_of n a) e d a b (array_rows 0 e) (array_rows 0 d)
      ∙ sym (set_is d a b (value_at_place (place_of n a) d) (value_is d a (place_of n a) v refl)))
      (λ a b f k d e v w part s g.
      add_is e a b (place_of n a) w refl ∙ same_add a b k d e (place_of n a) refl (within a) f v w part s g ∙ sym (add_is d a b (place_of n a) v refl))

  same_add_updates :
      (q : Option ℕ) (b : ℤ) (k : Known) (d e : Parts) → IsWithin q → FitsSigned w64 b → IsArray n d → IsArray n e → IsPartOf k d → array_need Add q k ≡ None
      → Agrees e (array_items Add q b k) d → array_updates Add q b e ≡ array_updates Add q b d
  same_add_updates None b k d e w f v u part s g = refl
  same_add_updates (Some i) b k d e w f v u part s g = ap (λ z. if z then (i, C.Add b ∷ []) ∷ [] else []) (same_growth i b k d e (w i refl) f v u part s g)

  same_set_updates : (q : Option ℕ) (b : ℤ) (d e : Parts) → array_updates Set q b e ≡ array_updates Set q b d
  same_set_updates None b d e = refl
  same_set_updates (Some i) b d e = refl

  same_get_updates : (q : Option ℕ) (b : ℤ) (d e : Parts) → array_updates Get q b e ≡ array_updates Get q b d
  same_get_updates None b d e = refl
  same_get_updates (Some i) b d e = refl

  abbrev SameUpdates : Call → Type 0
  SameUpdates call = (k : Known) (d e : Parts) → IsArray n d → IsArray n e → IsPartOf k d → m.need call k ≡ None → Agrees e (m.items call k) d → m.updates call e ≡ m.updates call d

  same_updates : (call : Call) → ArrayTakes call → SameUpdates call
  same_updates = by_call SameUpdates
      (λ a b k d e v w part s g. same_get_updates (place_of n a) b d e)
      (λ a b f k d e v w part s g. same_set_updates (place_of n a) b d e)
      (λ a b f k d e v w part s g. same_add_updates (place_of n a) b k d e (within a) f v w part s g)

  -- the updates
  changed_part : (c : Parts) (i : ℕ) (ch : Change) (y : ℤ) → IsArray n c → i < n → applied ch (word_of c i 0) ≡ y → slice_set c i (applied_all (ch ∷ []) (part_of c i)) ≡ slice_set c i (y ∷ [])
  changed_part c i ch y v l e = ap (λ ws. slice_set c i (applied_all (ch ∷ []) ws)) (part_is n c i v.widths l) ∙ ap (λ x. slice_set c i (x ∷ [])) e

  changed_by :
      (call : Call) (c : Parts) (i : ℕ) (ch : Change) (y : ℤ) → is_keep ch ≡ false → call.object ≡ 0 → IsArray n c → i < n → applied ch (word_of c i 0) ≡ y → FitsSigned w64 y
      → array_rows 0 (slice_set c i (y ∷ [])) ∷ [] ≡ state_after m.machines call (m.rows c) → is_write call.operation (reply_to m.machines call (m.rows c)) ≡ true
      → IsUpdated m call c ((i, ch ∷ []) ∷ [])
  changed_by call c i ch y p o v l e f r z =
      let same : slice_set c i (applied_all (ch ∷ []) (part_of c i)) ≡ slice_set c i (y ∷ []) = changed_part c i ch y v l e in
      record {
        ordered = ((omega arith, tt), (ap (λ b. b && true) p, tt));
        owned = (here i call.object l o, tt);
        widths = (omega (arith, l, length-ones n c v.widths), ap length (part_is n c i v.widths l), tt);
        valid = subst (IsArray n) (sym same) (record { widths = widths-set n c i y v.widths; fits = fits-set c i y f v.fits });
        rows = ap (λ p. array_rows 0 p ∷ []) same ∙ r;
        writes = z;
      }

  left_alone :
      (call : Call) (c : Parts) → IsArray n c → m.rows c ≡ state_after m.machines call (m.rows c) → is_write call.operation (reply_to m.machines call (m.rows c)) ≡ false → IsUpdated m call c []
  left_alone call c v r z = record { ordered = (tt, tt); owned = tt; widths = tt; valid = v; rows = r; writes = z }

  value_there : (c : Parts) (a : ℤ) (i : ℕ) → IsArray n c → place_of n a ≡ Some i → value_at (array_rows 0 c) a ≡ Some (word_of c i 0)
  value_there c a i v e = value_is c a (Some i) v e

  with_there : (c : Parts) (a y : ℤ) (i : ℕ) → IsArray n c → place_of n a ≡ Some i → array_rows 0 (slice_set c i (y ∷ [])) ≡ with_row (array_rows 0 c) a y
  with_there c a y i v e =
      let h : (a ≡ pos i) × (i < n) = place_some n a i e in
      let z : 0 + i ≡ i = omega arith in
      sym (with_place 0 i c a y (h.0 ∙ ap pos (sym z)) (omega (arith, h.1, length-ones n c v.widths)))

  updated_get : (c : Parts) (a b : ℤ) (q : Option ℕ) → IsArray n c → place_of n a ≡ q → IsUpdated m (call_of 0 Get a b) c (array_updates Get q b c)
  updated_get c a b None v e = left_alone (call_of 0 Get a b) c v refl (ap (λ o. is_write Get (value_or_absent o)) (value_is c a None v e))
  updated_get c a b (Some i) v e = left_alone (call_of 0 Get a b) c v refl (ap (λ o. is_write Get (value_or_absent o)) (value_is c a (Some i) v e))

  updated_set : (c : Parts) (a b : ℤ) (q : Option ℕ) → IsArray n c → FitsSigned w64 b → place_of n a ≡ q → IsUpdated m (call_of 0 Set a b) c (array_updates Set q b c)
  updated_set c a b None v f e = left_alone (call_of 0 Set a b) c v (sym (set_after c a b None (value_is c a None v e))) (ap (is_write Set) (set_is c a b None (value_is c a None v e)))
  updated_set c a b (Some i) v f e =
      changed_by (call_of 0 Set a b) c i (C.Put b) b refl refl v (place_some n a i e).1 refl f
      (ap (λ rows. rows ∷ []) (with_there c a b i v e) ∙ sym (set_after c a b (Some (word_of c i 0)) (value_there c a i v e)))
      (ap (is_write Set) (set_is c a b (Some (word_of c i 0)) (value_there c a i v e)))

  updated_add_at : (c : Parts) (a b : ℤ) (i : ℕ) → IsArray n c → place_of n a ≡ Some i → IsUpdated m (call_of 0 Add a b) c (add_updates i b (word_of c i 0))
  updated_add_at c a b i v e =
      let x : ℤ = word_of c i 0 in
      let P : Bool → Type 0 = λ z. IsUpdated m (call_of 0 Add a b) c (if z then (i, C.Add b ∷ []) ∷ [] else []) in
      let there : value_at (array_rows 0 c) a ≡ Some x = value_there c a i v e in
      by_test (grows b x)
      (λ t.
      let g : (in_range (x +ℤ b) ≡ Some (x +ℤ b)) × (wrapped_sum x b ≡ x +ℤ b) = grown b x t in
      let u : IsUpdated m (call_of 0 Add a b) c ((i, C.Add b ∷ []) ∷ []) =
      changed_by (call_of 0 Add a b) c i (C.Add b) (x +ℤ b) refl refl v (place_some n a i e).1 g.1 (subst (FitsSigned w64) g.1 (SFits-int_wrap w64 (x +ℤ b)))
      (ap (λ rows. rows ∷ []) (with_there c a (x +ℤ b) i v e ∙ sym (added_rows x a b (array_rows 0 c) g.0)) ∙ sym (add_after c a b (Some x) there))
      (ap (is_write Add) (add_is c a b (Some i) v e ∙ added_reply x a b (array_rows 0 c) ∙ ap (λ z. if z then T.Done else T.Range) t)) in
      subst P (sym t) u)
      (λ t.
      let g : in_range (x +ℤ b) ≡ None = not_grown b x t in
      let u : IsUpdated m (call_of 0 Add a b) c [] =
      left_alone (call_of 0 Add a b) c v (ap (λ rows. rows ∷ []) (sym (not_added x a b (array_rows 0 c) g)) ∙ sym (add_after c a b (Some x) there))
      (ap (is_write Add) (add_is c a b (Some i) v e ∙ added_reply x a b (array_rows 0 c) ∙ ap (λ z. if z then T.Done else T.Range) t)) in
      subst P (sym t) u)

  updated_add : (c : Parts) (a b : ℤ) (q : Option ℕ) → IsArray n c → place_of n a ≡ q → IsUpdated m (call_of 0 Add a b) c (array_updates Add q b c)
  updated_add c a b None v e = left_alone (call_of 0 Add a b) c v (sym (add_after c a b None (value_is c a None v e))) (ap (is_write Add) (add_is c a b None v e))
  updated_add c a b (Some i) v e = updated_add_at c a b i v e

  abbrev Updated : Call → Type 0
  Updated call = (c : Parts) → IsArray n c → IsUpdated m call c (m.updates call c)

  updated : (call : Call) → ArrayTakes call → Updated call
  updated = by_call Updated
      (λ a b c v. updated_get c a b (place_of n a) v refl)
      (λ a b f c v. updated_set c a b (place_of n a) v f refl)
      (λ a b f c v. updated_add c a b (place_of n a) v refl)

  pub array_lawful : FitsSigned w64 first → IsLawful m
  array_lawful f = record {
    homes = length-homes 0 n ∙ sym (length-replicate n);
    owners = owners_from 0 n;
    opening = record { widths = opened_widths n first; fits = opened_fits n first f };
    opening_rows = ap (λ rows. rows ∷ []) (opened_rows n first);
    widths = λ c v. v.widths;
    fits = λ c v. v.fits;
    states = λ c v. refl;
    object = λ call t. omega (arith, t.object);
    needs = λ call k d p t v part e.
        let h : (k p ≡ None) × (place_of n call.a ≡ Some p) = needs_at call.operation (place_of n call.a) k p e in
        record { unknown = h.0; owned = here p call.object (within call.a p h.1) t.object };
    steady = array_steady n first;
    knows = λ call k d r. knows_at call.operation (place_of n call.a) call.b k call.object (within call.a) r.takes.object r.done;
    inside = λ call k d r. inside_at call.operation (place_of n call.a) call.b k (within call.a);
    holds = λ call k d r. holds_at call.operation (place_of n call.a) call.b k d (within call.a) r.takes.fits_too r.valid r.part r.done;
    same_reply = λ call k d e r v a. same_reply call r.takes k d e r.valid v r.part r.done a;
    same_updates = λ call k d e r v a. same_updates call r.takes k d e r.valid v r.part r.done a;
    updated = λ call c t v. updated call t c v;
  }

  -- the answers
  need_is : (call : Call) (k : Known) (o : Operation) (q : Option ℕ) → call.operation ≡ o → place_of n call.a ≡ q → m.need call k ≡ array_need o q k
  need_is call k o q e p = λ z. array_need (e z) (p z) k

  items_are : (call : Call) (k : Known) (o : Operation) (q : Option ℕ) → call.operation ≡ o → place_of n call.a ≡ q → m.items call k ≡ array_items o q call.b k
  items_are call k o q e p = λ z. array_items (e z) (p z) call.b k

  updates_are : (call : Call) (c : Parts) (o : Operation) (q : Option ℕ) → call.operation ≡ o → place_of n call.a ≡ q → m.updates call c ≡ array_updates o q call.b c
  updates_are call c o q e p = λ z. array_updates (e z) (p z) call.b c

  reply_is : (call : Call) (rows : List Row) (o : Operation) → call.object ≡ 0 → call.operation ≡ o → reply_to m.machines call (rows ∷ []) ≡ (effect_of (Array n first) o call.a call.b rows).reply
  reply_is call rows o z e = rw z (ap (λ x. (effect_of (Array n first) x call.a call.b rows).reply) e)

  pub plan_needs : (call : Call) (k : Known) (o : Operation) (i : ℕ) → call.operation ≡ o → place_of n call.a ≡ Some i → array_need o (Some i) k ≡ Some i → m.need call k ≡ Some i
  plan_needs call k o i e p s = need_is call k o (Some i) e p ∙ s

  pub plan_get :
      (call : Call) (k : Known) (i : ℕ) (ws : List ℤ) (answer : Answer) → call.object ≡ 0 → call.operation ≡ Get → place_of n call.a ≡ Some i → k i ≡ Some ws
      → IsSaid (T.Value (slice_index_or ws 0 (pos 0))) (Seen i ∷ []) [] answer → IsPlan m call k (planned answer)
  plan_get call k i ws answer z e p s h =
      said_is_plan m call k (T.Value (slice_index_or ws 0 (pos 0))) (Seen i ∷ []) [] answer h (need_is call k Get (Some i) e p ∙ ap (asked i) s) (sym (items_are call k Get (Some i) e p))
      (λ d v part.
      let l : i < length d = omega (arith, (place_some n call.a i p).1, length-ones n d v.widths) in
      let x : word_of d i 0 ≡ slice_index_or ws 0 (pos 0) = ap (λ (w : List ℤ). slice_index_or w 0 (pos 0)) (part.same i ws l s) in
      (sym (reply_is call (array_rows 0 d) Get z e ∙ ap value_or_absent (value_there d call.a i v p) ∙ ap T.Value x), sym (updates_are call d Get (Some i) e p)))

  pub plan_set :
      (call : Call) (k : Known) (i : ℕ) (answer : Answer) → call.object ≡ 0 → call.operation ≡ Set → place_of n call.a ≡ Some i
      → IsSaid T.Done [] ((i, C.Put call.b ∷ []) ∷ []) answer → IsPlan m call k (planned answer)
  plan_set call k i answer z e p h =
      said_is_plan m call k T.Done [] ((i, C.Put call.b ∷ []) ∷ []) answer h (need_is call k Set (Some i) e p) (sym (items_are call k Set (Some i) e p))
      (λ d v part. (
        sym (reply_is call (array_rows 0 d) Set z e ∙ ap (λ o. (set_at o call.a call.b (array_rows 0 d)).reply) (value_there d call.a i v p)),
        sym (updates_are call d Set (Some i) e p),
      ))

  pub plan_add :
      (call : Call) (k : Known) (i : ℕ) (ws : List ℤ) (answer : Answer) → call.object ≡ 0 → call.operation ≡ Add → place_of n call.a ≡ Some i → k i ≡ Some ws
      → IsSaid (add_reply call.b (slice_index_or ws 0 (pos 0))) (add_items i call.b (slice_index_or ws 0 (pos 0))) (add_updates i call.b (slice_index_or ws 0 (pos 0))) answer
      → IsPlan m call k (planned answer)
  plan_add call k i ws answer z e p s h =
      let y : ℤ = slice_index_or ws 0 (pos 0) in
      said_is_plan m call k (add_reply call.b y) (add_items i call.b y) (add_updates i call.b y) answer h (need_is call k Add (Some i) e p ∙ ap (asked i) s)
      (sym (items_are call k Add (Some i) e p ∙ ap (λ o. add_items i call.b (value_known o)) s))
      (λ d v part.
      let l : i < length d = omega (arith, (place_some n call.a i p).1, length-ones n d v.widths) in
      let x : word_of d i 0 ≡ y = ap (λ (w : List ℤ). slice_index_or w 0 (pos 0)) (part.same i ws l s) in (
        sym
            (reply_is call (array_rows 0 d) Add z e ∙ ap (λ o. (added_at o call.a call.b (array_rows 0 d)).reply) (value_there d call.a i v p)
            ∙ added_reply (word_of d i 0) call.a call.b (array_rows 0 d) ∙ ap (add_reply call.b) x),
        sym (updates_are call d Add (Some i) e p ∙ ap (add_updates i call.b) x),
      ))

  pub plan_outside :
      (call : Call) (k : Known) (answer : Answer) → ArrayTakes call → place_of n call.a ≡ None → IsSaid T.Absent [] [] answer → IsPlan m call k (planned answer)
  plan_outside call k answer t p h =
      by_operation call.operation call.a t.taken
      (λ c. outside_by Get c (λ d v. ap value_or_absent (value_is d call.a None v p)) refl refl (λ d. refl))
      (λ c. outside_by Set c (λ d v. ap (λ o. (set_at o call.a call.b (array_rows 0 d)).reply) (value_is d call.a None v p)) refl refl (λ d. refl))
      (λ c. outside_by Add c (λ d v. ap (λ o. (added_at o call.a call.b (array_rows 0 d)).reply) (value_is d call.a None v p)) refl refl (λ d. refl))
    where
      outside_by :
          (o : Operation) → call.operation ≡ o → ((d : Parts) → IsArray n d → (effect_of (Array n first) o call.a call.b (array_rows 0 d)).reply ≡ T.Absent)
          → array_need o None k ≡ None → array_items o None call.b k ≡ [] → ((d : Parts) → array_updates o None call.b d ≡ []) → IsPlan m call k (planned answer)
      outside_by o e r x y u =
          said_is_plan m call k T.Absent [] [] answer h (need_is call k o None e p ∙ x) (sym (items_are call k o None e p ∙ y))
          (λ d v part. (sym (reply_is call (array_rows 0 d) o t.object e ∙ r d v), sym (updates_are call d o None e p ∙ u d)))
