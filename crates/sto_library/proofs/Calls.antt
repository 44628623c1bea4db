-- What each call of each object answers and leaves, where code is run alone on a state. Each law goes on with the code after the call: with
-- its answer, on the state after it, which is the one before with other rows of its own object alone.
use Rattle.std.specs.Prelude.{IfSome, int_le, slice_get, slice_set, slice_index_or}
use Rattle.std.proofs.Common.{◌≡◌, ℕ, zero, suc, ℤ, pos, ◌+ℤ◌, ◌-ℤ◌, ◌≤ℤ◌, List, [], ◌∷◌, length, Bool, true, false, not, ◌&&◌, if◌then◌else◌, Option, Some, None, refl, sym, ap, ◌∙◌, subst, arith}
use Rattle.std.proofs.lemmas.Int.{ints}
use Rattle.sto_part.specs.Preds.{compares}
use Rattle.sto_part.specs.declared.pred.Test.{Test}
use Rattle.sto_part.specs.declared.pred.Test.TheVariants.{Eq, Ne, Lt, Le, Gt, Ge}
use Rattle.sto_model.specs.PlainReplies.{PlainReply, Done, Value, Flag, Absent, Full, Range}
use Rattle.sto_model.specs.Objects.{Effect, machine_of, machines_of, effect, value_or_absent, compared, in_range, least, greatest, done_in_range, with_only, added_at}
use Rattle.sto_model.specs.Operations.{test_of, test_number}
use Rattle.sto_model.specs.Calls.{call_of}
use Rattle.sto_model.specs.declared.operation.Operation.TheVariants.{Get, Set, Add, Test as TestWord, Take, Put, Remove, Has, Len, Next, Count, Push, Pop}
use Rattle.sto_model.specs.Rows.{Row, value_at, has_key, with_row, without, least_from, rows_between}
use Rattle.sto_model.specs.Run.{State}
use Rattle.sto_model.specs.SequentialObjects.{answered, changed}
use Rattle.sto_model.specs.declared.call.Call.{Call}
use Rattle.sto_model.specs.declared.shape.Shape.{Shape}
use Rattle.sto_model.specs.declared.shape.Shape.TheVariants.{Single, Counter, Array, Hash, Tree, Vector}
use Rattle.sto_action.specs.Alone.{run_of}
use Rattle.sto_action.specs.Calls.{number, perhaps, is_yes, is_done}
use Rattle.sto_action.specs.Progs.{Prog, Asks}
use Rattle.sto_action.specs.Shortened.{short_of}
use Rattle.sto_action.specs.Steps.{box_get, box_set, counter_get, counter_add, counter_test, counter_take, array_get, array_set, array_add}
use Rattle.sto_action.specs.Steps.{hash_get, hash_put, hash_remove, hash_has, hash_len, tree_get, tree_put, tree_remove, tree_len, tree_next, tree_count, vector_get, vector_test, vector_len, vector_push, vector_pop}
use Rattle.sto_action.specs.declared.handles.BoxId.{BoxId}
use Rattle.sto_action.specs.declared.handles.CounterId.{CounterId}
use Rattle.sto_action.specs.declared.handles.ArrayId.{ArrayId}
use Rattle.sto_action.specs.declared.handles.HashId.{HashId}
use Rattle.sto_action.specs.declared.handles.TreeId.{TreeId}
use Rattle.sto_action.specs.declared.handles.VectorId.{VectorId}
use Rattle.sto_action.specs.declared.short_reply.ShortReply.{ShortReply}
use Rattle.sto_library.specs.Vectors.{placed}
use Rattle.sto_library.proofs.Vectors.{pushed_rows, pop_leaves}

-- The rows of an object, where those of one were set

pub rows_here : (st : State) (n : ℕ) {old : List Row} (new : List Row) → slice_get st n ≡ Some old → slice_get (slice_set st n new) n ≡ Some new
rows_here [] n new is = cc
rows_here (rows ∷ st) zero new is = refl
rows_here (rows ∷ st) (suc n) new is = rows_here st n new is

pub rows_beside : (st : State) (n j : ℕ) (new : List Row) → (j ≡ n → ⊥) → slice_get (slice_set st n new) j ≡ slice_get st j
rows_beside [] n j new other = refl
rows_beside (rows ∷ st) zero zero new other = absurd (other refl)
rows_beside (rows ∷ st) zero (suc j) new other = refl
rows_beside (rows ∷ st) (suc n) zero new other = refl
rows_beside (rows ∷ st) (suc n) (suc j) new other = rows_beside st n j new (λ e. other (ap suc e))

pub same_rows : (st : State) (n : ℕ) {rows : List Row} → slice_get st n ≡ Some rows → slice_set st n rows ≡ st
same_rows [] n is = refl
same_rows (x ∷ st) zero {rows} is = let a : x ≡ rows = cc in ap (λ (r : List Row). r ∷ st) (sym a)
same_rows (x ∷ st) (suc n) is = ap (λ (s : State). x ∷ s) (same_rows st n is)

-- One object answers as if it stood alone

answered_here : (shapes : List Shape) (n : ℕ) (call : Call) (st : State) {shape : Shape} {rows : List Row} → slice_get shapes n ≡ Some shape → slice_get st n ≡ Some rows
    → answered (machines_of shapes) n call st ≡ answered (machine_of shape ∷ []) 0 call (rows ∷ [])
answered_here [] n call st s r = cc
answered_here (x ∷ shapes) n call [] s r = cc
answered_here (x ∷ shapes) zero call (y ∷ st) {shape} {rows} s r =
    let a : x ≡ shape = cc in let b : y ≡ rows = cc in
    ap (λ (z : Shape). answered (machine_of z ∷ []) 0 call (y ∷ [])) a ∙ ap (λ (z : List Row). answered (machine_of shape ∷ []) 0 call (z ∷ [])) b
answered_here (x ∷ shapes) (suc n) call (y ∷ st) s r = answered_here shapes n call st s r

-- the rows that it has after the call
abbrev rows_after : Shape → Call → List Row → List Row
rows_after shape call rows = slice_index_or (changed (machine_of shape ∷ []) 0 call (rows ∷ [])) 0 []

changed_here : (shapes : List Shape) (n : ℕ) (call : Call) (st : State) {shape : Shape} {rows : List Row} → slice_get shapes n ≡ Some shape → slice_get st n ≡ Some rows
    → changed (machines_of shapes) n call st ≡ slice_set st n (rows_after shape call rows)
changed_here [] n call st s r = cc
changed_here (x ∷ shapes) n call [] s r = cc
changed_here (x ∷ shapes) zero call (y ∷ st) {shape} {rows} s r =
    let a : x ≡ shape = cc in let b : y ≡ rows = cc in
    ap (λ (z : Shape). rows_after z call y ∷ st) a ∙ ap (λ (z : List Row). rows_after shape call z ∷ st) b
changed_here (x ∷ shapes) (suc n) call (y ∷ st) s r = ap (λ (l : State). y ∷ l) (changed_here shapes n call st s r)

-- What a reply tells code

perhaps_is : (o : Option ℤ) → perhaps (short_of (value_or_absent o)) ≡ o
perhaps_is None = refl
perhaps_is (Some x) = refl

compared_is : (test : Test) (x y : ℤ) → compared (test_of (pos (test_number test))) x y ≡ compares test x y
compared_is Eq x y = refl
compared_is Ne x y = refl
compared_is Lt x y = refl
compared_is Le x y = refl
compared_is Gt x y = refl
compared_is Ge x y = refl

range_is : (b : Bool) (z y : ℤ) → (if b then Some z else None) ≡ Some y → y ≡ z
range_is true z y h = cc
range_is false z y h = cc

-- a number in range is that number
in_range_is : (z y : ℤ) → in_range z ≡ Some y → y ≡ z
in_range_is z y h = range_is (int_le least z && int_le z greatest) z y h

-- the object of this number has this shape, and on this state it has these rows
abbrev pub HoldsAt : List Shape → State → ℕ → Shape → List Row → Type 0
HoldsAt shapes st n shape rows = (slice_get shapes n ≡ Some shape) × (slice_get st n ≡ Some rows)

module _ {E A : Type 0} (shapes : List Shape) (Q : A × State → Type 0) where
  -- run alone on this state, the code gives a value and leaves a state of which this is so, or it gives the transaction up
  abbrev pub Ends : Prog E A → State → Type 0
  Ends p st = IfSome (run_of (machines_of shapes) p st) Q

  asks_at : (call : Call) (k : ShortReply → Prog E A) (st : State) {shape : Shape} {rows : List Row} → slice_get shapes call.object ≡ Some shape → slice_get st call.object ≡ Some rows
      → Ends (k (short_of (answered (machine_of shape ∷ []) 0 call (rows ∷ [])))) (slice_set st call.object (rows_after shape call rows)) → Ends (Asks call k) st
  asks_at call k st {shape} {rows} s r h =
      subst (λ (x : PlainReply). Ends (k (short_of x)) (changed (machines_of shapes) call.object call st)) (sym (answered_here shapes call.object call st s r))
      (subst (Ends (k (short_of (answered (machine_of shape ∷ []) 0 call (rows ∷ []))))) (sym (changed_here shapes call.object call st s r)) h)

  -- a call that changes nothing
  reads_at : (call : Call) (k : ShortReply → Prog E A) (st : State) {shape : Shape} {rows : List Row} → slice_get shapes call.object ≡ Some shape → slice_get st call.object ≡ Some rows
      → rows_after shape call rows ≡ rows → Ends (k (short_of (answered (machine_of shape ∷ []) 0 call (rows ∷ [])))) st → Ends (Asks call k) st
  reads_at call k st {shape} {rows} s r same h =
      asks_at call k st s r (subst (Ends (k (short_of (answered (machine_of shape ∷ []) 0 call (rows ∷ []))))) (sym (ap (slice_set st call.object) same ∙ same_rows st call.object r)) h)

  -- one that tells what a value is, where there is one
  told_at : (next : Option ℤ → Prog E A) (st : State) (o : Option ℤ) → Ends (next o) st → Ends (next (perhaps (short_of (value_or_absent o)))) st
  told_at next st o h = subst (λ (x : Option ℤ). Ends (next x) st) (sym (perhaps_is o)) h

  -- one that is done or not
  set_by : (next : Bool → Prog E A) (st : State) (n : ℕ) {rows : List Row} (after : List Row) (b : Bool) → slice_get st n ≡ Some rows
      → (b ≡ true → Ends (next true) (slice_set st n after)) → Ends (next false) st
      → Ends (next (is_done (short_of (if b then effect Done after else effect Absent rows).reply))) (slice_set st n (if b then effect Done after else effect Absent rows).after)
  set_by next st n after true r so not_so = so refl
  set_by next st n after false r so not_so = subst (Ends (next false)) (sym (same_rows st n r)) not_so

  put_by : (next : Bool → Prog E A) (st : State) (n : ℕ) {rows : List Row} (after : List Row) (full : Bool) → slice_get st n ≡ Some rows → Ends (next true) (slice_set st n after) → Ends (next false) st
      → Ends (next (is_done (short_of (if full then effect Full rows else effect Done after).reply))) (slice_set st n (if full then effect Full rows else effect Done after).after)
  put_by next st n after true r so not_so = subst (Ends (next false)) (sym (same_rows st n r)) not_so
  put_by next st n after false r so not_so = so

  removed_by : (next : Bool → Prog E A) (st : State) (n : ℕ) {rows : List Row} (after : List Row) (b : Bool) → slice_get st n ≡ Some rows
      → (b ≡ true → Ends (next true) (slice_set st n after)) → Ends (next false) st
      → Ends (next (is_yes (short_of (if b then effect (Flag true) after else effect (Flag false) rows).reply)))
      (slice_set st n (if b then effect (Flag true) after else effect (Flag false) rows).after)
  removed_by next st n after true r so not_so = so refl
  removed_by next st n after false r so not_so = subst (Ends (next false)) (sym (same_rows st n r)) not_so

  -- a sum that is in range, or is not
  ranged_by : (next : Bool → Prog E A) (st : State) (n : ℕ) {rows : List Row} (changed_to : ℤ → List Row) (z : ℤ) (o : Option ℤ) → ((y : ℤ) → o ≡ Some y → y ≡ z) → slice_get st n ≡ Some rows
      → Ends (next true) (slice_set st n (changed_to z)) → Ends (next false) st
      → Ends (next (is_done (short_of (done_in_range o (λ y. effect Done (changed_to y)) rows).reply))) (slice_set st n (done_in_range o (λ y. effect Done (changed_to y)) rows).after)
  ranged_by next st n changed_to z (Some y) is r so not_so = subst (λ (x : ℤ). Ends (next true) (slice_set st n (changed_to x))) (sym (is y refl)) so
  ranged_by next st n changed_to z None is r so not_so = subst (Ends (next false)) (sym (same_rows st n r)) not_so

  taken_by : (next : Bool → Prog E A) (st : State) (n : ℕ) {rows : List Row} (changed_to : ℤ → List Row) (z : ℤ) (there : Bool) (o : Option ℤ)
      → ((y : ℤ) → o ≡ Some y → y ≡ z) → slice_get st n ≡ Some rows
      → (there ≡ true → Ends (next true) (slice_set st n (changed_to z))) → Ends (next false) st
      → Ends (next (is_yes (short_of (if there then done_in_range o (λ y. effect (Flag true) (changed_to y)) rows else effect (Flag false) rows).reply)))
      (slice_set st n (if there then done_in_range o (λ y. effect (Flag true) (changed_to y)) rows else effect (Flag false) rows).after)
  taken_by next st n changed_to z true (Some y) is r so not_so = subst (λ (x : ℤ). Ends (next true) (slice_set st n (changed_to x))) (sym (is y refl)) (so refl)
  taken_by next st n changed_to z true None is r so not_so = subst (Ends (next false)) (sym (same_rows st n r)) not_so
  taken_by next st n changed_to z false o is r so not_so = subst (Ends (next false)) (sym (same_rows st n r)) not_so

  added_by : (next : Bool → Prog E A) (st : State) (n : ℕ) {rows : List Row} (i by : ℤ) (o : Option ℤ) → slice_get st n ≡ Some rows
      → ((x : ℤ) → o ≡ Some x → Ends (next true) (slice_set st n (with_row rows i (x +ℤ by)))) → Ends (next false) st
      → Ends (next (is_done (short_of (added_at o i by rows).reply))) (slice_set st n (added_at o i by rows).after)
  added_by next st n {rows} i by (Some x) r so not_so = ranged_by next st n (λ y. with_row rows i y) (x +ℤ by) (in_range (x +ℤ by)) (in_range_is (x +ℤ by)) r (so x refl) not_so
  added_by next st n i by None r so not_so = subst (Ends (next false)) (sym (same_rows st n r)) not_so

  -- Boxes

  pub box_get_at : (x : BoxId) (next : ℤ → Prog E A) (st : State) {v value : ℤ} → HoldsAt shapes st x.number (Single v) ((pos 0, value) ∷ [])
      → Ends (next value) st → Ends (box_get x next) st
  box_get_at x next st (s, r) h = reads_at (call_of x.number Get (pos 0) (pos 0)) (λ h. next (number h)) st s r refl h

  pub box_set_at : (x : BoxId) (new : ℤ) (next : Prog E A) (st : State) {after : State} {v value : ℤ} → HoldsAt shapes st x.number (Single v) ((pos 0, value) ∷ [])
      → slice_set st x.number ((pos 0, new) ∷ []) ≡ after → Ends next after → Ends (box_set x new next) st
  box_set_at x new next st (s, r) e h = asks_at (call_of x.number Set new (pos 0)) (λ _. next) st s r (subst (Ends next) (sym e) h)

  -- Counters

  pub counter_get_at : (x : CounterId) (next : ℤ → Prog E A) (st : State) {v value : ℤ} → HoldsAt shapes st x.number (Counter v) ((pos 0, value) ∷ [])
      → Ends (next value) st → Ends (counter_get x next) st
  counter_get_at x next st (s, r) h = reads_at (call_of x.number Get (pos 0) (pos 0)) (λ h. next (number h)) st s r refl h

  pub counter_add_at : (x : CounterId) (by : ℤ) (next : Bool → Prog E A) (st : State) {after : State} {v value : ℤ} → HoldsAt shapes st x.number (Counter v) ((pos 0, value) ∷ [])
      → slice_set st x.number ((pos 0, value +ℤ by) ∷ []) ≡ after → Ends (next true) after → Ends (next false) st → Ends (counter_add x by next) st
  counter_add_at x by next st {value = value} (s, r) e so not_so =
      asks_at (call_of x.number Add by (pos 0)) (λ h. next (is_done h)) st s r
      (ranged_by next st x.number (λ y. (pos 0, y) ∷ []) (value +ℤ by) (in_range (value +ℤ by)) (in_range_is (value +ℤ by)) r
      (subst (Ends (next true)) (sym e) so) not_so)

  pub counter_test_at : (x : CounterId) (test : Test) (than : ℤ) (next : Bool → Prog E A) (st : State) {v value : ℤ} → HoldsAt shapes st x.number (Counter v) ((pos 0, value) ∷ [])
      → Ends (next (compares test value than)) st → Ends (counter_test x test than next) st
  counter_test_at x test than next st {v} {value} (s, r) h =
      reads_at (call_of x.number TestWord (pos (test_number test)) than) (λ h. next (is_yes h)) st s r refl (subst (λ (b : Bool). Ends (next b) st) (sym (compared_is test value than)) h)

  pub counter_take_at : (x : CounterId) (by : ℤ) (next : Bool → Prog E A) (st : State) {after : State} {v value : ℤ} → HoldsAt shapes st x.number (Counter v) ((pos 0, value) ∷ [])
      → slice_set st x.number ((pos 0, value -ℤ by) ∷ []) ≡ after → (by ≤ℤ value → Ends (next true) after) → Ends (next false) st → Ends (counter_take x by next) st
  counter_take_at x by next st {value = value} (s, r) e so not_so =
      asks_at (call_of x.number Take by (pos 0)) (λ h. next (is_yes h)) st s r
      (taken_by next st x.number (λ y. (pos 0, y) ∷ []) (value -ℤ by) (int_le by value) (in_range (value -ℤ by)) (in_range_is (value -ℤ by)) r
      (λ there. subst (Ends (next true)) (sym e) (so (grind (arith, ints, there)))) not_so)

  -- Arrays

  pub array_get_at : (x : ArrayId) (place : ℤ) (next : Option ℤ → Prog E A) (st : State) {len : ℕ} {v : ℤ} {rows : List Row} → HoldsAt shapes st x.number (Array len v) rows
      → Ends (next (value_at rows place)) st → Ends (array_get x place next) st
  array_get_at x place next st {rows = rows} (s, r) h = reads_at (call_of x.number Get place (pos 0)) (λ h. next (perhaps h)) st s r refl (told_at next st (value_at rows place) h)

  pub array_set_at : (x : ArrayId) (place value : ℤ) (next : Bool → Prog E A) (st : State) {after : State} {len : ℕ} {v : ℤ} {rows : List Row} → HoldsAt shapes st x.number (Array len v) rows
      → slice_set st x.number (with_row rows place value) ≡ after → (has_key rows place ≡ true → Ends (next true) after) → Ends (next false) st → Ends (array_set x place value next) st
  array_set_at x place value next st {rows = rows} (s, r) e so not_so =
      asks_at (call_of x.number Set place value) (λ h. next (is_done h)) st s r
      (set_by next st x.number (with_row rows place value) (has_key rows place) r (λ there. subst (Ends (next true)) (sym e) (so there)) not_so)

  pub array_add_at : (x : ArrayId) (place by : ℤ) (next : Bool → Prog E A) (st : State) {len : ℕ} {v : ℤ} {rows : List Row} → HoldsAt shapes st x.number (Array len v) rows
      → ((value : ℤ) → value_at rows place ≡ Some value → Ends (next true) (slice_set st x.number (with_row rows place (value +ℤ by)))) → Ends (next false) st → Ends (array_add x place by next) st
  array_add_at x place by next st {rows = rows} (s, r) so not_so =
      asks_at (call_of x.number Add place by) (λ h. next (is_done h)) st s r (added_by next st x.number place by (value_at rows place) r so not_so)

  -- Hash tables

  pub hash_get_at : (x : HashId) (key : ℤ) (next : Option ℤ → Prog E A) (st : State) {buckets places : ℕ} {rows : List Row} → HoldsAt shapes st x.number (Hash buckets places) rows
      → Ends (next (value_at rows key)) st → Ends (hash_get x key next) st
  hash_get_at x key next st {rows = rows} (s, r) h = reads_at (call_of x.number Get key (pos 0)) (λ h. next (perhaps h)) st s r refl (told_at next st (value_at rows key) h)

  pub hash_put_at : (x : HashId) (key value : ℤ) (next : Bool → Prog E A) (st : State) {after : State} {buckets places : ℕ} {rows : List Row} → HoldsAt shapes st x.number (Hash buckets places) rows
      → slice_set st x.number (with_row rows key value) ≡ after → Ends (next true) after → Ends (next false) st → Ends (hash_put x key value next) st
  hash_put_at x key value next st {rows = rows} (s, r) e so not_so =
      asks_at (call_of x.number Put key value) (λ h. next (is_done h)) st s r (put_by next st x.number (with_row rows key value) _ r (subst (Ends (next true)) (sym e) so) not_so)

  pub hash_remove_at : (x : HashId) (key : ℤ) (next : Bool → Prog E A) (st : State) {after : State} {buckets places : ℕ} {rows : List Row} → HoldsAt shapes st x.number (Hash buckets places) rows
      → slice_set st x.number (without rows key) ≡ after → (has_key rows key ≡ true → Ends (next true) after) → Ends (next false) st → Ends (hash_remove x key next) st
  hash_remove_at x key next st {rows = rows} (s, r) e so not_so =
      asks_at (call_of x.number Remove key (pos 0)) (λ h. next (is_yes h)) st s r
      (removed_by next st x.number (without rows key) (has_key rows key) r (λ there. subst (Ends (next true)) (sym e) (so there)) not_so)

  pub hash_has_at : (x : HashId) (key : ℤ) (next : Bool → Prog E A) (st : State) {buckets places : ℕ} {rows : List Row} → HoldsAt shapes st x.number (Hash buckets places) rows
      → Ends (next (has_key rows key)) st → Ends (hash_has x key next) st
  hash_has_at x key next st (s, r) h = reads_at (call_of x.number Has key (pos 0)) (λ h. next (is_yes h)) st s r refl h

  pub hash_len_at : (x : HashId) (next : ℤ → Prog E A) (st : State) {buckets places : ℕ} {rows : List Row} → HoldsAt shapes st x.number (Hash buckets places) rows
      → Ends (next (pos (length rows))) st → Ends (hash_len x next) st
  hash_len_at x next st (s, r) h = reads_at (call_of x.number Len (pos 0) (pos 0)) (λ h. next (number h)) st s r refl h

  -- Trees

  pub tree_get_at : (x : TreeId) (key : ℤ) (next : Option ℤ → Prog E A) (st : State) {leaves : ℕ} {rows : List Row} → HoldsAt shapes st x.number (Tree leaves) rows
      → Ends (next (value_at rows key)) st → Ends (tree_get x key next) st
  tree_get_at x key next st {rows = rows} (s, r) h = reads_at (call_of x.number Get key (pos 0)) (λ h. next (perhaps h)) st s r refl (told_at next st (value_at rows key) h)

  pub tree_put_at : (x : TreeId) (key value : ℤ) (next : Bool → Prog E A) (st : State) {after : State} {leaves : ℕ} {rows : List Row} → HoldsAt shapes st x.number (Tree leaves) rows
      → slice_set st x.number (with_row rows key value) ≡ after → Ends (next true) after → Ends (next false) st → Ends (tree_put x key value next) st
  tree_put_at x key value next st {rows = rows} (s, r) e so not_so =
      asks_at (call_of x.number Put key value) (λ h. next (is_done h)) st s r (put_by next st x.number (with_row rows key value) _ r (subst (Ends (next true)) (sym e) so) not_so)

  pub tree_remove_at : (x : TreeId) (key : ℤ) (next : Bool → Prog E A) (st : State) {after : State} {leaves : ℕ} {rows : List Row} → HoldsAt shapes st x.number (Tree leaves) rows
      → slice_set st x.number (without rows key) ≡ after → (has_key rows key ≡ true → Ends (next true) after) → Ends (next false) st → Ends (tree_remove x key next) st
  tree_remove_at x key next st {rows = rows} (s, r) e so not_so =
      asks_at (call_of x.number Remove key (pos 0)) (λ h. next (is_yes h)) st s r
      (removed_by next st x.number (without rows key) (has_key rows key) r (λ there. subst (Ends (next true)) (sym e) (so there)) not_so)

  pub tree_len_at : (x : TreeId) (next : ℤ → Prog E A) (st : State) {leaves : ℕ} {rows : List Row} → HoldsAt shapes st x.number (Tree leaves) rows
      → Ends (next (pos (length rows))) st → Ends (tree_len x next) st
  tree_len_at x next st (s, r) h = reads_at (call_of x.number Len (pos 0) (pos 0)) (λ h. next (number h)) st s r refl h

  pub tree_next_at : (x : TreeId) (from : ℤ) (next : Option ℤ → Prog E A) (st : State) {leaves : ℕ} {rows : List Row} → HoldsAt shapes st x.number (Tree leaves) rows
      → Ends (next (least_from rows from)) st → Ends (tree_next x from next) st
  tree_next_at x from next st {rows = rows} (s, r) h = reads_at (call_of x.number Next from (pos 0)) (λ h. next (perhaps h)) st s r refl (told_at next st (least_from rows from) h)

  pub tree_count_at : (x : TreeId) (first last : ℤ) (next : ℤ → Prog E A) (st : State) {leaves : ℕ} {rows : List Row} → HoldsAt shapes st x.number (Tree leaves) rows
      → Ends (next (pos (length (rows_between rows first last)))) st → Ends (tree_count x first last next) st
  tree_count_at x first last next st (s, r) h = reads_at (call_of x.number Count first last) (λ h. next (number h)) st s r refl h

  -- Vectors, by their values, the last one first

  pub vector_get_at : (x : VectorId) (place : ℤ) (next : Option ℤ → Prog E A) (st : State) {capacity : ℕ} {rows : List Row} → HoldsAt shapes st x.number (Vector capacity) rows
      → Ends (next (value_at rows place)) st → Ends (vector_get x place next) st
  vector_get_at x place next st {rows = rows} (s, r) h = reads_at (call_of x.number Get place (pos 0)) (λ h. next (perhaps h)) st s r refl (told_at next st (value_at rows place) h)

  pub vector_test_at : (x : VectorId) (test : Test) (than : ℤ) (next : Bool → Prog E A) (st : State) {capacity : ℕ} {rows : List Row} → HoldsAt shapes st x.number (Vector capacity) rows
      → Ends (next (compares test (pos (length rows)) than)) st → Ends (vector_test x test than next) st
  vector_test_at x test than next st {rows = rows} (s, r) h =
      reads_at (call_of x.number TestWord (pos (test_number test)) than) (λ h. next (is_yes h)) st s r refl (subst (λ (b : Bool). Ends (next b) st) (sym (compared_is test (pos (length rows)) than)) h)

  pub vector_len_at : (x : VectorId) (next : ℤ → Prog E A) (st : State) {capacity : ℕ} {rows : List Row} → HoldsAt shapes st x.number (Vector capacity) rows
      → Ends (next (pos (length rows))) st → Ends (vector_len x next) st
  vector_len_at x next st (s, r) h = reads_at (call_of x.number Len (pos 0) (pos 0)) (λ h. next (number h)) st s r refl h

  pub vector_push_at : (x : VectorId) (value : ℤ) (next : Bool → Prog E A) (st : State) (values : List ℤ) {after : State} {capacity : ℕ} → HoldsAt shapes st x.number (Vector capacity) (placed values)
      → slice_set st x.number (placed (value ∷ values)) ≡ after → Ends (next true) after → Ends (next false) st → Ends (vector_push x value next) st
  vector_push_at x value next st values (s, r) e so not_so =
      asks_at (call_of x.number Push value (pos 0)) (λ h. next (is_done h)) st s r
      (put_by next st x.number (with_row (placed values) (pos (length (placed values))) value) _ r
      (subst (Ends (next true)) (sym (ap (slice_set st x.number) (pushed_rows values value) ∙ e)) so) not_so)

  pub vector_pop_none_at : (x : VectorId) (next : Option ℤ → Prog E A) (st : State) {capacity : ℕ} → HoldsAt shapes st x.number (Vector capacity) []
      → Ends (next None) st → Ends (vector_pop x next) st
  vector_pop_none_at x next st (s, r) h = reads_at (call_of x.number Pop (pos 0) (pos 0)) (λ h. next (perhaps h)) st s r refl h

  pub vector_pop_some_at : (x : VectorId) (next : Option ℤ → Prog E A) (st : State) (value : ℤ) (values : List ℤ) {after : State} {capacity : ℕ}
      → HoldsAt shapes st x.number (Vector capacity) (placed (value ∷ values)) → slice_set st x.number (placed values) ≡ after → Ends (next (Some value)) after → Ends (vector_pop x next) st
  vector_pop_some_at x next st value values {after} {capacity} (s, r) e h =
      asks_at (call_of x.number Pop (pos 0) (pos 0)) (λ h. next (perhaps h)) st s r
      (subst (λ (e : Effect). Ends (next (perhaps (short_of e.reply))) (slice_set st x.number e.after)) (sym (pop_leaves capacity value values))
      (subst (Ends (next (Some value))) (sym e) h))
