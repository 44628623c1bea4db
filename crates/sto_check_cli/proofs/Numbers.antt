-- The plain objects keep to numbers of 64 bits: where their rows and a call have such, the reply and the rows after have such.
use Rattle.std.proofs.Common.{ℕ, zero, suc, ◌≤◌, ◌<◌, ◌^◌, pos, ℤ, List, [], ◌∷◌, length, Bool, true, false, not, ◌&&◌, cond, Option, None, Some, IfSome, arith, find, filter, nat_le, int_le, int_lt, option_map, inl, inr}
use Rattle.std.specs.Prelude.{◌+ℤ◌, ◌-ℤ◌}
use Rattle.std.specs.Ordering.{int_eq}
use Rattle.std.specs.Int.{w64}
use Rattle.std.specs.Int.RustNames.{FitsSigned}
use Rattle.std.specs.List.{All}
use Rattle.std.proofs.lemmas.Int.{ints}
use Rattle.std.proofs.lemmas.List.Elements.{All-nil, All-cons, All-head, All-tail, All-weaker}
use Rattle.sto_model.specs.PlainReplies.{PlainReply, Done, Value, Flag, Absent, Full, Range, Pairs}
use Rattle.sto_model.specs.Rows.{Row, value_at, has_key, with_row, without, least_from, rows_between}
use Rattle.sto_model.specs.SequentialObjects.{answered, changed}
use Rattle.sto_model.specs.Objects.{Effect, effect, only_value, with_only, value_or_absent, in_range, done_in_range, box_effect, counter_effect, added_at, array_effect, put_effect, remove_effect, hash_effect, tree_effect, push_effect, popped, pop_effect, vector_effect, machines_of, effect_of}
use Rattle.sto_model.specs.Ranges.{in_range-cases}
use Rattle.sto_model.specs.declared.call.Call.{Call}
use Rattle.sto_model.specs.declared.operation.Operation.{Operation}
use Rattle.sto_model.specs.declared.operation.Operation.TheVariants.{Get, Set, Add, Test as TestWord, Take, Put, Remove, Has, Len, Next, Count, Scan, Push, Pop}
use Rattle.sto_model.specs.declared.shape.Shape.{Shape}
use Rattle.sto_model.specs.declared.shape.Shape.TheVariants.{Single, Counter, Array, Hash, Tree, Vector}

-- a number of 64 bits
abbrev pub Fits : ℤ → Type 0
Fits x = FitsSigned w64 x

abbrev pub RowFits : Row → Type 0
RowFits row = Fits row.0 × Fits row.1

-- rows with such numbers, at most so many
pub record HasFew (n : ℕ) (rows : List Row) : Type 0 where
  pub few : length rows ≤ n
  pub each : All RowFits rows

-- a reply whose number is such a number
abbrev pub ToldFits : PlainReply → Type 0
ToldFits (Value x) = Fits x
ToldFits (Pairs rows) = length rows < 2 ^ 63
ToldFits reply = Unit {0}

-- an effect of which the reply is such, and the rows are such with one more at most
pub record EffectFits (n : ℕ) (e : Effect) : Type 0 where
  pub reply : ToldFits e.reply
  pub after : HasFew (suc n) e.after

-- how many
pub count_fits : (n : ℕ) → n < 2 ^ 63 → Fits (pos n)
count_fits n l = record { sfits = grind (arith, ints) }

pub zero_fits : Fits (pos 0)
zero_fits = count_fits 0 (omega arith)

-- Rows.

value_fits : (rows : List Row) (k : ℤ) → All RowFits rows → IfSome (value_at rows k) Fits
value_fits [] k h = tt
value_fits (r ∷ rows) k h = by (int_eq r.0 k) (value_fits rows k (All-tail RowFits r rows h))
  where
    by : (b : Bool) → IfSome (value_at rows k) Fits → IfSome (option_map (λ (x : Row). x.1) (cond b (Some r) (find (λ (x : Row). int_eq x.0 k) rows))) Fits
    by true more = (All-head RowFits r rows h).1
    by false more = more

least_fits : (rows : List Row) (k : ℤ) → All RowFits rows → IfSome (least_from rows k) Fits
least_fits [] k h = tt
least_fits (r ∷ rows) k h = by (int_le k r.0) (least_fits rows k (All-tail RowFits r rows h))
  where
    by : (b : Bool) → IfSome (least_from rows k) Fits → IfSome (option_map (λ (x : Row). x.0) (cond b (Some r) (find (λ (x : Row). int_le k x.0) rows))) Fits
    by true more = (All-head RowFits r rows h).0
    by false more = more

with_each : (rows : List Row) (k v : ℤ) → Fits k → Fits v → All RowFits rows → All RowFits (with_row rows k v)
with_each [] k v f g h = All-cons RowFits (k, v) [] (f, g) h
with_each (r ∷ rows) k v f g h = by (int_lt r.0 k) (int_eq r.0 k) (All-head RowFits r rows h) (All-tail RowFits r rows h) (with_each rows k v f g (All-tail RowFits r rows h))
  where
    by : (a b : Bool) → RowFits r → All RowFits rows → All RowFits (with_row rows k v) → All RowFits (cond a (r ∷ with_row rows k v) (cond b ((k, v) ∷ rows) ((k, v) ∷ r ∷ rows)))
    by true b x t more = All-cons RowFits r (with_row rows k v) x more
    by false true x t more = All-cons RowFits (k, v) rows (f, g) t
    by false false x t more = All-cons RowFits (k, v) (r ∷ rows) (f, g) h

with_few : (rows : List Row) (k v : ℤ) → length (with_row rows k v) ≤ suc (length rows)
with_few [] k v = omega arith
with_few (r ∷ rows) k v = by (int_lt r.0 k) (int_eq r.0 k) (with_few rows k v)
  where
    by : (a b : Bool) → length (with_row rows k v) ≤ suc (length rows) → length (cond a (r ∷ with_row rows k v) (cond b ((k, v) ∷ rows) ((k, v) ∷ r ∷ rows))) ≤ suc (suc (length rows))
    by true b more = omega (arith, more)
    by false true more = omega arith
    by false false more = omega arith

without_each : (rows : List Row) (k : ℤ) → All RowFits rows → All RowFits (without rows k)
without_each [] k h = h
without_each (r ∷ rows) k h = by (int_eq r.0 k) (All-head RowFits r rows h) (All-tail RowFits r rows h) (without_each rows k (All-tail RowFits r rows h))
  where
    by : (b : Bool) → RowFits r → All RowFits rows → All RowFits (without rows k) → All RowFits (cond b rows (r ∷ without rows k))
    by true x t more = t
    by false x t more = All-cons RowFits r (without rows k) x more

without_few : (rows : List Row) (k : ℤ) → length (without rows k) ≤ length rows
without_few [] k = omega arith
without_few (r ∷ rows) k = by (int_eq r.0 k) (without_few rows k)
  where
    by : (b : Bool) → length (without rows k) ≤ length rows → length (cond b rows (r ∷ without rows k)) ≤ suc (length rows)
    by true more = omega arith
    by false more = omega (arith, more)

filter_few : (p : Row → Bool) (rows : List Row) → length (filter p rows) ≤ length rows
filter_few p [] = omega arith
filter_few p (r ∷ rows) = by (p r) (filter_few p rows)
  where
    by : (b : Bool) → length (filter p rows) ≤ length rows → length (cond b (r ∷ filter p rows) (filter p rows)) ≤ suc (length rows)
    by true more = omega (arith, more)
    by false more = omega (arith, more)

-- Rows with one more, and with fewer.

with_row_fits : (n : ℕ) (rows : List Row) (k v : ℤ) → Fits k → Fits v → HasFew n rows → HasFew (suc n) (with_row rows k v)
with_row_fits n rows k v f g h = record { few = (let l = h.few in let m = with_few rows k v in omega (arith, l, m)); each = with_each rows k v f g h.each }

without_fits : (n : ℕ) (rows : List Row) (k : ℤ) → HasFew n rows → HasFew (suc n) (without rows k)
without_fits n rows k h = record { few = (let l = h.few in let m = without_few rows k in omega (arith, l, m)); each = without_each rows k h.each }

still : (n : ℕ) (rows : List Row) → HasFew n rows → HasFew (suc n) rows
still n rows h = record { few = (let l = h.few in omega (arith, l)); each = h.each }

-- Effects.

module _ (n : ℕ) (small : n < 2 ^ 63) (rows : List Row) (h : HasFew n rows) where
  same : (reply : PlainReply) → ToldFits reply → EffectFits n (effect reply rows)
  same reply f = record { reply = f; after = still n rows h }

  with_at : (reply : PlainReply) (k v : ℤ) → ToldFits reply → Fits k → Fits v → EffectFits n (effect reply (with_row rows k v))
  with_at reply k v f a b = record { reply = f; after = with_row_fits n rows k v a b h }

  fewer : (reply : PlainReply) (k : ℤ) → ToldFits reply → EffectFits n (effect reply (without rows k))
  fewer reply k f = record { reply = f; after = without_fits n rows k h }

  counts : (m : ℕ) → m ≤ length rows → m < 2 ^ 63
  counts m l = let k = h.few in omega (arith, l, k, small)

  all_counted : Fits (pos (length rows))
  all_counted = count_fits (length rows) (counts (length rows) (omega arith))

  only_fits : Fits (only_value rows)
  only_fits = by (value_at rows (pos 0)) (value_fits rows (pos 0) h.each)
    where
      by : (o : Option ℤ) → IfSome o Fits → Fits (Rattle.std.specs.Prelude.unwrap_or o (pos 0))
      by (Some x) f = f
      by None f = zero_fits

  shown_fits : (o : Option ℤ) → IfSome o Fits → ToldFits (value_or_absent o)
  shown_fits (Some x) f = f
  shown_fits None f = tt

  in_range_fits : (reply : PlainReply) (k x : ℤ) → ToldFits reply → Fits k → EffectFits n (done_in_range (in_range x) (λ y. effect reply (with_row rows k y)) rows)
  in_range_fits reply k x f g = elim (in_range-cases x) [
    | inl c ↦ rw c.1 (with_at reply k x f g c.0)
    | inr c ↦ rw c.1 (same Range tt)
  ]

  box_fits : (o : Operation) (a : ℤ) → Fits a → EffectFits n (box_effect o a rows)
  box_fits Get a f = same (Value (only_value rows)) only_fits
  box_fits Set a f = with_at Done (pos 0) a tt zero_fits f
  box_fits o a f = same Absent tt

  take_fits : (b : Bool) (d : ℤ) → EffectFits n (cond b (done_in_range (in_range (only_value rows -ℤ d)) (λ x. effect (Flag true) (with_only rows x)) rows) (effect (Flag false) rows))
  take_fits true d = in_range_fits (Flag true) (pos 0) (only_value rows -ℤ d) tt zero_fits
  take_fits false d = same (Flag false) tt

  counter_fits : (o : Operation) (a b : ℤ) → EffectFits n (counter_effect o a b rows)
  counter_fits Get a b = same (Value (only_value rows)) only_fits
  counter_fits Add a b = in_range_fits Done (pos 0) (only_value rows +ℤ a) tt zero_fits
  counter_fits TestWord a b = same (Flag _) tt
  counter_fits Take a b = take_fits (int_le a (only_value rows)) a
  counter_fits o a b = same Absent tt

  added_fits : (o : Option ℤ) (i d : ℤ) → Fits i → EffectFits n (added_at o i d rows)
  added_fits (Some x) i d f = in_range_fits Done i (x +ℤ d) tt f
  added_fits None i d f = same Absent tt

  set_fits : (b : Bool) (i v : ℤ) → Fits i → Fits v → EffectFits n (cond b (effect Done (with_row rows i v)) (effect Absent rows))
  set_fits true i v f g = with_at Done i v tt f g
  set_fits false i v f g = same Absent tt

  array_fits : (o : Operation) (a b : ℤ) → Fits a → Fits b → EffectFits n (array_effect o a b rows)
  array_fits Get a b f g = same (value_or_absent (value_at rows a)) (shown_fits (value_at rows a) (value_fits rows a h.each))
  array_fits Set a b f g = set_fits (has_key rows a) a b f g
  array_fits Add a b f g = added_fits (value_at rows a) a b f
  array_fits o a b f g = same Absent tt

  put_fits : (full : Bool) (k v : ℤ) → Fits k → Fits v → EffectFits n (put_effect full k v rows)
  put_fits full k v f g = by (not (has_key rows k) && full)
    where
      by : (b : Bool) → EffectFits n (cond b (effect Full rows) (effect Done (with_row rows k v)))
      by true = same Full tt
      by false = with_at Done k v tt f g

  remove_fits : (k : ℤ) → EffectFits n (remove_effect k rows)
  remove_fits k = by (has_key rows k)
    where
      by : (b : Bool) → EffectFits n (cond b (effect (Flag true) (without rows k)) (effect (Flag false) rows))
      by true = fewer (Flag true) k tt
      by false = same (Flag false) tt

  hash_fits : (buckets places : ℕ) (o : Operation) (a b : ℤ) → Fits a → Fits b → EffectFits n (hash_effect buckets places o a b rows)
  hash_fits buckets places Get a b f g = same (value_or_absent (value_at rows a)) (shown_fits (value_at rows a) (value_fits rows a h.each))
  hash_fits buckets places Put a b f g = put_fits _ a b f g
  hash_fits buckets places Remove a b f g = remove_fits a
  hash_fits buckets places Has a b f g = same (Flag (has_key rows a)) tt
  hash_fits buckets places Len a b f g = same (Value (pos (length rows))) all_counted
  hash_fits buckets places o a b f g = same Absent tt

  between_few : (a b : ℤ) → length (rows_between rows a b) < 2 ^ 63
  between_few a b = counts (length (rows_between rows a b)) (filter_few (λ r. int_le a r.0 && int_le r.0 b) rows)

  tree_fits : (leaves : ℕ) (o : Operation) (a b : ℤ) → Fits a → Fits b → EffectFits n (tree_effect leaves o a b rows)
  tree_fits leaves Get a b f g = same (value_or_absent (value_at rows a)) (shown_fits (value_at rows a) (value_fits rows a h.each))
  tree_fits leaves Put a b f g = put_fits _ a b f g
  tree_fits leaves Remove a b f g = remove_fits a
  tree_fits leaves Len a b f g = same (Value (pos (length rows))) all_counted
  tree_fits leaves Next a b f g = same (value_or_absent (least_from rows a)) (shown_fits (least_from rows a) (least_fits rows a h.each))
  tree_fits leaves Count a b f g = same (Value (pos (length (rows_between rows a b)))) (count_fits (length (rows_between rows a b)) (between_few a b))
  tree_fits leaves Scan a b f g = same (Pairs (rows_between rows a b)) (between_few a b)
  tree_fits leaves o a b f g = same Absent tt

  push_fits : (full : Bool) (v : ℤ) → Fits v → EffectFits n (push_effect full v rows)
  push_fits true v f = same Full tt
  push_fits false v f = with_at Done (pos (length rows)) v tt all_counted f

  pop_fits : (m : ℕ) → EffectFits n (pop_effect m rows)
  pop_fits zero = same Absent tt
  pop_fits (suc m) = by (value_at rows (pos m)) (value_fits rows (pos m) h.each)
    where
      by : (o : Option ℤ) → IfSome o Fits → EffectFits n (popped o (pos m) rows)
      by (Some x) f = fewer (Value x) (pos m) f
      by None f = same Absent tt

  vector_fits : (capacity : ℕ) (o : Operation) (a b : ℤ) → Fits a → Fits b → EffectFits n (vector_effect capacity o a b rows)
  vector_fits capacity Get a b f g = same (value_or_absent (value_at rows a)) (shown_fits (value_at rows a) (value_fits rows a h.each))
  vector_fits capacity TestWord a b f g = same (Flag _) tt
  vector_fits capacity Len a b f g = same (Value (pos (length rows))) all_counted
  vector_fits capacity Push a b f g = push_fits (nat_le capacity (length rows)) a f
  vector_fits capacity Pop a b f g = pop_fits (length rows)
  vector_fits capacity o a b f g = same Absent tt

  effect_fits : (shape : Shape) (o : Operation) (a b : ℤ) → Fits a → Fits b → EffectFits n (effect_of shape o a b rows)
  effect_fits (Single v) o a b f g = box_fits o a f
  effect_fits (Counter v) o a b f g = counter_fits o a b
  effect_fits (Array len v) o a b f g = array_fits o a b f g
  effect_fits (Hash buckets places) o a b f g = hash_fits buckets places o a b f g
  effect_fits (Tree leaves) o a b f g = tree_fits leaves o a b f g
  effect_fits (Vector capacity) o a b f g = vector_fits capacity o a b f g

-- Objects side by side.

every_more : (n : ℕ) (st : List (List Row)) → All (HasFew n) st → All (HasFew (suc n)) st
every_more n st h = All-weaker (HasFew n) (HasFew (suc n)) (still n) st h

pub reply_fits : (n : ℕ) → n < 2 ^ 63 → (shapes : List Shape) (number : ℕ) (call : Call) (st : List (List Row)) → All (HasFew n) st → Fits call.a → Fits call.b → ToldFits (answered (machines_of shapes) number call st)
reply_fits n l [] number call st h f g = tt
reply_fits n l (shape ∷ shapes) number call [] h f g = tt
reply_fits n l (shape ∷ shapes) zero call (rows ∷ st) h f g = (effect_fits n l rows (All-head (HasFew n) rows st h) shape call.operation call.a call.b f g).reply
reply_fits n l (shape ∷ shapes) (suc number) call (rows ∷ st) h f g = reply_fits n l shapes number call st (All-tail (HasFew n) rows st h) f g

pub state_fits : (n : ℕ) → n < 2 ^ 63 → (shapes : List Shape) (number : ℕ) (call : Call) (st : List (List Row)) → All (HasFew n) st → Fits call.a → Fits call.b → All (HasFew (suc n)) (changed (machines_of shapes) number call st)
state_fits n l [] number call st h f g = every_more n st h
state_fits n l (shape ∷ shapes) number call [] h f g = All-nil (HasFew (suc n))
state_fits n l (shape ∷ shapes) zero call (rows ∷ st) h f g =
    All-cons (HasFew (suc n)) _ st (effect_fits n l rows (All-head (HasFew n) rows st h) shape call.operation call.a call.b f g).after (every_more n st (All-tail (HasFew n) rows st h))
state_fits n l (shape ∷ shapes) (suc number) call (rows ∷ st) h f g =
    All-cons (HasFew (suc n)) rows _ (still n rows (All-head (HasFew n) rows st h)) (state_fits n l shapes number call st (All-tail (HasFew n) rows st h) f g)
