-- Lists that are copied item by item.
use Rattle.std.proofs.Common.{◌≡◌, ◌+◌, ◌≤◌, ℕ, zero, suc, List, [], ◌∷◌, ◌++◌, length, map, take, drop, slice_get, slice_set, Some, ap, sym, ◌∙◌, subst, add-one, append_assoc, arith}
use Rattle.sto_model.specs.Rows.{Row}
use Rattle.sto_c.specs.declared.crossing.RowOut.{RowOut}
use Rattle.sto_c.specs.Crossing.{row_out, rows_out}

module _ {X Y : Type 0} (f : X → Y) where
  set_next : (items : List X) (old : List Y) (x : X) (i : ℕ) → slice_get items i ≡ Some x → length items ≤ length old
      → slice_set (map f (take i items) ++ drop i old) i (f x) ≡ map f (take (suc i) items) ++ drop (suc i) old
  set_next [] old x i e fits = cc
  set_next (y ∷ ys) [] x i e fits = absurd (omega arith)
  set_next (y ∷ ys) (o ∷ os) x zero e fits = cc
  set_next (y ∷ ys) (o ∷ os) x (suc i) e fits = ap (λ (zs : List Y). f y ∷ zs) (set_next ys os x i e (omega arith))

  -- the item at the place i is written over what stood there
  pub copied_next : (items : List X) (old out new : List Y) (x : X) (i : ℕ) → slice_get items i ≡ Some x → length items ≤ length old
      → out ≡ map f (take i items) ++ drop i old → new ≡ slice_set out i (f x) → new ≡ map f (take (i + 1) items) ++ drop (i + 1) old
  copied_next items old out new x i e fits was now =
      let next : suc i ≡ i + 1 = omega arith in subst (λ (k : ℕ). new ≡ map f (take k items) ++ drop k old) next
      (now ∙ ap (λ (zs : List Y). slice_set zs i (f x)) was ∙ set_next items old x i e fits)

  pub take_next : (items : List X) (x : X) (i : ℕ) → slice_get items i ≡ Some x → map f (take (suc i) items) ≡ map f (take i items) ++ f x ∷ []
  take_next [] x i e = cc
  take_next (y ∷ ys) x zero e = cc
  take_next (y ∷ ys) x (suc i) e = ap (λ (zs : List Y). f y ∷ zs) (take_next ys x i e)

  -- the item at the place i is added
  pub added_next : (items : List X) (old out new : List Y) (x : X) (i : ℕ) → slice_get items i ≡ Some x
      → out ≡ old ++ map f (take i items) → new ≡ out ++ f x ∷ [] → new ≡ old ++ map f (take (i + 1) items)
  added_next items old out new x i e was now =
      let next : suc i ≡ i + 1 = omega arith in subst (λ (k : ℕ). new ≡ old ++ map f (take k items)) next
      (now ∙ ap (λ (zs : List Y). zs ++ f x ∷ []) was ∙ append_assoc old (map f (take i items)) (f x ∷ []) ∙ ap (λ (zs : List Y). old ++ zs) (sym (take_next items x i e)))

pub drop_next : {X : Type 0} (xs : List X) (x : X) (i : ℕ) → slice_get xs i ≡ Some x → drop i xs ≡ x ∷ drop (suc i) xs
drop_next [] x i e = cc
drop_next (y ∷ ys) x zero e = cc
drop_next (y ∷ ys) x (suc i) e = drop_next ys x i e

-- the rows of the object i are added
pub rows_next : (state : List (List Row)) (all out new : List RowOut) (rows : List Row) (i : ℕ) → slice_get state i ≡ Some rows
    → out ++ rows_out i (drop i state) ≡ all → new ≡ out ++ map (row_out i) rows → new ++ rows_out (i + 1) (drop (i + 1) state) ≡ all
rows_next state all out new rows i e was now =
    let d : drop i state ≡ rows ∷ drop (i + 1) state = rw add-one (drop_next state rows i e) in
    ap (λ (zs : List RowOut). zs ++ rows_out (i + 1) (drop (i + 1) state)) now
    ∙ append_assoc out (map (row_out i) rows) (rows_out (i + 1) (drop (i + 1) state))
    ∙ ap (λ (ds : List (List Row)). out ++ rows_out i ds) (sym d) ∙ was
