-- Changes and updates that are added one after the other.
use Rattle.std.proofs.Common.{◌≡◌, ◌<◌, ◌≤◌, ◌+◌, ◌-◌, ◌*◌, ℕ, zero, suc, ℤ, pos, true, false, nat_lt, Some, List, [], ◌∷◌, ◌++◌, length, take, drop, slice_get, refl, sym, ◌∙◌, ap, subst, arith, append_assoc}
use Rattle.std.proofs.lemmas.Bool.Decides.{nat_tests}
use Rattle.std.proofs.lemmas.List.{take_more, take_all, take-append-drop, length-take, length-drop, get_or-take, get_or-drop}
use Rattle.std.proofs.lemmas.Option.{slice_get-get_or}
use Rattle.sto_part.specs.declared.change.Change.{Change}
use Rattle.sto_part.specs.declared.change.Change.TheVariants.{Keep, Put}
use Rattle.sto_item.specs.Pending.{Entry, IsRisingFrom, EachChanges, AreUpdates}
use Rattle.sto_model.specs.Rows.{Row}
use Rattle.sto_tree.specs.Layout.{listed, key_part, value_part}
use Rattle.sto_tree.specs.Said.{key_changes, value_is}
use Rattle.sto_tree.specs.Split.{in_threes}
use Rattle.sto_tree.specs.Repack.{rows_of_leaf, filled, row_values, packed_leaves}
use Rattle.sto_tree.specs.RowLists.{row_at}

-- the first of updates that are in order are in order
rising_front : (n : ℕ) (es fs : List Entry) → IsRisingFrom n (es ++ fs) → IsRisingFrom n es
rising_front n [] fs h = tt
rising_front n (e ∷ es) fs h = (h.0, rising_front (e.0 + 1) es fs h.1)

changes_front : (es fs : List Entry) → EachChanges (es ++ fs) → EachChanges es
changes_front [] fs h = tt
changes_front (e ∷ es) fs h = (h.0, changes_front es fs h.1)

pub AreUpdates-front : (es fs : List Entry) → AreUpdates (es ++ fs) → AreUpdates es
AreUpdates-front es fs h = (rising_front 0 es fs h.0, changes_front es fs h.1)

-- three changes more
pub in_threes_more : (f : ℕ → Change × Change × Change) (i n m : ℕ) → m ≡ n + 1 → in_threes f i m ≡ in_threes f i n ++ ((f (i + n)).0 ∷ (f (i + n)).1 ∷ (f (i + n)).2 ∷ [])
in_threes_more f i n m e = let g : m ≡ suc n = omega (arith, e) in ap (in_threes f i) g ∙ more i n where
  more : (i n : ℕ) → in_threes f i (suc n) ≡ in_threes f i n ++ ((f (i + n)).0 ∷ (f (i + n)).1 ∷ (f (i + n)).2 ∷ [])
  more i zero = let g : i ≡ i + 0 = omega arith in ap (λ (x : ℕ). (f x).0 ∷ (f x).1 ∷ (f x).2 ∷ []) g
  more i (suc n) =
      let g : suc i + n ≡ i + suc n = omega arith in
      ap (λ l. (f i).0 ∷ (f i).1 ∷ (f i).2 ∷ l) (more (suc i) n ∙ ap (λ (x : ℕ). in_threes f (suc i) n ++ ((f x).0 ∷ (f x).1 ∷ (f x).2 ∷ [])) g)

-- one number more
pub listed_more : (f : ℕ → ℕ) (i n m : ℕ) → m ≡ n + 1 → listed f i m ≡ listed f i n ++ f (i + n) ∷ []
listed_more f i n m e = let g : m ≡ suc n = omega (arith, e) in ap (listed f i) g ∙ more i n where
  more : (i n : ℕ) → listed f i (suc n) ≡ listed f i n ++ f (i + n) ∷ []
  more i zero = let g : i ≡ i + 0 = omega arith in ap (λ (x : ℕ). f x ∷ []) g
  more i (suc n) = let g : suc i + n ≡ i + suc n = omega arith in ap (λ l. f i ∷ l) (more (suc i) n ∙ ap (λ (x : ℕ). listed f (suc i) n ++ f x ∷ []) g)

-- the rows of a leaf
pub row_there : (rows : List Row) (i : ℕ) (r : Row) → slice_get rows i ≡ Some r → i < length rows → row_at rows i ≡ r
row_there rows i r e h = let z : Some (row_at rows i) ≡ Some r = sym (slice_get-get_or rows i (pos 0, pos 0) h) ∙ e in some_same (row_at rows i) r z where
  some_same : (a b : Row) → Some a ≡ Some b → a ≡ b
  some_same a b e = cc

pub leaf_row : (rows : List Row) (j i : ℕ) → i < 4 → row_at (rows_of_leaf rows j) i ≡ row_at rows (4 * j + i)
leaf_row rows j i h = get_or-take 4 (drop (4 * j) rows) i (pos 0, pos 0) h ∙ get_or-drop (4 * j) rows i (pos 0, pos 0)

pub leaf_has_row : (rows : List Row) (j i : ℕ) → i < 4 → 4 * j + i < length rows → i < length (rows_of_leaf rows j)
leaf_has_row rows j i h b = omega (arith, length-take 4 (drop (4 * j) rows), length-drop (4 * j) rows, h, b)

pub leaf_has_no_row : (rows : List Row) (j i : ℕ) → length rows ≤ 4 * j + i → length (rows_of_leaf rows j) ≤ i
leaf_has_no_row rows j i b = omega (arith, length-take 4 (drop (4 * j) rows), length-drop (4 * j) rows, b)

pub leaf_has_four : (rows : List Row) (j : ℕ) → length (rows_of_leaf rows j) ≤ 4
leaf_has_four rows j = omega (arith, length-take 4 (drop (4 * j) rows))

filled_used : (rs : List Row) (i : ℕ) → i < length rs → filled rs i ≡ (Put (pos 1), Put (row_at rs i).0)
filled_used rs i h = let b : nat_lt i (length rs) ≡ true = grind (arith, nat_tests) in rw b refl

filled_free : (rs : List Row) (i : ℕ) → length rs ≤ i → filled rs i ≡ (Put (pos 0), Keep)
filled_free rs i h = let b : nat_lt i (length rs) ≡ false = grind (arith, nat_tests) in rw b refl

pub filled_there : (rows : List Row) (j i : ℕ) (r : Row) → i < 4 → 4 * j + i < length rows → slice_get rows (4 * j + i) ≡ Some r → filled (rows_of_leaf rows j) i ≡ (Put (pos 1), Put r.0)
filled_there rows j i r h b e = filled_used (rows_of_leaf rows j) i (leaf_has_row rows j i h b) ∙ ap (λ (x : Row). (Put (pos 1), Put x.0)) (leaf_row rows j i h ∙ row_there rows (4 * j + i) r e b)

pub filled_past : (rows : List Row) (j i : ℕ) → 4 ≤ i → filled (rows_of_leaf rows j) i ≡ (Put (pos 0), Keep)
filled_past rows j i h = filled_free (rows_of_leaf rows j) i (omega (arith, leaf_has_four rows j, h))

pub filled_none : (rows : List Row) (j i : ℕ) → length rows ≤ 4 * j + i → filled (rows_of_leaf rows j) i ≡ (Put (pos 0), Keep)
filled_none rows j i b = filled_free (rows_of_leaf rows j) i (leaf_has_no_row rows j i b)

-- the values of rows
row_values_append : (l i : ℕ) (rs ss : List Row) → row_values l i (rs ++ ss) ≡ row_values l i rs ++ row_values l (i + length rs) ss
row_values_append l i [] ss = let g : i ≡ i + 0 = omega arith in ap (λ (x : ℕ). row_values l x ss) g
row_values_append l i (r ∷ rs) ss =
    let g : suc i + length rs ≡ i + suc (length rs) = omega arith in
    ap (λ es. value_is l i r.1 ∷ es) (row_values_append l (suc i) rs ss ∙ ap (λ (x : ℕ). row_values l (suc i) rs ++ row_values l x ss) g)

pub value_next : (l p : ℕ) (rs : List Row) → p < length rs → row_values l 0 (take (p + 1) rs) ≡ row_values l 0 (take p rs) ++ value_is l p (row_at rs p).1 ∷ []
value_next l p rs h =
    let g : 0 + length (take p rs) ≡ p = omega (arith, length-take p rs, h) in
    ap (row_values l 0) (take_more rs p (pos 0, pos 0) h) ∙ row_values_append l 0 (take p rs) (row_at rs p ∷ [])
    ∙ ap (λ (x : ℕ). row_values l 0 (take p rs) ++ value_is l x (row_at rs p).1 ∷ []) g

pub value_ordered : (old : List Entry) (l p : ℕ) (rs : List Row) → p < length rs → AreUpdates (old ++ row_values l 0 rs) → AreUpdates ((old ++ row_values l 0 (take p rs)) ++ value_is l p (row_at rs p).1 ∷ [])
value_ordered old l p rs h u =
    let front : List Entry = row_values l 0 (take (p + 1) rs) in
    let back : List Entry = row_values l (0 + length (take (p + 1) rs)) (drop (p + 1) rs) in
    let cut : old ++ row_values l 0 rs ≡ (old ++ front) ++ back =
    ap (λ xs. old ++ row_values l 0 xs) (sym (take-append-drop (p + 1) rs)) ∙ ap (λ es. old ++ es) (row_values_append l 0 (take (p + 1) rs) (drop (p + 1) rs)) ∙ sym (append_assoc old front back) in
    let here : AreUpdates (old ++ front) = AreUpdates-front (old ++ front) back (subst AreUpdates cut u) in
    subst AreUpdates (ap (λ es. old ++ es) (value_next l p rs h) ∙ sym (append_assoc old (row_values l 0 (take p rs)) (value_is l p (row_at rs p).1 ∷ []))) here

-- a value is put, or there is none
pub values_done : (l p : ℕ) (rs : List Row) → length rs ≤ p → row_values l 0 (take (p + 1) rs) ≡ row_values l 0 (take p rs)
values_done l p rs h = ap (row_values l 0) (take_all (p + 1) rs (omega (arith, h)) ∙ sym (take_all p rs h))

-- the updates of a leaf
abbrev pub leaf_keys : List Row → ℕ → Entry
leaf_keys rows j = (key_part j, key_changes (filled (rows_of_leaf rows j)))

abbrev pub leaf_updates : List Row → ℕ → List Entry
leaf_updates rows j = leaf_keys rows j ∷ row_values j 0 (rows_of_leaf rows j)

leaves_append : (rows : List Row) (j n m : ℕ) → packed_leaves rows j (n + m) ≡ packed_leaves rows j n ++ packed_leaves rows (j + n) m
leaves_append rows j zero m = let g : 0 + m ≡ m = omega arith in let z : j ≡ j + 0 = omega arith in ap (packed_leaves rows j) g ∙ ap (λ (x : ℕ). packed_leaves rows x m) z
leaves_append rows j (suc n) m =
    let g : suc n + m ≡ suc (n + m) = omega arith in
    let z : suc j + n ≡ j + suc n = omega arith in
    ap (packed_leaves rows j) g
    ∙ ap (λ es. leaf_keys rows j ∷ row_values j 0 (rows_of_leaf rows j) ++ es) (leaves_append rows (suc j) n m ∙ ap (λ (x : ℕ). packed_leaves rows (suc j) n ++ packed_leaves rows x m) z)
    ∙ ap (λ es. leaf_keys rows j ∷ es) (sym (append_assoc (row_values j 0 (rows_of_leaf rows j)) (packed_leaves rows (suc j) n) (packed_leaves rows (j + suc n) m)))

one_leaf : (rows : List Row) (j : ℕ) → packed_leaves rows j 1 ≡ leaf_updates rows j
one_leaf rows j = ap (λ es. leaf_keys rows j ∷ es) (nothing_more (row_values j 0 (rows_of_leaf rows j))) where
  nothing_more : (es : List Entry) → es ++ [] ≡ es
  nothing_more [] = refl
  nothing_more (e ∷ es) = ap (λ x. e ∷ x) (nothing_more es)

pub leaves_more : (rows : List Row) (n : ℕ) → packed_leaves rows 0 (n + 1) ≡ packed_leaves rows 0 n ++ leaf_updates rows n
leaves_more rows n =
    let g : 0 + n ≡ n = omega arith in
    leaves_append rows 0 n 1 ∙ ap (λ es. packed_leaves rows 0 n ++ es) (ap (λ (x : ℕ). packed_leaves rows x 1) g ∙ one_leaf rows n)

pub leaf_ordered : (old : List Entry) (rows : List Row) (n leaves : ℕ) → n < leaves → AreUpdates (old ++ packed_leaves rows 0 leaves) → AreUpdates ((old ++ packed_leaves rows 0 n) ++ leaf_updates rows n)
leaf_ordered old rows n leaves h u =
    let rest : List Entry = packed_leaves rows (0 + (n + 1)) (leaves - (n + 1)) in
    let sum : leaves ≡ (n + 1) + (leaves - (n + 1)) = omega (arith, h) in
    let cut : old ++ packed_leaves rows 0 leaves ≡ ((old ++ packed_leaves rows 0 n) ++ leaf_updates rows n) ++ rest =
    ap (λ (x : ℕ). old ++ packed_leaves rows 0 x) sum ∙ ap (λ es. old ++ es) (leaves_append rows 0 (n + 1) (leaves - (n + 1)))
    ∙ ap (λ es. old ++ (es ++ rest)) (leaves_more rows n) ∙ sym (append_assoc old (packed_leaves rows 0 n ++ leaf_updates rows n) rest)
    ∙ ap (λ es. es ++ rest) (sym (append_assoc old (packed_leaves rows 0 n) (leaf_updates rows n)))
    in
    AreUpdates-front ((old ++ packed_leaves rows 0 n) ++ leaf_updates rows n) rest (subst AreUpdates cut u)

pub keys_ordered : (old : List Entry) (rows : List Row) (n leaves : ℕ) → n < leaves → AreUpdates (old ++ packed_leaves rows 0 leaves) → AreUpdates ((old ++ packed_leaves rows 0 n) ++ leaf_keys rows n ∷ [])
keys_ordered old rows n leaves h u =
    let more : List Entry = row_values n 0 (rows_of_leaf rows n) in
    AreUpdates-front ((old ++ packed_leaves rows 0 n) ++ leaf_keys rows n ∷ []) more
    (subst AreUpdates (sym (append_assoc (old ++ packed_leaves rows 0 n) (leaf_keys rows n ∷ []) more)) (leaf_ordered old rows n leaves h u))

pub values_ordered : (old : List Entry) (rows : List Row) (n leaves : ℕ) → n < leaves → AreUpdates (old ++ packed_leaves rows 0 leaves)
    → AreUpdates (((old ++ packed_leaves rows 0 n) ++ leaf_keys rows n ∷ []) ++ row_values n 0 (rows_of_leaf rows n))
values_ordered old rows n leaves h u =
    subst AreUpdates (sym (append_assoc (old ++ packed_leaves rows 0 n) (leaf_keys rows n ∷ []) (row_values n 0 (rows_of_leaf rows n)))) (leaf_ordered old rows n leaves h u)

-- the update of a value, as it is built
pub entry_is : (l p q : ℕ) (us : List Change) (v : ℤ) (r s : Row) → q ≡ value_part l p → us ≡ Put v ∷ [] → v ≡ r.1 → s ≡ r → (q, us) ≡ value_is l p s.1
entry_is l p q us v r s e f g h = ap {B = Entry} (λ (x : ℕ). (x, us)) e ∙ ap {B = Entry} (λ (u : List Change). (value_part l p, u)) (f ∙ ap (λ (x : ℤ). Put x ∷ []) (g ∙ ap (λ (t : Row). t.1) (sym h)))

pub keys_entry : (rows : List Row) (n q : ℕ) (us : List Change) → q ≡ key_part n → us ≡ key_changes (filled (rows_of_leaf rows n)) → (q, us) ≡ leaf_keys rows n
keys_entry rows n q us e f = ap {B = Entry} (λ (x : ℕ). (x, us)) e ∙ ap {B = Entry} (λ (u : List Change). (key_part n, u)) f

-- items one after the other
pub four_more : {A : Type 0} (xs : List A) (a b c d : A) → (((xs ++ a ∷ []) ++ b ∷ []) ++ c ∷ []) ++ d ∷ [] ≡ xs ++ (a ∷ b ∷ c ∷ d ∷ [])
four_more [] a b c d = refl
four_more (x ∷ xs) a b c d = ap (λ l. x ∷ l) (four_more xs a b c d)
