-- What an operation on a tree observes and changes, in words of the tree.
use Rattle.std.specs.Prelude.{◌+◌, ◌*◌, ℕ, zero, suc, ℤ, pos, nat_eq, if◌then◌else◌, Option, Some, None, List, [], ◌∷◌}
use Rattle.sto_part.specs.declared.change.Change.{Change}
use Rattle.sto_part.specs.declared.change.Change.TheVariants.{Keep, Put, Add}
use Rattle.sto_part.specs.declared.pred.Test.{Test}
use Rattle.sto_part.specs.declared.pred.Test.TheVariants.{Eq, Lt, Le, Ge}
use Rattle.sto_item.specs.declared.item.Item.{Item}
use Rattle.sto_item.specs.declared.item.Item.TheVariants.{Holds}
use Rattle.sto_item.specs.Pending.{Entry}
use Rattle.sto_type.specs.Reading.{Reading, Read, Say}
use Rattle.sto_tree.specs.Layout.{key_part, value_part, leaf_of}

-- that a word compares with a number
abbrev pub compared : ℕ → ℕ → Test → ℤ → Item
compared p w test x = Holds (record { part = p; word = w; shift = pos 0; test = test; bound = x })

-- leaf l is live and has all from x to y; and these items follow
abbrev pub cover : ℕ → ℤ → ℤ → List Item → List Item
cover l x y is = compared 1 (3 * l) Eq (pos 1) ∷ compared 1 (3 * l + 1) Le x ∷ compared 1 (3 * l + 2) Ge y ∷ is

-- place i of leaf l is present with the key k; and these items follow
abbrev pub here : ℕ → ℕ → ℤ → List Item → List Item
here l i k is = compared (key_part l) (2 * i) Eq (pos 1) ∷ compared (key_part l) (2 * i + 1) Eq k ∷ is

-- there is room for one more row, or there is none
abbrev pub has_room : ℕ → Item
has_room leaves = compared 0 0 Lt (pos (4 * leaves))

abbrev pub is_full : ℕ → Item
is_full leaves = compared 0 0 Ge (pos (4 * leaves))

-- the changes of n pairs of words, from pair i on
abbrev pub in_pairs : (ℕ → Change × Change) → ℕ → ℕ → List Change
in_pairs f i zero = []
in_pairs f i (suc n) = (f i).0 ∷ (f i).1 ∷ in_pairs f (suc i) n

-- the changes of a key part, by the changes of the present word and of the key of each place
abbrev pub key_changes : (ℕ → Change × Change) → List Change
key_changes f = in_pairs f 0 8

-- only place i changes
abbrev pub at_place : ℕ → Change → Change → ℕ → Change × Change
at_place i present key j = if nat_eq j i then (present, key) else (Keep, Keep)

-- the size grows by d
abbrev pub size_grows : ℤ → Entry
size_grows d = (0, Add d ∷ [])

-- the value of place i of leaf l is v
abbrev pub value_is : ℕ → ℕ → ℤ → Entry
value_is l i v = (value_part l i, Put v ∷ [])

-- a row is put at place i of leaf l, which was free
abbrev pub new_row : ℕ → ℕ → ℤ → ℤ → List Entry
new_row l i k v = size_grows (pos 1) ∷ (key_part l, key_changes (at_place i (Put (pos 1)) (Put k))) ∷ value_is l i v ∷ []

-- read the directory and the key part of the leaf of k, and go on with the words of the directory, the leaf and the words of the key part
abbrev pub in_leaf : Option ℕ → (ℕ → List ℤ → Reading) → Reading
in_leaf None f = Say [] []
in_leaf (Some l) f = Read (key_part l) (f l)

abbrev pub at_leaf : ℕ → ℤ → (List ℤ → ℕ → List ℤ → Reading) → Reading
at_leaf leaves k f = Read 1 (λ dir. in_leaf (leaf_of leaves dir k) (f dir))
