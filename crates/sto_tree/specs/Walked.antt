-- What a walk over parts and leaves comes to, on what is known.
use Rattle.std.specs.Prelude.{◌≡◌, ◌<◌, ℕ, ℤ, pos, Bool, true, false, Option, Some, None, List, [], ◌∷◌, length, if◌then◌else◌}
use Rattle.sto_item.specs.declared.item.Item.{Item}
use Rattle.sto_model.specs.Rows.{Row, least_from}
use Rattle.sto_model.specs.PlainReplies.{PlainReply, Value, Pairs}
use Rattle.sto_type.specs.Known.{Known}
use Rattle.sto_type.specs.Reading.{Reading, need_of, items_of, when_known}
use Rattle.sto_tree.specs.Layout.{key_part, value_part, is_present}
use Rattle.sto_tree.specs.Split.{moves}
use Rattle.sto_tree.specs.KnownRows.{known_value}
use Rattle.sto_tree.specs.NextLaw.{found_first}
use Rattle.sto_tree.specs.Between.{key_rows, leaf_values, leaf_items}

-- the first of these parts that is not known
abbrev pub first_unknown : Known → List ℕ → Option ℕ
first_unknown k [] = None
first_unknown k (p ∷ ps) = when_known (k p) (Some p) (λ ws. first_unknown k ps)

-- the first part of leaf l that a count or a scan needs, and what it observes there
abbrev pub leaf_need : Known → Bool → List ℤ → ℤ → ℤ → ℕ → Option ℕ
leaf_need k scans dir a b l = when_known (k (key_part l)) (Some (key_part l)) (λ ks. first_unknown k (leaf_values scans dir a b ks l))

abbrev pub leaf_observed : Known → Bool → List ℤ → ℤ → ℤ → ℕ → List Item
leaf_observed k scans dir a b l = when_known (k (key_part l)) [] (λ ks. leaf_items scans dir a b ks l)

-- the values of the keys in the first n places of leaf l are known
abbrev pub AreValuesKnown : Known → ℕ → List ℤ → ℕ → Type 0
AreValuesKnown k l ks n = (i : ℕ) → i < n → is_present ks i ≡ true → (ws : List ℤ) × (k (value_part l i) ≡ Some ws)

-- nothing more is needed, and these are the items
abbrev pub IsSaid : Reading → Known → List Item → Type 0
IsSaid r k is = (need_of r k ≡ None) × (is ≡ items_of r k)

-- a row whose value is the number of a leaf
abbrev pub IsNumbered : ℕ → Row → Type 0
IsNumbered leaves r = (l : ℕ) × (r.1 ≡ pos l) × (l < leaves)

-- what a search needs further on, where no key is found
abbrev pub needed_after : Option ℤ → Option ℕ → Option ℕ
needed_after (Some x) later = None
needed_after None later = later

-- the first part that a search for the least key from x on needs in these leaves, and the key that it finds
abbrev pub next_need : Known → ℤ → List ℕ → Option ℕ
next_need k x [] = None
next_need k x (l ∷ ls) = when_known (k (key_part l)) (Some (key_part l)) (λ ks. needed_after (least_from (key_rows ks) x) (next_need k x ls))

abbrev pub next_found : Known → ℤ → List ℕ → Option ℤ
next_found k x [] = None
next_found k x (l ∷ ls) = when_known (k (key_part l)) None (λ ks. found_first (least_from (key_rows ks) x) (next_found k x ls))

-- what a scan, or a count, tells of the rows of a range
abbrev pub told_of : Bool → List Row → PlainReply
told_of true rows = Pairs rows
told_of false rows = Value (pos (length rows))

-- the value of a place of leaf l, as far as it is known, where the place moves in a split; else 0
abbrev pub moved_value : Known → ℕ → List ℤ → ℕ → ℤ
moved_value k l ks i = if moves ks i then known_value (k (value_part l i)) else pos 0

-- the words of a part, none where it is not known
abbrev pub known_words : Known → ℕ → List ℤ
known_words k p = when_known (k p) [] (λ ws. ws)
