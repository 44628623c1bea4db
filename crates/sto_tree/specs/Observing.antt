-- An observation of a tree, from its items and updates as they come out.
use Rattle.std.proofs.Common.{◌≡◌, ◌<◌, ℕ, ℤ, Some, None, List, ◌∷◌, sym, ◌∙◌, ap, subst}
use Rattle.sto_item.specs.declared.item.Item.{Item}
use Rattle.sto_item.specs.declared.item.Item.TheVariants.{Seen}
use Rattle.sto_item.specs.Pending.{Entry}
use Rattle.sto_item.specs.Agreement.{Agrees, AreTrueOf}
use Rattle.sto_model.specs.declared.call.Call.{Call}
use Rattle.sto_model.specs.SequentialObjects.{reply_to}
use Rattle.sto_model.specs.Rows.{value_at}
use Rattle.sto_type.specs.Known.{Parts}
use Rattle.sto_type.specs.Reading.{Reading, items_at, updates_at, IsRead}
use Rattle.sto_tree.specs.Layout.{directory, keys, value, covers, leaf_of, place_of, holds_key, key_part, width_of, parts_of, tree_rows, is_live, low, high}
use Rattle.sto_tree.specs.Said.{cover, here}
use Rattle.sto_tree.specs.Valid.{IsShaped, IsTree}
use Rattle.sto_tree.specs.Meaning.{tree_meaning}
use Rattle.sto_tree.specs.Tests.{both_true}
use Rattle.sto_tree.specs.Lookup.{leaf_is, place_is, value_there, value_in, value_at_tree}
use Rattle.sto_type.specs.Observing.{EachRead, observation_by as observed_by}
use Rattle.sto_tree.specs.CallLaw.{IsObservation}
use Rattle.sto_tree.specs.Sized.{length-listed}
use Rattle.sto_tree.specs.Insides.{AreInside}
use Rattle.sto_tree.specs.Agreeing.{cover_agrees, here_agrees}
use Rattle.std.specs.Prelude.{◌&&◌, int_le, true}

-- the reply on contents
abbrev pub SameReply : ℕ → Call → Parts → Parts → Type 0
SameReply leaves call e c = reply_to (tree_meaning leaves).machines call ((tree_meaning leaves).rows e) ≡ reply_to (tree_meaning leaves).machines call ((tree_meaning leaves).rows c)

pub observation_by :
    (leaves : ℕ) (call : Call) (r : Reading) (c : Parts) (is : List Item) (es : List Entry) → items_at r c ≡ is → updates_at r c ≡ es
    → ((q : ℕ) → IsRead r c q → q < parts_of leaves) → EachRead r c is → AreInside leaves is → AreTrueOf c is
    → ((e : Parts) → IsTree leaves e → Agrees e is c → SameReply leaves call e c × (updates_at r e ≡ es)) → IsObservation leaves call r c
observation_by leaves call r c is es fi fu within read inside holds same =
    observed_by (tree_meaning leaves) call r c is es fi fu (λ q h. subst (λ (n : ℕ). q < n) (sym (length-listed (width_of leaves) 0 (parts_of leaves))) (within q h)) read inside holds same

-- what agrees that leaf l has the key and that its key part is the same
pub seen_leaf :
    (leaves : ℕ) (c e : Parts) (l : ℕ) (k : ℤ) (is : List Item) → IsShaped leaves e → l < leaves → Agrees e (cover l k k (Seen (key_part l) ∷ is)) c
    → (leaf_of leaves (directory e) k ≡ Some l) × (keys e l ≡ keys c l) × Agrees e is c
seen_leaf leaves c e l k is v b h =
    let a : (covers (directory e) k k l ≡ true) × Agrees e (Seen (key_part l) ∷ is) c = cover_agrees e c l k k (Seen (key_part l) ∷ is) v.fits h in
    (leaf_is leaves e v l k b a.0, a.1.0, a.1.1)

-- what agrees that leaf l has the key at place i
pub here_leaf :
    (leaves : ℕ) (c e : Parts) (l i : ℕ) (k : ℤ) (is : List Item) → IsShaped leaves e → l < leaves → i < 8 → Agrees e (cover l k k (here l i k is)) c
    → (leaf_of leaves (directory e) k ≡ Some l) × (place_of (keys e l) k ≡ Some i) × Agrees e is c
here_leaf leaves c e l i k is v b g h =
    let a : (covers (directory e) k k l ≡ true) × Agrees e (here l i k is) c = cover_agrees e c l k k (here l i k is) v.fits h in
    let d : (holds_key (keys e l) k i ≡ true) × Agrees e is c = here_agrees e c l i k is v.fits a.1 in
    let live : is_live (directory e) l ≡ true = (both_true (is_live (directory e) l) (int_le (low (directory e) l) k && int_le k (high (directory e) l)) a.0).0 in
    (leaf_is leaves e v l k b a.0, place_is leaves e v l i k b live g d.0, d.1)

-- the value at a key whose leaf, and whose place, are found
pub value_found : (leaves : ℕ) (e : Parts) (l i : ℕ) (k : ℤ) → IsShaped leaves e → leaf_of leaves (directory e) k ≡ Some l → place_of (keys e l) k ≡ Some i → value_at (tree_rows leaves e) k ≡ Some (value e l i)
value_found leaves e l i k v leaf place = value_at_tree leaves e v k ∙ ap (value_in e k) leaf ∙ ap (value_there (value e l)) place

pub value_absent : (leaves : ℕ) (e : Parts) (l : ℕ) (k : ℤ) → IsShaped leaves e → leaf_of leaves (directory e) k ≡ Some l → place_of (keys e l) k ≡ None → value_at (tree_rows leaves e) k ≡ None
value_absent leaves e l k v leaf place = value_at_tree leaves e v k ∙ ap (value_in e k) leaf ∙ ap (value_there (value e l)) place
