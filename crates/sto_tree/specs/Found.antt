-- The leaf of a key, as what is known tells it.
use Rattle.std.specs.Prelude.{◌≡◌, ◌*◌, ℕ, ℤ, pos, int_le, false, Some, None, List}
use Rattle.sto_type.specs.Known.{Known}
use Rattle.sto_type.specs.Reading.{Reading, need_of}
use Rattle.sto_tree.specs.Layout.{key_part, leaf_of, place_of, free_place, word}
use Rattle.sto_tree.specs.Said.{at_leaf}

-- the directory is known, leaf l has the key, and its key part is known
pub record IsAtLeaf (leaves : ℕ) (k : Known) (key : ℤ) (dir : List ℤ) (l : ℕ) (ks : List ℤ) : Type 0 where
  pub directory : k 1 ≡ Some dir
  pub leaf : leaf_of leaves dir key ≡ Some l
  pub keys : k (key_part l) ≡ Some ks

-- part p is needed before anything of the leaf of the key can be said
abbrev pub NeedsFirst : ℕ → Known → ℤ → ℕ → Type 0
NeedsFirst leaves k key p = (f : List ℤ → ℕ → List ℤ → Reading) → need_of (at_leaf leaves key f) k ≡ Some p

-- a put of a new key in a leaf with this key part, where there is room but the leaf has no free place
pub record IsCrowded (leaves : ℕ) (k : Known) (key : ℤ) (ks : List ℤ) : Type 0 where
  pub size : List ℤ
  pub new : place_of ks key ≡ None
  pub size_known : k 0 ≡ Some size
  pub room : int_le (pos (4 * leaves)) (word size 0) ≡ false
  pub filled : free_place ks ≡ None
