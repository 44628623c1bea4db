-- What a store of objects means, by their shapes.
use Rattle.std.specs.Prelude.{◌≡◌, ◌<◌, ◌≤◌, ◌+◌, ◌*◌, ◌^◌, ℕ, nat_eq, if◌then◌else◌, List, [], ◌∷◌, ◌++◌, map}
use Rattle.sto_part.specs.Codes.{IsSignedCode}
use Rattle.sto_model.specs.declared.shape.Shape.{Shape}
use Rattle.sto_model.specs.declared.shape.Shape.TheVariants.{Single, Counter, Array, Hash, Tree, Vector}
use Rattle.sto_model.specs.Sizes.{rank}
use Rattle.sto_type.specs.Meaning.{Meaning}
use Rattle.sto_type.specs.Joined.{joined, all_joined}
use Rattle.sto_box.specs.Boxed.{box_meaning}
use Rattle.sto_counter.specs.Counted.{counter_meaning}
use Rattle.sto_array.specs.Arrayed.{array_meaning}
use Rattle.sto_hash.specs.Hashed.{hash_meaning}
use Rattle.sto_tree.specs.Layout.{parts_of}
use Rattle.sto_tree.specs.Meaning.{tree_meaning}
use Rattle.sto_vector.specs.Vectored.{vector_meaning}

-- the shapes of one kind, as they stand
abbrev pub of_kind : ℕ → List Shape → List Shape
of_kind r [] = []
of_kind r (s ∷ ss) = if nat_eq (rank s) r then s ∷ of_kind r ss else of_kind r ss

-- what one object means
abbrev pub mean_of : Shape → Meaning
mean_of (Single v) = box_meaning 1 IsSignedCode (v ∷ [])
mean_of (Counter v) = counter_meaning v
mean_of (Array len v) = array_meaning len v
mean_of (Hash buckets places) = hash_meaning buckets places
mean_of (Tree leaves) = tree_meaning leaves
mean_of (Vector capacity) = vector_meaning capacity

-- what the objects of one kind mean
abbrev pub means_of : ℕ → List Shape → List Meaning
means_of r shapes = map mean_of (of_kind r shapes)

-- what the trees and the vectors mean side by side
abbrev pub sized_means : List Shape → Meaning
sized_means shapes = joined (all_joined (means_of 4 shapes)) (all_joined (means_of 5 shapes))

-- what the arrays, the hash tables and these mean side by side
abbrev pub wide_means : List Shape → Meaning
wide_means shapes = joined (all_joined (means_of 2 shapes)) (joined (all_joined (means_of 3 shapes)) (sized_means shapes))

-- what a store means: its boxes and its counters, and then these
abbrev pub means : List Shape → Meaning
means shapes = joined (all_joined (means_of 0 shapes)) (joined (all_joined (means_of 1 shapes)) (wide_means shapes))

-- the shapes stand in the order of their kinds
abbrev pub AreInOrder : List Shape → Type 0
AreInOrder shapes = shapes ≡ of_kind 0 shapes ++ (of_kind 1 shapes ++ (of_kind 2 shapes ++ (of_kind 3 shapes ++ (of_kind 4 shapes ++ of_kind 5 shapes))))

-- the shapes of the trees and the vectors are those of these shapes, each kind as it stands there
pub record AreSized (trees vectors shapes : List Shape) : Type 0 where
  pub trees_are : trees ≡ of_kind 4 shapes
  pub vectors_are : vectors ≡ of_kind 5 shapes

-- the same of the arrays, the hash tables, the trees and the vectors
pub record AreWide (arrays hashes trees vectors shapes : List Shape) : Type 0 where
  pub arrays_are : arrays ≡ of_kind 2 shapes
  pub hashes_are : hashes ≡ of_kind 3 shapes
  pub sized : AreSized trees vectors shapes

-- the same of all kinds
pub record AreKinds (boxes counters arrays hashes trees vectors shapes : List Shape) : Type 0 where
  pub boxes_are : boxes ≡ of_kind 0 shapes
  pub counters_are : counters ≡ of_kind 1 shapes
  pub wide : AreWide arrays hashes trees vectors shapes

-- a hash table has a bucket and a tree a leaf, and their parts and words are in u32, as the parts of a vector
abbrev pub IsFit : Shape → Type 0
IsFit (Single v) = Unit {0}
IsFit (Counter v) = Unit {0}
IsFit (Array len v) = Unit {0}
IsFit (Hash buckets places) = (0 < buckets) × (buckets * (1 + places) < 2 ^ 32) × (2 * places < 2 ^ 32)
IsFit (Tree leaves) = (1 ≤ leaves) × (parts_of leaves < 2 ^ 32)
IsFit (Vector capacity) = 1 + capacity < 2 ^ 32

abbrev pub AreFit : List Shape → Type 0
AreFit [] = Unit {0}
AreFit (s ∷ ss) = IsFit s × AreFit ss
