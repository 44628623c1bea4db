-- How large the objects of a shape are, and the order of kinds.
use Rattle.std.specs.Prelude.{ℕ, ◌+◌, ◌*◌}
use Rattle.sto_model.specs.declared.shape.Shape.{Shape}
use Rattle.sto_model.specs.declared.shape.Shape.TheVariants.{Single, Counter, Array, Hash, Tree, Vector}

-- how many parts an object has
abbrev pub part_count : Shape → ℕ
part_count (Single value) = 1
part_count (Counter value) = 1
part_count (Array len value) = len
part_count (Hash buckets places) = buckets * (1 + places)
part_count (Tree leaves) = 2 + 9 * leaves
part_count (Vector capacity) = 1 + capacity

-- how many content words: a place of a hash table has two in its key part and one in its value part;
-- a leaf of a tree has three in the directory, and 8 such places
abbrev pub word_count : Shape → ℕ
word_count (Single value) = 1
word_count (Counter value) = 1
word_count (Array len value) = len
word_count (Hash buckets places) = buckets * (3 * places)
word_count (Tree leaves) = 1 + 27 * leaves
word_count (Vector capacity) = 1 + capacity

-- where a kind stands in the order of kinds
abbrev pub rank : Shape → ℕ
rank (Single value) = 0
rank (Counter value) = 1
rank (Array len value) = 2
rank (Hash buckets places) = 3
rank (Tree leaves) = 4
rank (Vector capacity) = 5
