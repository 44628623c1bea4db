-- What a tree of so many leaves means.
use Rattle.std.specs.Prelude.{◌≡◌, ℕ, ℤ, pos, [], ◌∷◌, true, false, IsTrue}
use Rattle.std.specs.Int.{w64}
use Rattle.std.specs.Int.RustNames.{FitsSigned}
use Rattle.sto_model.specs.declared.call.Call.{Call}
use Rattle.sto_model.specs.declared.operation.Operation.{Operation}
use Rattle.sto_model.specs.declared.operation.Operation.TheVariants.{Get, Put, Remove, Len, Next, Count, Scan}
use Rattle.sto_model.specs.declared.shape.Shape.TheVariants.{Tree}
use Rattle.sto_model.specs.Objects.{machine_of, takes}
use Rattle.sto_type.specs.Meaning.{Meaning}
use Rattle.sto_type.specs.Reading.{Reading, Say, need_of, items_of, updates_at}
use Rattle.sto_tree.specs.Layout.{listed, parts_of, width_of, opening, tree_rows}
use Rattle.sto_tree.specs.Valid.{IsTree}
use Rattle.sto_tree.specs.Get.{get_reading}
use Rattle.sto_tree.specs.Remove.{remove_reading}
use Rattle.sto_tree.specs.Put.{put_reading}
use Rattle.sto_tree.specs.Len.{len_reading}
use Rattle.sto_tree.specs.Between.{between_reading}
use Rattle.sto_tree.specs.Next.{next_reading}

-- how an operation reads a tree
abbrev pub reading_of : ℕ → Operation → ℤ → ℤ → Reading
reading_of leaves Get k b = get_reading leaves k
reading_of leaves Put k v = put_reading leaves k v
reading_of leaves Remove k b = remove_reading leaves k
reading_of leaves Len a b = len_reading
reading_of leaves Next k b = next_reading leaves k
reading_of leaves Count a b = between_reading leaves false a b
reading_of leaves Scan a b = between_reading leaves true a b
reading_of leaves o a b = Say [] []

abbrev pub reading : ℕ → Call → Reading
reading leaves call = reading_of leaves call.operation call.a call.b

-- a call of the one object, of an operation of a tree, with numbers of i64
pub record TreeTakes (leaves : ℕ) (call : Call) : Type 0 where
  pub object : call.object ≡ 0
  pub third : call.c ≡ pos 0
  pub operation : IsTrue (takes (Tree leaves) call.operation call.a)
  pub fits : FitsSigned w64 call.a
  pub fits_too : FitsSigned w64 call.b

abbrev pub tree_meaning : ℕ → Meaning
tree_meaning leaves = record {
  machines = machine_of (Tree leaves) ∷ [];
  widths = listed (width_of leaves) 0 (parts_of leaves);
  homes = listed (λ p. (0, p)) 0 (parts_of leaves);
  opened = opening leaves;
  valid = IsTree leaves;
  rows = λ c. tree_rows leaves c ∷ [];
  takes = TreeTakes leaves;
  need = λ call k. need_of (reading leaves call) k;
  items = λ call k. items_of (reading leaves call) k;
  updates = λ call c. updates_at (reading leaves call) c;
}
