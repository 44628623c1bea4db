-- What the trait of a type says, whole, as `T.TxType` has it in a clause.
use Rattle.std.specs.Prelude.{ℕ, ℤ, List}
use Rattle.sto_part.specs.declared.naming.Naming as naming
use Rattle.sto_type.specs.declared.tx_type.TxType as tx_type
use Rattle.sto_type.specs.Meaning.{Meaning}

-- of a type: its sizes, which contents are valid, and its meaning
abbrev pub OfType : Type 0 → Type 1
OfType T = record { sizes : T → List ℕ; valid : List ℕ → List (List ℤ) → Type 0; meaning : T → Meaning }

-- the same from the two records that a proof has, `g.T.Naming` and `g.T.TxType`
abbrev pub of_type : {T : Type 0} → naming.Ghosts T → tx_type.Ghosts T → OfType T
of_type n t = record { sizes = n.sizes; valid = n.valid; meaning = t.meaning }
