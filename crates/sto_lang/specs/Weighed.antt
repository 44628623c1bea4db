-- What a transaction weighs as it ends, and what is kept of weights while it is read.
use Rattle.std.specs.Prelude.{◌≡◌, ℕ, List, Option, None, Some, min}
use Rattle.std.specs.List.{All}
use Rattle.sto_model.specs.declared.shape.Shape.{Shape}
use Rattle.sto_lang.specs.Named.{operation_named}
use Rattle.sto_syntax.specs.Forms.{Form, CallLine, CommitLine}
use Rattle.sto_lang.specs.Weights.{call_weight, weight_of}
use Rattle.sto_lang.specs.Drafts.{Draft, OpenTransaction, script_of}
use Rattle.sto_lang.specs.declared.weight.Weighed.{Weighed}
use Rattle.sto_lang.specs.declared.open_transaction.OpenBlock as code
use Rattle.sto_lang.specs.declared.open_transaction.OpenBlock.TheVariants as blocks
use Rattle.sto_lang.specs.declared.open_transaction.OpenTransaction as open_begun

-- a weight that no transaction may have counts as the least such
abbrev pub begun_weight : Draft → Option OpenTransaction → ℕ
begun_weight d None = 0
begun_weight d (Some t) = min (script_of d.objects t).weight 4097

-- that of the transaction that a `commit` ends; other lines end none
abbrev pub ended_weight : Draft → Form → ℕ
ended_weight d CommitLine = begun_weight d d.inside
ended_weight d form = 0

-- the weight that is kept with statements is theirs, or the least that no transaction may have. The shapes are those of the file in
-- the order of objects
abbrev pub IsWeighed : List Shape → Weighed → Type 0
IsWeighed shapes w = w.weight ≡ min (weight_of shapes w.list) 4097

-- that of the statements that an open block holds
abbrev pub IsWeighedBlock : List Shape → code.OpenBlock → Type 0
IsWeighedBlock shapes (blocks.FirstBranch before a test b) = IsWeighed shapes before
IsWeighedBlock shapes (blocks.SecondBranch before a test b first) = IsWeighed shapes before × IsWeighed shapes first
IsWeighedBlock shapes (blocks.Repetition before times) = IsWeighed shapes before

-- of all that a transaction has so far
abbrev pub AreWeighed : List Shape → open_begun.OpenTransaction → Type 0
AreWeighed shapes t = IsWeighed shapes t.statements × All (IsWeighedBlock shapes) t.blocks.items

-- what the call of a line weighs on the object with this number
abbrev pub line_weight : List Shape → ℕ → Form → ℕ
line_weight shapes number (CallLine to operation object operands) = call_weight shapes number (operation_named operation)
line_weight shapes number form = 0
