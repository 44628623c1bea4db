-- The number of the object that a line asks.
use Rattle.std.specs.Prelude.{ℕ, List}
use Rattle.sto_syntax.specs.Forms.{Form, CallLine}
use Rattle.sto_lang.specs.Objects.{Object}
use Rattle.sto_lang.specs.Drafts.{object_of}

-- that of the object of a call; of other lines nothing is asked
abbrev pub asked_number : List Object → Form → ℕ
asked_number objects (CallLine to operation object operands) = object_of objects object
asked_number objects form = 0
