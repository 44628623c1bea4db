-- What the structs of include/sto.h stand for.
use Rattle.std.specs.Prelude.{ℕ, pos, true, false, ◌+◌, ◌-◌, List, [], ◌∷◌, ◌++◌, length, map, Option, Some, option_map, slice_get}
use Rattle.sto_model.specs.Operations.{operation_of}
use Rattle.sto_model.specs.Calls.{call_of}
use Rattle.sto_model.specs.declared.call.Call.{Call}
use Rattle.sto_model.specs.declared.reply.Reply.{Reply}
use Rattle.sto_model.specs.declared.reply.Reply.TheVariants as reply
use Rattle.sto_model.specs.declared.shape.Shape.{Shape}
use Rattle.sto_model.specs.declared.shape.Shape.TheVariants.{Single, Counter, Array, Hash, Tree, Vector}
use Rattle.sto_model.specs.Rows.{Row}
use Rattle.sto_c.specs.declared.crossing.ShapeIn.{ShapeIn}
use Rattle.sto_c.specs.declared.crossing.CallIn.{CallIn}
use Rattle.sto_c.specs.declared.crossing.ReplyOut.{ReplyOut}
use Rattle.sto_c.specs.declared.crossing.PairOut.{PairOut}
use Rattle.sto_c.specs.declared.crossing.RowOut.{RowOut}

-- the shape, if its kind is one
abbrev pub shape_in : ShapeIn → Option Shape
shape_in g = slice_get (Single g.value ∷ Counter g.value ∷ Array g.size g.value ∷ Hash g.size g.places ∷ Tree g.size ∷ Vector g.size ∷ []) g.kind

-- the call that C asks by these numbers, if its operation is one
abbrev pub call_in : CallIn → Option Call
call_in given = option_map (λ operation. call_of given.object operation given.a given.b) (operation_of given.operation)

-- what C is told of a reply; of pairs, how many they are
abbrev pub reply_out : Reply → ReplyOut
reply_out reply.Done = record { answer = 0; unused = 0; value = pos 0 }
reply_out (reply.Value x) = record { answer = 1; unused = 0; value = x }
reply_out (reply.Flag true) = record { answer = 2; unused = 0; value = pos 1 }
reply_out (reply.Flag false) = record { answer = 2; unused = 0; value = pos 0 }
reply_out reply.Absent = record { answer = 3; unused = 0; value = pos 0 }
reply_out reply.Full = record { answer = 4; unused = 0; value = pos 0 }
reply_out reply.Range = record { answer = 5; unused = 0; value = pos 0 }
reply_out (reply.Pairs pairs) = record { answer = 6; unused = 0; value = pos (length pairs.items) }

abbrev pub pair_out : Row → PairOut
pair_out r = record { key = r.0; value = r.1 }

-- the last one, if there is one
abbrev pub last_of : {X : Type 0} → List X → Option X
last_of xs = slice_get xs (length xs - 1)

-- the pairs that a reply has
abbrev pub pairs_of : Option Reply → List Row
pairs_of (Some (reply.Pairs pairs)) = pairs.items
pairs_of _ = []

-- a row of the object with this number
abbrev pub row_out : ℕ → Row → RowOut
row_out object r = record { object = object; unused = 0; key = r.0; value = r.1 }

-- the rows of all objects, whose numbers begin so
abbrev pub rows_out : ℕ → List (List Row) → List RowOut
rows_out object [] = []
rows_out object (rows ∷ state) = map (row_out object) rows ++ rows_out (object + 1) state
