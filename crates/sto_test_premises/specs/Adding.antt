-- Two transactions that each add 1 to one box: their script, the box, the events that their attempts are made of, and what these are
-- answered.
use Rattle.std.specs.Prelude.{ℕ, ℤ, pos, List, [], ◌∷◌, ◌++◌, map, true, false, codes, Some, None}
use Rattle.sto_part.specs.Codes.{IsSignedCode}
use Rattle.sto_part.specs.declared.change.Change.TheVariants.{Put as PutValue}
use Rattle.sto_model.specs.PlainReplies.{PlainReply, Value, Done}
use Rattle.sto_model.specs.declared.operation.Operation.TheVariants.{Get, Set}
use Rattle.sto_model.specs.declared.shape.Shape.TheVariants.{Single}
use Rattle.sto_lang.specs.declared.arg.Arg.TheVariants.{Num, Var}
use Rattle.sto_lang.specs.Statements.{Nothing, Ask, Sum}
use Rattle.sto_lang.specs.Scripts.{Script, File}
use Rattle.sto_type.specs.Meaning.{Meaning}
use Rattle.sto_box.specs.Boxed.{box_meaning}
use Rattle.sto_core.specs.History.{Updates, Validity}
use Rattle.sto_core.specs.Event.{Event, Start, Open, Word, Close, Lock, Draw, Check, Decide, Put, Release, Unlock}
use Rattle.sto_core.specs.Core.{Core}
use Rattle.sto_core.specs.Opened.{opened_core}
use Rattle.sto_test_premises.specs.Turns.{Turn}

abbrev pub script : List ℕ
script = codes "box a 0\nthread\nbegin\nx = get a\ny = sum x 1\nset a y\ncommit\nthread\nbegin\nx = get a\ny = sum x 1\nset a y\ncommit\n"

-- what it says
abbrev pub adding : Script
adding = record {
  variables = codes "x" ∷ codes "y" ∷ [];
  body = Ask (Some 0) 0 Get (Num (pos 0)) (Num (pos 0)) (Sum 1 (Var 0) (Num (pos 1)) (Ask None 0 Set (Var 1) (Num (pos 0)) Nothing));
  weight = 4;
}

abbrev pub file : File
file = record {
  version = 1;
  declarations = record { name = codes "a"; shape = Single (pos 0); number = 0 } ∷ [];
  names = codes "t0" ∷ codes "t1" ∷ [];
  threads = (adding ∷ []) ∷ (adding ∷ []) ∷ [];
  schedule = None;
}

-- the box holds 0 at first
abbrev pub box : Meaning
box = box_meaning 1 IsSignedCode (pos 0 ∷ [])

abbrev pub valid : Validity
valid sizes c = box.valid c

-- the words as they are opened, with two passes
abbrev pub opened : Core
opened = opened_core [] box.opened 2

-- what an attempt that finds x is answered in all
abbrev pub heard : ℤ → List PlainReply
heard x = Value x ∷ Done ∷ []

-- the updates of one that puts x
abbrev pub puts : ℤ → Updates
puts x = (0, PutValue x ∷ []) ∷ []

-- the part of the box is read
abbrev pub reads : List Event
reads = Start ∷ Open 0 ∷ Word 0 0 ∷ Close 0 ∷ []

-- it is locked
abbrev pub locks : List Event
locks = Lock 0 ∷ []

-- a ticket is drawn for a put of x that rests on the read, and the part is checked
abbrev pub draws : ℤ → List Event
draws x = Draw (puts x) (0 ∷ []) [] ∷ Check 0 ∷ []

-- the ticket is committed, and x is put
abbrev pub installs : ℤ → List Event
installs x = Decide true ∷ Put 0 0 x ∷ Release 0 ∷ []

-- the ticket is dropped
abbrev pub drops : List Event
drops = Decide false ∷ Unlock 0 ∷ []

-- a whole attempt that puts x
abbrev pub adds : ℤ → List Event
adds x = reads ++ (locks ++ (draws x ++ installs x))

-- a whole attempt that finds the part locked, and ends
abbrev pub finds_locked : List Event
finds_locked = Start ∷ Open 0 ∷ []

abbrev pub by : ℕ → List Event → List Turn
by seat events = map (λ e. (seat, e)) events
