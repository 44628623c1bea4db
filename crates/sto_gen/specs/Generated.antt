-- The file that a number generates: transfers between accounts, some of them noted in a log and some in a table of owners.
use Rattle.std.specs.Prelude.{ℕ, zero, suc, ◌+◌, ◌*◌, ◌/◌, ◌%◌, ◌==◌, pos, neg_ℤ, List, [], ◌∷◌, ◌++◌, None, Some, codes, if◌then◌else◌}
use Rattle.sto_part.specs.declared.pred.Test.TheVariants.{Ge}
use Rattle.sto_model.specs.declared.operation.Operation.TheVariants.{Get, Add, Put}
use Rattle.sto_model.specs.declared.shape.Shape.TheVariants as shapes
use Rattle.sto_lang.specs.declared.arg.Arg.{Arg}
use Rattle.sto_lang.specs.declared.arg.Arg.TheVariants.{Num, Var}
use Rattle.sto_lang.specs.Objects.{Declaration}
use Rattle.sto_lang.specs.Statements.{Statements, Nothing, Ask, Choose, ◌then◌}
use Rattle.sto_lang.specs.Scripts.{Script, File}
use Rattle.sto_lang.specs.Sound.{numbered_from}
use Rattle.sto_gen.specs.declared.draws.Transfer.{Transfer}
use Rattle.sto_gen.specs.Draws.{transfer_after, state_after}

-- the objects: `array acct 64 1000`, `counter done 0`, `hash owner 16 8`, `tree log 64`. Counters are numbered first, then
-- arrays, hash tables and trees
abbrev pub objects : List Declaration
objects =
    record { name = codes "acct"; shape = shapes.Array 64 (pos 1000); number = 1 }
    ∷ record { name = codes "done"; shape = shapes.Counter (pos 0); number = 0 }
    ∷ record { name = codes "owner"; shape = shapes.Hash 16 8; number = 2 }
    ∷ record { name = codes "log"; shape = shapes.Tree 64; number = 3 }
    ∷ []

abbrev pub number : ℕ → Arg
number n = Num (pos n)

-- `x = get acct I`
abbrev pub balance : ℕ → Statements → Statements
balance account rest = Ask (Some 0) 1 Get (number account) (number 0) rest

-- `add acct I -A`, `add acct J A`, `add done 1`
abbrev pub moves : Transfer → Statements
moves t =
    Ask None 1 Add (number t.from) (Num (neg_ℤ (pos t.amount)))
    (Ask None 1 Add (number t.to) (number t.amount)
    (Ask None 0 Add (number 1) (number 0) Nothing))

-- `put log K A` in each 20th transaction
abbrev pub log_note : ℕ → ℕ → ℕ → Statements
log_note thread position amount =
    if position % 20 == 0 then Ask None 3 Put (number (1000 * thread + position)) (number amount) Nothing else Nothing

-- `put owner K T` in each 25th transaction
abbrev pub owner_note : ℕ → ℕ → Statements
owner_note thread position =
    if position % 25 == 0 then Ask None 2 Put (number (8 * thread + position / 25)) (number thread) Nothing else Nothing

-- the moves are made where the balance is large enough
abbrev pub statements : ℕ → ℕ → Transfer → Statements
statements thread position t =
    balance t.from (Choose (Var 0) Ge (number t.amount) (moves t) Nothing (log_note thread position t.amount then owner_note thread position))

-- one for each note
abbrev pub note_weight : ℕ → ℕ
note_weight position = (if position % 20 == 0 then 1 else 0) + (if position % 25 == 0 then 1 else 0)

-- the transaction with this position in its thread, from 1
abbrev pub transaction : ℕ → ℕ → Transfer → Script
transaction thread position t =
    record { variables = codes "x" ∷ []; body = statements thread position t; weight = 6 + note_weight position }

-- the first transactions of a thread, so many, whose draws come after a state
unfoldable pub transactions : ℕ → ℕ → ℕ → List Script
transactions thread state zero = []
transactions thread state (suc count) =
    transactions thread state count ++ transaction thread (count + 1) (transfer_after (state_after count state)) ∷ []

-- the state goes on over all transactions: each thread has 200
unfoldable pub state_before : ℕ → ℕ → ℕ
state_before zero state = state
state_before (suc thread) state = state_after 200 (state_before thread state)

-- the first threads, so many, from 0
unfoldable pub threads : ℕ → ℕ → List (List Script)
threads state zero = []
threads state (suc count) = threads state count ++ transactions count (state_before count state) 200 ∷ []

-- the file of a number is of version 1 and has 16 threads
abbrev pub file_of : ℕ → File
file_of n = record { version = 1; declarations = objects; names = numbered_from 0 16; threads = threads n 16; schedule = None }
