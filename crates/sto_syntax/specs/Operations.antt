-- The operations: their words, and which kinds have them.
use Rattle.std.specs.Prelude.{ℕ, List, [], ◌∷◌, ◌==◌, Option, None, Some, if◌then◌else◌, codes}
use Rattle.std.specs.Str.{bytes_eq}
use Rattle.sto_part.specs.declared.pred.Test.{Test}
use Rattle.sto_part.specs.declared.pred.Test.TheVariants.{Eq, Ne, Lt, Le, Gt, Ge}
use Rattle.sto_syntax.specs.declared.operation.OperationWord.{OperationWord}
use Rattle.sto_syntax.specs.declared.operation.OperationWord.TheVariants.{Get, Set, Add, Compare, Take, Put, Remove, Has, Len, Next, Count, Scan, Push, Pop}
use Rattle.sto_syntax.specs.Kinds.{Kind, Box, Counter, Array, Hash, Tree, Vector}

-- the comparison that a word is
abbrev pub test_of : List ℕ → Option Test
test_of word =
    if bytes_eq word (codes "eq") then Some Eq else if bytes_eq word (codes "ne") then Some Ne
    else if bytes_eq word (codes "lt") then Some Lt else if bytes_eq word (codes "le") then Some Le
    else if bytes_eq word (codes "gt") then Some Gt else if bytes_eq word (codes "ge") then Some Ge
    else None

abbrev pub test_word : Test → List ℕ
test_word Eq = codes "eq"
test_word Ne = codes "ne"
test_word Lt = codes "lt"
test_word Le = codes "le"
test_word Gt = codes "gt"
test_word Ge = codes "ge"

-- the operation that a word is in version 2 alone
abbrev pub late_operation_of : List ℕ → Option OperationWord
late_operation_of word = if bytes_eq word (codes "push") then Some Push else if bytes_eq word (codes "pop") then Some Pop else None

-- the operation that a word is, by the version; `test` is not among them, since it needs its comparison
abbrev pub operation_of : ℕ → List ℕ → Option OperationWord
operation_of version word =
    if bytes_eq word (codes "get") then Some Get else if bytes_eq word (codes "set") then Some Set
    else if bytes_eq word (codes "add") then Some Add else if bytes_eq word (codes "take") then Some Take
    else if bytes_eq word (codes "put") then Some Put else if bytes_eq word (codes "remove") then Some Remove
    else if bytes_eq word (codes "has") then Some Has else if bytes_eq word (codes "len") then Some Len
    else if bytes_eq word (codes "next") then Some Next else if bytes_eq word (codes "count") then Some Count
    else if bytes_eq word (codes "scan") then Some Scan
    else if version == 2 then late_operation_of word else None

abbrev pub operation_word : OperationWord → List ℕ
operation_word Get = codes "get"
operation_word Set = codes "set"
operation_word Add = codes "add"
operation_word (Compare test) = codes "test"
operation_word Take = codes "take"
operation_word Put = codes "put"
operation_word Remove = codes "remove"
operation_word Has = codes "has"
operation_word Len = codes "len"
operation_word Next = codes "next"
operation_word Count = codes "count"
operation_word Scan = codes "scan"
operation_word Push = codes "push"
operation_word Pop = codes "pop"

-- the kinds that have an operation with such arguments: the table of operations.
-- Where there are none, no form of the operation has so many.
abbrev pub kinds_with : {X : Type 0} → OperationWord → List X → List Kind
kinds_with Get [] = Box ∷ Counter ∷ []
kinds_with Get (i ∷ []) = Array ∷ Hash ∷ Tree ∷ Vector ∷ []
kinds_with Set (v ∷ []) = Box ∷ []
kinds_with Set (i ∷ v ∷ []) = Array ∷ []
kinds_with Add (d ∷ []) = Counter ∷ []
kinds_with Add (i ∷ d ∷ []) = Array ∷ []
kinds_with (Compare test) (k ∷ []) = Counter ∷ Vector ∷ []
kinds_with Take (d ∷ []) = Counter ∷ []
kinds_with Put (k ∷ v ∷ []) = Hash ∷ Tree ∷ []
kinds_with Remove (k ∷ []) = Hash ∷ Tree ∷ []
kinds_with Has (k ∷ []) = Hash ∷ []
kinds_with Len [] = Hash ∷ Tree ∷ Vector ∷ []
kinds_with Next (k ∷ []) = Tree ∷ []
kinds_with Count (a ∷ b ∷ []) = Tree ∷ []
kinds_with Scan (a ∷ b ∷ []) = Tree ∷ []
kinds_with Push (v ∷ []) = Vector ∷ []
kinds_with Pop [] = Vector ∷ []
kinds_with operation arguments = []
