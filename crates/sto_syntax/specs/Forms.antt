-- The forms of lines, by their words and the version of the script alone. A line whose words are none of them is a bad line.
use Rattle.std.specs.Prelude.{ℕ, ℤ, List, [], ◌∷◌, ◌==◌, ◌||◌, ◌&&◌, not, Bool, true, false, nat_le, if◌then◌else◌, Option, None, Some, option_and_then, codes}
use Rattle.std.specs.Option.{option_map}
use Rattle.std.specs.List.{slice_split}
use Rattle.std.specs.Str.{bytes_eq}
use Rattle.sto_part.specs.declared.pred.Test.{Test}
use Rattle.sto_syntax.specs.Words.{is_name, number_of}
use Rattle.sto_syntax.specs.declared.declared.Declared.{Declared}
use Rattle.sto_syntax.specs.declared.declared.Declared.TheVariants as declares
use Rattle.sto_syntax.specs.declared.operation.OperationWord.{OperationWord}
use Rattle.sto_syntax.specs.declared.operation.OperationWord.TheVariants.{Compare}
use Rattle.sto_syntax.specs.Operations.{operation_of, test_of, kinds_with}

-- a word in the place of an argument: a number, where it is one, or the name of a variable
pub data Operand : Type 0 where
  Number : (value : Option ℤ) → Operand
  Variable : (name : List ℕ) → Operand

-- the thread of an entry: a number, where it is one, or a name
pub data ThreadWord : Type 0 where
  Numbered : (value : Option ℤ) → ThreadWord
  Named : (name : List ℕ) → ThreadWord

-- an entry of a schedule; a part that is no number is `None`
pub record ScheduleEntry : Type 0 where
  pub thread : ThreadWord
  pub steps : Option ℤ

-- a line by its form
pub data Form : Type 0 where
  DeclareLine : (name : List ℕ) (declared : Declared) → Form
  VersionLine : (version : Option ℤ) → Form
  ThreadLine : (name : Option (List ℕ)) → Form
  BeginLine : Form
  CallLine : (to : Option (List ℕ)) (operation : OperationWord) (object : List ℕ) (operands : List Operand) → Form
  SumLine DiffLine : (to : List ℕ) (a b : Operand) → Form
  IfLine : (a : Operand) (test : Test) (b : Operand) → Form
  ElseLine : Form
  RepeatLine : (times : Option ℤ) → Form
  EndLine CancelLine CommitLine : Form
  ScheduleLine : (entries : List ScheduleEntry) → Form

abbrev pub is_empty : {X : Type 0} → List X → Bool
is_empty [] = true
is_empty (x ∷ xs) = false

-- a digit or `-`
abbrev pub begins_number : List ℕ → Bool
begins_number [] = false
begins_number (b ∷ bytes) = (b == 45) || (nat_le 48 b && nat_le b 57)

abbrev pub operand_of : List ℕ → Option Operand
operand_of word = if begins_number word then Some (Number (number_of word)) else if is_name word then Some (Variable word) else None

-- the values of all, where each has one
abbrev pub all_of : {X Y : Type 0} → (X → Option Y) → List X → Option (List Y)
all_of f [] = Some []
all_of f (x ∷ xs) = option_and_then (λ y. option_map (λ ys. y ∷ ys) (all_of f xs)) (f x)

-- a name, and what it is declared as
abbrev pub declaration : List ℕ → Declared → Option Form
declaration name declared = if is_name name then Some (DeclareLine name declared) else None

abbrev pub box_line : List (List ℕ) → Option Form
box_line (name ∷ value ∷ []) = declaration name (declares.Box (number_of value))
box_line words = None

abbrev pub counter_line : List (List ℕ) → Option Form
counter_line (name ∷ value ∷ []) = declaration name (declares.Counter (number_of value))
counter_line words = None

abbrev pub array_line : List (List ℕ) → Option Form
array_line (name ∷ len ∷ value ∷ []) = declaration name (declares.Array (number_of len) (number_of value))
array_line words = None

abbrev pub hash_line : List (List ℕ) → Option Form
hash_line (name ∷ buckets ∷ places ∷ []) = declaration name (declares.Hash (number_of buckets) (number_of places))
hash_line words = None

abbrev pub tree_line : List (List ℕ) → Option Form
tree_line (name ∷ leaves ∷ []) = declaration name (declares.Tree (number_of leaves))
tree_line words = None

-- a vector is declared in version 2 alone
abbrev pub vector_line : ℕ → List (List ℕ) → Option Form
vector_line version (name ∷ capacity ∷ []) = if version == 2 then declaration name (declares.Vector (number_of capacity)) else None
vector_line version words = None

-- a word with nothing after it
abbrev pub alone : Form → List (List ℕ) → Option Form
alone form [] = Some form
alone form words = None

-- an operation on a named object, with as many arguments as a form of it has
abbrev pub asked : Option (List ℕ) → List ℕ → OperationWord → List Operand → Option Form
asked to object operation operands =
    if is_name object && not (is_empty (kinds_with operation operands)) then Some (CallLine to operation object operands) else None

abbrev pub call : Option (List ℕ) → List ℕ → List (List ℕ) → OperationWord → Option Form
call to object words operation = option_and_then (asked to object operation) (all_of operand_of words)

-- what follows `test` and the object: the comparison, then the arguments
abbrev pub test_line : Option (List ℕ) → List ℕ → List (List ℕ) → Option Form
test_line to object [] = None
test_line to object (test ∷ words) = option_and_then (λ t. call to object words (Compare t)) (test_of test)

-- a call, by the word of its operation and what follows
abbrev pub call_line : ℕ → Option (List ℕ) → List ℕ → List (List ℕ) → Option Form
call_line version to word [] = None
call_line version to word (object ∷ words) =
    if bytes_eq word (codes "test") then test_line to object words
    else option_and_then (call to object words) (operation_of version word)

abbrev pub sum_line : List ℕ → List (List ℕ) → Option Form
sum_line to (a ∷ b ∷ []) = option_and_then (λ x. option_map (λ y. SumLine to x y) (operand_of b)) (operand_of a)
sum_line to words = None

abbrev pub diff_line : List ℕ → List (List ℕ) → Option Form
diff_line to (a ∷ b ∷ []) = option_and_then (λ x. option_map (λ y. DiffLine to x y) (operand_of b)) (operand_of a)
diff_line to words = None

abbrev pub if_line : List (List ℕ) → Option Form
if_line (a ∷ test ∷ b ∷ []) =
    option_and_then (λ x. option_and_then (λ t. option_map (λ y. IfLine x t y) (operand_of b)) (test_of test)) (operand_of a)
if_line words = None

abbrev pub repeat_line : List (List ℕ) → Option Form
repeat_line (times ∷ []) = Some (RepeatLine (number_of times))
repeat_line words = None

abbrev pub is_colon : ℕ → Bool
is_colon b = b == 58

-- what names a thread: in version 2 its name, else its number
abbrev pub thread_word : ℕ → List ℕ → Option ThreadWord
thread_word version word =
    if version == 2 then (if is_name word then Some (Named word) else None) else Some (Numbered (number_of word))

abbrev pub entry_of_pieces : ℕ → List (List ℕ) → Option ScheduleEntry
entry_of_pieces version (thread ∷ steps ∷ []) = option_map (λ t. record { thread = t; steps = number_of steps }) (thread_word version thread)
entry_of_pieces version pieces = None

-- two parts with exactly one `:` between them
abbrev pub entry_of : ℕ → List ℕ → Option ScheduleEntry
entry_of version word = entry_of_pieces version (slice_split is_colon word)

-- at least one entry
abbrev pub schedule_line : ℕ → List (List ℕ) → Option Form
schedule_line version [] = None
schedule_line version (word ∷ words) = option_map ScheduleLine (all_of (entry_of version) (word ∷ words))

abbrev pub version_line : List (List ℕ) → Option Form
version_line (version ∷ []) = Some (VersionLine (number_of version))
version_line words = None

-- a thread by its name
abbrev pub named_line : List (List ℕ) → Option Form
named_line (name ∷ []) = if is_name name then Some (ThreadLine (Some name)) else None
named_line words = None

-- in version 2 a thread has its name on its line
abbrev pub thread_line : ℕ → List (List ℕ) → Option Form
thread_line version words = if version == 2 then named_line words else alone (ThreadLine None) words

-- what follows a name and `=`
abbrev pub assignment : ℕ → List ℕ → List (List ℕ) → Option Form
assignment version to [] = None
assignment version to (word ∷ words) =
    if not (is_name to) then None
    else if bytes_eq word (codes "sum") then sum_line to words
    else if bytes_eq word (codes "diff") then diff_line to words
    else call_line version (Some to) word words

-- a line of a transaction that assigns nothing, by its first word
abbrev pub acting : ℕ → List ℕ → List (List ℕ) → Option Form
acting version word words =
    if bytes_eq word (codes "if") then if_line words
    else if bytes_eq word (codes "else") then alone ElseLine words
    else if bytes_eq word (codes "repeat") then repeat_line words
    else if bytes_eq word (codes "end") then alone EndLine words
    else if bytes_eq word (codes "cancel") then alone CancelLine words
    else if bytes_eq word (codes "commit") then alone CommitLine words
    else call_line version None word words

-- a line that assigns nothing, by its first word
abbrev pub statement : ℕ → List ℕ → List (List ℕ) → Option Form
statement version word words =
    if bytes_eq word (codes "sto") then version_line words
    else if bytes_eq word (codes "box") then box_line words
    else if bytes_eq word (codes "counter") then counter_line words
    else if bytes_eq word (codes "array") then array_line words
    else if bytes_eq word (codes "hash") then hash_line words
    else if bytes_eq word (codes "tree") then tree_line words
    else if bytes_eq word (codes "vector") then vector_line version words
    else if bytes_eq word (codes "thread") then thread_line version words
    else if bytes_eq word (codes "begin") then alone BeginLine words
    else if bytes_eq word (codes "schedule") then schedule_line version words
    else acting version word words

-- a line whose second word is `=` is an assignment, whatever its first word is
abbrev pub form_of : ℕ → List ℕ → List (List ℕ) → Option Form
form_of version word [] = statement version word []
form_of version word (second ∷ words) = if bytes_eq second (codes "=") then assignment version word words else statement version word (second ∷ words)
