-- The canonical text of a file.
use Rattle.std.specs.Prelude.{ℕ, ℤ, pos, List, [], ◌∷◌, ◌++◌, ◌==◌, if◌then◌else◌, Option, None, Some, unwrap_or, map, flat_map, slice_get, codes}
use Rattle.std.specs.Option.{option_map}
use Rattle.std.specs.List.{join_with_byte}
use Rattle.std.specs.Fmt.{signed_decimal}
use Rattle.sto_model.specs.declared.call.Call.{Call}
use Rattle.sto_model.specs.declared.shape.Shape.{Shape}
use Rattle.sto_model.specs.declared.shape.Shape.TheVariants as shapes
use Rattle.sto_part.specs.declared.pred.Test.{Test}
use Rattle.sto_part.specs.declared.pred.Test.TheVariants.{Eq, Ne, Lt, Le, Gt, Ge}
use Rattle.sto_syntax.specs.Kinds.{Kind, Box, Counter}
use Rattle.sto_lang.specs.Shapes.{kind_of}
use Rattle.sto_syntax.specs.declared.declared.Declared.{Declared}
use Rattle.sto_syntax.specs.declared.declared.Declared.TheVariants as declares
use Rattle.sto_model.specs.declared.operation.Operation.{Operation}
use Rattle.sto_model.specs.declared.operation.Operation.TheVariants as model
use Rattle.sto_syntax.specs.declared.operation.OperationWord.{OperationWord}
use Rattle.sto_syntax.specs.declared.operation.OperationWord.TheVariants.{Get, Set, Add, Compare, Take, Put, Remove, Has, Len, Next, Count, Scan, Push, Pop}
use Rattle.sto_syntax.specs.Operations.{operation_word, test_word}
use Rattle.sto_syntax.specs.Forms.{Operand, Number, Variable, ThreadWord, Numbered, Named, ScheduleEntry, Form, VersionLine, DeclareLine, ThreadLine, BeginLine, CallLine, SumLine, DiffLine, IfLine, ElseLine, RepeatLine, EndLine, CancelLine, CommitLine, ScheduleLine}
use Rattle.sto_lang.specs.declared.arg.Arg.{Arg}
use Rattle.sto_lang.specs.declared.arg.Arg.TheVariants.{Num, Var}
use Rattle.sto_lang.specs.declared.file.Turns.{Turns}
use Rattle.sto_lang.specs.Statements.{has_none, Statements, Nothing, Ask, Sum, Diff, Choose, Repeat, Cancel}
use Rattle.sto_lang.specs.Objects.{Declaration, with_number}
use Rattle.sto_lang.specs.Scripts.{Script, File}

-- The words of a line of each form.

-- the text of a number
abbrev pub number_word : Option ℤ → List ℕ
number_word None = []
number_word (Some z) = signed_decimal z

abbrev pub operand_word : Operand → List ℕ
operand_word (Number value) = number_word value
operand_word (Variable name) = name

abbrev pub thread_text : ThreadWord → List ℕ
thread_text (Numbered value) = number_word value
thread_text (Named name) = name

abbrev pub entry_word : ScheduleEntry → List ℕ
entry_word entry = thread_text entry.thread ++ 58 ∷ number_word entry.steps

abbrev pub declare_words : List ℕ → Declared → List (List ℕ)
declare_words name (declares.Box value) = codes "box" ∷ name ∷ number_word value ∷ []
declare_words name (declares.Counter value) = codes "counter" ∷ name ∷ number_word value ∷ []
declare_words name (declares.Array len value) = codes "array" ∷ name ∷ number_word len ∷ number_word value ∷ []
declare_words name (declares.Hash buckets places) = codes "hash" ∷ name ∷ number_word buckets ∷ number_word places ∷ []
declare_words name (declares.Tree leaves) = codes "tree" ∷ name ∷ number_word leaves ∷ []
declare_words name (declares.Vector capacity) = codes "vector" ∷ name ∷ number_word capacity ∷ []

-- after the object of a call: the comparison of a `test`, then the arguments
abbrev pub call_words : OperationWord → List Operand → List (List ℕ)
call_words (Compare test) operands = test_word test ∷ map operand_word operands
call_words operation operands = map operand_word operands

abbrev pub to_words : Option (List ℕ) → List (List ℕ)
to_words None = []
to_words (Some name) = name ∷ codes "=" ∷ []

abbrev pub form_words : Form → List (List ℕ)
form_words (DeclareLine name declared) = declare_words name declared
form_words (VersionLine version) = codes "sto" ∷ number_word version ∷ []
form_words (ThreadLine None) = codes "thread" ∷ []
form_words (ThreadLine (Some name)) = codes "thread" ∷ name ∷ []
form_words BeginLine = codes "begin" ∷ []
form_words (CallLine to operation object operands) = to_words to ++ operation_word operation ∷ object ∷ call_words operation operands
form_words (SumLine to a b) = to ∷ codes "=" ∷ codes "sum" ∷ operand_word a ∷ operand_word b ∷ []
form_words (DiffLine to a b) = to ∷ codes "=" ∷ codes "diff" ∷ operand_word a ∷ operand_word b ∷ []
form_words (IfLine a test b) = codes "if" ∷ operand_word a ∷ test_word test ∷ operand_word b ∷ []
form_words ElseLine = codes "else" ∷ []
form_words (RepeatLine times) = codes "repeat" ∷ number_word times ∷ []
form_words EndLine = codes "end" ∷ []
form_words CancelLine = codes "cancel" ∷ []
form_words CommitLine = codes "commit" ∷ []
form_words (ScheduleLine entries) = codes "schedule" ∷ map entry_word entries

-- words, each after a space
abbrev pub spaced : List (List ℕ) → List ℕ
spaced words = flat_map (λ word. 32 ∷ word) words

-- The lines of a file.

abbrev pub whole_number : ℕ → Option ℤ
whole_number n = Some (pos n)

abbrev pub declared_as : Shape → Declared
declared_as (shapes.Single value) = declares.Box (Some value)
declared_as (shapes.Counter value) = declares.Counter (Some value)
declared_as (shapes.Array len value) = declares.Array (whole_number len) (Some value)
declared_as (shapes.Hash buckets places) = declares.Hash (whole_number buckets) (whole_number places)
declared_as (shapes.Tree leaves) = declares.Tree (whole_number leaves)
declared_as (shapes.Vector capacity) = declares.Vector (whole_number capacity)

abbrev pub declare_line : Declaration → Form
declare_line d = DeclareLine d.name (declared_as d.shape)

abbrev pub variable_name : List (List ℕ) → ℕ → List ℕ
variable_name variables place = unwrap_or (slice_get variables place) []

abbrev pub operand : List (List ℕ) → Arg → Operand
operand variables (Num value) = Number (Some value)
operand variables (Var place) = Variable (variable_name variables place)

-- the comparison of a `test`, whose number is the first argument
abbrev pub test_with : Arg → Test
test_with (Num (pos n)) = if n == 0 then Eq else if n == 1 then Ne else if n == 2 then Lt else if n == 3 then Le else if n == 4 then Gt else Ge
test_with other = Eq

-- the word of an operation; that of a test has its comparison
abbrev pub word_with : Operation → Arg → OperationWord
word_with model.Get a = Get
word_with model.Set a = Set
word_with model.Add a = Add
word_with model.Test a = Compare (test_with a)
word_with model.Take a = Take
word_with model.Put a = Put
word_with model.Remove a = Remove
word_with model.Has a = Has
word_with model.Len a = Len
word_with model.Next a = Next
word_with model.Count a = Count
word_with model.Scan a = Scan
word_with model.Push a = Push
word_with model.Pop a = Pop

-- the arguments that an operation has on an object of a kind
abbrev pub arguments_of : OperationWord → Kind → Arg → Arg → List Arg
arguments_of Get Box a b = []
arguments_of Get Counter a b = []
arguments_of Get kind a b = a ∷ []
arguments_of Set Box a b = a ∷ []
arguments_of Set kind a b = a ∷ b ∷ []
arguments_of Add Counter a b = a ∷ []
arguments_of Add kind a b = a ∷ b ∷ []
arguments_of (Compare test) kind a b = b ∷ []
arguments_of Put kind a b = a ∷ b ∷ []
arguments_of Len kind a b = []
arguments_of Pop kind a b = []
arguments_of Count kind a b = a ∷ b ∷ []
arguments_of Scan kind a b = a ∷ b ∷ []
arguments_of operation kind a b = a ∷ []

-- a call of an object
abbrev pub call_on : List (List ℕ) → Option (List ℕ) → OperationWord → Arg → Arg → Declaration → Form
call_on variables to operation a b d = CallLine to operation d.name (map (operand variables) (arguments_of operation (kind_of d.shape) a b))

-- the lines of a second branch: none where it has no statement, else `else` and they
abbrev pub else_lines : Statements → List Form → List Form
else_lines second lines = if has_none second then [] else ElseLine ∷ lines

abbrev pub option_list : {X : Type 0} → Option X → List X
option_list None = []
option_list (Some x) = x ∷ []

abbrev pub statement_lines : List Declaration → List (List ℕ) → Statements → List Form
statement_lines ds vs Nothing = []
statement_lines ds vs (Ask to object operation a b rest) =
    option_list (option_map (call_on vs (option_map (variable_name vs) to) (word_with operation a) a b) (with_number object ds))
    ++ statement_lines ds vs rest
statement_lines ds vs (Sum to a b rest) = SumLine (variable_name vs to) (operand vs a) (operand vs b) ∷ statement_lines ds vs rest
statement_lines ds vs (Diff to a b rest) = DiffLine (variable_name vs to) (operand vs a) (operand vs b) ∷ statement_lines ds vs rest
statement_lines ds vs (Choose a test b first second rest) =
    IfLine (operand vs a) test (operand vs b) ∷ statement_lines ds vs first ++ else_lines second (statement_lines ds vs second) ++ EndLine ∷ statement_lines ds vs rest
statement_lines ds vs (Repeat times body rest) =
    RepeatLine (whole_number times) ∷ statement_lines ds vs body ++ EndLine ∷ statement_lines ds vs rest
statement_lines ds vs (Cancel rest) = CancelLine ∷ statement_lines ds vs rest

abbrev pub script_lines : List Declaration → Script → List Form
script_lines ds script = BeginLine ∷ statement_lines ds script.variables script.body ++ CommitLine ∷ []

-- the name of a thread on its line
abbrev pub name_on_line : ℕ → List ℕ → Option (List ℕ)
name_on_line version name = if version == 2 then Some name else None

abbrev pub thread_lines : ℕ → List Declaration → List ℕ → List Script → List Form
thread_lines version ds name thread = ThreadLine (name_on_line version name) ∷ flat_map (script_lines ds) thread

-- the threads beside their names
abbrev pub threads_lines : ℕ → List Declaration → List (List ℕ) → List (List Script) → List Form
threads_lines version ds [] threads = []
threads_lines version ds names [] = []
threads_lines version ds (name ∷ names) (thread ∷ threads) = thread_lines version ds name thread ++ threads_lines version ds names threads

-- what names a thread in an entry
abbrev pub word_for : ℕ → List (List ℕ) → ℕ → ThreadWord
word_for version names number = if version == 2 then Named (variable_name names number) else Numbered (whole_number number)

abbrev pub entry_for : ℕ → List (List ℕ) → Turns → ScheduleEntry
entry_for version names turns = record { thread = word_for version names turns.thread; steps = whole_number turns.steps }

-- entries, each after a space
abbrev pub entries_text : ℕ → List (List ℕ) → List Turns → List ℕ
entries_text version names turns = flat_map (λ t. 32 ∷ entry_word (entry_for version names t)) turns

abbrev pub schedule_lines : ℕ → List (List ℕ) → Option (List Turns) → List Form
schedule_lines version names None = []
schedule_lines version names (Some schedule) = ScheduleLine (map (entry_for version names) schedule) ∷ []

-- version 1 has no line of its own
abbrev pub version_lines : ℕ → List Form
version_lines version = if version == 2 then VersionLine (whole_number 2) ∷ [] else []

-- the lines of a file after that of its version
abbrev pub body_lines : File → List Form
body_lines file =
    map declare_line file.declarations ++ threads_lines file.version file.declarations file.names file.threads
    ++ schedule_lines file.version file.names file.schedule

abbrev pub lines_for : File → List Form
lines_for file = version_lines file.version ++ body_lines file

-- one line for each form, its words separated by one space
abbrev pub line_text : Form → List ℕ
line_text form = join_with_byte 32 (form_words form) ++ 10 ∷ []

abbrev pub text_of : File → List ℕ
text_of file = flat_map line_text (lines_for file)

-- a call as a statement: its arguments are numbers, and no variable takes its reply
abbrev pub statement_of : Call → Statements
statement_of call = Ask None call.object call.operation (Num call.a) (Num call.b) Nothing

-- the text of a call: the words of its statement
abbrev pub call_text : List Declaration → Call → List ℕ
call_text ds call = join_with_byte 32 (flat_map form_words (statement_lines ds [] (statement_of call)))

-- the file with its version set to 2
abbrev pub upgraded : File → File
upgraded file = record file { version = 2 }
