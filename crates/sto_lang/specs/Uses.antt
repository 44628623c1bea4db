-- Taken names, unknown names and wrong kinds.
use Rattle.std.specs.Prelude.{ℕ, List, Bool, true, false, not, ◌||◌, Option, None, Some, is_some, is_none}
use Rattle.std.specs.Option.{option_map_or}
use Rattle.std.specs.List.{list_all, list_any}
use Rattle.sto_syntax.specs.Kinds.{Kind, same_kind}
use Rattle.sto_lang.specs.Shapes.{kind_of}
use Rattle.sto_syntax.specs.Operations.{kinds_with}
use Rattle.sto_syntax.specs.Forms.{Operand, Number, Variable, ThreadWord, Numbered, Named, Form, DeclareLine, ThreadLine, CallLine, ScheduleLine}
use Rattle.sto_lang.specs.Objects.{Declaration, named, object_place}
use Rattle.sto_lang.specs.Drafts.{Draft, variables_in, is_variable}
use Rattle.sto_syntax.specs.Numbers.{operands_of}

-- the object with a name
abbrev pub declared : Draft → List ℕ → Option Declaration
declared d name = named name d.objects

-- the object that a call asks, where it is declared
abbrev pub asked_of : Draft → Form → Option Declaration
asked_of d (CallLine to operation object operands) = declared d object
asked_of d form = None

-- a declared name was declared before, or another thread has the name of a thread
abbrev pub is_taken : Draft → Form → Bool
is_taken d (DeclareLine name what) = is_some (object_place name d.objects)
is_taken d (ThreadLine name) = option_map_or (is_variable d.names) name false
is_taken d form = false

-- a number, or a variable that a line before assigns
abbrev pub is_known : List (List ℕ) → Operand → Bool
is_known variables (Number value) = true
is_known variables (Variable name) = is_variable variables name

-- a number, or the name of a thread
abbrev pub is_known_thread : List (List ℕ) → ThreadWord → Bool
is_known_thread names (Numbered value) = true
is_known_thread names (Named name) = is_variable names name

-- the object of a call is not declared, or no thread has the name of an entry
abbrev pub asks_unknown : Draft → Form → Bool
asks_unknown d (CallLine to operation object operands) = is_none (object_place object d.objects)
asks_unknown d (ScheduleLine entries) = not (list_all (λ entry. is_known_thread d.names entry.thread) entries)
asks_unknown d form = false

-- the object is not declared, or a variable is not yet assigned
abbrev pub is_unknown : Draft → Form → Bool
is_unknown d form = asks_unknown d form || not (list_all (is_known (variables_in d.inside)) (operands_of form))

-- the object's kind does not have the operation with so many arguments
abbrev pub lacks : Option Declaration → List Kind → Bool
lacks None kinds = false
lacks (Some object) kinds = not (list_any (same_kind (kind_of object.shape)) kinds)

abbrev pub has_wrong_kind : Draft → Form → Bool
has_wrong_kind d (CallLine to operation object operands) = lacks (declared d object) (kinds_with operation operands)
has_wrong_kind d form = false
