-- Bad numbers: a word in the place of a number, or one that begins as a number in the place of an argument, or a part of
-- an entry, is no number.
use Rattle.std.specs.Prelude.{List, [], ◌∷◌, Bool, true, not, ◌&&◌, is_some, is_none}
use Rattle.std.specs.List.{list_all}
use Rattle.sto_syntax.specs.declared.declared.Declared.{Declared}
use Rattle.sto_syntax.specs.declared.declared.Declared.TheVariants as declares
use Rattle.sto_syntax.specs.Forms.{Operand, Number, Variable, ThreadWord, Numbered, Named, ScheduleEntry, Form, VersionLine, DeclareLine, CallLine, SumLine, DiffLine, IfLine, RepeatLine, ScheduleLine}

-- a declaration whose numbers are numbers
abbrev pub has_numbers : Declared → Bool
has_numbers (declares.Box value) = is_some value
has_numbers (declares.Counter value) = is_some value
has_numbers (declares.Array len value) = is_some len && is_some value
has_numbers (declares.Hash buckets places) = is_some buckets && is_some places
has_numbers (declares.Tree leaves) = is_some leaves
has_numbers (declares.Vector capacity) = is_some capacity

abbrev pub is_good : Operand → Bool
is_good (Number value) = is_some value
is_good (Variable name) = true

abbrev pub is_good_thread : ThreadWord → Bool
is_good_thread (Numbered value) = is_some value
is_good_thread (Named name) = true

abbrev pub is_good_entry : ScheduleEntry → Bool
is_good_entry entry = is_good_thread entry.thread && is_some entry.steps

-- the arguments of a line
abbrev pub operands_of : Form → List Operand
operands_of (CallLine to operation object operands) = operands
operands_of (SumLine to a b) = a ∷ b ∷ []
operands_of (DiffLine to a b) = a ∷ b ∷ []
operands_of (IfLine a test b) = a ∷ b ∷ []
operands_of form = []

abbrev pub has_bad_number : Form → Bool
has_bad_number (DeclareLine name declared) = not (has_numbers declared)
has_bad_number (VersionLine version) = is_none version
has_bad_number (RepeatLine times) = is_none times
has_bad_number (ScheduleLine entries) = not (list_all is_good_entry entries)
has_bad_number form = not (list_all is_good (operands_of form))
