-- The forms of the code as those of the definition.
use Rattle.std.specs.Prelude.{ℕ, List, [], ◌∷◌, Option, None, Some, unwrap_or}
use Rattle.sto_syntax.specs.declared.name.Name.{Name}
use Rattle.sto_syntax.specs.declared.operand.Operand as written
use Rattle.sto_syntax.specs.declared.entry.ThreadWord as thread_words
use Rattle.sto_syntax.specs.declared.entry.ThreadWord.TheVariants as threads
use Rattle.sto_syntax.specs.declared.entry.ScheduleEntry as turns
use Rattle.sto_syntax.specs.declared.entries.Entries as schedules
use Rattle.sto_syntax.specs.declared.operand.Operand.TheVariants as operands
use Rattle.sto_syntax.specs.declared.operand.Operands.{Operands}
use Rattle.sto_syntax.specs.declared.operand.Operands.TheVariants as counts
use Rattle.sto_syntax.specs.declared.form.Form as lines
use Rattle.sto_syntax.specs.declared.form.Form.TheVariants as forms
use Rattle.sto_syntax.specs.Lines.{words_of}
use Rattle.sto_syntax.specs.Forms.{Operand, Number, Variable, ThreadWord, Numbered, Named, ScheduleEntry, Form, VersionLine, DeclareLine, ThreadLine, BeginLine, CallLine, SumLine, DiffLine, IfLine, ElseLine, RepeatLine, EndLine, CancelLine, CommitLine, ScheduleLine, all_of, entry_of}

abbrev pub operand : written.Operand → Operand
operand (operands.Number value) = Number (Some value)
operand operands.BadNumber = Number None
operand (operands.Variable name) = Variable name.bytes.now

abbrev pub operand_option : Option written.Operand → Option Operand
operand_option None = None
operand_option (Some x) = Some (operand x)

abbrev pub operand_list : Operands → List Operand
operand_list counts.None = []
operand_list (counts.One a) = operand a ∷ []
operand_list (counts.Two a b) = operand a ∷ operand b ∷ []

abbrev pub few_option : Option Operands → Option (List Operand)
few_option None = None
few_option (Some x) = Some (operand_list x)

-- a list of two at most
abbrev pub few_list : {X : Type 0} → List X → Option (List X)
few_list [] = Some []
few_list (a ∷ []) = Some (a ∷ [])
few_list (a ∷ b ∷ []) = Some (a ∷ b ∷ [])
few_list (a ∷ b ∷ c ∷ more) = None

abbrev pub few : {X : Type 0} → Option (List X) → Option (List X)
few None = None
few (Some xs) = few_list xs

abbrev pub name_option : Option Name → Option (List ℕ)
name_option None = None
name_option (Some name) = Some name.bytes.now

abbrev pub thread_word : thread_words.ThreadWord → ThreadWord
thread_word (threads.Numbered value) = Numbered value
thread_word (threads.Named name) = Named name.bytes.now

abbrev pub thread_word_option : Option thread_words.ThreadWord → Option ThreadWord
thread_word_option None = None
thread_word_option (Some word) = Some (thread_word word)

abbrev pub entry : turns.ScheduleEntry → ScheduleEntry
entry e = record { thread = thread_word e.thread; steps = e.steps }

abbrev pub entry_option : Option turns.ScheduleEntry → Option ScheduleEntry
entry_option None = None
entry_option (Some e) = Some (entry e)

abbrev pub entries : schedules.Entries → List ScheduleEntry
entries all = unwrap_or (all_of (entry_of all.version) (words_of all.bytes.now)) []

abbrev pub form : lines.Form → Form
form (forms.Declare name declared) = DeclareLine name.bytes.now declared
form (forms.Version version) = VersionLine version
form (forms.Thread name) = ThreadLine (name_option name)
form forms.Begin = BeginLine
form (forms.Call to operation object arguments) = CallLine (name_option to) operation object.bytes.now (operand_list arguments)
form (forms.Sum to a b) = SumLine to.bytes.now (operand a) (operand b)
form (forms.Diff to a b) = DiffLine to.bytes.now (operand a) (operand b)
form (forms.If a test b) = IfLine (operand a) test (operand b)
form forms.Else = ElseLine
form (forms.Repeat times) = RepeatLine times
form forms.End = EndLine
form forms.Cancel = CancelLine
form forms.Commit = CommitLine
form (forms.Schedule all) = ScheduleLine (entries all)

abbrev pub form_option : Option lines.Form → Option Form
form_option None = None
form_option (Some x) = Some (form x)
