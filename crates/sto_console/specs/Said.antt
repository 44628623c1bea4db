-- What is written beside the output.
use Rattle.std.specs.Prelude.{◌≡◌, ℕ, List, ◌++◌, ◌⊎◌, Option, None, Some, take, codes, decimal}
use Rattle.sto_console.specs.Told.{Gains, Rose}
use Rattle.sto_lang.specs.FaultTexts.{kind_text}
use Rattle.sto_lang.specs.declared.fault.FaultKind.{FaultKind}
use Rattle.sto_lang.specs.declared.fault.ScriptFault.{ScriptFault}
use Rattle.sto_question.specs.declared.fault.QuestionFault.{QuestionFault}
use Rattle.sto_question.specs.FaultTexts.{fault_text}
use Rattle.sto_console.specs.declared.refusal.ScheduleCounts.{ScheduleCounts}
use Rattle.sto_console.specs.declared.refusal.StateCount.{StateCount}
use Rattle.sto_console.specs.declared.refusal.StateCount.TheVariants.{AtLeast, MoreThan}

-- the line of a fault
abbrev pub fault_line : ScriptFault → List ℕ
fault_line fault = codes "sto: line " ++ (decimal fault.line ++ (codes ": " ++ (kind_text fault.kind ++ codes "\n")))

-- how many schedules there are, as it is told; none where they are more than are counted
abbrev pub count_text : Option ℕ → List ℕ
count_text None = codes "more than 1000000"
count_text (Some schedules) = decimal schedules

-- the line of a script that has too many schedules
abbrev pub schedules_line : ScheduleCounts → List ℕ
schedules_line counts = codes "sto: line 0: too many schedules: " ++ (count_text counts.none ++ (codes " at 0 switches, "
    ++ (count_text counts.one ++ (codes " at 1, " ++ (count_text counts.two ++ codes " at 2\n")))))

-- how many nodes are needed, as it is told
abbrev pub states_text : StateCount → List ℕ
states_text (AtLeast count) = codes "at least " ++ decimal count
states_text (MoreThan count) = codes "more than " ++ decimal count

-- the line of a script whose orders need too many nodes
abbrev pub states_line : StateCount → List ℕ
states_line count = codes "sto: line 0: too many states: " ++ (states_text count ++ codes "\n")

-- the line of a schedule that a script could not have
abbrev pub schedule_line : FaultKind → List ℕ
schedule_line kind = codes "sto: schedule: " ++ (kind_text kind ++ codes "\n")

-- the line of words that are no question for a script
abbrev pub question_line : QuestionFault → List ℕ
question_line fault = codes "sto: question: " ++ (fault_text fault ++ codes "\n")

-- all of a line was written, or a front of it where a fault came
abbrev pub Says : List ℕ → Option (List ℕ) → Option (List ℕ) → ℕ → ℕ → Type 0
Says line held now old new = (Gains held now line × (new ≡ old)) ⊎ (((count : ℕ) × Gains held now (take count line)) × Rose old new)
