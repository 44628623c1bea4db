-- How a question is read, and why words were not taken.
use Rattle.std.specs.Prelude.{◌≡◌, ℕ, List, map, Option, Result, Err}
use Rattle.std.specs.Option.{option_map}
use Rattle.sto_lang.specs.Scripts.{File}
use Rattle.sto_question.specs.declared.fault.QuestionFault.{QuestionFault}
use Rattle.sto_question.specs.declared.fault.QuestionError.{QuestionError}
use Rattle.sto_question.specs.declared.fault.QuestionError.TheVariants.{Fault, NoMemory}
use Rattle.sto_lang.specs.Objects.{Declaration}
use Rattle.sto_question.specs.declared.amount.KnownObject.{KnownObject}
use Rattle.sto_question.specs.declared.draft.Draft as code
use Rattle.sto_question.specs.Questions.{Draft, holds_one, question_of}
use Rattle.sto_question.specs.Views.{comparison}

-- what is asked of an object that is declared
abbrev pub known : Declaration → KnownObject
known d = record { number = d.number; holds_one = holds_one d.shape }

-- the words so far, as the code has them
abbrev pub draft : code.Draft → Draft
draft d = record { whole = map comparison d.whole.items; left = option_map (λ l. (l.0.items, l.1)) d.left; terms = d.terms.items; sign = d.sign }

-- a result of the definition is this fault, or memory could not be had
abbrev pub IsFault : {A : Type 0} → Result A QuestionFault → QuestionError → Type 0
IsFault told (Fault fault) = told ≡ Err fault
IsFault told NoMemory = Unit {0}

-- why words were not taken: the fault that is told is theirs, and want of memory may come at any time
abbrev pub IsCause : File → List ℕ → QuestionError → Type 0
IsCause file text error = IsFault (question_of file text) error
