-- The words of a fault of a question, and how an error prints itself.
use Rattle.std.specs.Prelude.{ℕ, List, codes}
use Rattle.sto_question.specs.declared.fault.QuestionFault.{QuestionFault}
use Rattle.sto_question.specs.declared.fault.QuestionFault.TheVariants.{BadWords, BadNumber, UnknownName, WrongKind}
use Rattle.sto_question.specs.declared.fault.QuestionError.{QuestionError}
use Rattle.sto_question.specs.declared.fault.QuestionError.TheVariants.{Fault, NoMemory}

abbrev pub fault_text : QuestionFault → List ℕ
fault_text BadWords = codes "bad words"
fault_text BadNumber = codes "bad number"
fault_text UnknownName = codes "unknown name"
fault_text WrongKind = codes "wrong kind"

abbrev pub question_error_text : QuestionError → List ℕ
question_error_text (Fault fault) = fault_text fault
question_error_text NoMemory = codes "out of memory"
