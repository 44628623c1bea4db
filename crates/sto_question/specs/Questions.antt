-- Questions: which words are one for the objects of a file, and of which states it is true.
use Rattle.std.specs.Prelude.{ℕ, ℤ, pos, ◌+ℤ◌, ◌-ℤ◌, ◌==◌, List, [], ◌∷◌, ◌++◌, Bool, true, false, if◌then◌else◌, slice_get, position, Option, None, Some, option_and_then, Result, Ok, Err, codes}
use Rattle.std.specs.List.{list_all, slice_split}
use Rattle.std.specs.Str.{bytes_eq}
use Rattle.sto_part.specs.Preds.{compares}
use Rattle.sto_part.specs.declared.pred.Test.{Test}
use Rattle.sto_part.specs.declared.pred.Test.TheVariants.{Eq, Ne, Lt, Le, Gt, Ge}
use Rattle.sto_model.specs.Rows.{Row, value_at}
use Rattle.sto_model.specs.Run.{State}
use Rattle.sto_model.specs.declared.shape.Shape.{Shape}
use Rattle.sto_model.specs.declared.shape.Shape.TheVariants.{Single, Counter, Array, Hash, Tree, Vector}
use Rattle.sto_syntax.specs.Forms.{begins_number}
use Rattle.sto_syntax.specs.Lines.{words_of}
use Rattle.sto_syntax.specs.Words.{is_name, number_of}
use Rattle.sto_lang.specs.Objects.{Declaration}
use Rattle.sto_lang.specs.Scripts.{File}
use Rattle.sto_report_spec.specs.Report.{rows_of}
use Rattle.sto_question.specs.declared.fault.QuestionFault.{QuestionFault}
use Rattle.sto_question.specs.declared.fault.QuestionFault.TheVariants.{BadWords, BadNumber, UnknownName, WrongKind}
use Rattle.sto_question.specs.declared.question.Sign.{Sign}
use Rattle.sto_question.specs.declared.question.Sign.TheVariants.{Plus, Minus}
use Rattle.sto_question.specs.declared.question.Amount.{Amount}
use Rattle.sto_question.specs.declared.question.Amount.TheVariants.{Number, Value}
use Rattle.sto_question.specs.declared.question.Term.{Term}

-- two sides, each a sum of signed amounts, compare by a test
pub record Comparison : Type 0 where
  pub left : List Term
  pub test : Test
  pub right : List Term

-- all of these are true
abbrev pub Question : Type 0
Question = List Comparison

-- Of which states a question is true.

-- what an amount is in a state; none where the object has no such key
abbrev pub amount_in : State → Amount → Option ℤ
amount_in state (Number value) = Some value
amount_in state (Value object key) = value_at (rows_of state object) key

abbrev pub signed_sum : Sign → ℤ → ℤ → ℤ
signed_sum Plus sum value = sum +ℤ value
signed_sum Minus sum value = sum -ℤ value

-- a sum with more terms; none where one of their amounts is none
abbrev pub sum_from : State → ℤ → List Term → Option ℤ
sum_from state sum [] = Some sum
sum_from state sum (term ∷ terms) = option_and_then (λ value. sum_from state (signed_sum term.sign sum value) terms) (amount_in state term.amount)

abbrev pub sum_in : State → List Term → Option ℤ
sum_in state terms = sum_from state (pos 0) terms

-- where a sum is none, no comparison with it is true
abbrev pub sums_compare : Test → Option ℤ → Option ℤ → Bool
sums_compare test (Some left) (Some right) = compares test left right
sums_compare test left right = false

abbrev pub is_true_comparison : State → Comparison → Bool
is_true_comparison state c = sums_compare c.test (sum_in state c.left) (sum_in state c.right)

abbrev pub is_true_of : Question → State → Bool
is_true_of question state = list_all (is_true_comparison state) question

-- The words of a question.

abbrev pub test_of : List ℕ → Option Test
test_of word =
    if bytes_eq word (codes "=") then Some Eq else if bytes_eq word (codes "!=") then Some Ne
    else if bytes_eq word (codes "<") then Some Lt else if bytes_eq word (codes "<=") then Some Le
    else if bytes_eq word (codes ">") then Some Gt else if bytes_eq word (codes ">=") then Some Ge
    else None

abbrev pub sign_of : List ℕ → Option Sign
sign_of word = if bytes_eq word (codes "+") then Some Plus else if bytes_eq word (codes "-") then Some Minus else None

-- a box and a counter hold one value, and have no keys
abbrev pub holds_one : Shape → Bool
holds_one (Single value) = true
holds_one (Counter value) = true
holds_one (Array len value) = false
holds_one (Hash buckets places) = false
holds_one (Tree leaves) = false
holds_one (Vector capacity) = false

-- the object with a name
abbrev pub named : List Declaration → List ℕ → Option Declaration
named declarations name = option_and_then (slice_get declarations) (position (λ d. bytes_eq d.name name) declarations)

-- the value of an object without a key
abbrev pub plain_amount : Option Declaration → Result Amount QuestionFault
plain_amount None = Err UnknownName
plain_amount (Some d) = if holds_one d.shape then Ok (Value d.number (pos 0)) else Err WrongKind

-- the value of an object at a key
abbrev pub amount_at : ℕ → Option ℤ → Result Amount QuestionFault
amount_at number None = Err BadNumber
amount_at number (Some key) = Ok (Value number key)

abbrev pub keyed_amount : Option Declaration → List ℕ → Result Amount QuestionFault
keyed_amount None key = Err UnknownName
keyed_amount (Some d) key = if holds_one d.shape then Err WrongKind else amount_at d.number (number_of key)

abbrev pub is_opening : ℕ → Bool
is_opening b = b == 91

abbrev pub is_closing : ℕ → Bool
is_closing b = b == 93

-- what stands behind the opening bracket ends with the only closing one
abbrev pub bracketed_amount : List Declaration → List ℕ → List (List ℕ) → Result Amount QuestionFault
bracketed_amount declarations name (key ∷ [] ∷ []) = keyed_amount (named declarations name) key
bracketed_amount declarations name pieces = Err BadWords

-- NAME or NAME[KEY]
abbrev pub object_amount : List Declaration → List (List ℕ) → Result Amount QuestionFault
object_amount declarations (name ∷ []) = if is_name name then plain_amount (named declarations name) else Err BadWords
object_amount declarations (name ∷ rest ∷ []) = if is_name name then bracketed_amount declarations name (slice_split is_closing rest) else Err BadWords
object_amount declarations pieces = Err BadWords

abbrev pub number_amount : Option ℤ → Result Amount QuestionFault
number_amount None = Err BadNumber
number_amount (Some value) = Ok (Number value)

-- the amount that a word is: a number, NAME, or NAME[KEY]
abbrev pub amount_of : List Declaration → List ℕ → Result Amount QuestionFault
amount_of declarations word =
    if begins_number word then number_amount (number_of word) else object_amount declarations (slice_split is_opening word)

-- the words so far: the comparisons that are whole, of the next one the left side with its test, and the terms of the side that is begun
pub record Draft : Type 0 where
  pub whole : List Comparison
  pub left : Option (List Term × Test)
  pub terms : List Term
  pub sign : Sign

-- before an amount nothing but its sign is known of a side
abbrev pub begun : List Comparison → Option (List Term × Test) → Draft
begun whole left = record { whole = whole; left = left; terms = []; sign = Plus }

-- with one more amount
abbrev pub with_amount : Draft → Amount → Draft
with_amount d amount = record d { terms = d.terms ++ record { sign = d.sign; amount = amount } ∷ [] }

-- the comparisons, where both sides of the last one are there
abbrev pub whole_of : List Comparison → Option (List Term × Test) → List Term → Result (List Comparison) QuestionFault
whole_of whole None terms = Err BadWords
whole_of whole (Some (left, test)) terms = Ok (whole ++ record { left = left; test = test; right = terms } ∷ [])

abbrev pub ended : Draft → Result (List Comparison) QuestionFault
ended d = whole_of d.whole d.left d.terms

-- with a test behind the left side; a side has one alone
abbrev pub with_test : Draft → Option (List Term × Test) → Test → Result Draft QuestionFault
with_test d None test = Ok (begun d.whole (Some (d.terms, test)))
with_test d (Some left) test = Err BadWords

abbrev pub next_begun : Result (List Comparison) QuestionFault → Result Draft QuestionFault
next_begun (Ok whole) = Ok (begun whole None)
next_begun (Err fault) = Err fault

-- with a word behind an amount that is no sign: a test, or `and`
abbrev pub with_other : Draft → List ℕ → Option Test → Result Draft QuestionFault
with_other d word (Some test) = with_test d d.left test
with_other d word None = if bytes_eq word (codes "and") then next_begun (ended d) else Err BadWords

-- with a word behind an amount
abbrev pub with_sign : Draft → List ℕ → Option Sign → Result Draft QuestionFault
with_sign d word (Some sign) = Ok (record d { sign = sign })
with_sign d word None = with_other d word (test_of word)

abbrev pub with_link : Draft → List ℕ → Result Draft QuestionFault
with_link d word = with_sign d word (sign_of word)

infixl 10 ◌>>=◌
abbrev pub ◌>>=◌ : {A B : Type 0} → Result A QuestionFault → (A → Result B QuestionFault) → Result B QuestionFault
(Ok x) >>= f = f x
(Err e) >>= f = Err e

-- amounts, and between each two of them a sign, a test or `and`; the first fault counts
abbrev pub question_from : List Declaration → Draft → List (List ℕ) → Result Question QuestionFault
question_from declarations d [] = Err BadWords
question_from declarations d (word ∷ []) = amount_of declarations word >>= (λ amount. ended (with_amount d amount))
question_from declarations d (word ∷ link ∷ words) =
    amount_of declarations word >>= (λ amount. with_link (with_amount d amount) link >>= (λ e. question_from declarations e words))

-- the question that the words of a text are
abbrev pub question_of : File → List ℕ → Result Question QuestionFault
question_of file text = question_from file.declarations (begun [] None) (words_of text)
