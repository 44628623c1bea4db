-- The numbers of a line are of 64 bits.
use Rattle.std.proofs.Common.{◌≡◌, ℕ, pos, negsuc, ℤ, List, [], ◌∷◌, Bool, true, false, not, ◌&&◌, ◌==◌, cond, Option, None, Some, IfSome, refl, arith, option_and_then}
use Rattle.std.specs.Option.{option_map}
use Rattle.std.specs.List.{All}
use Rattle.std.specs.Prelude.{codes}
use Rattle.std.specs.Str.{bytes_eq}
use Rattle.std.specs.Str.Parse.{signed_digits_value}
use Rattle.std.specs.Fmt.{signed_decimal}
use Rattle.std.proofs.lemmas.Int.{ints}
use Rattle.std.proofs.lemmas.Bool.Decides.{nat_tests}
use Rattle.std.proofs.lemmas.List.Elements.{All-nil, All-cons}
use Rattle.sto_syntax.specs.Words.{is_name, is_i64, number_of}
use Rattle.sto_syntax.specs.declared.declared.Declared.{Declared}
use Rattle.sto_syntax.specs.declared.declared.Declared.TheVariants as declares
use Rattle.sto_syntax.specs.declared.operation.OperationWord.{OperationWord}
use Rattle.sto_syntax.specs.declared.operation.OperationWord.TheVariants.{Compare}
use Rattle.sto_syntax.specs.Operations.{operation_of, test_of, kinds_with}
use Rattle.sto_syntax.specs.Forms.{Operand, Number, Variable, Form, DeclareLine, ThreadLine, BeginLine, CallLine, SumLine, DiffLine, IfLine, ElseLine, EndLine, CancelLine, CommitLine, ScheduleLine, begins_number, operand_of, all_of, entry_of, declaration, box_line, counter_line, array_line, hash_line, tree_line, vector_line, alone, asked, call, test_line, call_line, sum_line, diff_line, if_line, repeat_line, schedule_line, assignment, acting, statement, form_of, is_empty, version_line, named_line}
use Rattle.sto_lang.proofs.Branches.{Where, either, where_true, where_false, after, made}
use Rattle.sto_check_cli.proofs.Numbers.{Fits}

-- where a word is a number, it is one of 64 bits
abbrev pub IfFits : Option ℤ → Type 0
IfFits value = IfSome value Fits

number_fits : (word : List ℕ) → IfFits (number_of word)
number_fits word = by (signed_digits_value 10 word) (is_i64 (signed_digits_value 10 word)) (bytes_eq (signed_decimal (signed_digits_value 10 word)) word) refl
  where
    of_64 : (z : ℤ) → is_i64 z ≡ true → Fits z
    of_64 (pos n) e = record { sfits = grind (arith, ints, nat_tests) }
    of_64 (negsuc n) e = record { sfits = grind (arith, ints, nat_tests) }

    by : (z : ℤ) (fits same : Bool) → is_i64 z ≡ fits → IfFits (cond (fits && same) (Some z) None)
    by z true true e = of_64 z e
    by z true false e = tt
    by z false same e = tt

-- the value of what is declared, and the arguments of a line
abbrev pub ValueFits : Declared → Type 0
ValueFits (declares.Box value) = IfFits value
ValueFits (declares.Counter value) = IfFits value
ValueFits (declares.Array len value) = IfFits value
ValueFits declared = Unit {0}

abbrev pub OperandFits : Operand → Type 0
OperandFits (Number value) = IfFits value
OperandFits (Variable name) = Unit {0}

abbrev pub FormFits : Form → Type 0
FormFits (DeclareLine name declared) = ValueFits declared
FormFits (CallLine to operation object operands) = All OperandFits operands
FormFits (SumLine to a b) = OperandFits a × OperandFits b
FormFits (DiffLine to a b) = OperandFits a × OperandFits b
FormFits (IfLine a test b) = OperandFits a × OperandFits b
FormFits form = Unit {0}

operand_fits : (word : List ℕ) → IfSome (operand_of word) OperandFits
operand_fits word = by (begins_number word) (is_name word)
  where
    by : (number name : Bool) → IfSome (cond number (Some (Number (number_of word))) (cond name (Some (Variable word)) None)) OperandFits
    by true name = number_fits word
    by false true = tt
    by false false = tt

operands_fit : (words : List (List ℕ)) → IfSome (all_of operand_of words) (All OperandFits)
operands_fit [] = All-nil OperandFits
operands_fit (word ∷ words) = by (operand_of word) (all_of operand_of words) (operand_fits word) (operands_fit words)
  where
    by : (o : Option Operand) (os : Option (List Operand)) → IfSome o OperandFits → IfSome os (All OperandFits) → IfSome (option_and_then (λ y. option_map (λ ys. y ∷ ys) os) o) (All OperandFits)
    by None os f g = tt
    by (Some y) None f g = tt
    by (Some y) (Some ys) f g = All-cons OperandFits y ys f g

-- a form that is made of what was found
where_found : {Y : Type 0} (P : Y → Type 0) (o : Option Y) (f : Y → Option Form) → IfSome o P → ((y : Y) → P y → Where FormFits (f y)) → Where FormFits (option_and_then f o)
where_found P None f h k = tt
where_found P (Some y) f h k = k y h

made_of : {Y : Type 0} (P : Y → Type 0) (o : Option Y) (f : Y → Form) → IfSome o P → ((y : Y) → P y → FormFits (f y)) → Where FormFits (option_map f o)
made_of P None f h k = tt
made_of P (Some y) f h k = k y h

declaration_fits : (name : List ℕ) (declared : Declared) → ValueFits declared → Where FormFits (declaration name declared)
declaration_fits name declared f = where_true FormFits (is_name name) _ (λ h. f)

box_fits : (words : List (List ℕ)) → Where FormFits (box_line words)
box_fits (name ∷ value ∷ []) = declaration_fits name _ (number_fits value)
box_fits words = tt

counter_fits : (words : List (List ℕ)) → Where FormFits (counter_line words)
counter_fits (name ∷ value ∷ []) = declaration_fits name _ (number_fits value)
counter_fits words = tt

array_fits : (words : List (List ℕ)) → Where FormFits (array_line words)
array_fits (name ∷ len ∷ value ∷ []) = declaration_fits name _ (number_fits value)
array_fits words = tt

hash_fits : (words : List (List ℕ)) → Where FormFits (hash_line words)
hash_fits (name ∷ buckets ∷ places ∷ []) = declaration_fits name _ tt
hash_fits words = tt

tree_fits : (words : List (List ℕ)) → Where FormFits (tree_line words)
tree_fits (name ∷ leaves ∷ []) = declaration_fits name _ tt
tree_fits words = tt

vector_fits : (v : ℕ) (words : List (List ℕ)) → Where FormFits (vector_line v words)
vector_fits v [] = tt
vector_fits v (name ∷ []) = tt
vector_fits v (name ∷ capacity ∷ []) = where_true FormFits (v == 2) _ (λ e. declaration_fits name _ tt)
vector_fits v (name ∷ capacity ∷ other ∷ words) = tt

alone_fits : (form : Form) (words : List (List ℕ)) → FormFits form → Where FormFits (alone form words)
alone_fits form [] h = h
alone_fits form (word ∷ words) h = tt

call_fits : (to : Option (List ℕ)) (object : List ℕ) (words : List (List ℕ)) (operation : OperationWord) → Where FormFits (call to object words operation)
call_fits to object words operation =
    where_found (All OperandFits) (all_of operand_of words) (asked to object operation) (operands_fit words)
    (λ operands f. where_true FormFits (is_name object && not (is_empty (kinds_with operation operands))) _ (λ t. f))

test_fits : (to : Option (List ℕ)) (object : List ℕ) (words : List (List ℕ)) → Where FormFits (test_line to object words)
test_fits to object [] = tt
test_fits to object (test ∷ words) = after FormFits (test_of test) _ (λ t. call_fits to object words (Compare t))

call_line_fits : (v : ℕ) (to : Option (List ℕ)) (word : List ℕ) (words : List (List ℕ)) → Where FormFits (call_line v to word words)
call_line_fits v to word [] = tt
call_line_fits v to word (object ∷ words) =
    either FormFits (bytes_eq word (codes "test")) _ _ (test_fits to object words) (after FormFits (operation_of v word) (call to object words) (call_fits to object words))

sum_fits : (to : List ℕ) (words : List (List ℕ)) → Where FormFits (sum_line to words)
sum_fits to (a ∷ b ∷ []) = where_found OperandFits (operand_of a) _ (operand_fits a) (λ x f. made_of OperandFits (operand_of b) (λ y. SumLine to x y) (operand_fits b) (λ y g. (f, g)))
sum_fits to words = tt

diff_fits : (to : List ℕ) (words : List (List ℕ)) → Where FormFits (diff_line to words)
diff_fits to (a ∷ b ∷ []) = where_found OperandFits (operand_of a) _ (operand_fits a) (λ x f. made_of OperandFits (operand_of b) (λ y. DiffLine to x y) (operand_fits b) (λ y g. (f, g)))
diff_fits to words = tt

if_fits : (words : List (List ℕ)) → Where FormFits (if_line words)
if_fits (a ∷ test ∷ b ∷ []) =
    where_found OperandFits (operand_of a) _ (operand_fits a)
    (λ x f. after FormFits (test_of test) _ (λ t. made_of OperandFits (operand_of b) (λ y. IfLine x t y) (operand_fits b) (λ y g. (f, g))))
if_fits words = tt

repeat_fits : (words : List (List ℕ)) → Where FormFits (repeat_line words)
repeat_fits (times ∷ []) = tt
repeat_fits words = tt

version_fits : (words : List (List ℕ)) → Where FormFits (version_line words)
version_fits (version ∷ []) = tt
version_fits words = tt

named_fits : (words : List (List ℕ)) → Where FormFits (named_line words)
named_fits [] = tt
named_fits (name ∷ []) = where_true FormFits (is_name name) _ (λ h. tt)
named_fits (name ∷ other ∷ words) = tt

schedule_fits : (v : ℕ) (words : List (List ℕ)) → Where FormFits (schedule_line v words)
schedule_fits v [] = tt
schedule_fits v (word ∷ words) = made FormFits (all_of (entry_of v) (word ∷ words)) ScheduleLine (λ entries. tt)

assignment_fits : (v : ℕ) (to : List ℕ) (words : List (List ℕ)) → Where FormFits (assignment v to words)
assignment_fits v to [] = tt
assignment_fits v to (word ∷ words) =
    where_false FormFits (is_name to) _
    (λ h. either FormFits (bytes_eq word (codes "sum")) _ _ (sum_fits to words) (either FormFits (bytes_eq word (codes "diff")) _ _ (diff_fits to words) (call_line_fits v (Some to) word words)))

acting_fits : (v : ℕ) (word : List ℕ) (words : List (List ℕ)) → Where FormFits (acting v word words)
acting_fits v word words =
    either FormFits (bytes_eq word (codes "if")) _ _ (if_fits words)
    (either FormFits (bytes_eq word (codes "else")) _ _ (alone_fits ElseLine words tt)
    (either FormFits (bytes_eq word (codes "repeat")) _ _ (repeat_fits words)
    (either FormFits (bytes_eq word (codes "end")) _ _ (alone_fits EndLine words tt)
    (either FormFits (bytes_eq word (codes "cancel")) _ _ (alone_fits CancelLine words tt)
    (either FormFits (bytes_eq word (codes "commit")) _ _ (alone_fits CommitLine words tt) (call_line_fits v None word words))))))

statement_fits : (v : ℕ) (word : List ℕ) (words : List (List ℕ)) → Where FormFits (statement v word words)
statement_fits v word words =
    either FormFits (bytes_eq word (codes "sto")) _ _ (version_fits words)
    (either FormFits (bytes_eq word (codes "box")) _ _ (box_fits words)
    (either FormFits (bytes_eq word (codes "counter")) _ _ (counter_fits words)
    (either FormFits (bytes_eq word (codes "array")) _ _ (array_fits words)
    (either FormFits (bytes_eq word (codes "hash")) _ _ (hash_fits words)
    (either FormFits (bytes_eq word (codes "tree")) _ _ (tree_fits words)
    (either FormFits (bytes_eq word (codes "vector")) _ _ (vector_fits v words)
    (either FormFits (bytes_eq word (codes "thread")) _ _ (either FormFits (v == 2) _ _ (named_fits words) (alone_fits (ThreadLine None) words tt))
    (either FormFits (bytes_eq word (codes "begin")) _ _ (alone_fits BeginLine words tt)
    (either FormFits (bytes_eq word (codes "schedule")) _ _ (schedule_fits v words) (acting_fits v word words))))))))))

-- each line that has a form
pub form_fits : (v : ℕ) (word : List ℕ) (words : List (List ℕ)) → Where FormFits (form_of v word words)
form_fits v word [] = statement_fits v word []
form_fits v word (second ∷ words) = either FormFits (bytes_eq second (codes "=")) _ _ (assignment_fits v word words) (statement_fits v word (second ∷ words))
