-- What a line declares or assigns has a name.
use Rattle.std.proofs.Common.{◌≡◌, ℕ, List, [], ◌∷◌, refl, Bool, true, false, not, ◌&&◌, ◌==◌, Option, None, Some, cond}
use Rattle.std.specs.Str.{bytes_eq}
use Rattle.std.specs.Prelude.{codes}
use Rattle.sto_syntax.specs.Words.{is_name}
use Rattle.sto_syntax.specs.declared.declared.Declared.{Declared}
use Rattle.sto_syntax.specs.declared.declared.Declared.TheVariants as declares
use Rattle.sto_syntax.specs.declared.operation.OperationWord.{OperationWord}
use Rattle.sto_syntax.specs.declared.operation.OperationWord.TheVariants.{Compare}
use Rattle.sto_syntax.specs.Operations.{operation_of, test_of, kinds_with}
use Rattle.sto_syntax.specs.Forms.{Operand, Form, DeclareLine, ThreadLine, BeginLine, CallLine, SumLine, DiffLine, IfLine, ElseLine, EndLine, CancelLine, CommitLine, ScheduleLine, all_of, operand_of, entry_of, declaration, box_line, counter_line, array_line, hash_line, tree_line, vector_line, alone, asked, call, test_line, call_line, sum_line, diff_line, if_line, repeat_line, schedule_line, assignment, acting, statement, form_of, is_empty, version_line, named_line, thread_line}
use Rattle.sto_lang.proofs.Branches.{Where, either, where_true, where_false, after, made}

-- no name, or one that is a name
abbrev pub IsNamed : Option (List ℕ) → Type 0
IsNamed None = Unit {0}
IsNamed (Some name) = is_name name ≡ true

-- a vector is declared in version 2 alone
abbrev pub IsOfVersion : ℕ → Declared → Type 0
IsOfVersion version (declares.Vector capacity) = (version == 2) ≡ true
IsOfVersion version declared = Unit {0}

-- the name that a line declares or assigns is one, and the line is one of the version; a thread has a name in version 2 alone
abbrev pub NamesWell : ℕ → Form → Type 0
NamesWell version (DeclareLine name declared) = (is_name name ≡ true) × IsOfVersion version declared
NamesWell version (ThreadLine None) = (version == 2) ≡ false
NamesWell version (ThreadLine (Some name)) = ((version == 2) ≡ true) × (is_name name ≡ true)
NamesWell version (CallLine to operation object operands) = IsNamed to
NamesWell version (SumLine to a b) = is_name to ≡ true
NamesWell version (DiffLine to a b) = is_name to ≡ true
NamesWell version form = Unit {0}

abbrev pub Well : ℕ → Option Form → Type 0
Well version form = Where (NamesWell version) form

declares_well : (v : ℕ) (name : List ℕ) (declared : Declared) → IsOfVersion v declared → Well v (declaration name declared)
declares_well v name declared k = where_true (NamesWell v) (is_name name) _ (λ h. (h, k))

box_well : (v : ℕ) (words : List (List ℕ)) → Well v (box_line words)
box_well v (name ∷ value ∷ []) = declares_well v name _ tt
box_well v words = tt

counter_well : (v : ℕ) (words : List (List ℕ)) → Well v (counter_line words)
counter_well v (name ∷ value ∷ []) = declares_well v name _ tt
counter_well v words = tt

array_well : (v : ℕ) (words : List (List ℕ)) → Well v (array_line words)
array_well v (name ∷ len ∷ value ∷ []) = declares_well v name _ tt
array_well v words = tt

hash_well : (v : ℕ) (words : List (List ℕ)) → Well v (hash_line words)
hash_well v (name ∷ buckets ∷ places ∷ []) = declares_well v name _ tt
hash_well v words = tt

tree_well : (v : ℕ) (words : List (List ℕ)) → Well v (tree_line words)
tree_well v (name ∷ leaves ∷ []) = declares_well v name _ tt
tree_well v words = tt

vector_well : (v : ℕ) (words : List (List ℕ)) → Well v (vector_line v words)
vector_well v [] = tt
vector_well v (name ∷ []) = tt
vector_well v (name ∷ capacity ∷ []) = where_true (NamesWell v) (v == 2) _ (λ e. declares_well v name _ e)
vector_well v (name ∷ capacity ∷ other ∷ words) = tt

alone_well : (v : ℕ) (form : Form) (words : List (List ℕ)) → NamesWell v form → Well v (alone form words)
alone_well v form [] h = h
alone_well v form (word ∷ words) h = tt

asked_well : (v : ℕ) (to : Option (List ℕ)) (object : List ℕ) (operation : OperationWord) (operands : List Operand) → IsNamed to → Well v (asked to object operation operands)
asked_well v to object operation operands h = where_true (NamesWell v) (is_name object && not (is_empty (kinds_with operation operands))) _ (λ t. h)

call_well : (v : ℕ) (to : Option (List ℕ)) (object : List ℕ) (words : List (List ℕ)) (operation : OperationWord) → IsNamed to → Well v (call to object words operation)
call_well v to object words operation h = after (NamesWell v) (all_of operand_of words) (asked to object operation) (λ operands. asked_well v to object operation operands h)

test_well : (v : ℕ) (to : Option (List ℕ)) (object : List ℕ) (words : List (List ℕ)) → IsNamed to → Well v (test_line to object words)
test_well v to object [] h = tt
test_well v to object (test ∷ words) h = after (NamesWell v) (test_of test) _ (λ t. call_well v to object words (Compare t) h)

call_line_well : (v : ℕ) (to : Option (List ℕ)) (word : List ℕ) (words : List (List ℕ)) → IsNamed to → Well v (call_line v to word words)
call_line_well v to word [] h = tt
call_line_well v to word (object ∷ words) h =
    either (NamesWell v) (bytes_eq word (codes "test")) _ _ (test_well v to object words h) (after (NamesWell v) (operation_of v word) (call to object words) (λ operation. call_well v to object words operation h))

sum_well : (v : ℕ) (to : List ℕ) (words : List (List ℕ)) → is_name to ≡ true → Well v (sum_line to words)
sum_well v to (a ∷ b ∷ []) h = after (NamesWell v) (operand_of a) _ (λ x. made (NamesWell v) (operand_of b) (λ y. SumLine to x y) (λ y. h))
sum_well v to words h = tt

diff_well : (v : ℕ) (to : List ℕ) (words : List (List ℕ)) → is_name to ≡ true → Well v (diff_line to words)
diff_well v to (a ∷ b ∷ []) h = after (NamesWell v) (operand_of a) _ (λ x. made (NamesWell v) (operand_of b) (λ y. DiffLine to x y) (λ y. h))
diff_well v to words h = tt

if_well : (v : ℕ) (words : List (List ℕ)) → Well v (if_line words)
if_well v (a ∷ test ∷ b ∷ []) = after (NamesWell v) (operand_of a) _ (λ x. after (NamesWell v) (test_of test) _ (λ t. made (NamesWell v) (operand_of b) (λ y. IfLine x t y) (λ y. tt)))
if_well v words = tt

repeat_well : (v : ℕ) (words : List (List ℕ)) → Well v (repeat_line words)
repeat_well v (times ∷ []) = tt
repeat_well v words = tt

version_well : (v : ℕ) (words : List (List ℕ)) → Well v (version_line words)
version_well v (version ∷ []) = tt
version_well v words = tt

by_version : (v : ℕ) (second : Bool) → (v == 2) ≡ second → (words : List (List ℕ)) → Well v (cond second (named_line words) (alone (ThreadLine None) words))
by_version v true e [] = tt
by_version v true e (name ∷ []) = where_true (NamesWell v) (is_name name) _ (λ h. (e, h))
by_version v true e (name ∷ other ∷ words) = tt
by_version v false e words = alone_well v (ThreadLine None) words e

thread_well : (v : ℕ) (words : List (List ℕ)) → Well v (thread_line v words)
thread_well v words = by_version v (v == 2) refl words

schedule_well : (v : ℕ) (words : List (List ℕ)) → Well v (schedule_line v words)
schedule_well v [] = tt
schedule_well v (word ∷ words) = made (NamesWell v) (all_of (entry_of v) (word ∷ words)) ScheduleLine (λ entries. tt)

assignment_well : (v : ℕ) (to : List ℕ) (words : List (List ℕ)) → Well v (assignment v to words)
assignment_well v to [] = tt
assignment_well v to (word ∷ words) =
    where_false (NamesWell v) (is_name to) _ (λ h. either (NamesWell v) (bytes_eq word (codes "sum")) _ _ (sum_well v to words h) (either (NamesWell v) (bytes_eq word (codes "diff")) _ _ (diff_well v to words h) (call_line_well v (Some to) word words h)))

acting_well : (v : ℕ) (word : List ℕ) (words : List (List ℕ)) → Well v (acting v word words)
acting_well v word words =
    either (NamesWell v) (bytes_eq word (codes "if")) _ _ (if_well v words)
    (either (NamesWell v) (bytes_eq word (codes "else")) _ _ (alone_well v ElseLine words tt)
    (either (NamesWell v) (bytes_eq word (codes "repeat")) _ _ (repeat_well v words)
    (either (NamesWell v) (bytes_eq word (codes "end")) _ _ (alone_well v EndLine words tt)
    (either (NamesWell v) (bytes_eq word (codes "cancel")) _ _ (alone_well v CancelLine words tt)
    (either (NamesWell v) (bytes_eq word (codes "commit")) _ _ (alone_well v CommitLine words tt) (call_line_well v None word words tt))))))

statement_well : (v : ℕ) (word : List ℕ) (words : List (List ℕ)) → Well v (statement v word words)
statement_well v word words =
    either (NamesWell v) (bytes_eq word (codes "sto")) _ _ (version_well v words)
    (either (NamesWell v) (bytes_eq word (codes "box")) _ _ (box_well v words)
    (either (NamesWell v) (bytes_eq word (codes "counter")) _ _ (counter_well v words)
    (either (NamesWell v) (bytes_eq word (codes "array")) _ _ (array_well v words)
    (either (NamesWell v) (bytes_eq word (codes "hash")) _ _ (hash_well v words)
    (either (NamesWell v) (bytes_eq word (codes "tree")) _ _ (tree_well v words)
    (either (NamesWell v) (bytes_eq word (codes "vector")) _ _ (vector_well v words)
    (either (NamesWell v) (bytes_eq word (codes "thread")) _ _ (thread_well v words)
    (either (NamesWell v) (bytes_eq word (codes "begin")) _ _ (alone_well v BeginLine words tt)
    (either (NamesWell v) (bytes_eq word (codes "schedule")) _ _ (schedule_well v words) (acting_well v word words))))))))))

pub form_well : (v : ℕ) (word : List ℕ) (words : List (List ℕ)) → Well v (form_of v word words)
form_well v word [] = statement_well v word []
form_well v word (second ∷ words) = either (NamesWell v) (bytes_eq second (codes "=")) _ _ (assignment_well v word words) (statement_well v word (second ∷ words))
