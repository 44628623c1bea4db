-- A file has the version that its first line with words says.
use Rattle.std.proofs.Common.{◌≡◌, ℕ, ℤ, pos, negsuc, suc, List, [], ◌∷◌, ◌++◌, refl, ap, sym, ◌∙◌, Bool, true, false, not, ◌&&◌, Option, None, Some, cond, codes, option_and_then, Result, Ok, Err, nat_lt, nat_le, length, IfOk, arith}
use Rattle.std.specs.Prelude.{◌==◌}
use Rattle.std.specs.Option.{option_map}
use Rattle.std.specs.List.{list_all}
use Rattle.std.specs.Fmt.{digits, signed_decimal}
use Rattle.std.specs.Int.{int_wrap}
use Rattle.std.specs.Str.Parse.{signed_digits_value}
use Rattle.std.proofs.lemmas.Bool.Decides.{nat_tests}
use Rattle.std.specs.Str.{bytes_eq}
use Rattle.std.proofs.lemmas.Slice.Eq.{bytes_eq-Decides}
use Rattle.sto_syntax.specs.declared.declared.Declared.{Declared}
use Rattle.sto_syntax.specs.declared.operation.OperationWord.{OperationWord}
use Rattle.sto_syntax.specs.declared.operation.OperationWord.TheVariants.{Compare}
use Rattle.sto_syntax.specs.Operations.{operation_of, test_of, kinds_with}
use Rattle.sto_syntax.specs.Words.{is_name, is_i64, number_of}
use Rattle.sto_syntax.specs.Lines.{lines_of, words_of}
use Rattle.sto_syntax.specs.Forms.{Operand, ThreadWord, Numbered, Named, ScheduleEntry, Form, VersionLine, DeclareLine, ThreadLine, BeginLine, CallLine, SumLine, DiffLine, IfLine, ElseLine, EndLine, CancelLine, CommitLine, ScheduleLine, all_of, operand_of, entry_of, declaration, box_line, counter_line, array_line, hash_line, tree_line, vector_line, alone, asked, call, test_line, call_line, sum_line, diff_line, if_line, repeat_line, version_line, named_line, thread_line, schedule_line, assignment, acting, statement, form_of, is_empty}
use Rattle.sto_lang.specs.declared.fault.ReadError.{ReadError}
use Rattle.sto_lang.specs.declared.fault.FaultKind.{FaultKind}
use Rattle.sto_lang.specs.declared.fault.FaultKind.TheVariants.{TooLarge, BadByte}
use Rattle.sto_lang.specs.declared.file.File as code
use Rattle.sto_lang.specs.Scripts.{Script, File}
use Rattle.sto_lang.specs.Shapes.{natural, in_range}
use Rattle.sto_lang.specs.Objects.{Object}
use Rattle.sto_lang.specs.Drafts.{Draft, OpenTransaction, opening, script_of, with_script, with_commit, with_form}
use Rattle.sto_lang.specs.Places.{is_blank}
use Rattle.sto_lang.specs.Limits.{has_thread, is_in_range, is_turn}
use Rattle.sto_lang.specs.Uses.{asks_unknown, is_known_thread}
use Rattle.sto_lang.specs.Faults.{fault_of}
use Rattle.sto_lang.specs.Files.{fault, is_allowed, unless, with_line_of, with_words, whole, ◌>>=◌, with_lines, file_of}
use Rattle.sto_lang.specs.Versions.{first_words, are_second, version_of}
use Rattle.sto_lang.specs.Reads.{Gives}
use Rattle.sto_lang.specs.Views.{file as seen}
use Rattle.sto_lang.proofs.Branches.{Where, either, where_true, where_false, after, made}
use Rattle.sto_lang.proofs.SoundPlaces.{both}
use Rattle.sto_lang.proofs.SoundSteps.{no_fault, neither, denied}

-- The words of a line that sets the version, and that a schedule has an entry.

abbrev SaysNumber : Option ℤ → List (List ℕ) → Type 0
SaysNumber version (number ∷ []) = number_of number ≡ version
SaysNumber version words = ⊥

abbrev Says : List ℕ → List (List ℕ) → Form → Type 0
Says word words (VersionLine version) = (bytes_eq word (codes "sto") ≡ true) × SaysNumber version words
Says word words (ScheduleLine entries) = is_empty entries ≡ false
Says word words form = Unit {0}

where_first : (P : Form → Type 0) (b : Bool) (x y : Option Form) → (b ≡ true → Where P x) → Where P y → Where P (cond b x y)
where_first P true x y h k = h refl
where_first P false x y h k = k

declares_said : (w : List ℕ) (ws : List (List ℕ)) (name : List ℕ) (declared : Declared) → Where (Says w ws) (declaration name declared)
declares_said w ws name declared = where_true (Says w ws) (is_name name) _ (λ h. tt)

box_said : (w : List ℕ) (ws words : List (List ℕ)) → Where (Says w ws) (box_line words)
box_said w ws (name ∷ value ∷ []) = declares_said w ws name _
box_said w ws words = tt

counter_said : (w : List ℕ) (ws words : List (List ℕ)) → Where (Says w ws) (counter_line words)
counter_said w ws (name ∷ value ∷ []) = declares_said w ws name _
counter_said w ws words = tt

array_said : (w : List ℕ) (ws words : List (List ℕ)) → Where (Says w ws) (array_line words)
array_said w ws (name ∷ len ∷ value ∷ []) = declares_said w ws name _
array_said w ws words = tt

hash_said : (w : List ℕ) (ws words : List (List ℕ)) → Where (Says w ws) (hash_line words)
hash_said w ws (name ∷ buckets ∷ places ∷ []) = declares_said w ws name _
hash_said w ws words = tt

tree_said : (w : List ℕ) (ws words : List (List ℕ)) → Where (Says w ws) (tree_line words)
tree_said w ws (name ∷ leaves ∷ []) = declares_said w ws name _
tree_said w ws words = tt

vector_said : (v : ℕ) (w : List ℕ) (ws words : List (List ℕ)) → Where (Says w ws) (vector_line v words)
vector_said v w ws [] = tt
vector_said v w ws (name ∷ []) = tt
vector_said v w ws (name ∷ capacity ∷ []) = where_true (Says w ws) (v == 2) _ (λ e. declares_said w ws name _)
vector_said v w ws (name ∷ capacity ∷ other ∷ words) = tt

alone_said : (w : List ℕ) (ws : List (List ℕ)) (form : Form) (words : List (List ℕ)) → Says w ws form → Where (Says w ws) (alone form words)
alone_said w ws form [] h = h
alone_said w ws form (word ∷ words) h = tt

asked_said : (w : List ℕ) (ws : List (List ℕ)) (to : Option (List ℕ)) (object : List ℕ) (operation : OperationWord) (operands : List Operand) → Where (Says w ws) (asked to object operation operands)
asked_said w ws to object operation operands = where_true (Says w ws) (is_name object && not (is_empty (kinds_with operation operands))) (Some (CallLine to operation object operands)) (λ h. tt)

call_said : (w : List ℕ) (ws : List (List ℕ)) (to : Option (List ℕ)) (object : List ℕ) (words : List (List ℕ)) (operation : OperationWord) → Where (Says w ws) (call to object words operation)
call_said w ws to object words operation = after (Says w ws) (all_of operand_of words) (asked to object operation) (asked_said w ws to object operation)

test_said : (w : List ℕ) (ws : List (List ℕ)) (to : Option (List ℕ)) (object : List ℕ) (words : List (List ℕ)) → Where (Says w ws) (test_line to object words)
test_said w ws to object [] = tt
test_said w ws to object (test ∷ words) = after (Says w ws) (test_of test) _ (λ t. call_said w ws to object words (Compare t))

call_line_said : (v : ℕ) (w : List ℕ) (ws : List (List ℕ)) (to : Option (List ℕ)) (word : List ℕ) (words : List (List ℕ)) → Where (Says w ws) (call_line v to word words)
call_line_said v w ws to word [] = tt
call_line_said v w ws to word (object ∷ words) =
    either (Says w ws) (bytes_eq word (codes "test")) _ _ (test_said w ws to object words) (after (Says w ws) (operation_of v word) (call to object words) (call_said w ws to object words))

sum_said : (w : List ℕ) (ws : List (List ℕ)) (to : List ℕ) (words : List (List ℕ)) → Where (Says w ws) (sum_line to words)
sum_said w ws to (a ∷ b ∷ []) = after (Says w ws) (operand_of a) _ (λ x. made (Says w ws) (operand_of b) (λ y. SumLine to x y) (λ y. tt))
sum_said w ws to words = tt

diff_said : (w : List ℕ) (ws : List (List ℕ)) (to : List ℕ) (words : List (List ℕ)) → Where (Says w ws) (diff_line to words)
diff_said w ws to (a ∷ b ∷ []) = after (Says w ws) (operand_of a) _ (λ x. made (Says w ws) (operand_of b) (λ y. DiffLine to x y) (λ y. tt))
diff_said w ws to words = tt

if_said : (w : List ℕ) (ws words : List (List ℕ)) → Where (Says w ws) (if_line words)
if_said w ws (a ∷ test ∷ b ∷ []) =
    after (Says w ws) (operand_of a) _ (λ x. after (Says w ws) (test_of test) _ (λ t. made (Says w ws) (operand_of b) (λ y. IfLine x t y) (λ y. tt)))
if_said w ws words = tt

repeat_said : (w : List ℕ) (ws words : List (List ℕ)) → Where (Says w ws) (repeat_line words)
repeat_said w ws (times ∷ []) = tt
repeat_said w ws words = tt

version_said : (w : List ℕ) (words : List (List ℕ)) → bytes_eq w (codes "sto") ≡ true → Where (Says w words) (version_line words)
version_said w [] e = tt
version_said w (version ∷ []) e = (e, refl)
version_said w (version ∷ word ∷ words) e = tt

named_said : (w : List ℕ) (ws words : List (List ℕ)) → Where (Says w ws) (named_line words)
named_said w ws [] = tt
named_said w ws (name ∷ []) = where_true (Says w ws) (is_name name) _ (λ h. tt)
named_said w ws (name ∷ other ∷ words) = tt

thread_said : (v : ℕ) (w : List ℕ) (ws words : List (List ℕ)) → Where (Says w ws) (thread_line v words)
thread_said v w ws words = either (Says w ws) (v == 2) _ _ (named_said w ws words) (alone_said w ws (ThreadLine None) words tt)

one_more : {Y : Type 0} (first : Option Y) (others : Option (List Y)) (ys : List Y) → option_and_then (λ y. option_map (λ more. y ∷ more) others) first ≡ Some ys → is_empty ys ≡ false
one_more None others ys e = absurd cc
one_more (Some y) None ys e = absurd cc
one_more (Some y) (Some more) [] e = absurd cc
one_more (Some y) (Some more) (z ∷ ys) e = refl

-- where something is asked, all the values are some
pub some_value : {X Y : Type 0} (f : X → Option Y) (x : X) (xs : List X) (ys : List Y) → all_of f (x ∷ xs) ≡ Some ys → is_empty ys ≡ false
some_value f x xs ys e = one_more (f x) (all_of f xs) ys e

made_some : (w : List ℕ) (ws : List (List ℕ)) (found : Option (List ScheduleEntry)) → ((entries : List ScheduleEntry) → found ≡ Some entries → is_empty entries ≡ false) → Where (Says w ws) (option_map ScheduleLine found)
made_some w ws None h = tt
made_some w ws (Some entries) h = h entries refl

schedule_said : (v : ℕ) (w : List ℕ) (ws words : List (List ℕ)) → Where (Says w ws) (schedule_line v words)
schedule_said v w ws [] = tt
schedule_said v w ws (word ∷ words) = made_some w ws (all_of (entry_of v) (word ∷ words)) (some_value (entry_of v) word words)

assignment_said : (v : ℕ) (w : List ℕ) (ws : List (List ℕ)) (to : List ℕ) (words : List (List ℕ)) → Where (Says w ws) (assignment v to words)
assignment_said v w ws to [] = tt
assignment_said v w ws to (word ∷ words) =
    where_false (Says w ws) (is_name to) _ (λ h. either (Says w ws) (bytes_eq word (codes "sum")) _ _ (sum_said w ws to words) (either (Says w ws) (bytes_eq word (codes "diff")) _ _ (diff_said w ws to words) (call_line_said v w ws (Some to) word words)))

acting_said : (v : ℕ) (w : List ℕ) (ws : List (List ℕ)) (word : List ℕ) (words : List (List ℕ)) → Where (Says w ws) (acting v word words)
acting_said v w ws word words =
    either (Says w ws) (bytes_eq word (codes "if")) _ _ (if_said w ws words)
    (either (Says w ws) (bytes_eq word (codes "else")) _ _ (alone_said w ws ElseLine words tt)
    (either (Says w ws) (bytes_eq word (codes "repeat")) _ _ (repeat_said w ws words)
    (either (Says w ws) (bytes_eq word (codes "end")) _ _ (alone_said w ws EndLine words tt)
    (either (Says w ws) (bytes_eq word (codes "cancel")) _ _ (alone_said w ws CancelLine words tt)
    (either (Says w ws) (bytes_eq word (codes "commit")) _ _ (alone_said w ws CommitLine words tt) (call_line_said v w ws None word words))))))

statement_said : (v : ℕ) (word : List ℕ) (words : List (List ℕ)) → Where (Says word words) (statement v word words)
statement_said v word words =
    let P = Says word words in
    where_first P (bytes_eq word (codes "sto")) _ _ (version_said word words)
    (either P (bytes_eq word (codes "box")) _ _ (box_said word words words)
    (either P (bytes_eq word (codes "counter")) _ _ (counter_said word words words)
    (either P (bytes_eq word (codes "array")) _ _ (array_said word words words)
    (either P (bytes_eq word (codes "hash")) _ _ (hash_said word words words)
    (either P (bytes_eq word (codes "tree")) _ _ (tree_said word words words)
    (either P (bytes_eq word (codes "vector")) _ _ (vector_said v word words words)
    (either P (bytes_eq word (codes "thread")) _ _ (thread_said v word words words)
    (either P (bytes_eq word (codes "begin")) _ _ (alone_said word words BeginLine words tt)
    (either P (bytes_eq word (codes "schedule")) _ _ (schedule_said v word words words) (acting_said v word words word words))))))))))

form_said : (v : ℕ) (word : List ℕ) (words : List (List ℕ)) → Where (Says word words) (form_of v word words)
form_said v word [] = statement_said v word []
form_said v word (second ∷ words) =
    either (Says word (second ∷ words)) (bytes_eq second (codes "=")) _ _ (assignment_said v word (second ∷ words) word words) (statement_said v word (second ∷ words))

-- The words `sto` and `2` are the form that sets version 2, and no others are.

two_word : signed_decimal (pos 2) ≡ codes "2"
unfolding digits
two_word = refl

by_test : (z : ℤ) (word : List ℕ) (good : Bool) → (is_i64 z && bytes_eq (signed_decimal z) word) ≡ good → cond good (Some z) None ≡ Some (pos 2) → (z ≡ pos 2) × (bytes_eq (signed_decimal z) word ≡ true)
by_test z word true e h = (let same : z ≡ pos 2 = cc in same, (both (is_i64 z) (bytes_eq (signed_decimal z) word) e).1)
by_test z word false e h = absurd cc

number_two : (word : List ℕ) → number_of word ≡ Some (pos 2) → bytes_eq word (codes "2") ≡ true
number_two word h =
    let z = signed_digits_value 10 word in
    let found = by_test z word (is_i64 z && bytes_eq (signed_decimal z) word) refl h in
    let same : word ≡ codes "2" = sym ((bytes_eq-Decides (signed_decimal z) word).0 found.1) ∙ ap signed_decimal found.0 ∙ two_word in
    (bytes_eq-Decides word (codes "2")).1 same

is_two : (n : ℕ) → (nat_le 2 n && nat_le n 2) ≡ true → n ≡ 2
is_two n h = let parts = both (nat_le 2 n) (nat_le n 2) h in let low = parts.0 in let high = parts.1 in grind (arith, nat_tests)

-- a number from 2 to 2 is 2
pub in_two : (version : Option ℤ) → in_range 2 2 version ≡ true → version ≡ Some (pos 2)
in_two None h = absurd cc
in_two (Some (pos n)) h = ap (λ m. Some (pos m)) (is_two n h)
in_two (Some (negsuc n)) h = absurd cc

sets_second : (word : List ℕ) (words : List (List ℕ)) (version : Option ℤ) → Says word words (VersionLine version) → in_range 2 2 version ≡ true → are_second (word ∷ words) ≡ true
sets_second word [] version h r = absurd (h.1)
sets_second word (number ∷ []) version h r = rw (h.0, number_two number (h.1 ∙ in_two version r)) refl
sets_second word (number ∷ more ∷ words) version h r = absurd (h.1)

second_form : (v : ℕ) → form_of v (codes "sto") (codes "2" ∷ []) ≡ Some (VersionLine (Some (pos 2)))
unfolding digits int_wrap
second_form v = refl

second_is : (v : ℕ) (word : List ℕ) (words : List (List ℕ)) → are_second (word ∷ words) ≡ true → form_of v word words ≡ Some (VersionLine (Some (pos 2)))
second_is v word [] h = absurd cc
second_is v word (number ∷ []) h =
    let parts = both (bytes_eq word (codes "sto")) (bytes_eq number (codes "2")) h in
    let first : word ≡ codes "sto" = (bytes_eq-Decides word (codes "sto")).0 parts.0 in
    let second : number ≡ codes "2" = (bytes_eq-Decides number (codes "2")).0 parts.1 in
    (λ i. form_of v (first i) (second i ∷ [])) ∙ second_form v
second_is v word (number ∷ more ∷ words) h = absurd cc

-- Past the first line with words the version stays.

record IsPast (d e : Draft) : Type 0 where
  version : e.version ≡ d.version
  begun : is_blank e ≡ false

some_object : (a c : Bool) (objects : List Object) (o : Object) → (a && is_empty (objects ++ o ∷ []) && c) ≡ false
some_object true c [] o = refl
some_object true c (x ∷ objects) o = refl
some_object false c objects o = refl

some_thread : (a b : Bool) (threads : List (List Script)) → (a && b && is_empty (threads ++ [] ∷ [])) ≡ false
some_thread true true [] = refl
some_thread true true (thread ∷ threads) = refl
some_thread true false threads = refl
some_thread false b threads = refl

same_threads : (threads : List (List Script)) (script : Script) → is_empty (with_script threads script) ≡ is_empty threads
same_threads [] script = refl
same_threads (thread ∷ []) script = refl
same_threads (thread ∷ next ∷ threads) script = refl

commit_past : (d : Draft) (inside : Option OpenTransaction) → is_blank d ≡ false → IsPast d (with_commit d inside)
commit_past d None h = record { version = refl; begun = h }
commit_past d (Some t) h = record { version = refl; begun = ap (λ b. (d.version == 1) && is_empty d.objects && b) (same_threads d.threads (script_of d.objects t)) ∙ h }

form_past : (d : Draft) (later : List (List ℕ)) (form : Form) → fault_of d later form ≡ None → is_blank d ≡ false → IsPast d (with_form d form)
form_past d later (DeclareLine name what) e h = record { version = refl; begun = some_object (d.version == 1) (is_empty d.threads) d.objects _ }
form_past d later (VersionLine version) e h = absurd (let placed = (no_fault d later (VersionLine version) e).placed in cc)
form_past d later (ThreadLine name) e h = record { version = refl; begun = some_thread (d.version == 1) (is_empty d.objects) d.threads }
form_past d later BeginLine e h = record { version = refl; begun = h }
form_past d later CommitLine e h = commit_past d d.inside h
form_past d later (ScheduleLine entries) e h = record { version = refl; begun = h }
form_past d later form e h = record { version = refl; begun = h }

past_by_fault : (d : Draft) (number : ℕ) (later : List (List ℕ)) (form : Form) (found : Option FaultKind) (file : File) → fault_of d later form ≡ found → is_blank d ≡ false
    → ((x : Draft) → is_blank x ≡ false → with_lines x (suc number) later ≡ Ok file → file.version ≡ x.version)
    → unless (with_form d form) number found >>= (λ x. with_lines x (suc number) later) ≡ Ok file → file.version ≡ d.version
past_by_fault d number later form None file e h rest k = let p = form_past d later form e h in rest (with_form d form) p.begun k ∙ p.version
past_by_fault d number later form (Some kind) file e h rest k = absurd cc

past_by_form : (d : Draft) (number : ℕ) (later : List (List ℕ)) (form : Option Form) (file : File) → is_blank d ≡ false
    → ((x : Draft) → is_blank x ≡ false → with_lines x (suc number) later ≡ Ok file → file.version ≡ x.version)
    → with_line_of d number later form >>= (λ x. with_lines x (suc number) later) ≡ Ok file → file.version ≡ d.version
past_by_form d number later None file h rest k = absurd cc
past_by_form d number later (Some form) file h rest k = past_by_fault d number later form (fault_of d later form) file refl h rest k

past_by_words : (d : Draft) (number : ℕ) (later words : List (List ℕ)) (file : File) (allowed : Bool) → is_blank d ≡ false
    → ((x : Draft) → is_blank x ≡ false → with_lines x (suc number) later ≡ Ok file → file.version ≡ x.version)
    → cond allowed (with_words d number later words) (fault number BadByte) >>= (λ x. with_lines x (suc number) later) ≡ Ok file → file.version ≡ d.version
past_by_words d number later words file false h rest k = absurd cc
past_by_words d number later [] file true h rest k = rest d h k
past_by_words d number later (word ∷ words) file true h rest k = past_by_form d number later (form_of d.version word words) file h rest k

whole_version : (d : Draft) (number : ℕ) (inside : Option OpenTransaction) (file : File) → whole d number inside ≡ Ok file → file.version ≡ d.version
whole_version d number None file k = cc
whole_version d number (Some t) file k = absurd cc

lines_past : (d : Draft) (number : ℕ) (lines : List (List ℕ)) (file : File) → is_blank d ≡ false → with_lines d number lines ≡ Ok file → file.version ≡ d.version
lines_past d number [] file h k = whole_version d number d.inside file k
lines_past d number (line ∷ lines) file h k =
    past_by_words d number lines (words_of line) file (list_all is_allowed line) h (λ x b r. lines_past x (suc number) lines file b r) k

-- The first line with words.

no_turn : (thread : ThreadWord) → is_known_thread [] thread ≡ true → has_thread 0 thread ≡ true → ⊥
no_turn (Numbered value) k h = grind (arith, nat_tests)
no_turn (Named name) k h = cc

no_entry : (later : List (List ℕ)) (entries : List ScheduleEntry) → is_empty entries ≡ false → fault_of opening later (ScheduleLine entries) ≡ None → ⊥
no_entry later [] s e = cc
no_entry later (entry ∷ entries) s e =
    let n = no_fault opening later (ScheduleLine (entry ∷ entries)) e in
    let known = denied (list_all (λ (x : ScheduleEntry). is_known_thread [] x.thread) (entry ∷ entries)) (neither (asks_unknown opening (ScheduleLine (entry ∷ entries))) _ n.known).0 in
    let turns = denied (list_all (is_turn 0) (entry ∷ entries)) n.within in
    let turn = (both (is_turn 0 entry) (list_all (is_turn 0) entries) turns).0 in
    no_turn entry.thread (both (is_known_thread [] entry.thread) _ known).0 (both (is_in_range entry) (has_thread 0 entry.thread) turn).1

first_past : (later : List (List ℕ)) (word : List ℕ) (words : List (List ℕ)) (form : Form) → fault_of opening later form ≡ None → Says word words form → is_blank (with_form opening form) ≡ false
first_past later word words (DeclareLine name what) e s = refl
first_past later word words (VersionLine version) e s =
    let n = no_fault opening later (VersionLine version) e in
    ap (λ x. (natural x == 1) && true && true) (in_two version (denied (in_range 2 2 version) n.within))
first_past later word words (ThreadLine name) e s = refl
first_past later word words (ScheduleLine entries) e s = absurd (no_entry later entries s e)
first_past later word words form e s = absurd (let placed = (no_fault opening later form e).placed in cc)

other_version : (later : List (List ℕ)) (word : List ℕ) (words : List (List ℕ)) (form : Form) → fault_of opening later form ≡ None → Says word words form → are_second (word ∷ words) ≡ false → (with_form opening form).version ≡ 1
other_version later word words (VersionLine version) e s h =
    absurd (let n = no_fault opening later (VersionLine version) e in let never = sets_second word words version s (denied (in_range 2 2 version) n.within) in cc)
other_version later word words form e s h = refl

first_version : (later : List (List ℕ)) (word : List ℕ) (words : List (List ℕ)) (form : Form) (second : Bool) → are_second (word ∷ words) ≡ second → form_of 1 word words ≡ Some form → fault_of opening later form ≡ None → Says word words form
    → (with_form opening form).version ≡ cond second 2 1
first_version later word words form true a f e s =
    let same : form ≡ VersionLine (Some (pos 2)) = let found = second_is 1 word words a in cc in
    ap (λ x. (with_form opening x).version) same
first_version later word words form false a f e s = other_version later word words form e s a

by_fault : (number : ℕ) (later : List (List ℕ)) (word : List ℕ) (words : List (List ℕ)) (form : Form) (found : Option FaultKind) (file : File) → form_of 1 word words ≡ Some form → fault_of opening later form ≡ found → Says word words form
    → unless (with_form opening form) number found >>= (λ x. with_lines x (suc number) later) ≡ Ok file → file.version ≡ cond (are_second (word ∷ words)) 2 1
by_fault number later word words form None file f e s k =
    lines_past (with_form opening form) (suc number) later file (first_past later word words form e s) k
    ∙ first_version later word words form (are_second (word ∷ words)) refl f e s
by_fault number later word words form (Some kind) file f e s k = absurd cc

by_form : (number : ℕ) (later : List (List ℕ)) (word : List ℕ) (words : List (List ℕ)) (form : Option Form) (file : File) → form_of 1 word words ≡ form → Where (Says word words) form
    → with_line_of opening number later form >>= (λ x. with_lines x (suc number) later) ≡ Ok file → file.version ≡ cond (are_second (word ∷ words)) 2 1
by_form number later word words None file f s k = absurd cc
by_form number later word words (Some form) file f s k = by_fault number later word words form (fault_of opening later form) file f refl s k

by_words : (number : ℕ) (later words : List (List ℕ)) (file : File) (allowed : Bool) → (with_lines opening (suc number) later ≡ Ok file → file.version ≡ cond (are_second (first_words later)) 2 1)
    → cond allowed (with_words opening number later words) (fault number BadByte) >>= (λ x. with_lines x (suc number) later) ≡ Ok file
    → file.version ≡ cond (are_second (cond (is_empty words) (first_words later) words)) 2 1
by_words number later words file false rest k = absurd cc
by_words number later [] file true rest k = rest k
by_words number later (word ∷ words) file true rest k = by_form number later word words (form_of 1 word words) file refl (form_said 1 word words) k

lines_version : (number : ℕ) (lines : List (List ℕ)) (file : File) → with_lines opening number lines ≡ Ok file → file.version ≡ cond (are_second (first_words lines)) 2 1
lines_version number [] file k = whole_version opening number None file k
lines_version number (line ∷ lines) file k = by_words number lines (words_of line) file (list_all is_allowed line) (λ r. lines_version (suc number) lines file r) k

by_size : (large : Bool) (bytes : List ℕ) (file : File) → cond large (fault 0 TooLarge) (with_lines opening 1 (lines_of bytes)) ≡ Ok file → file.version ≡ version_of bytes
by_size true bytes file k = absurd cc
by_size false bytes file k = lines_version 1 (lines_of bytes) file k

-- a file that bytes are has the version of the bytes
pub file_version : (bytes : List ℕ) (file : File) → file_of bytes ≡ Ok file → file.version ≡ version_of bytes
file_version bytes file k = by_size (nat_lt 1048576 (length bytes)) bytes file k

pub read_version : (bytes : List ℕ) (result : Result code.File ReadError) → Gives seen result (file_of bytes) → IfOk result (λ f. f.version ≡ version_of bytes)
read_version bytes (Ok f) h = file_version bytes (seen f) h
read_version bytes (Err e) h = tt
