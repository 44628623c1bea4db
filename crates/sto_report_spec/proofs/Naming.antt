-- A report names the order that it replays.
use Rattle.std.proofs.Common.{◌≡◌, ℕ, ◌<◌, ◌≤◌, ◌^◌, List, [], ◌∷◌, ◌++◌, refl, sym, ap, ◌∙◌, subst, Bool, true, false, cond, ◌&&◌, nat_lt, length, arith, decimal, append_assoc, append-nil, codes, map, Option, Some}
use Rattle.std.specs.List.{slice_split, flat_map}
use Rattle.std.specs.Str.{IsAscii}
use Rattle.std.specs.Str.Parse.{digits_value}
use Rattle.std.proofs.lemmas.Str.{IsAscii-append}
use Rattle.std.proofs.lemmas.Str.Ascii.{IsAscii-nil, IsAscii-cons}
use Rattle.std.proofs.lemmas.Fmt.{decimal_is_IsNumeral}
use Rattle.std.proofs.lemmas.Bool.Decides.{nat_tests}
use Rattle.sto_model.specs.Run.{State}
use Rattle.sto_syntax.specs.Words.{is_name}
use Rattle.sto_lang.specs.Objects.{Declaration, HaveNames}
use Rattle.sto_report_spec.specs.EndingTexts.{ending_text}
use Rattle.sto_report_spec.specs.Orders.{TransactionPlace}
use Rattle.sto_report_spec.specs.Replay.{Entry}
use Rattle.sto_report_spec.specs.Report.{name_at, spaced_reply, line_text, rows_text, rows_of, object_text}
use Rattle.sto_report_spec.specs.Named.{is_line_feed, is_space, is_dot, is_digit, place_in, place_of_pieces, named_in, places_in, order_named, AreNames, IsNamable}
use Rattle.sto_report_spec.specs.Short.{IsShortEntry, AreShortEntries}
use Rattle.sto_report_spec.proofs.Splits.{Lacks, lacks_append, split_at, split_none}
use Rattle.sto_report_spec.proofs.Digits.{IsDigits, decimal_digits, Parts, decimal_parts}
use Rattle.sto_report_spec.proofs.Printable.{IsPrintable, printable_append, printable_decimal, printable_replies, printable_ending, printable_rows, printable_lacks_feed, printable_ascii}
use Rattle.sto_report_spec.proofs.Names.{name_no_digit, name_printable, name_lacks_space, name_lacks_dot, HasName, has_name}

-- the name of the place's thread is found at it, and its position is a machine word
pub record HasWord (names : List (List ℕ)) (place : TransactionPlace) : Type 0 where
  pub thread : HasName names place.0
  pub position : place.1 < 2 ^ 64

pub has_word : (names : List (List ℕ)) (place : TransactionPlace) → AreNames names → IsNamable names place → HasWord names place
has_word names place h small = record { thread = has_name names place.0 h small.thread; position = small.position }

-- digits are no spaces and no dots
digit_no_space : (c : ℕ) → 48 ≤ c → c ≤ 57 → is_space c ≡ false
digit_no_space c l u = grind (arith, nat_tests)

digit_no_dot : (c : ℕ) → 48 ≤ c → c ≤ 57 → is_dot c ≡ false
digit_no_dot c l u = grind (arith, nat_tests)

digit_is : (c : ℕ) → 48 ≤ c → c ≤ 57 → is_digit c ≡ true
digit_is c l u = grind (arith, nat_tests)

lacks_digits : (p : ℕ → Bool) → ((c : ℕ) → 48 ≤ c → c ≤ 57 → p c ≡ false) → (ds : List ℕ) → IsDigits ds → Lacks p ds
lacks_digits p h [] a = tt
lacks_digits p h (c ∷ cs) a = (h c a.0.0 a.0.1, lacks_digits p h cs a.1)

pub lacks_space : (n : ℕ) → Lacks is_space (decimal n)
lacks_space n = lacks_digits is_space digit_no_space (decimal n) (decimal_digits n)

lacks_dot : (n : ℕ) → Lacks is_dot (decimal n)
lacks_dot n = lacks_digits is_dot digit_no_dot (decimal n) (decimal_digits n)

value_of_decimal : (n : ℕ) → n < 2 ^ 64 → digits_value 10 (decimal n) ≡ n
value_of_decimal n small = (decimal_is_IsNumeral n small).1

-- `NAME.J`
abbrev pub word_of : List (List ℕ) → TransactionPlace → List ℕ
word_of names place = name_at names place.0 ++ 46 ∷ decimal place.1

pub word_names : (names : List (List ℕ)) (place : TransactionPlace) → HasWord names place → place_of_pieces names (slice_split is_dot (word_of names place)) ≡ place ∷ []
word_names names place h =
    ap (place_of_pieces names) (split_at is_dot (name_at names place.0) 46 (decimal place.1) (name_lacks_dot (name_at names place.0) h.thread.word) refl)
    ∙ ap (λ (ps : List (List ℕ)). place_of_pieces names (name_at names place.0 ∷ ps)) (split_none is_dot (decimal place.1) (lacks_dot place.1))
    ∙ ap (λ (t : Option ℕ). place_in t (decimal place.1)) h.thread.found
    ∙ ap (λ (n : ℕ). let p : TransactionPlace = (place.0, n) in p ∷ []) (value_of_decimal place.1 h.position)

pub word_lacks_space : (names : List (List ℕ)) (place : TransactionPlace) → HasWord names place → Lacks is_space (word_of names place)
word_lacks_space names place h = lacks_append is_space (name_at names place.0) (46 ∷ decimal place.1) (name_lacks_space (name_at names place.0) h.thread.word) (refl, lacks_space place.1)

-- a line by its number, its place and what follows
abbrev pub line_of : List (List ℕ) → ℕ → TransactionPlace → List ℕ → List ℕ
line_of names writers place more = decimal writers ++ 32 ∷ (word_of names place ++ 32 ∷ more)

module _ (names : List (List ℕ)) where
  -- whatever stands before a line's second word, if its first begins with a digit
  first_word : (k : List ℕ) → IsDigits k → Parts k → (place : TransactionPlace) (words : List (List ℕ)) → HasWord names place → named_in names (k ∷ word_of names place ∷ words) ≡ place ∷ []
  first_word [] digits parts place words h = absurd (nothing parts.0 parts.1 parts.2)
    where
      nothing : (first : ℕ) (others : List ℕ) → [] ≡ first ∷ others → ⊥
      nothing first others e = cc
  first_word (c ∷ cs) digits parts place words h =
      ap (λ (b : Bool). cond b (place_of_pieces names (slice_split is_dot (word_of names place))) []) (digit_is c digits.0.0 digits.0.1) ∙ word_names names place h

  line_names : (writers : ℕ) (place : TransactionPlace) (more : List ℕ) → HasWord names place → named_in names (slice_split is_space (line_of names writers place more)) ≡ place ∷ []
  line_names writers place more h =
      ap (named_in names) (split_at is_space (decimal writers) 32 (word_of names place ++ 32 ∷ more) (lacks_space writers) refl)
      ∙ ap (λ (ws : List (List ℕ)). named_in names (decimal writers ∷ ws)) (split_at is_space (word_of names place) 32 more (word_lacks_space names place h) refl)
      ∙ first_word (decimal writers) (decimal_digits writers) (decimal_parts writers) place (slice_split is_space more) h

  pub printable_word : (place : TransactionPlace) → HasWord names place → IsPrintable (word_of names place)
  printable_word place h = printable_append (name_at names place.0) (46 ∷ decimal place.1) (name_printable (name_at names place.0) h.thread.word) (refl, printable_decimal place.1)

  pub printable_line : (writers : ℕ) (place : TransactionPlace) (more : List ℕ) → HasWord names place → IsPrintable more → IsPrintable (line_of names writers place more)
  printable_line writers place more word h =
      printable_append (decimal writers) (32 ∷ (word_of names place ++ 32 ∷ more)) (printable_decimal writers)
      (refl, printable_append (word_of names place) (32 ∷ more) (printable_word place word) (refl, h))

-- the text of an entry, and what follows it
line_split : (k name j end told rest : List ℕ)
    → (k ++ (32 ∷ (name ++ (46 ∷ (j ++ (32 ∷ (end ++ (told ++ 10 ∷ [])))))))) ++ rest ≡ (k ++ 32 ∷ ((name ++ 46 ∷ j) ++ 32 ∷ (end ++ told))) ++ 10 ∷ rest
line_split k name j end told rest = simp append_assoc

-- what an entry tells behind its place
abbrev pub entry_tail : Entry → List ℕ
entry_tail e = ending_text e.ending ++ flat_map spaced_reply e.replies

pub printable_tail : (e : Entry) → IsPrintable (entry_tail e)
printable_tail e = printable_append (ending_text e.ending) (flat_map spaced_reply e.replies) (printable_ending e.ending) (printable_replies e.replies)

pub line_is : (names : List (List ℕ)) (e : Entry) (rest : List ℕ) → line_text names e ++ rest ≡ line_of names e.writers e.place (entry_tail e) ++ 10 ∷ rest
line_is names e rest = line_split (decimal e.writers) (name_at names e.place.0) (decimal e.place.1) (ending_text e.ending) (flat_map spaced_reply e.replies) rest

module _ (names : List (List ℕ)) (known : AreNames names) where
  -- a journal line names its place
  entry_names : (e : Entry) (rest : List ℕ) → IsShortEntry names e → order_named names (line_text names e ++ rest) ≡ e.place ∷ order_named names rest
  entry_names e rest small =
      let h = has_word names e.place known small.place in
      ap (order_named names) (line_is names e rest)
      ∙ ap (places_in names)
      (split_at is_line_feed (line_of names e.writers e.place (entry_tail e)) 10 rest
      (printable_lacks_feed (line_of names e.writers e.place (entry_tail e)) (printable_line names e.writers e.place (entry_tail e) h (printable_tail e))) refl)
      ∙ ap (λ (ps : List TransactionPlace). ps ++ order_named names rest) (line_names names e.writers e.place (entry_tail e) h)

  pub journal_names : (entries : List Entry) (rest : List ℕ) → AreShortEntries names entries
      → order_named names (flat_map (line_text names) entries ++ rest) ≡ map (λ e. e.place) entries ++ order_named names rest
  journal_names [] rest h = refl
  journal_names (e ∷ entries) rest h =
      ap (order_named names) (append_assoc (line_text names e) (flat_map (line_text names) entries) rest)
      ∙ entry_names e (flat_map (line_text names) entries ++ rest) h.0
      ∙ ap (λ (ps : List TransactionPlace). e.place ∷ ps) (journal_names entries rest h.1)

-- Lines of objects.

module _ (names : List (List ℕ)) where
  -- a line that begins with a name names no place
  name_first : (name : List ℕ) (word : List ℕ) (words : List (List ℕ)) → is_name name ≡ true → named_in names (name ∷ word ∷ words) ≡ []
  name_first [] word words e = refl
  name_first (c ∷ cs) word words e = ap (λ (b : Bool). cond b (place_of_pieces names (slice_split is_dot word)) []) (name_no_digit c cs e)

  alone : (name : List ℕ) → named_in names (name ∷ []) ≡ []
  alone [] = refl
  alone (c ∷ cs) = refl

  two_words : (name : List ℕ) (pieces : List (List ℕ)) → is_name name ≡ true → named_in names (name ∷ pieces) ≡ []
  two_words name [] e = alone name
  two_words name (word ∷ words) e = name_first name word words e

-- the line of an object without its line feed
abbrev pub object_line : State → Declaration → List ℕ
object_line state d = d.name ++ 32 ∷ 61 ∷ 32 ∷ rows_text d.shape (rows_of state d.number)

pub object_is : (name rows rest : List ℕ) → (name ++ (32 ∷ 61 ∷ 32 ∷ (rows ++ 10 ∷ []))) ++ rest ≡ (name ++ 32 ∷ 61 ∷ 32 ∷ rows) ++ 10 ∷ rest
object_is name rows rest = simp append_assoc

pub printable_object : (state : State) (d : Declaration) → is_name d.name ≡ true → IsPrintable (object_line state d)
printable_object state d e = printable_append d.name (32 ∷ 61 ∷ 32 ∷ rows_text d.shape (rows_of state d.number)) (name_printable d.name e) (refl, (refl, (refl, printable_rows d.shape (rows_of state d.number))))

module _ (names : List (List ℕ)) where
  object_names : (state : State) (d : Declaration) (rest : List ℕ) → is_name d.name ≡ true → order_named names (object_text state d ++ rest) ≡ order_named names rest
  object_names state d rest e =
      let rows : List ℕ = rows_text d.shape (rows_of state d.number) in
      ap (order_named names) (object_is d.name rows rest)
      ∙ ap (places_in names) (split_at is_line_feed (object_line state d) 10 rest (printable_lacks_feed (object_line state d) (printable_object state d e)) refl)
      ∙ ap (λ (ps : List TransactionPlace). ps ++ order_named names rest)
      (ap (named_in names) (split_at is_space d.name 32 (61 ∷ 32 ∷ rows) (name_lacks_space d.name e) refl) ∙ two_words names d.name (slice_split is_space (61 ∷ 32 ∷ rows)) e)

  pub objects_name : (state : State) (ds : List Declaration) → HaveNames ds → order_named names (flat_map (object_text state) ds) ≡ []
  objects_name state [] h = refl
  objects_name state (d ∷ ds) h = object_names state d (flat_map (object_text state) ds) h.0 ∙ objects_name state ds h.1

  pub state_names : (rest : List ℕ) → order_named names (codes "state\n" ++ rest) ≡ order_named names rest
  state_names rest = ap (places_in names) (split_at is_line_feed (codes "state") 10 rest (refl, (refl, (refl, (refl, (refl, tt))))) refl)

-- Lines are ASCII.

pub line_ascii : (line : List ℕ) → IsPrintable line → IsAscii (line ++ 10 ∷ [])
line_ascii line h = IsAscii-append line (10 ∷ []) (printable_ascii line h) (IsAscii-cons 10 [] (omega arith) IsAscii-nil)

module _ (names : List (List ℕ)) (known : AreNames names) where
  entry_ascii : (e : Entry) → IsShortEntry names e → IsAscii (line_text names e)
  entry_ascii e small =
      subst IsAscii (sym (line_is names e []) ∙ append-nil (line_text names e))
      (line_ascii (line_of names e.writers e.place (entry_tail e)) (printable_line names e.writers e.place (entry_tail e) (has_word names e.place known small.place) (printable_tail e)))

  pub entries_ascii : (entries : List Entry) → AreShortEntries names entries → IsAscii (flat_map (line_text names) entries)
  entries_ascii [] h = IsAscii-nil
  entries_ascii (e ∷ entries) h = IsAscii-append (line_text names e) (flat_map (line_text names) entries) (entry_ascii e h.0) (entries_ascii entries h.1)

object_ascii : (state : State) (d : Declaration) → is_name d.name ≡ true → IsAscii (object_text state d)
object_ascii state d e =
    subst IsAscii (sym (object_is d.name (rows_text d.shape (rows_of state d.number)) []) ∙ append-nil (object_text state d))
    (line_ascii (object_line state d) (printable_object state d e))

pub objects_ascii : (state : State) (ds : List Declaration) → HaveNames ds → IsAscii (flat_map (object_text state) ds)
objects_ascii state [] h = IsAscii-nil
objects_ascii state (d ∷ ds) h = IsAscii-append (object_text state d) (flat_map (object_text state) ds) (object_ascii state d h.0) (objects_ascii state ds h.1)

pub state_ascii : IsAscii (codes "state\n")
state_ascii = line_ascii (codes "state") (refl, (refl, (refl, (refl, (refl, tt)))))
