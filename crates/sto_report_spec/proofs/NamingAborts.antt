-- An abort line names its abort and no place of the order, and no other line names an abort.
use Rattle.std.proofs.Common.{◌≡◌, ℕ, ◌≤◌, ◌<◌, ◌^◌, List, [], ◌∷◌, ◌++◌, map, refl, sym, ap, ◌∙◌, subst, Bool, true, false, cond, ◌&&◌, nat_eq, arith, decimal, append_assoc, append-nil, codes, Option, Some}
use Rattle.std.specs.List.{slice_split, flat_map}
use Rattle.std.specs.Str.{bytes_eq, IsAscii}
use Rattle.std.specs.Str.Parse.{digits_value}
use Rattle.std.proofs.lemmas.Str.{IsAscii-append}
use Rattle.std.proofs.lemmas.Str.Ascii.{IsAscii-nil}
use Rattle.std.proofs.lemmas.Bool.Decides.{nat_tests}
use Rattle.sto_model.specs.Run.{State}
use Rattle.sto_syntax.specs.Words.{is_name}
use Rattle.sto_lang.specs.Objects.{Declaration, HaveNames}
use Rattle.sto_report_spec.specs.Orders.{TransactionPlace}
use Rattle.sto_report_spec.specs.Aborts.{LocalPart, Cause, Locked, Changed, Abort}
use Rattle.sto_report_spec.specs.Replay.{Entry}
use Rattle.sto_report_spec.specs.Report.{name_at, reply_text, spaced_reply, part_text, cause_text, line_text, abort_text, rows_text, rows_of, object_text}
use Rattle.sto_report_spec.specs.Named.{is_line_feed, is_space, is_dot, place_of_pieces, named_in, places_in, order_named, AreNames}
use Rattle.sto_report_spec.specs.NamedAborts.{Heard, heard_in, abort_by, aborts_in, aborts_among, aborts_named}
use Rattle.sto_report_spec.specs.Short.{IsShortCause, IsShortAbort, AreShortAborts, IsShortEntry, AreShortEntries}
use Rattle.sto_report_spec.proofs.Splits.{split_at, split_none}
use Rattle.sto_report_spec.proofs.Digits.{IsDigits, decimal_digits, Parts, decimal_parts}
use Rattle.sto_report_spec.proofs.Printable.{IsPrintable, printable_append, printable_decimal, printable_replies, printable_lacks_feed}
use Rattle.sto_report_spec.proofs.Names.{name_printable, name_lacks_space}
use Rattle.sto_report_spec.proofs.Naming.{lacks_space, HasWord, has_word, word_of, word_names, word_lacks_space, printable_word, line_of, printable_line, line_is, entry_tail, printable_tail, line_ascii, object_line, object_is, printable_object}
use Rattle.sto_report_spec.proofs.NamingReplies.{value_of, replies_heard, words_split}

-- Lines that name no abort.

-- a word that begins with a digit is not the first of an abort line
digit_is_not_a : (c : ℕ) → 48 ≤ c → c ≤ 57 → nat_eq c 97 ≡ false
digit_is_not_a c l u = grind (arith, nat_tests)

number_is_not : (c : ℕ) (cs : List ℕ) → 48 ≤ c → c ≤ 57 → bytes_eq (c ∷ cs) (codes "abort") ≡ false
number_is_not c cs l u = ap (λ (b : Bool). b && bytes_eq cs (codes "bort")) (digit_is_not_a c l u)

module _ (names : List (List ℕ)) where
  after_number : (k : List ℕ) → IsDigits k → Parts k → (words : List (List ℕ)) → aborts_in names (k ∷ words) ≡ []
  after_number [] digits parts words = absurd (nothing parts.0 parts.1 parts.2)
    where
      nothing : (first : ℕ) (others : List ℕ) → [] ≡ first ∷ others → ⊥
      nothing first others e = cc
  after_number (c ∷ cs) digits parts [] = refl
  after_number (c ∷ cs) digits parts (place ∷ []) = refl
  after_number (c ∷ cs) digits parts (place ∷ at ∷ []) = refl
  after_number (c ∷ cs) digits parts (place ∷ at ∷ seen ∷ []) = refl
  after_number (c ∷ cs) digits parts (place ∷ at ∷ seen ∷ saw ∷ words) =
      ap (λ (b : Bool). cond b (abort_by (place_of_pieces names (slice_split is_dot place)) (digits_value 10 seen) (heard_in words)) []) (number_is_not c cs digits.0.0 digits.0.1)

  line_names_none : (writers : ℕ) (place : TransactionPlace) (more : List ℕ) → aborts_in names (slice_split is_space (line_of names writers place more)) ≡ []
  line_names_none writers place more =
      ap (aborts_in names) (split_at is_space (decimal writers) 32 (word_of names place ++ 32 ∷ more) (lacks_space writers) refl)
      ∙ after_number (decimal writers) (decimal_digits writers) (decimal_parts writers) (slice_split is_space (word_of names place ++ 32 ∷ more))

  module _ (known : AreNames names) where
    -- a journal line names no aborted attempt
    entry_names_none : (e : Entry) (rest : List ℕ) → IsShortEntry names e → aborts_named names (line_text names e ++ rest) ≡ aborts_named names rest
    entry_names_none e rest small =
        ap (aborts_named names) (line_is names e rest)
        ∙ ap (aborts_among names)
        (split_at is_line_feed (line_of names e.writers e.place (entry_tail e)) 10 rest
        (printable_lacks_feed (line_of names e.writers e.place (entry_tail e)) (printable_line names e.writers e.place (entry_tail e) (has_word names e.place known small.place) (printable_tail e))) refl)
        ∙ ap (λ (named : List Abort). named ++ aborts_named names rest) (line_names_none e.writers e.place (entry_tail e))

    pub journal_names_none : (entries : List Entry) (rest : List ℕ) → AreShortEntries names entries → aborts_named names (flat_map (line_text names) entries ++ rest) ≡ aborts_named names rest
    journal_names_none [] rest h = refl
    journal_names_none (e ∷ entries) rest h =
        ap (aborts_named names) (append_assoc (line_text names e) (flat_map (line_text names) entries) rest)
        ∙ entry_names_none e (flat_map (line_text names) entries ++ rest) h.0
        ∙ journal_names_none entries rest h.1

-- the line of an object has no place in its second word
neither : (b : Bool) → (let none : List Abort = [] in cond b none none ≡ none)
neither true = refl
neither false = refl

module _ (names : List (List ℕ)) where
  after_name : (name : List ℕ) (words : List (List ℕ)) → aborts_in names (name ∷ (61 ∷ []) ∷ words) ≡ []
  after_name name [] = refl
  after_name name (at ∷ []) = refl
  after_name name (at ∷ seen ∷ []) = refl
  after_name name (at ∷ seen ∷ saw ∷ words) = neither (bytes_eq name (codes "abort"))

  object_names_none : (state : State) (d : Declaration) (rest : List ℕ) → is_name d.name ≡ true → aborts_named names (object_text state d ++ rest) ≡ aborts_named names rest
  object_names_none state d rest e =
      let rows : List ℕ = rows_text d.shape (rows_of state d.number) in
      ap (aborts_named names) (object_is d.name rows rest)
      ∙ ap (aborts_among names) (split_at is_line_feed (object_line state d) 10 rest (printable_lacks_feed (object_line state d) (printable_object state d e)) refl)
      ∙ ap (λ (named : List Abort). named ++ aborts_named names rest)
      (ap (aborts_in names) (split_at is_space d.name 32 (61 ∷ 32 ∷ rows) (name_lacks_space d.name e) refl) ∙ after_name d.name (slice_split is_space rows))

  pub objects_name_none : (state : State) (ds : List Declaration) → HaveNames ds → aborts_named names (flat_map (object_text state) ds) ≡ []
  objects_name_none state [] h = refl
  objects_name_none state (d ∷ ds) h = object_names_none state d (flat_map (object_text state) ds) h.0 ∙ objects_name_none state ds h.1

  pub state_names_none : (rest : List ℕ) → aborts_named names (codes "state\n" ++ rest) ≡ aborts_named names rest
  state_names_none rest = ap (aborts_among names) (split_at is_line_feed (codes "state") 10 rest (refl, (refl, (refl, (refl, (refl, tt))))) refl)

-- Causes.

cause_read : (c : Cause) → IsShortCause c → heard_in (slice_split is_space (cause_text c)) ≡ Some (record { replies = []; cause = c })
cause_read (Locked part) h =
    ap heard_in (
    split_at is_space (codes "locked") 32 (part.object ++ 32 ∷ decimal part.part) (refl, (refl, (refl, (refl, (refl, (refl, tt)))))) refl
    ∙ ap (λ (ws : List (List ℕ)). codes "locked" ∷ ws)
    (split_at is_space part.object 32 (decimal part.part) (name_lacks_space part.object h.0) refl
    ∙ ap (λ (ws : List (List ℕ)). part.object ∷ ws) (split_none is_space (decimal part.part) (lacks_space part.part)))
    )
    ∙ ap (λ (n : ℕ). Some (heard_locked part.object n)) (value_of part.part h.1)
  where
    heard_locked : List ℕ → ℕ → Heard
    heard_locked name n = record { replies = []; cause = Locked (record { object = name; part = n }) }
cause_read (Changed part by) h =
    ap heard_in (
    ap (λ (l : List ℕ). slice_split is_space (codes "changed" ++ 32 ∷ l)) (append_assoc part.object (codes " " ++ decimal part.part) (codes " by " ++ decimal by))
    ∙ split_at is_space (codes "changed") 32 (part.object ++ 32 ∷ (decimal part.part ++ 32 ∷ (codes "by" ++ 32 ∷ decimal by))) (refl, (refl, (refl, (refl, (refl, (refl, (refl, tt))))))) refl
    ∙ ap (λ (ws : List (List ℕ)). codes "changed" ∷ ws)
    (split_at is_space part.object 32 (decimal part.part ++ 32 ∷ (codes "by" ++ 32 ∷ decimal by)) (name_lacks_space part.object h.0) refl
    ∙ ap (λ (ws : List (List ℕ)). part.object ∷ ws)
    (split_at is_space (decimal part.part) 32 (codes "by" ++ 32 ∷ decimal by) (lacks_space part.part) refl
    ∙ ap (λ (ws : List (List ℕ)). decimal part.part ∷ ws)
    (split_at is_space (codes "by") 32 (decimal by) (refl, (refl, tt)) refl
    ∙ ap (λ (ws : List (List ℕ)). codes "by" ∷ ws) (split_none is_space (decimal by) (lacks_space by)))))
    )
    ∙ ap (λ (n : ℕ). Some (heard_changed part.object n (digits_value 10 (decimal by)))) (value_of part.part h.1)
    ∙ ap (λ (n : ℕ). Some (heard_changed part.object part.part n)) (value_of by h.2)
  where
    heard_changed : List ℕ → ℕ → ℕ → Heard
    heard_changed name n by' = record { replies = []; cause = Changed (record { object = name; part = n }) by' }

-- the line of an abort without its line feed
abbrev abort_line : List (List ℕ) → Abort → List ℕ
abort_line names a =
    codes "abort" ++ 32 ∷ (word_of names a.place ++ 32 ∷ (codes "at" ++ 32 ∷ (decimal a.seen ++ 32 ∷ (codes "saw" ++ (flat_map spaced_reply a.replies ++ 32 ∷ cause_text a.cause)))))

line_split : (name j k told cause rest : List ℕ)
    → (97 ∷ 98 ∷ 111 ∷ 114 ∷ 116 ∷ 32 ∷ (name ++ (46 ∷ (j ++ (32 ∷ 97 ∷ 116 ∷ 32 ∷ (k ++ (32 ∷ 115 ∷ 97 ∷ 119 ∷ (told ++ (32 ∷ (cause ++ 10 ∷ [])))))))))) ++ rest
    ≡ (97 ∷ 98 ∷ 111 ∷ 114 ∷ 116 ∷ 32 ∷ ((name ++ 46 ∷ j) ++ 32 ∷ 97 ∷ 116 ∷ 32 ∷ (k ++ 32 ∷ 115 ∷ 97 ∷ 119 ∷ (told ++ 32 ∷ cause)))) ++ 10 ∷ rest
line_split name j k told cause rest = simp append_assoc

abort_is : (names : List (List ℕ)) (a : Abort) (rest : List ℕ) → abort_text names a ++ rest ≡ abort_line names a ++ 10 ∷ rest
abort_is names a rest = line_split (name_at names a.place.0) (decimal a.place.1) (decimal a.seen) (flat_map spaced_reply a.replies) (cause_text a.cause) rest

printable_part : (part : LocalPart) → is_name part.object ≡ true → IsPrintable (part_text part)
printable_part part h = printable_append part.object (codes " " ++ decimal part.part) (name_printable part.object h) (refl, printable_decimal part.part)

printable_cause : (c : Cause) → IsShortCause c → IsPrintable (cause_text c)
printable_cause (Locked part) h = (refl, (refl, (refl, (refl, (refl, (refl, (refl, printable_part part h.0)))))))
printable_cause (Changed part by) h = (
  refl,
  (
    refl,
    (
      refl,
      (
        refl,
        (
          refl,
          (
            refl,
            (refl, (refl, printable_append (part_text part) (codes " by " ++ decimal by) (printable_part part h.0) (refl, (refl, (refl, (refl, printable_decimal by)))))),
          ),
        ),
      ),
    ),
  ),
)

module _ (names : List (List ℕ)) where
  printable_abort : (a : Abort) → HasWord names a.place → IsShortAbort names a → IsPrintable (abort_line names a)
  printable_abort a word h =
      printable_append (codes "abort") (32 ∷ (word_of names a.place ++ 32 ∷ (codes "at" ++ 32 ∷ (decimal a.seen ++ 32 ∷ (codes "saw" ++ (flat_map spaced_reply a.replies ++ 32 ∷ cause_text a.cause))))))
      (refl, (refl, (refl, (refl, (refl, tt))))) (
        refl,
        printable_append (word_of names a.place) (32 ∷ (codes "at" ++ 32 ∷ (decimal a.seen ++ 32 ∷ (codes "saw" ++ (flat_map spaced_reply a.replies ++ 32 ∷ cause_text a.cause))))) (printable_word names a.place word) (
          refl,
          (
            refl,
            (
              refl,
              (
                refl,
                printable_append (decimal a.seen) (32 ∷ (codes "saw" ++ (flat_map spaced_reply a.replies ++ 32 ∷ cause_text a.cause))) (printable_decimal a.seen) (
                  refl,
                  (refl, (refl, (refl, printable_append (flat_map spaced_reply a.replies) (32 ∷ cause_text a.cause) (printable_replies a.replies) (refl, printable_cause a.cause h.cause)))),
                ),
              ),
            ),
          ),
        ),
      )

  -- the words of an abort line
  words_are : (a : Abort) → HasWord names a.place → slice_split is_space (abort_line names a)
      ≡ codes "abort" ∷ word_of names a.place ∷ codes "at" ∷ decimal a.seen ∷ codes "saw" ∷ (map reply_text a.replies ++ slice_split is_space (cause_text a.cause))
  words_are a word =
      split_at is_space (codes "abort") 32 (word_of names a.place ++ 32 ∷ (codes "at" ++ 32 ∷ (decimal a.seen ++ 32 ∷ (codes "saw" ++ (flat_map spaced_reply a.replies ++ 32 ∷ cause_text a.cause)))))
      (refl, (refl, (refl, (refl, (refl, tt))))) refl
      ∙ ap (λ (ws : List (List ℕ)). codes "abort" ∷ ws)
      (split_at is_space (word_of names a.place) 32 (codes "at" ++ 32 ∷ (decimal a.seen ++ 32 ∷ (codes "saw" ++ (flat_map spaced_reply a.replies ++ 32 ∷ cause_text a.cause)))) (word_lacks_space names a.place word) refl
      ∙ ap (λ (ws : List (List ℕ)). word_of names a.place ∷ ws)
      (split_at is_space (codes "at") 32 (decimal a.seen ++ 32 ∷ (codes "saw" ++ (flat_map spaced_reply a.replies ++ 32 ∷ cause_text a.cause))) (refl, (refl, tt)) refl
      ∙ ap (λ (ws : List (List ℕ)). codes "at" ∷ ws)
      (split_at is_space (decimal a.seen) 32 (codes "saw" ++ (flat_map spaced_reply a.replies ++ 32 ∷ cause_text a.cause)) (lacks_space a.seen) refl
      ∙ ap (λ (ws : List (List ℕ)). decimal a.seen ∷ ws) (words_split (codes "saw") a.replies (cause_text a.cause) (refl, (refl, (refl, tt)))))))

  line_names_abort : (a : Abort) → HasWord names a.place → IsShortAbort names a → aborts_in names (slice_split is_space (abort_line names a)) ≡ a ∷ []
  line_names_abort a word h =
      ap (aborts_in names) (words_are a word)
      ∙ ap (λ (ps : List TransactionPlace). abort_by ps (digits_value 10 (decimal a.seen)) (heard_in (map reply_text a.replies ++ slice_split is_space (cause_text a.cause)))) (word_names names a.place word)
      ∙ ap (λ (x : Option Heard). abort_by (a.place ∷ []) (digits_value 10 (decimal a.seen)) x)
      (replies_heard a.replies (slice_split is_space (cause_text a.cause)) a.cause h.replies (cause_read a.cause h.cause))
      ∙ ap (λ (n : ℕ). let x : Abort = record { place = a.place; seen = n; replies = a.replies; cause = a.cause } in x ∷ []) (value_of a.seen h.seen)

  module _ (known : AreNames names) where
    word : (a : Abort) → IsShortAbort names a → HasWord names a.place
    word a h = has_word names a.place known h.place

    -- an abort line names its abort, and no place of the order
    abort_names : (a : Abort) (rest : List ℕ) → IsShortAbort names a → aborts_named names (abort_text names a ++ rest) ≡ a ∷ aborts_named names rest
    abort_names a rest h =
        ap (aborts_named names) (abort_is names a rest)
        ∙ ap (aborts_among names) (split_at is_line_feed (abort_line names a) 10 rest (printable_lacks_feed (abort_line names a) (printable_abort a (word a h) h)) refl)
        ∙ ap (λ (named : List Abort). named ++ aborts_named names rest) (line_names_abort a (word a h) h)

    abort_no_place : (a : Abort) (rest : List ℕ) → IsShortAbort names a → order_named names (abort_text names a ++ rest) ≡ order_named names rest
    abort_no_place a rest h =
        ap (order_named names) (abort_is names a rest)
        ∙ ap (places_in names) (split_at is_line_feed (abort_line names a) 10 rest (printable_lacks_feed (abort_line names a) (printable_abort a (word a h) h)) refl)
        ∙ ap (λ (ws : List (List ℕ)). named_in names ws ++ order_named names rest) (words_are a (word a h))

    pub aborts_name : (aborts : List Abort) (rest : List ℕ) → AreShortAborts names aborts → aborts_named names (flat_map (abort_text names) aborts ++ rest) ≡ aborts ++ aborts_named names rest
    aborts_name [] rest h = refl
    aborts_name (a ∷ aborts) rest h =
        ap (aborts_named names) (append_assoc (abort_text names a) (flat_map (abort_text names) aborts) rest)
        ∙ abort_names a (flat_map (abort_text names) aborts ++ rest) h.0
        ∙ ap (λ (named : List Abort). a ∷ named) (aborts_name aborts rest h.1)

    pub aborts_no_place : (aborts : List Abort) (rest : List ℕ) → AreShortAborts names aborts → order_named names (flat_map (abort_text names) aborts ++ rest) ≡ order_named names rest
    aborts_no_place [] rest h = refl
    aborts_no_place (a ∷ aborts) rest h =
        ap (order_named names) (append_assoc (abort_text names a) (flat_map (abort_text names) aborts) rest)
        ∙ abort_no_place a (flat_map (abort_text names) aborts ++ rest) h.0
        ∙ aborts_no_place aborts rest h.1

    abort_ascii : (a : Abort) → IsShortAbort names a → IsAscii (abort_text names a)
    abort_ascii a h = subst IsAscii (sym (abort_is names a []) ∙ append-nil (abort_text names a)) (line_ascii (abort_line names a) (printable_abort a (word a h) h))

    pub aborts_ascii : (aborts : List Abort) → AreShortAborts names aborts → IsAscii (flat_map (abort_text names) aborts)
    aborts_ascii [] h = IsAscii-nil
    aborts_ascii (a ∷ aborts) h = IsAscii-append (abort_text names a) (flat_map (abort_text names) aborts) (abort_ascii a h.0) (aborts_ascii aborts h.1)
