-- A JSON report is printable text and a line feed.
use Rattle.std.proofs.Common.{◌≡◌, ℕ, suc, ◌≤◌, ◌<◌, pos, negsuc, List, [], ◌∷◌, ◌++◌, map, refl, sym, ap, ◌∙◌, subst, Bool, true, false, cond, ◌==◌, ◌&&◌, length, arith, decimal, codes}
use Rattle.std.specs.List.{flat_map, list_all}
use Rattle.std.specs.Str.{IsAscii}
use Rattle.std.proofs.lemmas.Bool.Decides.{nat_tests}
use Rattle.json.specs.Print.{escape, escape_byte, quoted, token_text}
use Rattle.json.specs.Token as token
use Rattle.json.proofs.Printed.Strings.{escape_byte_plain}
use Rattle.serde_json.specs.Data.{Num, unsigned, negative, float, Data, null, boolean, number, string, array, object, Items, no_items, item, Members, no_members, member}
use Rattle.serde_json.specs.View.{items_of}
use Rattle.serde_json.specs.Written.{number_text, comma_if, compact_text, items_text, members_text}
use Rattle.sto_model.specs.PlainReplies.{PlainReply}
use Rattle.sto_model.specs.Run.{State}
use Rattle.sto_syntax.specs.Words.{is_name}
use Rattle.sto_lang.specs.Objects.{Declaration, HaveNames}
use Rattle.sto_report_spec.specs.Orders.{TransactionPlace}
use Rattle.sto_report_spec.specs.Aborts.{Cause, Locked, Changed, Abort}
use Rattle.sto_report_spec.specs.EndingTexts.{ending_text}
use Rattle.sto_report_spec.specs.Replay.{Entry}
use Rattle.sto_report_spec.specs.Report.{name_at, reply_text, rows_text, rows_of}
use Rattle.sto_report_spec.specs.Named.{AreNames}
use Rattle.sto_report_spec.specs.Json.{reply_data, entry_data, abort_data, object_data, report_data, json_text}
use Rattle.sto_report_spec.specs.Short.{IsShortCause, AreShortAborts, AreShortEntries}
use Rattle.sto_report_spec.proofs.Printable.{IsPrintable, is_printable, printable_append, printable_decimal, printable_signed, printable_reply, printable_ending, printable_rows}
use Rattle.sto_report_spec.proofs.Names.{name_printable, has_name}
use Rattle.sto_report_spec.proofs.Naming.{line_ascii}

-- A string of printable bytes is written with printable bytes.

is_byte : (x y : ℕ) → (x == y) ≡ true → x ≡ y
is_byte x y e = grind (arith, nat_tests)

no_byte : (x y : ℕ) → (x == y) ≡ false → x ≡ y → ⊥
no_byte x y e h = grind (arith, nat_tests)

from_space : (x : ℕ) → is_printable x ≡ true → 32 ≤ x
from_space x h = grind (arith, nat_tests)

escaped_quote : IsPrintable (escape_byte 34)
unfolding escape_byte
escaped_quote = (refl, (refl, tt))

escaped_backslash : IsPrintable (escape_byte 92)
unfolding escape_byte
escaped_backslash = (refl, (refl, tt))

by_test : (x : ℕ) (quote backslash : Bool) → (x == 34) ≡ quote → (x == 92) ≡ backslash → is_printable x ≡ true → IsPrintable (escape_byte x)
by_test x true b e f h = subst (λ (y : ℕ). IsPrintable (escape_byte y)) (sym (is_byte x 34 e)) escaped_quote
by_test x false true e f h = subst (λ (y : ℕ). IsPrintable (escape_byte y)) (sym (is_byte x 92 f)) escaped_backslash
by_test x false false e f h = subst IsPrintable (sym (escape_byte_plain x (no_byte x 34 e) (no_byte x 92 f) (from_space x h))) (h, tt)

printable_escape : (s : List ℕ) → IsPrintable s → IsPrintable (escape s)
printable_escape [] h = tt
printable_escape (x ∷ s) h = printable_append (escape_byte x) (escape s) (by_test x (x == 34) (x == 92) refl refl h.0) (printable_escape s h.1)

printable_quoted : (s : List ℕ) → IsPrintable s → IsPrintable (quoted s)
printable_quoted s h = (refl, printable_append (escape s) (34 ∷ []) (printable_escape s h) (refl, tt))

-- Data whose strings and keys are printable

abbrev mutual
  pub IsPlain : Data → Type 0
  IsPlain null = Unit {0}
  IsPlain (boolean b) = Unit {0}
  IsPlain (number n) = Unit {0}
  IsPlain (string s) = IsPrintable s
  IsPlain (array items) = ArePlain items
  IsPlain (object members) = HavePlain members

  pub ArePlain : Items → Type 0
  ArePlain no_items = Unit {0}
  ArePlain (item d items) = IsPlain d × ArePlain items

  pub HavePlain : Members → Type 0
  HavePlain no_members = Unit {0}
  HavePlain (member key d members) = IsPrintable key × IsPlain d × HavePlain members

printable_number : (n : Num) → IsPrintable (number_text n)
printable_number (unsigned n) = printable_decimal n
printable_number (negative z) = printable_signed z
printable_number (float x) = tt

printable_bool : (b : Bool) → IsPrintable (token_text (token.boolean b))
printable_bool true = (refl, (refl, (refl, (refl, tt))))
printable_bool false = (refl, (refl, (refl, (refl, (refl, tt)))))

printable_comma : (later : Bool) → IsPrintable (comma_if later)
printable_comma true = (refl, tt)
printable_comma false = tt

mutual
  pub plain_text : (d : Data) → IsPlain d → IsPrintable (compact_text d)
  plain_text null h = (refl, (refl, (refl, (refl, tt))))
  plain_text (boolean b) h = printable_bool b
  plain_text (number n) h = printable_number n
  plain_text (string s) h = printable_quoted s h
  plain_text (array items) h = (refl, plain_items false items h)
  plain_text (object members) h = (refl, plain_members false members h)

  plain_items : (later : Bool) (items : Items) → ArePlain items → IsPrintable (items_text later items)
  plain_items later no_items h = (refl, tt)
  plain_items later (item d items) h =
      printable_append (comma_if later) (compact_text d ++ items_text true items) (printable_comma later)
      (printable_append (compact_text d) (items_text true items) (plain_text d h.0) (plain_items true items h.1))

  plain_members : (later : Bool) (members : Members) → HavePlain members → IsPrintable (members_text later members)
  plain_members later no_members h = (refl, tt)
  plain_members later (member key d members) h =
      printable_append (comma_if later) (quoted key ++ 58 ∷ (compact_text d ++ members_text true members)) (printable_comma later)
      (printable_append (quoted key) (58 ∷ (compact_text d ++ members_text true members)) (printable_quoted key h.0)
      (refl, printable_append (compact_text d) (members_text true members) (plain_text d h.1) (plain_members true members h.2)))

-- The report's own strings.

plain_replies : (replies : List PlainReply) → ArePlain (items_of (map reply_data replies))
plain_replies [] = tt
plain_replies (r ∷ replies) = (printable_reply r, plain_replies replies)

both_true : (a b : Bool) → (a && b) ≡ true → (a ≡ true) × (b ≡ true)
both_true true b e = (refl, e)
both_true false b e = absurd (cc)

-- a word whose bytes are looked at one by one
plain_word : (s : List ℕ) → list_all is_printable s ≡ true → IsPrintable s
plain_word [] e = tt
plain_word (x ∷ s) e = let h = both_true (is_printable x) (list_all is_printable s) e in (h.0, plain_word s h.1)

objects_plain : (state : State) (ds : List Declaration) → HaveNames ds → ArePlain (items_of (map (object_data state) ds))
objects_plain state [] h = tt
objects_plain state (d ∷ ds) h =
    ((plain_word (codes "name") refl, name_printable d.name h.0, (plain_word (codes "text") refl, printable_rows d.shape (rows_of state d.number), tt)), objects_plain state ds h.1)

module _ (names : List (List ℕ)) (known : AreNames names) where
  thread_plain : (thread : ℕ) → thread < length names → IsPrintable (name_at names thread)
  thread_plain thread l = name_printable (name_at names thread) (has_name names thread known l).word

  entries_plain : (entries : List Entry) → AreShortEntries names entries → ArePlain (items_of (map (entry_data names) entries))
  entries_plain [] h = tt
  entries_plain (e ∷ entries) h = (
    (
      plain_word (codes "end") refl,
      printable_ending e.ending,
      (
        plain_word (codes "k") refl,
        tt,
        (
          plain_word (codes "position") refl,
          tt,
          (
            plain_word (codes "replies") refl,
            plain_replies e.replies,
            (plain_word (codes "thread") refl, thread_plain e.place.0 h.0.place.thread, tt),
          ),
        ),
      ),
    ),
    entries_plain entries h.1,
  )

  abort_plain : (place : TransactionPlace) (seen : ℕ) (replies : List PlainReply) (c : Cause) → place.0 < length names → IsShortCause c
      → IsPlain (abort_data names (record { place = place; seen = seen; replies = replies; cause = c }))
  abort_plain place seen replies (Locked part) l h = (
    plain_word (codes "at") refl,
    tt,
    (
      plain_word (codes "cause") refl,
      plain_word (codes "locked") refl,
      (
        plain_word (codes "object") refl,
        name_printable part.object h.0,
        (
          plain_word (codes "part") refl,
          tt,
          (
            plain_word (codes "position") refl,
            tt,
            (
              plain_word (codes "saw") refl,
              plain_replies replies,
              (plain_word (codes "thread") refl, thread_plain place.0 l, tt),
            ),
          ),
        ),
      ),
    ),
  )
  abort_plain place seen replies (Changed part by) l h = (
    plain_word (codes "at") refl,
    tt,
    (
      plain_word (codes "by") refl,
      tt,
      (
        plain_word (codes "cause") refl,
        plain_word (codes "changed") refl,
        (
          plain_word (codes "object") refl,
          name_printable part.object h.0,
          (
            plain_word (codes "part") refl,
            tt,
            (
              plain_word (codes "position") refl,
              tt,
              (
                plain_word (codes "saw") refl,
                plain_replies replies,
                (plain_word (codes "thread") refl, thread_plain place.0 l, tt),
              ),
            ),
          ),
        ),
      ),
    ),
  )

  aborts_plain : (aborts : List Abort) → AreShortAborts names aborts → ArePlain (items_of (map (abort_data names) aborts))
  aborts_plain [] h = tt
  aborts_plain (a ∷ aborts) h = (abort_plain a.place a.seen a.replies a.cause h.0.place.thread h.0.cause, aborts_plain aborts h.1)

  pub json_ascii : (ds : List Declaration) (entries : List Entry) (aborts : List Abort) (state : State) → HaveNames ds → AreShortEntries names entries → AreShortAborts names aborts
      → IsAscii (json_text names ds entries aborts state)
  json_ascii ds entries aborts state words short readable =
      line_ascii (compact_text (report_data names ds entries aborts state))
      (plain_text (report_data names ds entries aborts state) (
        plain_word (codes "aborts") refl,
        aborts_plain aborts readable,
        (plain_word (codes "journal") refl, entries_plain entries short, (plain_word (codes "state") refl, objects_plain state ds words, tt)),
      ))
