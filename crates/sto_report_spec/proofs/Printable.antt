-- The lines of a report are printable text: no byte of them is a line feed, and all are ASCII.
use Rattle.std.proofs.Common.{◌≡◌, ℕ, suc, ℤ, pos, negsuc, ◌<◌, ◌≤◌, List, [], ◌∷◌, ◌++◌, refl, Bool, true, false, ◌&&◌, nat_le, arith, decimal, codes}
use Rattle.std.specs.List.{flat_map}
use Rattle.std.specs.Fmt.{signed_decimal}
use Rattle.std.specs.Str.{IsAscii}
use Rattle.std.proofs.lemmas.Bool.Decides.{nat_tests}
use Rattle.std.proofs.lemmas.Str.Ascii.{IsAscii-nil, IsAscii-cons}
use Rattle.sto_model.specs.PlainReplies.{PlainReply, Done, Value, Flag, Absent, Full, Range, Pairs}
use Rattle.sto_model.specs.Rows.{Row}
use Rattle.sto_model.specs.Objects.{only_value}
use Rattle.sto_model.specs.declared.shape.Shape.{Shape}
use Rattle.sto_model.specs.declared.shape.Shape.TheVariants.{Single, Counter, Array, Hash, Tree, Vector}
use Rattle.sto_report_spec.specs.declared.ending.Ending.{Ending}
use Rattle.sto_report_spec.specs.declared.ending.Ending.TheVariants.{Commit, Read, Cancel}
use Rattle.sto_report_spec.specs.EndingTexts.{ending_text}
use Rattle.sto_report_spec.specs.Report.{others_text, listed_text, row_text, reply_text, spaced_reply, rows_text}
use Rattle.sto_report_spec.specs.Named.{is_line_feed}
use Rattle.sto_report_spec.proofs.Splits.{Lacks}
use Rattle.sto_report_spec.proofs.Digits.{IsDigits, decimal_digits}

-- a space, or a sign that is printed
abbrev pub is_printable : ℕ → Bool
is_printable b = nat_le 32 b && nat_le b 126

abbrev pub IsPrintable : List ℕ → Type 0
IsPrintable [] = Unit {0}
IsPrintable (b ∷ bytes) = (is_printable b ≡ true) × IsPrintable bytes

pub printable_append : (xs ys : List ℕ) → IsPrintable xs → IsPrintable ys → IsPrintable (xs ++ ys)
printable_append [] ys f g = g
printable_append (x ∷ xs) ys f g = (f.0, printable_append xs ys f.1 g)

digit_printable : (c : ℕ) → 48 ≤ c → c ≤ 57 → is_printable c ≡ true
digit_printable c l u = grind (arith, nat_tests)

digits_printable : (ds : List ℕ) → IsDigits ds → IsPrintable ds
digits_printable [] h = tt
digits_printable (c ∷ cs) h = (digit_printable c h.0.0 h.0.1, digits_printable cs h.1)

pub printable_decimal : (n : ℕ) → IsPrintable (decimal n)
printable_decimal n = digits_printable (decimal n) (decimal_digits n)

pub printable_signed : (z : ℤ) → IsPrintable (signed_decimal z)
printable_signed (pos n) = printable_decimal n
printable_signed (negsuc n) = (refl, printable_decimal (suc n))

module _ {X : Type 0} (text : X → List ℕ) (printable : (x : X) → IsPrintable (text x)) where
  pub printable_all : (xs : List X) → IsPrintable (flat_map text xs)
  printable_all [] = tt
  printable_all (x ∷ xs) = printable_append (text x) (flat_map text xs) (printable x) (printable_all xs)

module _ {X : Type 0} (text : X → List ℕ) (printable : (x : X) → IsPrintable (text x)) where
  pub printable_listed : (xs : List X) → IsPrintable (listed_text text xs)
  printable_listed [] = (refl, (refl, tt))
  printable_listed (x ∷ xs) = (
    refl,
    printable_append (text x) (others_text text xs ++ codes "]") (printable x)
        (printable_append (others_text text xs) (codes "]") (printable_all (λ y. codes "," ++ text y) (λ y. (refl, printable y)) xs) (refl, tt)),
  )

pub printable_row : (row : Row) → IsPrintable (row_text row)
printable_row row = printable_append (signed_decimal row.0) (codes ":" ++ signed_decimal row.1) (printable_signed row.0) (refl, printable_signed row.1)

pub printable_reply : (r : PlainReply) → IsPrintable (reply_text r)
printable_reply Done = (refl, (refl, tt))
printable_reply (Value z) = printable_signed z
printable_reply (Flag true) = (refl, (refl, (refl, tt)))
printable_reply (Flag false) = (refl, (refl, tt))
printable_reply Absent = (refl, (refl, (refl, (refl, tt))))
printable_reply Full = (refl, (refl, (refl, (refl, tt))))
printable_reply Range = (refl, (refl, (refl, (refl, (refl, tt)))))
printable_reply (Pairs pairs) = printable_listed row_text printable_row pairs

pub printable_replies : (rs : List PlainReply) → IsPrintable (flat_map spaced_reply rs)
printable_replies rs = printable_all spaced_reply (λ r. (refl, printable_reply r)) rs

pub printable_ending : (e : Ending) → IsPrintable (ending_text e)
printable_ending Commit = (refl, (refl, (refl, (refl, (refl, (refl, tt))))))
printable_ending Read = (refl, (refl, (refl, (refl, tt))))
printable_ending Cancel = (refl, (refl, (refl, (refl, (refl, (refl, tt))))))

pub printable_rows : (shape : Shape) (rows : List Row) → IsPrintable (rows_text shape rows)
printable_rows (Single value) rows = printable_signed (only_value rows)
printable_rows (Counter value) rows = printable_signed (only_value rows)
printable_rows (Array len value) rows = printable_listed (λ row. signed_decimal row.1) (λ row. printable_signed row.1) rows
printable_rows (Hash buckets places) rows = printable_listed row_text printable_row rows
printable_rows (Tree leaves) rows = printable_listed row_text printable_row rows
printable_rows (Vector capacity) rows = printable_listed (λ row. signed_decimal row.1) (λ row. printable_signed row.1) rows

no_feed : (c : ℕ) → is_printable c ≡ true → is_line_feed c ≡ false
no_feed c h = grind (arith, nat_tests)

below : (c : ℕ) → is_printable c ≡ true → c < 128
below c h = grind (arith, nat_tests)

pub printable_lacks_feed : (xs : List ℕ) → IsPrintable xs → Lacks is_line_feed xs
printable_lacks_feed [] h = tt
printable_lacks_feed (x ∷ xs) h = (no_feed x h.0, printable_lacks_feed xs h.1)

pub printable_ascii : (xs : List ℕ) → IsPrintable xs → IsAscii xs
printable_ascii [] h = IsAscii-nil
printable_ascii (x ∷ xs) h = IsAscii-cons x xs (below x h.0) (printable_ascii xs h.1)
