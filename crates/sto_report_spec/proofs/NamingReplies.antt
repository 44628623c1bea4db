-- The text of a reply is read as the reply, and replies in a line are heard up to the word of a cause.
use Rattle.std.proofs.Common.{◌≡◌, ℕ, zero, suc, ◌<◌, ◌≤◌, ◌^◌, ℤ, pos, negsuc, neg_ℤ, List, [], ◌∷◌, ◌++◌, drop, map, refl, sym, ap, ◌∙◌, subst, Bool, true, false, cond, ◌&&◌, ◌==◌, nat_eq, arith, decimal, append_assoc, append-nil, codes, Option, Some}
use Rattle.std.specs.List.{slice_split, flat_map}
use Rattle.std.specs.Option.{option_map}
use Rattle.std.specs.Fmt.{signed_decimal}
use Rattle.std.specs.Str.{bytes_eq}
use Rattle.std.specs.Str.Parse.{digits_value, signed_digits_value, without_leading_plus}
use Rattle.std.proofs.lemmas.Fmt.{decimal_is_IsNumeral}
use Rattle.std.proofs.lemmas.Bool.Decides.{nat_tests}
use Rattle.sto_model.specs.PlainReplies.{PlainReply, Done, Value, Flag, Absent, Full, Range, Pairs}
use Rattle.sto_model.specs.Rows.{Row}
use Rattle.sto_report_spec.specs.Aborts.{Cause}
use Rattle.sto_report_spec.specs.Report.{others_text, listed_text, row_text, reply_text, spaced_reply}
use Rattle.sto_report_spec.specs.Named.{is_space}
use Rattle.sto_report_spec.specs.NamedAborts.{is_comma, is_colon, without_last, row_of_pieces, rows_between_brackets, number_or_pairs, reply_in, Heard, locked_in, changed_in, heard_in}
use Rattle.sto_report_spec.specs.Short.{IsShort, AreShortRows, IsShortReply, AreShortReplies}
use Rattle.sto_report_spec.proofs.Splits.{Lacks, lacks_append, split_at, split_none}
use Rattle.sto_report_spec.proofs.Digits.{IsDigits, decimal_digits, Parts, decimal_parts}

-- Numbers.

pub value_of : (n : ℕ) → n < 2 ^ 64 → digits_value 10 (decimal n) ≡ n
value_of n small = (decimal_is_IsNumeral n small).1

not_minus : (c : ℕ) → 48 ≤ c → c == 45 ≡ false
not_minus c l = grind (arith, nat_tests)

not_plus : (c : ℕ) → 48 ≤ c → c == 43 ≡ false
not_plus c l = grind (arith, nat_tests)

unsigned_value : (ds : List ℕ) → IsDigits ds → signed_digits_value 10 ds ≡ pos (digits_value 10 ds)
unsigned_value [] h = refl
unsigned_value (c ∷ cs) h =
    let l : List ℕ = c ∷ cs in
    ap (λ (b : Bool). cond b (neg_ℤ (pos (digits_value 10 (cond b (drop 1 l) (without_leading_plus l))))) (pos (digits_value 10 (cond b (drop 1 l) (without_leading_plus l))))) (not_minus c h.0.0)
    ∙ ap (λ (b : Bool). pos (digits_value 10 (drop (cond b 1 0) l))) (not_plus c h.0.0)

pub signed_value : (z : ℤ) → IsShort z → signed_digits_value 10 (signed_decimal z) ≡ z
signed_value (pos n) h = unsigned_value (decimal n) (decimal_digits n) ∙ ap pos (value_of n h)
signed_value (negsuc n) h = ap (λ (k : ℕ). neg_ℤ (pos k)) (value_of (suc n) h)

-- Replies.

-- the digits and signs of numbers, among other bytes
lacks_signed : (p : ℕ → Bool) → ((c : ℕ) → 45 ≤ c → c ≤ 57 → p c ≡ false) → (z : ℤ) → Lacks p (signed_decimal z)
lacks_signed p h z = by z
  where
    digits_lack : (ds : List ℕ) → IsDigits ds → Lacks p ds
    digits_lack [] a = tt
    digits_lack (c ∷ cs) a = (h c (let l = a.0.0 in omega (arith, l)) a.0.1, digits_lack cs a.1)

    by : (x : ℤ) → Lacks p (signed_decimal x)
    by (pos n) = digits_lack (decimal n) (decimal_digits n)
    by (negsuc n) = (h 45 (omega arith) (omega arith), digits_lack (decimal (suc n)) (decimal_digits (suc n)))

no_space : (c : ℕ) → 45 ≤ c → c ≤ 57 → is_space c ≡ false
no_space c l u = grind (arith, nat_tests)

no_comma : (c : ℕ) → 45 ≤ c → c ≤ 57 → is_comma c ≡ false
no_comma c l u = grind (arith, nat_tests)

no_colon : (c : ℕ) → 45 ≤ c → c ≤ 57 → is_colon c ≡ false
no_colon c l u = grind (arith, nat_tests)

row_lacks_space : (row : Row) → Lacks is_space (row_text row)
row_lacks_space row = lacks_append is_space (signed_decimal row.0) (codes ":" ++ signed_decimal row.1) (lacks_signed is_space no_space row.0) (refl, lacks_signed is_space no_space row.1)

others_lack_space : (rows : List Row) → Lacks is_space (others_text row_text rows)
others_lack_space [] = tt
others_lack_space (row ∷ rows) = (refl, lacks_append is_space (row_text row) (others_text row_text rows) (row_lacks_space row) (others_lack_space rows))

reply_lacks_space : (r : PlainReply) → Lacks is_space (reply_text r)
reply_lacks_space Done = (refl, (refl, tt))
reply_lacks_space (Value z) = lacks_signed is_space no_space z
reply_lacks_space (Flag true) = (refl, (refl, (refl, tt)))
reply_lacks_space (Flag false) = (refl, (refl, tt))
reply_lacks_space Absent = (refl, (refl, (refl, (refl, tt))))
reply_lacks_space Full = (refl, (refl, (refl, (refl, tt))))
reply_lacks_space Range = (refl, (refl, (refl, (refl, (refl, tt)))))
reply_lacks_space (Pairs []) = (refl, (refl, tt))
reply_lacks_space (Pairs (row ∷ rows)) = (
  refl,
  lacks_append is_space (row_text row) (others_text row_text rows ++ codes "]") (row_lacks_space row)
      (lacks_append is_space (others_text row_text rows) (codes "]") (others_lack_space rows) (refl, tt)),
)

-- pairs
row_lacks_comma : (row : Row) → Lacks is_comma (row_text row)
row_lacks_comma row = lacks_append is_comma (signed_decimal row.0) (codes ":" ++ signed_decimal row.1) (lacks_signed is_comma no_comma row.0) (refl, lacks_signed is_comma no_comma row.1)

rows_split : (row : Row) (rows : List Row) → slice_split is_comma (row_text row ++ others_text row_text rows) ≡ row_text row ∷ map row_text rows
rows_split row [] = ap (slice_split is_comma) (append-nil (row_text row)) ∙ split_none is_comma (row_text row) (row_lacks_comma row)
rows_split row (x ∷ rows) =
    split_at is_comma (row_text row) 44 (row_text x ++ others_text row_text rows) (row_lacks_comma row) refl
    ∙ ap (λ (ws : List (List ℕ)). row_text row ∷ ws) (rows_split x rows)

row_read : (row : Row) → IsShort row.0 → IsShort row.1 → row_of_pieces (slice_split is_colon (row_text row)) ≡ row ∷ []
row_read row h k =
    ap row_of_pieces (split_at is_colon (signed_decimal row.0) 58 (signed_decimal row.1) (lacks_signed is_colon no_colon row.0) refl)
    ∙ ap (λ (ws : List (List ℕ)). row_of_pieces (signed_decimal row.0 ∷ ws)) (split_none is_colon (signed_decimal row.1) (lacks_signed is_colon no_colon row.1))
    ∙ ap (λ (z : ℤ). let r : Row = (z, signed_digits_value 10 (signed_decimal row.1)) in r ∷ []) (signed_value row.0 h)
    ∙ ap (λ (z : ℤ). let r : Row = (row.0, z) in r ∷ []) (signed_value row.1 k)

rows_read : (rows : List Row) → AreShortRows rows → flat_map (λ pair. row_of_pieces (slice_split is_colon pair)) (map row_text rows) ≡ rows
rows_read [] h = refl
rows_read (row ∷ rows) h =
    ap (λ (l : List Row). l ++ flat_map (λ pair. row_of_pieces (slice_split is_colon pair)) (map row_text rows)) (row_read row h.0.0 h.0.1)
    ∙ ap (λ (l : List Row). row ∷ l) (rows_read rows h.1)

pub last_dropped : (xs : List ℕ) (b : ℕ) → without_last (xs ++ b ∷ []) ≡ xs
last_dropped [] b = refl
last_dropped (x ∷ []) b = refl
last_dropped (x ∷ y ∷ xs) b = ap (λ (l : List ℕ). x ∷ l) (last_dropped (y ∷ xs) b)

pairs_read : (rows : List Row) → AreShortRows rows → reply_in (listed_text row_text rows) ≡ Pairs rows
pairs_read [] h = refl
pairs_read (row ∷ rows) h =
    ap (λ (bytes : List ℕ). Pairs (rows_between_brackets (without_last bytes))) (sym (append_assoc (row_text row) (others_text row_text rows) (codes "]")))
    ∙ ap (λ (bytes : List ℕ). Pairs (rows_between_brackets bytes)) (last_dropped (row_text row ++ others_text row_text rows) 93)
    ∙ ap (λ (ws : List (List ℕ)). Pairs (flat_map (λ pair. row_of_pieces (slice_split is_colon pair)) ws)) (rows_split row rows)
    ∙ ap Pairs (rows_read (row ∷ rows) h)

-- a word that begins with a digit or a sign is no other word
not_letter : (c d : ℕ) → c ≤ 57 → 57 < d → nat_eq c d ≡ false
not_letter c d l u = grind (arith, nat_tests)

no_word : (c d : ℕ) (cs ds : List ℕ) → c ≤ 57 → 57 < d → bytes_eq (c ∷ cs) (d ∷ ds) ≡ false
no_word c d cs ds l u = ap (λ (b : Bool). b && bytes_eq cs ds) (not_letter c d l u)

-- a number begins with a digit or a sign
record Begins (word : List ℕ) : Type 0 where
  first : ℕ
  others : List ℕ
  is : word ≡ first ∷ others
  low : first ≤ 57

digits_begin : (ds : List ℕ) → IsDigits ds → Parts ds → Begins ds
digits_begin [] h parts = absurd (nothing parts.0 parts.1 parts.2)
  where
    nothing : (first : ℕ) (others : List ℕ) → [] ≡ first ∷ others → ⊥
    nothing first others e = cc
digits_begin (c ∷ cs) h parts = record { first = c; others = cs; is = refl; low = h.0.1 }

signed_begins : (z : ℤ) → Begins (signed_decimal z)
signed_begins (pos n) = digits_begin (decimal n) (decimal_digits n) (decimal_parts n)
signed_begins (negsuc n) = record { first = 45; others = decimal (suc n); is = refl; low = omega arith }

number_read : (c : ℕ) (cs : List ℕ) → c ≤ 57 → reply_in (c ∷ cs) ≡ Value (signed_digits_value 10 (c ∷ cs))
number_read c cs l =
    let w : List ℕ = c ∷ cs in
    ap (λ (b : Bool). cond b Done (cond (bytes_eq w (codes "yes")) (Flag true) (cond (bytes_eq w (codes "no")) (Flag false) (cond (bytes_eq w (codes "none")) Absent (cond (bytes_eq w (codes "full")) Full (cond (bytes_eq w (codes "range")) Range (number_or_pairs w))))))) (no_word c 111 cs (codes "k") l (omega arith))
    ∙ ap (λ (b : Bool). cond b (Flag true) (cond (bytes_eq w (codes "no")) (Flag false) (cond (bytes_eq w (codes "none")) Absent (cond (bytes_eq w (codes "full")) Full (cond (bytes_eq w (codes "range")) Range (number_or_pairs w)))))) (no_word c 121 cs (codes "es") l (omega arith))
    ∙ ap (λ (b : Bool). cond b (Flag false) (cond (bytes_eq w (codes "none")) Absent (cond (bytes_eq w (codes "full")) Full (cond (bytes_eq w (codes "range")) Range (number_or_pairs w))))) (no_word c 110 cs (codes "o") l (omega arith))
    ∙ ap (λ (b : Bool). cond b Absent (cond (bytes_eq w (codes "full")) Full (cond (bytes_eq w (codes "range")) Range (number_or_pairs w)))) (no_word c 110 cs (codes "one") l (omega arith))
    ∙ ap (λ (b : Bool). cond b Full (cond (bytes_eq w (codes "range")) Range (number_or_pairs w))) (no_word c 102 cs (codes "ull") l (omega arith))
    ∙ ap (λ (b : Bool). cond b Range (number_or_pairs w)) (no_word c 114 cs (codes "ange") l (omega arith))
    ∙ ap (λ (b : Bool). cond b (Pairs (rows_between_brackets (without_last cs))) (Value (signed_digits_value 10 w))) (not_letter c 91 l (omega arith))

-- the text of a reply is read as the reply
pub reply_read : (r : PlainReply) → IsShortReply r → reply_in (reply_text r) ≡ r
reply_read Done h = refl
reply_read (Value z) h =
    let b = signed_begins z in
    ap reply_in b.is ∙ number_read b.first b.others b.low ∙ ap (λ (w : List ℕ). Value (signed_digits_value 10 w)) (sym b.is) ∙ ap Value (signed_value z h)
reply_read (Flag true) h = refl
reply_read (Flag false) h = refl
reply_read Absent h = refl
reply_read Full h = refl
reply_read Range h = refl
reply_read (Pairs rows) h = pairs_read rows h

-- Words after `saw`.

-- the text of no reply is the word of a cause
record IsNoCause (word : List ℕ) : Type 0 where
  locked : bytes_eq word (codes "locked") ≡ false
  changed : bytes_eq word (codes "changed") ≡ false

no_cause : (r : PlainReply) → IsNoCause (reply_text r)
no_cause Done = record { locked = refl; changed = refl }
no_cause (Value z) =
    let b = signed_begins z in
    record {
      locked = ap (λ (w : List ℕ). bytes_eq w (codes "locked")) b.is ∙ no_word b.first 108 b.others (codes "ocked") b.low (omega arith);
      changed = ap (λ (w : List ℕ). bytes_eq w (codes "changed")) b.is ∙ no_word b.first 99 b.others (codes "hanged") b.low (omega arith);
    }
no_cause (Flag true) = record { locked = refl; changed = refl }
no_cause (Flag false) = record { locked = refl; changed = refl }
no_cause Absent = record { locked = refl; changed = refl }
no_cause Full = record { locked = refl; changed = refl }
no_cause Range = record { locked = refl; changed = refl }
no_cause (Pairs []) = record { locked = refl; changed = refl }
no_cause (Pairs (row ∷ rows)) = record { locked = refl; changed = refl }

pub replies_heard : (rs : List PlainReply) (words : List (List ℕ)) (cause : Cause) → AreShortReplies rs → heard_in words ≡ Some (record { replies = []; cause = cause })
    → heard_in (map reply_text rs ++ words) ≡ Some (record { replies = rs; cause = cause })
replies_heard [] words cause h e = e
replies_heard (r ∷ rs) words cause h e =
    let word : List ℕ = reply_text r in
    let rest : List (List ℕ) = map reply_text rs ++ words in
    let more : Option Heard = option_map (λ (x : Heard). record { replies = reply_in word ∷ x.replies; cause = x.cause }) (heard_in rest) in
    ap (λ (b : Bool). cond b (locked_in rest) (cond (bytes_eq word (codes "changed")) (changed_in rest) more)) (no_cause r).locked
    ∙ ap (λ (b : Bool). cond b (changed_in rest) more) (no_cause r).changed
    ∙ ap (option_map (λ (x : Heard). record { replies = reply_in word ∷ x.replies; cause = x.cause })) (replies_heard rs words cause h.1 e)
    ∙ ap (λ (t : PlainReply). Some (heard_by (t ∷ rs) cause)) (reply_read r h.0)
  where
    heard_by : List PlainReply → Cause → Heard
    heard_by replies c = record { replies = replies; cause = c }

pub words_split : (w : List ℕ) (rs : List PlainReply) (more : List ℕ) → Lacks is_space w
    → slice_split is_space (w ++ (flat_map spaced_reply rs ++ 32 ∷ more)) ≡ w ∷ (map reply_text rs ++ slice_split is_space more)
words_split w [] more h = split_at is_space w 32 more h refl
words_split w (r ∷ rs) more h =
    ap (λ (l : List ℕ). slice_split is_space (w ++ 32 ∷ l)) (append_assoc (reply_text r) (flat_map spaced_reply rs) (32 ∷ more))
    ∙ split_at is_space w 32 (reply_text r ++ (flat_map spaced_reply rs ++ 32 ∷ more)) h refl
    ∙ ap (λ (ws : List (List ℕ)). w ∷ ws) (words_split (reply_text r) rs more (reply_lacks_space r))
