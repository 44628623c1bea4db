use Rattle.std.proofs.Common.{◌≡◌, ℕ, ◌<◌, List, [], ◌∷◌, length, arith, Bool, true, false, ◌&&◌, nat_lt}
use Rattle.std.specs.List.{list_all}
use Rattle.std.specs.Str.{IsAscii, IsUtf8}
use Rattle.std.proofs.lemmas.Str.{IsUtf8-from_ascii}
use Rattle.std.proofs.lemmas.Str.Ascii.{IsAscii-nil, IsAscii-cons}
use Rattle.std.proofs.lemmas.Bool.Decides.{nat_tests}
use Rattle.sto_syntax.specs.Words.{is_name, is_letter, is_name_byte}

both_true : (a b : Bool) → (a && b) ≡ true → (a ≡ true) × (b ≡ true)
both_true true b e = (cc, e)
both_true false b e = absurd (cc)

name_byte_ascii : (c : ℕ) → is_name_byte c ≡ true → c < 128
name_byte_ascii c e = grind (arith, nat_tests)

letter_ascii : (c : ℕ) → is_letter c ≡ true → c < 128
letter_ascii c e = grind (arith, nat_tests)

name_bytes_ascii : (bytes : List ℕ) → list_all is_name_byte bytes ≡ true → IsAscii bytes
name_bytes_ascii [] e = IsAscii-nil
name_bytes_ascii (c ∷ cs) e =
    let parts = both_true (is_name_byte c) (list_all is_name_byte cs) e in
    IsAscii-cons c cs (name_byte_ascii c parts.0) (name_bytes_ascii cs parts.1)

pub name_ascii : (word : List ℕ) → is_name word ≡ true → IsAscii word
name_ascii [] e = IsAscii-nil
name_ascii (c ∷ cs) e =
    let parts = both_true (is_letter c && list_all is_name_byte cs) (nat_lt (length cs) 32) e in
    let bytes = both_true (is_letter c) (list_all is_name_byte cs) parts.0 in
    IsAscii-cons c cs (letter_ascii c bytes.0) (name_bytes_ascii cs bytes.1)

pub name_utf8 : (word : List ℕ) → is_name word ≡ true → IsUtf8 word
name_utf8 word e = IsUtf8-from_ascii word (name_ascii word e)
