-- The name of a thread: it is found at the thread's number, and it has no byte that a line is split at.
use Rattle.std.proofs.Common.{◌≡◌, ℕ, zero, suc, ◌+◌, ◌<◌, ◌≤◌, List, [], ◌∷◌, refl, sym, ap, ◌∙◌, Bool, true, false, cond, not, ◌&&◌, ◌||◌, nat_lt, length, arith, Some, None, position}
use Rattle.std.specs.List.{All, list_all, list_any, position_or_len}
use Rattle.std.specs.Str.{bytes_eq}
use Rattle.std.proofs.lemmas.Bool.Decides.{nat_tests}
use Rattle.std.proofs.lemmas.List.Elements.{All-head, All-tail}
use Rattle.std.proofs.lemmas.Slice.Eq.{bytes_eq-Decides}
use Rattle.sto_syntax.specs.Words.{is_name, is_letter, is_name_byte}
use Rattle.sto_lang.specs.Sound.{AllDiffer}
use Rattle.sto_report_spec.specs.Report.{name_at}
use Rattle.sto_report_spec.specs.Named.{is_space, is_dot, is_digit, AreNames}
use Rattle.sto_report_spec.proofs.Splits.{Lacks}
use Rattle.sto_report_spec.proofs.Printable.{IsPrintable, is_printable}

both_true : (a b : Bool) → (a && b) ≡ true → (a ≡ true) × (b ≡ true)
both_true true b e = (refl, e)
both_true false b e = absurd (cc)

letter_no_digit : (c : ℕ) → is_letter c ≡ true → is_digit c ≡ false
letter_no_digit c e = grind (arith, nat_tests)

letter_no_space : (c : ℕ) → is_letter c ≡ true → is_space c ≡ false
letter_no_space c e = grind (arith, nat_tests)

letter_no_dot : (c : ℕ) → is_letter c ≡ true → is_dot c ≡ false
letter_no_dot c e = grind (arith, nat_tests)

letter_printable : (c : ℕ) → is_letter c ≡ true → is_printable c ≡ true
letter_printable c e = grind (arith, nat_tests)

byte_no_space : (c : ℕ) → is_name_byte c ≡ true → is_space c ≡ false
byte_no_space c e = grind (arith, nat_tests)

byte_no_dot : (c : ℕ) → is_name_byte c ≡ true → is_dot c ≡ false
byte_no_dot c e = grind (arith, nat_tests)

byte_printable : (c : ℕ) → is_name_byte c ≡ true → is_printable c ≡ true
byte_printable c e = grind (arith, nat_tests)

bytes_lack : (p : ℕ → Bool) → ((c : ℕ) → is_name_byte c ≡ true → p c ≡ false) → (cs : List ℕ) → list_all is_name_byte cs ≡ true → Lacks p cs
bytes_lack p h [] e = tt
bytes_lack p h (c ∷ cs) e = let both = both_true (is_name_byte c) (list_all is_name_byte cs) e in (h c both.0, bytes_lack p h cs both.1)

bytes_printable : (cs : List ℕ) → list_all is_name_byte cs ≡ true → IsPrintable cs
bytes_printable [] e = tt
bytes_printable (c ∷ cs) e = let h = both_true (is_name_byte c) (list_all is_name_byte cs) e in (byte_printable c h.0, bytes_printable cs h.1)

-- a name by its first letter and the others
pub record IsWord (c : ℕ) (cs : List ℕ) : Type 0 where
  letter : is_letter c ≡ true
  bytes : list_all is_name_byte cs ≡ true

word_by : (c : ℕ) (cs : List ℕ) → is_name (c ∷ cs) ≡ true → IsWord c cs
word_by c cs e =
    let h = both_true (is_letter c && list_all is_name_byte cs) (nat_lt (length cs) 32) e in
    let g = both_true (is_letter c) (list_all is_name_byte cs) h.0 in
    record { letter = g.0; bytes = g.1 }

-- a name begins with a letter
pub name_no_digit : (c : ℕ) (cs : List ℕ) → is_name (c ∷ cs) ≡ true → is_digit c ≡ false
name_no_digit c cs e = letter_no_digit c (word_by c cs e).letter

pub name_printable : (name : List ℕ) → is_name name ≡ true → IsPrintable name
name_printable [] e = tt
name_printable (c ∷ cs) e = let h = word_by c cs e in (letter_printable c h.letter, bytes_printable cs h.bytes)

pub name_lacks_space : (name : List ℕ) → is_name name ≡ true → Lacks is_space name
name_lacks_space [] e = tt
name_lacks_space (c ∷ cs) e = let h = word_by c cs e in (letter_no_space c h.letter, bytes_lack is_space byte_no_space cs h.bytes)

pub name_lacks_dot : (name : List ℕ) → is_name name ≡ true → Lacks is_dot name
name_lacks_dot [] e = tt
name_lacks_dot (c ∷ cs) e = let h = word_by c cs e in (letter_no_dot c h.letter, bytes_lack is_dot byte_no_dot cs h.bytes)

-- the thread has a name, and its name is found at its number
pub record HasName (names : List (List ℕ)) (thread : ℕ) : Type 0 where
  pub word : is_name (name_at names thread) ≡ true
  pub found : position (bytes_eq (name_at names thread)) names ≡ Some thread

neither : (a b : Bool) → (a || b) ≡ false → (a ≡ false) × (b ≡ false)
neither true b e = absurd (cc)
neither false b e = (refl, e)

same : (n : List ℕ) → bytes_eq n n ≡ true
same n = (bytes_eq-Decides n n).1 refl

turned : (n q : List ℕ) (b : Bool) → bytes_eq n q ≡ false → bytes_eq q n ≡ b → bytes_eq q n ≡ false
turned n q false e f = f
turned n q true e f = absurd (let back : n ≡ q = sym ((bytes_eq-Decides q n).0 f) in let is : bytes_eq n q ≡ true = (bytes_eq-Decides n q).1 back in cc)

word_at : (names : List (List ℕ)) (thread : ℕ) → thread < length names → All (λ name. is_name name ≡ true) names → is_name (name_at names thread) ≡ true
word_at [] thread l h = absurd (omega (arith, l))
word_at (name ∷ names) zero l h = All-head (λ n. is_name n ≡ true) name names h
word_at (name ∷ names) (suc thread) l h = word_at names thread (omega (arith, l)) (All-tail (λ n. is_name n ≡ true) name names h)

-- a name that stands nowhere among others is none of them
differs_at : (name : List ℕ) (names : List (List ℕ)) (thread : ℕ) → thread < length names → list_any (bytes_eq name) names ≡ false → bytes_eq (name_at names thread) name ≡ false
differs_at name [] thread l h = absurd (omega (arith, l))
differs_at name (m ∷ names) zero l h = turned name m (bytes_eq m name) (neither (bytes_eq name m) (list_any (bytes_eq name) names) h).0 refl
differs_at name (m ∷ names) (suc thread) l h = differs_at name names thread (omega (arith, l)) (neither (bytes_eq name m) (list_any (bytes_eq name) names) h).1

one_more : (n : ℕ) → 1 + n ≡ suc n
one_more n = omega arith

stands_at : (names : List (List ℕ)) (thread : ℕ) → thread < length names → AllDiffer names → position_or_len (bytes_eq (name_at names thread)) names ≡ thread
stands_at [] thread l h = absurd (omega (arith, l))
stands_at (name ∷ names) zero l h = ap (λ (b : Bool). cond (not b) (1 + position_or_len (bytes_eq name) names) 0) (same name)
stands_at (name ∷ names) (suc thread) l h =
    ap (λ (b : Bool). cond (not b) (1 + position_or_len (bytes_eq (name_at names thread)) names) 0) (differs_at name names thread (omega (arith, l)) h.0)
    ∙ ap (λ (k : ℕ). 1 + k) (stands_at names thread (omega (arith, l)) h.1)
    ∙ one_more thread

is_below : (n count : ℕ) → n < count → nat_lt n count ≡ true
is_below n count l = grind (arith, nat_tests)

pub has_name : (names : List (List ℕ)) (thread : ℕ) → AreNames names → thread < length names → HasName names thread
has_name names thread h l = record {
  word = word_at names thread l h.each;
  found = ap (λ (k : ℕ). cond (nat_lt k (length names)) (Some k) None) (stands_at names thread l h.differ)
      ∙ ap (λ (b : Bool). cond b (Some thread) None) (is_below thread (length names) l);
}
