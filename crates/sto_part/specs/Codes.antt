-- Values coded into words, and that coding loses nothing.
use Rattle.std.specs.Prelude.{◌≡◌, ℕ, zero, suc, ℤ, pos, negsuc, List, [], ◌∷◌, ◌++◌, length, take, drop, Bool, true, false, ◌<◌, refl}
use Rattle.std.proofs.Common.{◌∙◌, ap, arith, length-append}

-- the first word, or 0 where there is none
abbrev pub first_of : List ℤ → ℤ
first_of [] = pos 0
first_of (x ∷ xs) = x

-- a word as a natural number, or 0 below that
abbrev pub natural_of : List ℤ → ℕ
natural_of [] = 0
natural_of (pos n ∷ xs) = n
natural_of (negsuc n ∷ xs) = 0

-- the first word is a number that meets a condition
abbrev pub IsNaturalCode : (ℕ → Type 0) → List ℤ → Type 0
IsNaturalCode P [] = ⊥
IsNaturalCode P (pos n ∷ xs) = P n
IsNaturalCode P (negsuc n ∷ xs) = ⊥

-- every word codes a number
abbrev pub IsSignedCode : List ℤ → Type 0
IsSignedCode xs = Unit {0}

-- 0 codes false and 1 true
abbrev pub truth_word : Bool → ℤ
truth_word false = pos 0
truth_word true = pos 1

-- the truth value of the first word
abbrev pub truth_of : List ℤ → Bool
truth_of [] = false
truth_of (pos zero ∷ xs) = false
truth_of (pos (suc n) ∷ xs) = true
truth_of (negsuc n ∷ xs) = false

-- a list of one word is its first word
pub one_word : (xs : List ℤ) → length xs ≡ 1 → first_of xs ∷ [] ≡ xs
one_word [] e = cc
one_word (x ∷ []) e = refl
one_word (x ∷ y ∷ ys) e = absurd (omega (arith, e))

pub one_natural : (P : ℕ → Type 0) (xs : List ℤ) → length xs ≡ 1 → IsNaturalCode P xs → pos (natural_of xs) ∷ [] ≡ xs
one_natural P [] e h = cc
one_natural P (pos n ∷ []) e h = refl
one_natural P (negsuc n ∷ []) e h = absurd h
one_natural P (x ∷ y ∷ ys) e h = absurd (omega (arith, e))

pub one_truth : (xs : List ℤ) → length xs ≡ 1 → IsNaturalCode (λ n. n < 2) xs → truth_word (truth_of xs) ∷ [] ≡ xs
one_truth [] e h = cc
one_truth (pos zero ∷ []) e h = refl
one_truth (pos (suc zero) ∷ []) e h = refl
one_truth (pos (suc (suc n)) ∷ []) e h = absurd (omega (arith, h))
one_truth (negsuc n ∷ []) e h = absurd h
one_truth (x ∷ y ∷ ys) e h = absurd (omega (arith, e))

-- a truth value comes back
pub truth_decodes : (b : Bool) → truth_of (truth_word b ∷ []) ≡ b
truth_decodes false = refl
truth_decodes true = refl

-- the first of two words, and the rest
pub front_of : (xs ys : List ℤ) → length xs ≡ 1 → take 1 (xs ++ ys) ≡ xs
front_of [] ys e = cc
front_of (x ∷ []) ys e = refl
front_of (x ∷ y ∷ zs) ys e = absurd (omega (arith, e))

pub back_of : (xs ys : List ℤ) → length xs ≡ 1 → drop 1 (xs ++ ys) ≡ ys
back_of [] ys e = cc
back_of (x ∷ []) ys e = refl
back_of (x ∷ y ∷ zs) ys e = absurd (omega (arith, e))

-- two words cut after the first
pub length_front : (xs : List ℤ) → length xs ≡ 2 → length (take 1 xs) ≡ 1
length_front [] e = cc
length_front (x ∷ xs) e = refl

pub length_back : (xs : List ℤ) → length xs ≡ 2 → length (drop 1 xs) ≡ 1
length_back [] e = cc
length_back (x ∷ xs) e = omega (arith, e)

pub joined : (xs : List ℤ) → take 1 xs ++ drop 1 xs ≡ xs
joined [] = refl
joined (x ∷ xs) = refl

-- two values of one word each are a value of two words
module _ {A B : Type 0} (wa : A → List ℤ) (va : List ℤ → A) (wb : B → List ℤ) (vb : List ℤ → B) where
  pub pair_length : ((a : A) → length (wa a) ≡ 1) → ((b : B) → length (wb b) ≡ 1) → (p : A × B) → length (wa p.0 ++ wb p.1) ≡ 2
  pair_length one two p = omega (arith, length-append (wa p.0) (wb p.1), one p.0, two p.1)

  pub pair_decodes : ((a : A) → length (wa a) ≡ 1) → ((a : A) → va (wa a) ≡ a) → ((b : B) → vb (wb b) ≡ b) → (p : A × B) → let q : A × B = (va (take 1 (wa p.0 ++ wb p.1)), vb (drop 1 (wa p.0 ++ wb p.1))) in q ≡ p
  pair_decodes one da db p =
      let first : va (take 1 (wa p.0 ++ wb p.1)) ≡ p.0 = ap va (front_of (wa p.0) (wb p.1) (one p.0)) ∙ da p.0 in
      let second : vb (drop 1 (wa p.0 ++ wb p.1)) ≡ p.1 = ap vb (back_of (wa p.0) (wb p.1) (one p.0)) ∙ db p.1 in
      λ i. (first i, second i)

  pub pair_encodes :
      (CA CB : List ℤ → Type 0) → ((ws : List ℤ) → length ws ≡ 1 → CA ws → wa (va ws) ≡ ws) → ((ws : List ℤ) → length ws ≡ 1 → CB ws → wb (vb ws) ≡ ws)
      → (ws : List ℤ) → length ws ≡ 2 → CA (take 1 ws) × CB (drop 1 ws) → wa (va (take 1 ws)) ++ wb (vb (drop 1 ws)) ≡ ws
  pair_encodes CA CB ea eb ws e h =
      rw (ea (take 1 ws) (length_front ws e) h.0, eb (drop 1 ws) (length_back ws e) h.1) (joined ws)
