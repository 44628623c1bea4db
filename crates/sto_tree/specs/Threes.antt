-- The words of a directory after its changes, and reading several parts.
use Rattle.std.proofs.Common.{◌≡◌, ◌≢◌, ◌<◌, ◌⊎◌, ◌+◌, ◌*◌, ℕ, zero, suc, ℤ, Bool, true, false, ◌&&◌, nat_eq, List, [], ◌∷◌, length, refl, sym, ◌∙◌, ap, arith, inl, inr, slice_index_or}
use Rattle.std.specs.Prelude.{if◌then◌else◌}
use Rattle.std.specs.List.{list_all}
use Rattle.std.proofs.lemmas.Bool.Decides.{nat_tests}
use Rattle.sto_part.specs.Parts.{part_of}
use Rattle.sto_part.specs.Changes.{applied, applied_all}
use Rattle.sto_part.specs.declared.change.Change.{Change}
use Rattle.sto_part.specs.declared.change.Change.TheVariants.{Keep}
use Rattle.sto_item.specs.Pending.{is_keep}
use Rattle.sto_type.specs.Known.{Parts}
use Rattle.sto_type.specs.Reading.{Reading, read_each, items_at, updates_at, IsRead}
use Rattle.sto_tree.specs.Layout.{word}
use Rattle.sto_tree.specs.Split.{in_threes}
use Rattle.sto_tree.specs.Said.{key_changes, at_place}
use Rattle.sto_tree.specs.Sized.{ChangeFits, ChangesFit, word_after, in_pairs_first, at_place_here}
use Rattle.sto_tree.specs.Members.{IsIn}

pub length-in_threes : (f : ℕ → Change × Change × Change) (l n : ℕ) → length (in_threes f l n) ≡ 3 * n
length-in_threes f l zero = refl
length-in_threes f l (suc n) = omega (arith, length-in_threes f (suc l) n)

pub in_threes_at : (f : ℕ → Change × Change × Change) (l n j : ℕ) → j < n
    → (slice_index_or (in_threes f l n) (3 * j) Keep ≡ (f (l + j)).0) × (slice_index_or (in_threes f l n) (3 * j + 1) Keep ≡ (f (l + j)).1) × (slice_index_or (in_threes f l n) (3 * j + 2) Keep ≡ (f (l + j)).2)
in_threes_at f l zero j h = absurd (omega (arith, h))
in_threes_at f l (suc n) zero h = let e : l ≡ l + 0 = omega arith in (ap (λ (x : ℕ). (f x).0) e, ap (λ (x : ℕ). (f x).1) e, ap (λ (x : ℕ). (f x).2) e)
in_threes_at f l (suc n) (suc j) h =
    let r : (slice_index_or (in_threes f (suc l) n) (3 * j) Keep ≡ (f (suc l + j)).0) × (slice_index_or (in_threes f (suc l) n) (3 * j + 1) Keep ≡ (f (suc l + j)).1) × (slice_index_or (in_threes f (suc l) n) (3 * j + 2) Keep ≡ (f (suc l + j)).2) = in_threes_at f (suc l) n j (omega (arith, h)) in
    let e0 : 3 * suc j ≡ suc (suc (suc (3 * j))) = omega arith in
    let e1 : 3 * suc j + 1 ≡ suc (suc (suc (3 * j + 1))) = omega arith in
    let e2 : 3 * suc j + 2 ≡ suc (suc (suc (3 * j + 2))) = omega arith in
    let g : suc l + j ≡ l + suc j = omega arith in (
      ap (λ (x : ℕ). slice_index_or (in_threes f l (suc n)) x Keep) e0 ∙ r.0 ∙ ap (λ (x : ℕ). (f x).0) g,
      ap (λ (x : ℕ). slice_index_or (in_threes f l (suc n)) x Keep) e1 ∙ r.1 ∙ ap (λ (x : ℕ). (f x).1) g,
      ap (λ (x : ℕ). slice_index_or (in_threes f l (suc n)) x Keep) e2 ∙ r.2 ∙ ap (λ (x : ℕ). (f x).2) g,
    )

pub in_threes_fit : (f : ℕ → Change × Change × Change) (l n : ℕ) → ((j : ℕ) → ChangeFits (f j).0 × ChangeFits (f j).1 × ChangeFits (f j).2) → ChangesFit (in_threes f l n)
in_threes_fit f l zero all = tt
in_threes_fit f l (suc n) all = ((all l).0, ((all l).1, ((all l).2, in_threes_fit f (suc l) n all)))

-- the words of the directory after its changes
pub directory_after : (f : ℕ → Change × Change × Change) (n : ℕ) (ws : List ℤ) (j : ℕ) → length ws ≡ 3 * n → j < n
    → (word (applied_all (in_threes f 0 n) ws) (3 * j) ≡ applied (f j).0 (word ws (3 * j))) × (word (applied_all (in_threes f 0 n) ws) (3 * j + 1) ≡ applied (f j).1 (word ws (3 * j + 1))) × (word (applied_all (in_threes f 0 n) ws) (3 * j + 2) ≡ applied (f j).2 (word ws (3 * j + 2)))
directory_after f n ws j e h =
    let same : length (in_threes f 0 n) ≡ length ws = length-in_threes f 0 n ∙ sym e in
    let g : 0 + j ≡ j = omega arith in
    let r : (slice_index_or (in_threes f 0 n) (3 * j) Keep ≡ (f (0 + j)).0) × (slice_index_or (in_threes f 0 n) (3 * j + 1) Keep ≡ (f (0 + j)).1) × (slice_index_or (in_threes f 0 n) (3 * j + 2) Keep ≡ (f (0 + j)).2) = in_threes_at f 0 n j h in (
      word_after (in_threes f 0 n) ws (3 * j) same ∙ ap (λ u. applied u (word ws (3 * j))) (r.0 ∙ ap (λ (x : ℕ). (f x).0) g),
      word_after (in_threes f 0 n) ws (3 * j + 1) same ∙ ap (λ u. applied u (word ws (3 * j + 1))) (r.1 ∙ ap (λ (x : ℕ). (f x).1) g),
      word_after (in_threes f 0 n) ws (3 * j + 2) same ∙ ap (λ u. applied u (word ws (3 * j + 2))) (r.2 ∙ ap (λ (x : ℕ). (f x).2) g),
    )

-- a list with a change
pub some_change : (us : List Change) (w : ℕ) → is_keep (slice_index_or us w Keep) ≡ false → list_all is_keep us ≡ false
some_change [] w e = cc
some_change (u ∷ us) zero e = rw e refl
some_change (u ∷ us) (suc w) e = and_none (is_keep u) (list_all is_keep us) (some_change us w e) where
  and_none : (a b : Bool) → b ≡ false → (a && b) ≡ false
  and_none true b e = e
  and_none false b e = refl

-- the changes of one place change its present word
pub place_change : (i : ℕ) (a b : Change) → i < 8 → is_keep a ≡ false → list_all is_keep (key_changes (at_place i a b)) ≡ false
place_change i a b h e =
    let g : 0 + i ≡ i = omega arith in
    some_change (key_changes (at_place i a b)) (2 * i)
    (ap is_keep (in_pairs_first (at_place i a b) 0 8 i h ∙ ap (λ (x : ℕ). (at_place i a b x).0) g ∙ ap (λ (u : Change × Change). u.0) (at_place_here i a b)) ∙ e)

-- the words of the parts that were read, by number
abbrev pub words_on : List ℕ → Parts → ℕ → List ℤ
words_on [] c = λ q. []
words_on (p ∷ ps) c = λ q. if nat_eq q p then part_of c p else words_on ps c q

pub items_read_each : (ps : List ℕ) (f : (ℕ → List ℤ) → Reading) (c : Parts) → items_at (read_each ps f) c ≡ items_at (f (words_on ps c)) c
items_read_each [] f c = refl
items_read_each (p ∷ ps) f c = items_read_each ps (λ words. f (λ q. if nat_eq q p then part_of c p else words q)) c

pub updates_read_each : (ps : List ℕ) (f : (ℕ → List ℤ) → Reading) (c : Parts) → updates_at (read_each ps f) c ≡ updates_at (f (words_on ps c)) c
updates_read_each [] f c = refl
updates_read_each (p ∷ ps) f c = updates_read_each ps (λ words. f (λ q. if nat_eq q p then part_of c p else words q)) c

pub reads_of_each : (ps : List ℕ) (f : (ℕ → List ℤ) → Reading) (c : Parts) (q : ℕ) → IsRead (read_each ps f) c q → IsIn q ps ⊎ IsRead (f (words_on ps c)) c q
reads_of_each [] f c q h = inr h
reads_of_each (p ∷ ps) f c q h = elim h [
  | inl at ↦ inl (inl at)
  | inr later ↦ elim (reads_of_each ps (λ words. f (λ x. if nat_eq x p then part_of c p else words x)) c q later) [ inl a ↦ inl (inr a) | inr a ↦ inr a ]
]

pub reads_each : (ps : List ℕ) (f : (ℕ → List ℤ) → Reading) (c : Parts) (q : ℕ) → IsIn q ps ⊎ IsRead (f (words_on ps c)) c q → IsRead (read_each ps f) c q
reads_each [] f c q (inl bad) = absurd bad
reads_each [] f c q (inr h) = h
reads_each (p ∷ ps) f c q (inl (inl at)) = inl at
reads_each (p ∷ ps) f c q (inl (inr later)) = inr (reads_each ps (λ words. f (λ x. if nat_eq x p then part_of c p else words x)) c q (inl later))
reads_each (p ∷ ps) f c q (inr h) = inr (reads_each ps (λ words. f (λ x. if nat_eq x p then part_of c p else words x)) c q (inr h))

-- what is known of a part that was read
pub words_on_part : (ps : List ℕ) (c : Parts) (q : ℕ) → IsIn q ps → words_on ps c q ≡ part_of c q
words_on_part [] c q h = absurd h
words_on_part (p ∷ ps) c q h = elim (nat_cases q p) [
  | inl e ↦ rw (eq_test q p e) (ap (part_of c) (sym e))
  | inr n ↦ rw (ne_test q p n) (words_on_part ps c q (later h n))
] where
  nat_cases : (a b : ℕ) → (a ≡ b) ⊎ (a ≢ b)
  nat_cases a b = grind arith

  eq_test : (a b : ℕ) → a ≡ b → nat_eq a b ≡ true
  eq_test a b e = grind (arith, nat_tests)

  ne_test : (a b : ℕ) → a ≢ b → nat_eq a b ≡ false
  ne_test a b n = grind (arith, nat_tests)

  later : IsIn q (p ∷ ps) → q ≢ p → IsIn q ps
  later h n = elim h [ inl at ↦ absurd (n (sym at)) | inr i ↦ i ]

-- the same parts are known the same
pub words_on_same : (ps : List ℕ) (c e : Parts) → ((p : ℕ) → IsIn p ps → part_of e p ≡ part_of c p) → words_on ps e ≡ words_on ps c
words_on_same [] c e all = refl
words_on_same (p ∷ ps) c e all =
    let here : part_of e p ≡ part_of c p = all p (inl refl) in
    let rest : words_on ps e ≡ words_on ps c = words_on_same ps c e (λ q i. all q (inr i)) in
    λ i q. if nat_eq q p then here i else rest i q
