-- What agreement with the items of a tree tells, and where it holds.
use Rattle.std.proofs.Common.{◌≡◌, ◌<◌, ◌+◌, ◌*◌, ℕ, ℤ, pos, true, ◌&&◌, int_le, int_lt, Option, Some, List, [], ◌∷◌, refl, sym, ◌∙◌, ap, subst, arith, inl, inr}
use Rattle.std.specs.Ordering.{int_eq}
use Rattle.sto_part.specs.Parts.{part_of}
use Rattle.sto_part.specs.declared.pred.Test.TheVariants.{Eq, Lt, Le, Ge}
use Rattle.sto_item.specs.declared.item.Item.{Item}
use Rattle.sto_item.specs.Agreement.{Agrees, AreTrueOf}
use Rattle.sto_type.specs.Known.{Parts, ContentsFit}
use Rattle.sto_type.specs.Reading.{Reading, items_at, updates_at, IsRead}
use Rattle.sto_tree.specs.Layout.{word, is_live, low, high, is_present, key, directory, keys, covers, leaf_of, holds_key, key_part, parts_of}
use Rattle.sto_tree.specs.Said.{compared, cover, here, in_leaf, at_leaf}
use Rattle.sto_tree.specs.Valid.{IsShaped}
use Rattle.sto_tree.specs.Tests.{both_true, and_true, equal_true, true_equal, unshifted, fits_at}
use Rattle.sto_tree.specs.Lookup.{leaf_has}

-- a comparison that is agreed with
eq_tells : (e : Parts) (p w : ℕ) (x : ℤ) → ContentsFit e → AreTrueOf e (compared p w Eq x ∷ []) → word (part_of e p) w ≡ x
eq_tells e p w x f h = equal_true (word (part_of e p) w) x (sym (ap (λ y. int_eq y x) (unshifted (word (part_of e p) w) (fits_at e p w f))) ∙ h.0)

le_tells : (e : Parts) (p w : ℕ) (x : ℤ) → ContentsFit e → AreTrueOf e (compared p w Le x ∷ []) → int_le (word (part_of e p) w) x ≡ true
le_tells e p w x f h = sym (ap (λ y. int_le y x) (unshifted (word (part_of e p) w) (fits_at e p w f))) ∙ h.0

ge_tells : (e : Parts) (p w : ℕ) (x : ℤ) → ContentsFit e → AreTrueOf e (compared p w Ge x ∷ []) → int_le x (word (part_of e p) w) ≡ true
ge_tells e p w x f h = sym (ap (λ y. int_le x y) (unshifted (word (part_of e p) w) (fits_at e p w f))) ∙ h.0

lt_tells : (e : Parts) (p w : ℕ) (x : ℤ) → ContentsFit e → AreTrueOf e (compared p w Lt x ∷ []) → int_lt (word (part_of e p) w) x ≡ true
lt_tells e p w x f h = sym (ap (λ y. int_lt y x) (unshifted (word (part_of e p) w) (fits_at e p w f))) ∙ h.0

-- each, with the items that follow
pub eq_agrees : (e d : Parts) (p w : ℕ) (x : ℤ) (is : List Item) → ContentsFit e → Agrees e (compared p w Eq x ∷ is) d → (word (part_of e p) w ≡ x) × Agrees e is d
eq_agrees e d p w x is f h = (eq_tells e p w x f (h.0, tt), h.1)

pub le_agrees : (e d : Parts) (p w : ℕ) (x : ℤ) (is : List Item) → ContentsFit e → Agrees e (compared p w Le x ∷ is) d → (int_le (word (part_of e p) w) x ≡ true) × Agrees e is d
le_agrees e d p w x is f h = (le_tells e p w x f (h.0, tt), h.1)

pub ge_agrees : (e d : Parts) (p w : ℕ) (x : ℤ) (is : List Item) → ContentsFit e → Agrees e (compared p w Ge x ∷ is) d → (int_le x (word (part_of e p) w) ≡ true) × Agrees e is d
ge_agrees e d p w x is f h = (ge_tells e p w x f (h.0, tt), h.1)

pub lt_agrees : (e d : Parts) (p w : ℕ) (x : ℤ) (is : List Item) → ContentsFit e → Agrees e (compared p w Lt x ∷ is) d → (int_lt (word (part_of e p) w) x ≡ true) × Agrees e is d
lt_agrees e d p w x is f h = (lt_tells e p w x f (h.0, tt), h.1)

pub agrees_eq : (e d : Parts) (p w : ℕ) (x : ℤ) (is : List Item) → ContentsFit e → word (part_of e p) w ≡ x → Agrees e is d → Agrees e (compared p w Eq x ∷ is) d
agrees_eq e d p w x is f h r = (ap (λ y. int_eq y x) (unshifted (word (part_of e p) w) (fits_at e p w f)) ∙ true_equal (word (part_of e p) w) x h, r)

pub agrees_le : (e d : Parts) (p w : ℕ) (x : ℤ) (is : List Item) → ContentsFit e → int_le (word (part_of e p) w) x ≡ true → Agrees e is d → Agrees e (compared p w Le x ∷ is) d
agrees_le e d p w x is f h r = (ap (λ y. int_le y x) (unshifted (word (part_of e p) w) (fits_at e p w f)) ∙ h, r)

pub agrees_ge : (e d : Parts) (p w : ℕ) (x : ℤ) (is : List Item) → ContentsFit e → int_le x (word (part_of e p) w) ≡ true → Agrees e is d → Agrees e (compared p w Ge x ∷ is) d
agrees_ge e d p w x is f h r = (ap (λ y. int_le x y) (unshifted (word (part_of e p) w) (fits_at e p w f)) ∙ h, r)

pub agrees_lt : (e d : Parts) (p w : ℕ) (x : ℤ) (is : List Item) → ContentsFit e → int_lt (word (part_of e p) w) x ≡ true → Agrees e is d → Agrees e (compared p w Lt x ∷ is) d
agrees_lt e d p w x is f h r = (ap (λ y. int_lt y x) (unshifted (word (part_of e p) w) (fits_at e p w f)) ∙ h, r)

-- a cover is that the leaf has the range
pub cover_agrees : (e d : Parts) (l : ℕ) (x y : ℤ) (is : List Item) → ContentsFit e → Agrees e (cover l x y is) d → (covers (directory e) x y l ≡ true) × Agrees e is d
cover_agrees e d l x y is f h =
    let a : (word (directory e) (3 * l) ≡ pos 1) × Agrees e (compared 1 (3 * l + 1) Le x ∷ compared 1 (3 * l + 2) Ge y ∷ is) d = eq_agrees e d 1 (3 * l) (pos 1) (compared 1 (3 * l + 1) Le x ∷ compared 1 (3 * l + 2) Ge y ∷ is) f h in
    let b : (int_le (low (directory e) l) x ≡ true) × Agrees e (compared 1 (3 * l + 2) Ge y ∷ is) d = le_agrees e d 1 (3 * l + 1) x (compared 1 (3 * l + 2) Ge y ∷ is) f a.1 in
    let g : (int_le y (high (directory e) l) ≡ true) × Agrees e is d = ge_agrees e d 1 (3 * l + 2) y is f b.1 in
    (and_true (is_live (directory e) l) (int_le (low (directory e) l) x && int_le y (high (directory e) l)) (true_equal (word (directory e) (3 * l)) (pos 1) a.0) (and_true (int_le (low (directory e) l) x) (int_le y (high (directory e) l)) b.0 g.0), g.1)

pub agrees_cover : (e d : Parts) (l : ℕ) (x y : ℤ) (is : List Item) → ContentsFit e → covers (directory e) x y l ≡ true → Agrees e is d → Agrees e (cover l x y is) d
agrees_cover e d l x y is f h r =
    let a : (is_live (directory e) l ≡ true) × ((int_le (low (directory e) l) x && int_le y (high (directory e) l)) ≡ true) = both_true (is_live (directory e) l) (int_le (low (directory e) l) x && int_le y (high (directory e) l)) h in
    let b : (int_le (low (directory e) l) x ≡ true) × (int_le y (high (directory e) l) ≡ true) = both_true (int_le (low (directory e) l) x) (int_le y (high (directory e) l)) a.1 in
    agrees_eq e d 1 (3 * l) (pos 1) (compared 1 (3 * l + 1) Le x ∷ compared 1 (3 * l + 2) Ge y ∷ is) f (equal_true (word (directory e) (3 * l)) (pos 1) a.0)
    (agrees_le e d 1 (3 * l + 1) x (compared 1 (3 * l + 2) Ge y ∷ is) f b.0 (agrees_ge e d 1 (3 * l + 2) y is f b.1 r))

-- a place with a key
pub here_agrees : (e d : Parts) (l i : ℕ) (k : ℤ) (is : List Item) → ContentsFit e → Agrees e (here l i k is) d → (holds_key (keys e l) k i ≡ true) × Agrees e is d
here_agrees e d l i k is f h =
    let a : (word (keys e l) (2 * i) ≡ pos 1) × Agrees e (compared (key_part l) (2 * i + 1) Eq k ∷ is) d = eq_agrees e d (key_part l) (2 * i) (pos 1) (compared (key_part l) (2 * i + 1) Eq k ∷ is) f h in
    let b : (key (keys e l) i ≡ k) × Agrees e is d = eq_agrees e d (key_part l) (2 * i + 1) k is f a.1 in
    (and_true (is_present (keys e l) i) (int_eq (key (keys e l) i) k) (true_equal (word (keys e l) (2 * i)) (pos 1) a.0) (true_equal (key (keys e l) i) k b.0), b.1)

pub agrees_here : (e d : Parts) (l i : ℕ) (k : ℤ) (is : List Item) → ContentsFit e → holds_key (keys e l) k i ≡ true → Agrees e is d → Agrees e (here l i k is) d
agrees_here e d l i k is f h r =
    let a : (is_present (keys e l) i ≡ true) × (int_eq (key (keys e l) i) k ≡ true) = both_true (is_present (keys e l) i) (int_eq (key (keys e l) i) k) h in
    agrees_eq e d (key_part l) (2 * i) (pos 1) (compared (key_part l) (2 * i + 1) Eq k ∷ is) f (equal_true (word (keys e l) (2 * i)) (pos 1) a.0)
    (agrees_eq e d (key_part l) (2 * i + 1) k is f (equal_true (key (keys e l) i) k a.1) r)

-- in the leaf of k: what was read of its key part and what follows
module _ (leaves : ℕ) (c : Parts) (v : IsShaped leaves c) (k : ℤ) (f : List ℤ → ℕ → List ℤ → Reading) (l : ℕ) (there : leaf_of leaves (directory c) k ≡ Some l) where
  pub at_leaf_items : items_at (at_leaf leaves k f) c ≡ items_at (f (directory c) l (keys c l)) c
  at_leaf_items = ap (λ o. items_at (in_leaf o (f (directory c))) c) there

  pub at_leaf_updates : updates_at (at_leaf leaves k f) c ≡ updates_at (f (directory c) l (keys c l)) c
  at_leaf_updates = ap (λ o. updates_at (in_leaf o (f (directory c))) c) there

  pub key_part_within : key_part l < parts_of leaves
  key_part_within = let g : l < leaves = (leaf_has leaves c v l k there).0 in omega (arith, g)

  pub at_leaf_within : ((q : ℕ) → IsRead (f (directory c) l (keys c l)) c q → q < parts_of leaves) → (q : ℕ) → IsRead (at_leaf leaves k f) c q → q < parts_of leaves
  at_leaf_within inner q h =
      let g : l < leaves = (leaf_has leaves c v l k there).0 in
      elim h [
        | inl first ↦ omega (arith, first, g)
        | inr next ↦
            let n : IsRead (in_leaf (Some l) (f (directory c))) c q = subst (λ (o : Option ℕ). IsRead (in_leaf o (f (directory c))) c q) there next in
            elim n [ inl here ↦ subst (λ (x : ℕ). x < parts_of leaves) here key_part_within | inr later ↦ inner q later ]
      ]

  -- the directory and the key part are read
  pub at_leaf_reads_directory : IsRead (at_leaf leaves k f) c 1
  at_leaf_reads_directory = inl refl

  pub at_leaf_reads_keys : IsRead (at_leaf leaves k f) c (key_part l)
  at_leaf_reads_keys = inr (subst (λ (o : Option ℕ). IsRead (in_leaf o (f (directory c))) c (key_part l)) (sym there) (inl refl))

  pub at_leaf_reads : (q : ℕ) → IsRead (f (directory c) l (keys c l)) c q → IsRead (at_leaf leaves k f) c q
  at_leaf_reads q h = inr (subst (λ (o : Option ℕ). IsRead (in_leaf o (f (directory c))) c q) (sym there) (inr h))
