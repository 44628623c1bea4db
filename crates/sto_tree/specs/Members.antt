-- Numbers in a list, and items of a list of leaves.
use Rattle.std.proofs.Common.{◌≡◌, ◌<◌, ◌⊎◌, ℕ, zero, suc, ℤ, Option, Some, None, List, [], ◌∷◌, ◌++◌, map, refl, sym, ◌∙◌, ap, subst, inl, inr, int_lt, arith}
use Rattle.std.specs.List.{flat_map}
use Rattle.std.specs.Ordering.{int_eq}
use Rattle.sto_part.specs.Parts.{part_of}
use Rattle.sto_item.specs.declared.item.Item.{Item}
use Rattle.sto_item.specs.declared.item.Item.TheVariants.{Seen, Holds}
use Rattle.sto_item.specs.Agreement.{Agrees}
use Rattle.sto_model.specs.Rows.{Row, value_at, with_row}
use Rattle.sto_model.proofs.RowFacts.{by_test, same_of, with_row-below, with_row-same, with_row-above}
use Rattle.sto_type.specs.Known.{Parts}
use Rattle.sto_tree.specs.Slots.{Slots, with_slot, gathered}
use Rattle.sto_type.specs.Reading.{Reading, read_all, items_at, updates_at, IsRead}
use Rattle.sto_tree.specs.Between.{all_seen}
use Rattle.sto_type.specs.Observing.{EachRead}
use Rattle.sto_tree.specs.RowsBetween.{at_head, at_tail}

abbrev pub IsIn : ℕ → List ℕ → Type 0
IsIn x [] = ⊥
IsIn x (y ∷ ys) = (y ≡ x) ⊎ IsIn x ys

-- a key that is there, under a function of keys
pub key_in : (g : ℤ → ℕ) (rows : List Row) (q x : ℤ) → value_at rows q ≡ Some x → IsIn (g q) (map (λ r. g r.0) rows)
key_in g [] q x e = cc
key_in g (s ∷ rows) q x e =
    by_test (int_eq s.0 q)
    (λ h. inl (ap g (same_of s.0 q h)))
    (λ h. inr (key_in g rows q x (sym (at_tail s rows q h) ∙ e)))

-- a value that is there, under a function of values
pub value_in_map : (g : Row → ℕ) (rows : List Row) (q x : ℤ) → value_at rows q ≡ Some x → ((r : Row) → r.1 ≡ x → g r ≡ g (q, x)) → IsIn (g (q, x)) (map g rows)
value_in_map g [] q x e all = cc
value_in_map g (s ∷ rows) q x e all =
    by_test (int_eq s.0 q)
    (λ h. let z : Some s.1 ≡ Some x = sym (at_head s rows q h) ∙ e in inl (all s (some_same s.1 x z)))
    (λ h. inr (value_in_map g rows q x (sym (at_tail s rows q h) ∙ e) all))
  where
    some_same : (a b : ℤ) → Some a ≡ Some b → a ≡ b
    some_same a b e = cc

-- what is true of each row
abbrev pub AllRows : (Row → Type 0) → List Row → Type 0
AllRows P [] = Unit {0}
AllRows P (r ∷ rows) = P r × AllRows P rows

all_with_row : (P : Row → Type 0) (rows : List Row) (k v : ℤ) → P (k, v) → AllRows P rows → AllRows P (with_row rows k v)
all_with_row P [] k v h all = (h, tt)
all_with_row P (s ∷ rows) k v h all =
    by_test (int_lt s.0 k)
    (λ e. subst (AllRows P) (sym (with_row-below s rows k v e)) (all.0, all_with_row P rows k v h all.1))
    (λ e. by_test (int_eq s.0 k)
    (λ f. subst (AllRows P) (sym (with_row-same s rows k v e f)) (h, all.1))
    (λ f. subst (AllRows P) (sym (with_row-above s rows k v e f)) (h, all)))

all_with_slot : (P : Row → Type 0) (rows : List Row) (o : Option Row) → ((r : Row) → o ≡ Some r → P r) → AllRows P rows → AllRows P (with_slot rows o)
all_with_slot P rows None h all = all
all_with_slot P rows (Some r) h all = all_with_row P rows r.0 r.1 (h r refl) all

pub all_gathered : (P : Row → Type 0) (s : Slots) (n : ℕ) → ((j : ℕ) (r : Row) → j < n → s j ≡ Some r → P r) → AllRows P (gathered s n)
all_gathered P s zero h = tt
all_gathered P s (suc n) h = all_with_slot P (gathered s n) (s n) (λ r e. h n r (omega arith) e) (all_gathered P s n (λ j r l. h j r (omega (arith, l))))

pub all_in : (P : Row → Type 0) (Q : ℕ → Type 0) (g : Row → ℕ) (rows : List Row) → ((r : Row) → P r → Q (g r)) → AllRows P rows → (x : ℕ) → IsIn x (map g rows) → Q x
all_in P Q g [] f all x h = absurd h
all_in P Q g (r ∷ rows) f all x h = elim h [ inl at ↦ subst Q at (f r all.0) | inr later ↦ all_in P Q g rows f all.1 x later ]

-- agreement with items one after the other
pub agrees_append : (e d : Parts) (is js : List Item) → Agrees e is d → Agrees e js d → Agrees e (is ++ js) d
agrees_append e d [] js h k = k
agrees_append e d (Seen p ∷ is) js h k = (h.0, agrees_append e d is js h.1 k)
agrees_append e d (Holds p ∷ is) js h k = (h.0, agrees_append e d is js h.1 k)

-- agreement with the items of each
pub agrees_each : (e d : Parts) (f : ℕ → List Item) (ls : List ℕ) → ((l : ℕ) → IsIn l ls → Agrees e (f l) d) → Agrees e (flat_map f ls) d
agrees_each e d f [] all = tt
agrees_each e d f (l ∷ ls) all = agrees_append e d (f l) (flat_map f ls) (all l (inl refl)) (agrees_each e d f ls (λ m h. all m (inr h)))

pub agrees_split : (e d : Parts) (is js : List Item) → Agrees e (is ++ js) d → Agrees e is d × Agrees e js d
agrees_split e d [] js h = (tt, h)
agrees_split e d (Seen p ∷ is) js h = let r : Agrees e is d × Agrees e js d = agrees_split e d is js h.1 in ((h.0, r.0), r.1)
agrees_split e d (Holds p ∷ is) js h = let r : Agrees e is d × Agrees e js d = agrees_split e d is js h.1 in ((h.0, r.0), r.1)

pub each_agrees : (e d : Parts) (f : ℕ → List Item) (ls : List ℕ) → Agrees e (flat_map f ls) d → (l : ℕ) → IsIn l ls → Agrees e (f l) d
each_agrees e d f [] h l i = absurd i
each_agrees e d f (m ∷ ls) h l i =
    let s : Agrees e (f m) d × Agrees e (flat_map f ls) d = agrees_split e d (f m) (flat_map f ls) h in
    elim i [ inl at ↦ subst (λ (x : ℕ). Agrees e (f x) d) at s.0 | inr later ↦ each_agrees e d f ls s.1 l later ]

-- parts that are seen
pub seen_agrees : (e d : Parts) (ps : List ℕ) → Agrees e (all_seen ps) d → (p : ℕ) → IsIn p ps → part_of e p ≡ part_of d p
seen_agrees e d [] h p i = absurd i
seen_agrees e d (q ∷ ps) h p i = elim i [ inl at ↦ subst (λ (x : ℕ). part_of e x ≡ part_of d x) at h.0 | inr later ↦ seen_agrees e d ps h.1 p later ]

pub agrees_seen : (c : Parts) (ps : List ℕ) → Agrees c (all_seen ps) c
agrees_seen c [] = tt
agrees_seen c (p ∷ ps) = (refl, agrees_seen c ps)

-- items whose parts are read
pub read_append : (r : Reading) (c : Parts) (is js : List Item) → EachRead r c is → EachRead r c js → EachRead r c (is ++ js)
read_append r c [] js h k = k
read_append r c (i ∷ is) js h k = (h.0, read_append r c is js h.1 k)

pub read_each_of : (r : Reading) (c : Parts) (f : ℕ → List Item) (ls : List ℕ) → ((l : ℕ) → IsIn l ls → EachRead r c (f l)) → EachRead r c (flat_map f ls)
read_each_of r c f [] all = tt
read_each_of r c f (l ∷ ls) all = read_append r c (f l) (flat_map f ls) (all l (inl refl)) (read_each_of r c f ls (λ m h. all m (inr h)))

pub read_seen : (r : Reading) (c : Parts) (ps : List ℕ) → ((p : ℕ) → IsIn p ps → IsRead r c p) → EachRead r c (all_seen ps)
read_seen r c [] all = tt
read_seen r c (p ∷ ps) all = (all p (inl refl), read_seen r c ps (λ q h. all q (inr h)))

-- parts that are read whatever they hold
pub items_read_all : (ps : List ℕ) (r : Reading) (c : Parts) → items_at (read_all ps r) c ≡ items_at r c
items_read_all [] r c = refl
items_read_all (p ∷ ps) r c = items_read_all ps r c

pub updates_read_all : (ps : List ℕ) (r : Reading) (c : Parts) → updates_at (read_all ps r) c ≡ updates_at r c
updates_read_all [] r c = refl
updates_read_all (p ∷ ps) r c = updates_read_all ps r c

pub reads_of_all : (ps : List ℕ) (r : Reading) (c : Parts) (q : ℕ) → IsRead (read_all ps r) c q → IsIn q ps ⊎ IsRead r c q
reads_of_all [] r c q h = inr h
reads_of_all (p ∷ ps) r c q h = elim h [
  | inl at ↦ inl (inl at)
  | inr later ↦ elim (reads_of_all ps r c q later) [ inl a ↦ inl (inr a) | inr a ↦ inr a ]
]

pub reads_all : (ps : List ℕ) (r : Reading) (c : Parts) (q : ℕ) → IsIn q ps ⊎ IsRead r c q → IsRead (read_all ps r) c q
reads_all [] r c q (inl bad) = absurd bad
reads_all [] r c q (inr h) = h
reads_all (p ∷ ps) r c q (inl (inl at)) = inl at
reads_all (p ∷ ps) r c q (inl (inr later)) = inr (reads_all ps r c q (inl later))
reads_all (p ∷ ps) r c q (inr h) = inr (reads_all ps r c q (inr h))
