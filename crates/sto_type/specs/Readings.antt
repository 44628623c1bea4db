-- What is read on known parts is what is read on contents that they are part of.
use Rattle.std.proofs.Common.{◌≡◌, ◌<◌, ℕ, ℤ, Option, Some, None, List, length, IsSome, refl, sym, ◌∙◌, ap, subst, inl, inr}
use Rattle.sto_part.specs.Parts.{part_of}
use Rattle.sto_type.specs.Known.{Parts, Known, IsPartOf}
use Rattle.sto_type.specs.Reading.{Reading, Read, Say, need_of, items_of, items_at, IsRead}

-- each part that is read is in range
abbrev pub ReadsWithin : Reading → Parts → Type 0
ReadsWithin r c = (q : ℕ) → IsRead r c q → q < length c

-- the steps of the definitions
need_of-known : (p : ℕ) (f : List ℤ → Reading) (k : Known) (ws : List ℤ) → k p ≡ Some ws → need_of (Read p f) k ≡ need_of (f ws) k
need_of-known p f k ws e = rw e refl

need_of-unknown : (p : ℕ) (f : List ℤ → Reading) (k : Known) → k p ≡ None → need_of (Read p f) k ≡ Some p
need_of-unknown p f k e = rw e refl

items_of-known : (p : ℕ) (f : List ℤ → Reading) (k : Known) (ws : List ℤ) → k p ≡ Some ws → items_of (Read p f) k ≡ items_of (f ws) k
items_of-known p f k ws e = rw e refl

by_option : {A : Type 0} (P : Type 0) (o : Option A) → (o ≡ None → P) → ((x : A) → o ≡ Some x → P) → P
by_option P None f g = f refl
by_option P (Some x) f g = g x refl

-- what is needed is not known, and is read
pub need_is_read : (r : Reading) (k : Known) (c : Parts) (p : ℕ) → IsPartOf k c → ReadsWithin r c → need_of r k ≡ Some p → (k p ≡ None) × IsRead r c p
need_is_read (Say is es) k c p part within e = cc
need_is_read (Read q f) k c p part within e =
    by_option ((k p ≡ None) × IsRead (Read q f) c p) (k q)
    (λ none.
    let same : q ≡ p = let z : Some q ≡ Some p = sym (need_of-unknown q f k none) ∙ e in cc in
    (subst (λ (x : ℕ). k x ≡ None) same none, inl same))
    (λ ws some.
    let words : part_of c q ≡ ws = part.same q ws (within q (inl refl)) some in
    let inner : ReadsWithin (f (part_of c q)) c = λ x h. within x (inr h) in
    let needed : need_of (f (part_of c q)) k ≡ Some p = ap (λ xs. need_of (f xs) k) words ∙ sym (need_of-known q f k ws some) ∙ e in
    let h : (k p ≡ None) × IsRead (f (part_of c q)) c p = need_is_read (f (part_of c q)) k c p part inner needed in
    (h.0, inr h.1))

-- where nothing is needed, the items are those on the contents
pub items_are : (r : Reading) (k : Known) (c : Parts) → IsPartOf k c → ReadsWithin r c → need_of r k ≡ None → items_of r k ≡ items_at r c
items_are (Say is es) k c part within e = refl
items_are (Read q f) k c part within e =
    by_option (items_of (Read q f) k ≡ items_at (Read q f) c) (k q)
    (λ none. let z : Some q ≡ None = sym (need_of-unknown q f k none) ∙ e in cc)
    (λ ws some.
    let words : part_of c q ≡ ws = part.same q ws (within q (inl refl)) some in
    let inner : ReadsWithin (f (part_of c q)) c = λ x h. within x (inr h) in
    let needed : need_of (f (part_of c q)) k ≡ None = ap (λ xs. need_of (f xs) k) words ∙ sym (need_of-known q f k ws some) ∙ e in
    items_of-known q f k ws some ∙ sym (ap (λ xs. items_of (f xs) k) words) ∙ items_are (f (part_of c q)) k c part inner needed)

-- where nothing is needed, each part that is read is known
pub read_is_known : (r : Reading) (k : Known) (c : Parts) (p : ℕ) → IsPartOf k c → ReadsWithin r c → need_of r k ≡ None → IsRead r c p → IsSome (k p)
read_is_known (Say is es) k c p part within e h = absurd h
read_is_known (Read q f) k c p part within e h =
    by_option (IsSome (k p)) (k q)
    (λ none. let z : Some q ≡ None = sym (need_of-unknown q f k none) ∙ e in cc)
    (λ ws some.
    let words : part_of c q ≡ ws = part.same q ws (within q (inl refl)) some in
    let inner : ReadsWithin (f (part_of c q)) c = λ x g. within x (inr g) in
    let needed : need_of (f (part_of c q)) k ≡ None = ap (λ xs. need_of (f xs) k) words ∙ sym (need_of-known q f k ws some) ∙ e in
    elim h [
      | inl same ↦ subst (λ (x : ℕ). IsSome (k x)) same (rw some refl)
      | inr later ↦ read_is_known (f (part_of c q)) k c p part inner needed later
    ])
