-- The written parts that are held, in their order: one more, and one fewer.
use Rattle.std.proofs.Common.{◌≡◌, ◌≤◌, ◌<◌, ◌+◌, ℕ, zero, suc, true, false, nat_eq, Some, List, [], ◌∷◌, ◌++◌, length, take, drop, map, refl, ap, sym, ◌∙◌, subst, arith, eq-eqb, slice_get}
use Rattle.std.proofs.lemmas.Bool.Decides.{nat_tests}
use mathlib.Core.Option.{some-ne-none, some-injective}
use Rattle.sto_item.specs.Pending.{Entry as Update, IsRisingFrom}
use Rattle.sto_core.specs.declared.view.Held.{Held}
use Rattle.sto_core.specs.declared.view.Phase.{Phase}
use Rattle.sto_core.specs.Lists.{Each}
use Rattle.sto_core.specs.Views.{holds, without}
use Rattle.sto_core.specs.Event.{phase_left}
use Rattle.sto_attempt_log.specs.Every.{AllOf}
use Rattle.sto_attempt_log.specs.Committing.{written}

abbrev pub parts_held : List Held → List ℕ
parts_held hs = map (λ (h : Held). h.part) hs

-- what is so of each of a list, at a place
pub all_get : {A : Type 0} (P : A → Type 0) (xs : List A) (n : ℕ) (x : A) → slice_get xs n ≡ Some x → AllOf P xs → P x
all_get P [] n x e a = cc
all_get P (y ∷ xs) zero x e a = let same : y ≡ x = cc in subst P same a.0
all_get P (y ∷ xs) (suc n) x e a = all_get P xs n x e a.1

pub take_more : (us : List Update) (n : ℕ) (u : Update) → slice_get us n ≡ Some u → take (suc n) (written us) ≡ take n (written us) ++ u.0 ∷ []
take_more [] n u e = cc
take_more (x ∷ us) zero u e = let same : x ≡ u = cc in ap (λ (y : Update). y.0 ∷ []) same
take_more (x ∷ us) (suc n) u e = ap (λ (l : List ℕ). x.0 ∷ l) (take_more us n u e)

pub map_snoc : (hs : List Held) (h : Held) → parts_held (hs ++ h ∷ []) ≡ parts_held hs ++ h.part ∷ []
map_snoc [] h = refl
map_snoc (x ∷ hs) h = ap (λ (l : List ℕ). x.part ∷ l) (map_snoc hs h)

rising_above : (k : ℕ) (us : List Update) (n : ℕ) (u : Update) → IsRisingFrom k us → slice_get us n ≡ Some u → k ≤ u.0
rising_above k [] n u r e = cc
rising_above k (x ∷ us) zero u r e = let same : x ≡ u = cc in subst (λ (y : Update). k ≤ y.0) same r.0
rising_above k (x ∷ us) (suc n) u r e = omega (arith, r.0, rising_above (x.0 + 1) us n u r.1 e)

-- those before a place are below the one at it
pub first_below : (k : ℕ) (us : List Update) (n : ℕ) (u : Update) → IsRisingFrom k us → slice_get us n ≡ Some u → AllOf (λ (q : ℕ). q < u.0) (take n (written us))
first_below k [] n u r e = cc
first_below k (x ∷ us) zero u r e = tt
first_below k (x ∷ us) (suc n) u r e = (omega (arith, rising_above (x.0 + 1) us n u r.1 e), first_below (x.0 + 1) us n u r.1 e)

pub each_held : (Q : ℕ → Type 0) (hs : List Held) → AllOf Q (parts_held hs) → Each (λ (h : Held). Q h.part) hs
each_held Q [] a j h e = absurd (some-ne-none h (sym e))
each_held Q (x ∷ hs) a zero h e = subst (λ (y : Held). Q y.part) (some-injective x h e) a.0
each_held Q (x ∷ hs) a (suc j) h e = each_held Q hs a.1 j h e

pub not_held : (p : ℕ) (hs : List Held) → AllOf (λ (q : ℕ). q < p) (parts_held hs) → holds p hs ≡ false
not_held p [] a = refl
not_held p (h ∷ hs) a =
    let other : nat_eq h.part p ≡ false = grind (arith, nat_tests, a.0) in
    rw other (not_held p hs a.1)

all_above : (a k : ℕ) (us : List Update) (n : ℕ) → a < k → IsRisingFrom k us → AllOf (λ (q : ℕ). a < q) (take n (written us))
all_above a k [] zero l r = tt
all_above a k [] (suc n) l r = tt
all_above a k (x ∷ us) zero l r = tt
all_above a k (x ∷ us) (suc n) l r = (omega (arith, l, r.0), all_above a (x.0 + 1) us n (omega (arith, l, r.0)) r.1)

-- from a place on: the part at it, and others that are above it
pub rest_from : (k : ℕ) (us : List Update) (i n : ℕ) (u : Update) → IsRisingFrom k us → slice_get us i ≡ Some u → i < n
    → (drop i (take n (written us)) ≡ u.0 ∷ drop (suc i) (take n (written us))) × AllOf (λ (q : ℕ). u.0 < q) (drop (suc i) (take n (written us)))
rest_from k [] i n u r e l = cc
rest_from k (x ∷ us) i zero u r e l = absurd (omega (arith, l))
rest_from k (x ∷ us) zero (suc n) u r e l =
    let same : x ≡ u = cc in
    subst (λ (y : Update). (x.0 ∷ take n (written us) ≡ y.0 ∷ take n (written us)) × AllOf (λ (q : ℕ). y.0 < q) (take n (written us))) same (refl, all_above x.0 (x.0 + 1) us n (omega arith) r.1)
rest_from k (x ∷ us) (suc i) (suc n) u r e l = rest_from (x.0 + 1) us i n u r.1 e (omega (arith, l))

pub drop_past : (k : ℕ) (l : List ℕ) → length l ≤ k → drop k l ≡ []
drop_past zero [] h = refl
drop_past (suc k) [] h = refl
drop_past zero (x ∷ l) h = absurd (omega (arith, h))
drop_past (suc k) (x ∷ l) h = drop_past k l (omega (arith, h))

without_none : (p : ℕ) (hs : List Held) → AllOf (λ (q : ℕ). p < q) (parts_held hs) → without p hs ≡ hs
without_none p [] a = refl
without_none p (h ∷ hs) a =
    let other : nat_eq h.part p ≡ false = grind (arith, nat_tests, a.0) in
    rw other (ap (λ (l : List Held). h ∷ l) (without_none p hs a.1))

-- the first of the held parts is let go
pub without_first : (p : ℕ) (hs : List Held) (ps : List ℕ) → parts_held hs ≡ p ∷ ps → AllOf (λ (q : ℕ). p < q) ps → parts_held (without p hs) ≡ ps
without_first p [] ps e a = cc
without_first p (h ∷ hs) ps e a =
    let first : h.part ≡ p = cc in
    let rest : parts_held hs ≡ ps = cc in
    let above : AllOf (λ (q : ℕ). p < q) (parts_held hs) = subst (λ (l : List ℕ). AllOf (λ (q : ℕ). p < q) l) (sym rest) a in
    rw (eq-eqb h.part p first) (ap parts_held (without_none p hs above) ∙ rest)

pub holds_first : (p : ℕ) (hs : List Held) (ps : List ℕ) → parts_held hs ≡ p ∷ ps → holds p hs ≡ true
holds_first p [] ps e = cc
holds_first p (h ∷ hs) ps e = let first : h.part ≡ p = cc in rw (eq-eqb h.part p first) refl

pub none_left : (hs : List Held) → parts_held hs ≡ [] → hs ≡ []
none_left [] e = refl
none_left (h ∷ hs) e = cc

pub phase_stays : (hs : List Held) (q : ℕ) (qs : List ℕ) (h : Phase) → parts_held hs ≡ q ∷ qs → phase_left hs h ≡ h
phase_stays [] q qs h e = cc
phase_stays (x ∷ hs) q qs h e = refl
