-- Each step on the word keeps the rule.
use Rattle.std.proofs.Common.{◌≡◌, ◌≢◌, ◌<◌, ◌≤◌, ◌+◌, ◌-◌, ◌%◌, ◌^◌, ◌⊎◌, ⊎_elim, ℕ, zero, suc, List, [], ◌∷◌, ◌++◌, length, get_or, set, Bool, true, false, eqb, sym, refl, ap, ◌∙◌, subst, arith, length-set}
use Rattle.std.specs.Prelude.{nat_le}
use Rattle.std.proofs.lemmas.Bool.Decides.{leb_tells}
use Rattle.std.proofs.Common.{All}
use Rattle.std.proofs.lemmas.Bool.{eqb-true, ne_eqb}
use Rattle.std.proofs.lemmas.List.{length-append}
use mathlib.Core.Option.{some, some-injective, some-ne-none}
use lib.ListN.{get_elem?}
use Rattle.atomic_table.specs.Table.{State, Me, keeps, Allows, Splits, Joins, opening}
use Rattle.atomic_table.proofs.Lists.{set_else, set_again}
use Rattle.sto_core.specs.Lists.{Each, weight}
use Rattle.sto_core.proofs.Lists.{each_append, each_set, each_one, each_nothing, one_bit}
use Rattle.sto_table.specs.declared.taken.Taken.{Taken}
use Rattle.sto_table.specs.Taken.{taken, times, once_below, past, total, Shared, first, HasClaimed, ClaimsPlay, LooksPlay, left_after, new_after, both, spent}

total-set : (f : Taken → ℕ) (l : List Taken) (i : ℕ) (v w : Taken) → get_elem? l i ≡ some v
    → total f (set l i w) + f v ≡ total f l + f w
total-set f [] i v w at = absurd (some-ne-none v (sym at))
total-set f (x ∷ xs) zero v w at = let e : f x ≡ f v = ap f (some-injective x v at) in omega arith
total-set f (x ∷ xs) (suc i) v w at = let k = total-set f xs i v w at in omega arith

total-snoc : (f : Taken → ℕ) (l : List Taken) (w : Taken) → total f (l ++ w ∷ []) ≡ total f l + f w
total-snoc f [] w = omega arith
total-snoc f (x ∷ xs) w = let k = total-snoc f xs w in omega arith

pub times-append : (x : ℕ) (a b : List ℕ) → times x (a ++ b) ≡ times x a + times x b
times-append x [] b = omega arith
times-append x (y ∷ ys) b = let k = times-append x ys b in omega arith

past-append : (c : ℕ) (a b : List ℕ) → past c (a ++ b) ≡ past c a + past c b
past-append c [] b = omega arith
past-append c (y ∷ ys) b = let k = past-append c ys b in omega arith

pub total-le : (f g : Taken → ℕ) (l : List Taken) → Each (λ v. f v ≤ g v) l → total f l ≤ total g l
total-le f g [] all = omega arith
total-le f g (x ∷ xs) all =
    let here = all 0 x refl in let rest = total-le f g xs (λ j y at. all (suc j) y at) in omega arith

set_zero : (l : List ℕ) (n : ℕ) → length l ≡ 1 → get_or (set l 0 n) 0 0 ≡ n
set_zero [] n one = absurd (omega arith)
set_zero (x ∷ xs) n one = refl

-- a claim
module _ (count seats slots id : ℕ) (me : Me (Unit {0}) Taken) (unended : past count me.0.numbers ≡ 0)
    (seat : 1 ≤ me.0.seats) (small : count + seats < 2 ^ 63) where
  abbrev v : Taken
  v = me.0

  pub claims : Allows (Shared count seats) slots id me 0 (λ n. (n + 1) % 2 ^ 64) (ClaimsPlay me)
  claims s k _ at _ =
      let n : ℕ = get_or s.words 0 0 in
      let w : Taken = taken (v.numbers ++ n ∷ []) v.seats in
      let pasts = total-set (λ u. past count u.numbers) s.views id v w at in
      let more = past-append count v.numbers (n ∷ []) in
      let most = k.most in
      let le = total-le (λ u. past count u.numbers) (λ u. u.seats) s.views k.few in
      let all = k.all in
      let sum : (n + 1) % 2 ^ 64 ≡ n + 1 = omega arith in
      let now : get_or (set s.words 0 ((n + 1) % 2 ^ 64)) 0 0 ≡ suc n = set_zero s.words ((n + 1) % 2 ^ 64) k.wide ∙ omega arith in (
        w,
        keeps,
        tt,
        record {
          wide = length-set s.words 0 ((n + 1) % 2 ^ 64) ∙ k.wide;
          once = λ x.
              (let t = total-set (λ u. times x u.numbers) s.views id v w at in
              let a = times-append x v.numbers (n ∷ []) in
              let o = k.once x in
              let b : once_below x (suc n) ≡ weight (eqb x n) + once_below x n = refl in
              let e : total (λ u. times x u.numbers) (set s.views id w) ≡ once_below x (suc n) = omega arith in e)
              ∙ sym (ap (once_below x) now);
          all = (let t = total-set (λ u. u.seats) s.views id v w at in omega arith);
          few = each_set (λ (u : Taken). past count u.numbers ≤ u.seats) s.views id w k.few
              (let b = one_bit (nat_le count n) in omega arith);
          gone = each_set (λ (u : Taken). u.seats ≡ 0 → u.numbers ≡ []) s.views id w k.gone (λ z. absurd (omega arith));
          most = subst (λ (m : ℕ). m ≤ count + total (λ u. past count u.numbers) (set s.views id w)) (sym now)
              (⊎_elim (λ (t : (nat_le count n ≡ true) × (count ≤ n)). (let o : weight (nat_le count n) ≡ 1 = ap weight t.0 in omega arith))
              (λ (f : (nat_le count n ≡ false) × (n < count)). (let q = f.1 in omega arith)) (leb_tells count n));
          within = subst (λ (m : ℕ). Each (λ (u : Taken). Each (λ (x : ℕ). x < m) u.numbers) (set s.views id w)) (sym now)
              (each_set (λ (u : Taken). Each (λ (x : ℕ). x < suc n) u.numbers) s.views id w
              (λ j u there i x found. let lt = k.within j u there i x found in omega arith)
              (each_append (λ (x : ℕ). x < suc n) v.numbers (n ∷ [])
              (λ i x found. let lt = k.within id v at i x found in omega arith)
              (each_one (λ (x : ℕ). x < suc n) n (omega arith))));
        },
        (record { view = refl; above = k.within id v at }, refl),
      )

-- a seat is cut off
pub splits : (count seats id : ℕ) (v : Taken) → 1 < v.seats → past count v.numbers ≡ 0
    → Splits (Shared count seats) id v (left_after v) (new_after v)
splits count seats id v several none s k at =
    let l = set s.views id (left_after v) in record {
      wide = k.wide;
      once = λ x. (let t = total-set (λ u. times x u.numbers) s.views id v (left_after v) at in
          let q = total-snoc (λ u. times x u.numbers) l (new_after v) in let o = k.once x in omega arith);
      all = (let t = total-set (λ u. u.seats) s.views id v (left_after v) at in
          let q = total-snoc (λ u. u.seats) l (new_after v) in let o = k.all in omega arith);
      few = each_append (λ (u : Taken). past count u.numbers ≤ u.seats) l (new_after v ∷ [])
          (each_set (λ (u : Taken). past count u.numbers ≤ u.seats) s.views id (left_after v) k.few (omega arith))
          (each_one (λ (u : Taken). past count u.numbers ≤ u.seats) (new_after v) (omega arith));
      gone = each_append (λ (u : Taken). u.seats ≡ 0 → u.numbers ≡ []) l (new_after v ∷ [])
          (each_set (λ (u : Taken). u.seats ≡ 0 → u.numbers ≡ []) s.views id (left_after v) k.gone (λ z. absurd (omega arith)))
          (each_one (λ (u : Taken). u.seats ≡ 0 → u.numbers ≡ []) (new_after v) (λ z. absurd (omega arith)));
      most = (let t = total-set (λ u. past count u.numbers) s.views id v (left_after v) at in
          let q = total-snoc (λ u. past count u.numbers) l (new_after v) in let o = k.most in omega arith);
      within = each_append (λ (u : Taken). Each (λ (x : ℕ). x < get_or s.words 0 0) u.numbers) l (new_after v ∷ [])
          (each_set (λ (u : Taken). Each (λ (x : ℕ). x < get_or s.words 0 0) u.numbers) s.views id (left_after v) k.within
          (k.within id v at))
          (each_one (λ (u : Taken). Each (λ (x : ℕ). x < get_or s.words 0 0) u.numbers) (new_after v) (each_nothing _));
    }

-- two claimers are joined
pub joins : (count seats id other : ℕ) (v w : Taken) → Joins (Shared count seats) id v other w (both v w) spent
joins count seats id other v w s k at ne at_other =
    let l = set s.views id (both v w) in
    let there : get_elem? s.views other ≡ some w = sym (set_else s.views id other (both v w) ne) ∙ at_other in record {
      wide = k.wide;
      once = λ x. (let t = total-set (λ u. times x u.numbers) s.views id v (both v w) at in
          let q = total-set (λ u. times x u.numbers) l other w spent at_other in
          let a = times-append x v.numbers w.numbers in let o = k.once x in omega arith);
      all = (let t = total-set (λ u. u.seats) s.views id v (both v w) at in
          let q = total-set (λ u. u.seats) l other w spent at_other in let o = k.all in omega arith);
      few = each_set (λ (u : Taken). past count u.numbers ≤ u.seats) l other spent
          (each_set (λ (u : Taken). past count u.numbers ≤ u.seats) s.views id (both v w) k.few
          (let a = k.few id v at in let b = k.few other w there in let p = past-append count v.numbers w.numbers in omega arith))
          (omega arith);
      gone = each_set (λ (u : Taken). u.seats ≡ 0 → u.numbers ≡ []) l other spent
          (each_set (λ (u : Taken). u.seats ≡ 0 → u.numbers ≡ []) s.views id (both v w) k.gone
          (λ z. let a = k.gone id v at (omega arith) in let b = k.gone other w there (omega arith) in
          (λ j. a j ++ b j)))
          (λ z. refl);
      most = (let t = total-set (λ u. past count u.numbers) s.views id v (both v w) at in
          let q = total-set (λ u. past count u.numbers) l other w spent at_other in
          let p = past-append count v.numbers w.numbers in let o = k.most in omega arith);
      within = each_set (λ (u : Taken). Each (λ (x : ℕ). x < get_or s.words 0 0) u.numbers) l other spent
          (each_set (λ (u : Taken). Each (λ (x : ℕ). x < get_or s.words 0 0) u.numbers) s.views id (both v w) k.within
          (each_append (λ (x : ℕ). x < get_or s.words 0 0) v.numbers w.numbers (k.within id v at) (k.within other w there)))
          (each_nothing _);
    }

-- the word at the opening
pub opens : (count seats : ℕ) → Shared count seats (opening (0 ∷ []) [] (first seats))
opens count seats = record {
  wide = refl;
  once = λ x. (omega arith);
  all = (omega arith);
  few = each_one (λ (u : Taken). past count u.numbers ≤ u.seats) (first seats) (omega arith);
  gone = each_one (λ (u : Taken). u.seats ≡ 0 → u.numbers ≡ []) (first seats) (λ z. refl);
  most = (omega arith);
  within = each_one (λ (u : Taken). Each (λ (x : ℕ). x < 0) u.numbers) (first seats) (each_nothing _);
}

-- a sum to which only what has some seat adds is that of the one who has all seats
total-part : (f g : Taken → ℕ) (l : List Taken) (i : ℕ) (v : Taken) → get_elem? l i ≡ some v → total g l ≡ g v
    → Each (λ (u : Taken). g u ≡ 0 → f u ≡ 0) l → total f l ≡ f v
total-part f g [] i v at all none = absurd (some-ne-none v (sym at))
total-part f g (x ∷ xs) zero v at all none =
    let a : f x ≡ f v = ap f (some-injective x v at) in let b : g x ≡ g v = ap g (some-injective x v at) in
    let rest = total-zero xs (omega arith) (λ j u there. none (suc j) u there) in omega arith
  where
    total-zero : (l : List Taken) → total g l ≡ 0 → Each (λ (u : Taken). g u ≡ 0 → f u ≡ 0) l → total f l ≡ 0
    total-zero [] z none = refl
    total-zero (y ∷ ys) z none =
        let here = none 0 y refl (omega arith) in
        let more = total-zero ys (omega arith) (λ j u there. none (suc j) u there) in omega arith
total-part f g (x ∷ xs) (suc i) v at all none =
    let le = at-most xs i at in
    let here = none 0 x refl (omega arith) in
    let rest = total-part f g xs i v at (omega arith) (λ j u there. none (suc j) u there) in omega arith
  where
    at-most : (l : List Taken) (i : ℕ) → get_elem? l i ≡ some v → g v ≤ total g l
    at-most [] i at = absurd (some-ne-none v (sym at))
    at-most (y ∷ ys) zero at = let e : g y ≡ g v = ap g (some-injective y v at) in omega arith
    at-most (y ∷ ys) (suc i) at = let k = at-most ys i at in omega arith

-- who has all seats has found the numbers below the word, each once
pub closes : (count seats id : ℕ) (v : Taken) (s : State (Unit {0}) Taken) → Shared count seats s
    → get_elem? s.views id ≡ some v → v.seats ≡ seats
    → (x : ℕ) → times x v.numbers ≡ once_below x (get_or s.words 0 0)
closes count seats id v s k at all x =
    sym (total-part (λ u. times x u.numbers) (λ u. u.seats) s.views id v at (k.all ∙ sym all)
    (λ j u there z. ap (times x) (k.gone j u there z))) ∙ k.once x

at_or : (l : List ℕ) (i a : ℕ) → get_elem? l i ≡ some a → get_or l i 0 ≡ a
at_or [] i a is = absurd (some-ne-none a (sym is))
at_or (x ∷ l) zero a is = some-injective x a is
at_or (x ∷ l) (suc i) a is = at_or l i a is

-- the same of the word that was read
pub closes_with : (count seats id : ℕ) (v : Taken) (s : State (Unit {0}) Taken) → Shared count seats s
    → get_elem? s.views id ≡ some v → v.seats ≡ seats → (words : List ℕ) → s.words ≡ words → (found : ℕ)
    → get_elem? words 0 ≡ some found → (x : ℕ) → times x v.numbers ≡ once_below x found
closes_with count seats id v s k at all words same found is x =
    closes count seats id v s k at all x
    ∙ ap (once_below x) (ap (λ (l : List ℕ). get_or l 0 0) same ∙ at_or words 0 found is)

once_none : (x n : ℕ) → n ≤ x → once_below x n ≡ 0
once_none x zero le = refl
once_none x (suc n) le =
    let e : eqb x n ≡ false = ne_eqb x n (λ q. omega arith) in
    let w : weight (eqb x n) ≡ 0 = ap weight e in let k = once_none x n (omega arith) in omega arith

one_at_most : (x n : ℕ) (b : Bool) → eqb x n ≡ b → once_below x n ≤ 1 → weight (eqb x n) + once_below x n ≤ 1
one_at_most x n true is le =
    let e = eqb-true x n is in let k = once_none x n (omega arith) in let w : weight (eqb x n) ≡ 1 = ap weight is in omega arith
one_at_most x n false is le = let w : weight (eqb x n) ≡ 0 = ap weight is in omega arith

once_le : (x n : ℕ) → once_below x n ≤ 1
once_le x zero = omega arith
once_le x (suc n) = one_at_most x n (eqb x n) refl (once_le x n)

total-at : (f : Taken → ℕ) (l : List Taken) (i : ℕ) (v : Taken) → get_elem? l i ≡ some v → f v ≤ total f l
total-at f [] i v at = absurd (some-ne-none v (sym at))
total-at f (x ∷ xs) zero v at = let e : f x ≡ f v = ap f (some-injective x v at) in omega arith
total-at f (x ∷ xs) (suc i) v at = let k = total-at f xs i v at in omega arith

word_same : (l : List ℕ) → set l 0 (get_or l 0 0) ≡ l
word_same [] = refl
word_same (x ∷ xs) = refl

-- a look changes nothing
pub looks : (count seats slots id : ℕ) (me : Me (Unit {0}) Taken)
    → Allows (Shared count seats) slots id me 0 (λ n. n) (LooksPlay me)
looks count seats slots id me s k _ at _ = (
  me.0,
  keeps,
  tt,
  subst (λ (z : List ℕ × List Taken). Shared count seats (record { words = z.0; homes = s.homes; views = z.1 }))
      (λ j. (sym (word_same s.words) j, sym (set_again s.views id me.0 at) j)) k,
  (
    refl,
    λ x. let t = total-at (λ u. times x u.numbers) s.views id me.0 at in let o = k.once x in
        let l = once_le x (get_or s.words 0 0) in omega arith,
  ),
)

pub all_snoc : {X : Type 0} (P : X → Type 0) (xs : List X) (x : X) → All P xs → P x → All P (xs ++ x ∷ [])
all_snoc P [] x all here zero d lt = here
all_snoc P [] x all here (suc k) d lt = absurd (omega arith)
all_snoc P (y ∷ ys) x all here zero d lt = all 0 d (omega arith)
all_snoc P (y ∷ ys) x all here (suc k) d lt =
    all_snoc P ys x (λ i e less. all (suc i) e (omega arith)) here k d (omega arith)

pub one_longer : {X : Type 0} (xs ys : List X) (x : X) → ys ≡ xs ++ x ∷ [] → length ys ≡ length xs + 1
one_longer xs ys x more = ap length more ∙ length-append xs (x ∷ [])
