-- As many numbers as there are below n, all different, are all of these; and objects are found by their numbers and names.
use Rattle.std.specs.Prelude.{slice_get, find}
use Rattle.std.specs.List.{list_any}
use Rattle.std.specs.Str.{bytes_eq}
use Rattle.std.proofs.lemmas.Slice.Eq.{bytes_eq-Decides}
use Rattle.std.proofs.Common.{◌≡◌, ◌⊎◌, ℕ, zero, suc, ◌+◌, ◌<◌, ◌≤◌, List, [], ◌∷◌, length, map, refl, sym, ap, ◌∙◌, subst, arith, Bool, true, false, cond, ◌==◌, ◌||◌, inl, inr, eqb-true, eq-eqb, true≢false, Option, Some}
use Rattle.std.proofs.lemmas.Bool.{cases_order, cases_lt, cases_Bool, cases_eq}
use Rattle.std.proofs.lemmas.Bool.Decides.{nat_tests}
use Rattle.sto_lang.specs.Objects.{Declaration, with_number}
use Rattle.sto_lang.specs.Sound.{AllDiffer}
use Rattle.sto_report_spec.specs.LawfulAborts.{declared_as}
use Rattle.sto_serializability.proofs.Chains.{Every}
use Rattle.sto_serializability.proofs.Pairs.{Later, hit, occurrences}

sum_below : ℕ → (ℕ → ℕ) → ℕ
sum_below zero f = 0
sum_below (suc n) f = f n + sum_below n f

hit_none : (x y : ℕ) → (x ≡ y → ⊥) → hit x y ≡ 0
hit_none x y ne = grind (arith, nat_tests)

hit_one : (x : ℕ) → hit x x ≡ 1
hit_one x = grind (arith, nat_tests)

hits_none : (n y : ℕ) → n ≤ y → sum_below n (λ x. hit x y) ≡ 0
unfolding sum_below
hits_none zero y l = refl
hits_none (suc n) y l = let a = hit_none n y (λ e. omega (arith, e, l)) in let b = hits_none n y (omega (arith, l)) in omega (arith, a, b)

hits_one : (n y : ℕ) → y < n → sum_below n (λ x. hit x y) ≡ 1
unfolding sum_below
hits_one zero y l = absurd (omega (arith, l))
hits_one (suc n) y l = elim (cases_eq n y) [
  | inl e ↦ let a = ap (hit n) (sym e) ∙ hit_one n in let b = hits_none n y (omega (arith, e)) in omega (arith, a, b)
  | inr ne ↦ let a = hit_none n y ne in let b = hits_one n y (below n y l ne) in omega (arith, a, b)
]
  where
    below : (k z : ℕ) → z < suc k → (k ≡ z → ⊥) → z < k
    below k z u other = elim (cases_lt z k) [ inl g ↦ g | inr g ↦ absurd (other (omega (arith, u, g))) ]

sum_both : (n : ℕ) (f g : ℕ → ℕ) → sum_below n (λ x. f x + g x) ≡ sum_below n f + sum_below n g
unfolding sum_below
sum_both zero f g = omega arith
sum_both (suc n) f g = let k = sum_both n f g in omega (arith, k)

sum_none : (n : ℕ) → sum_below n (λ x. 0) ≡ 0
unfolding sum_below
sum_none zero = refl
sum_none (suc n) = let k = sum_none n in omega (arith, k)

all_hits : (n : ℕ) (ys : List ℕ) → Every (λ y. y < n) ys → sum_below n (λ x. occurrences x ys) ≡ length ys
all_hits n [] h = sum_none n
all_hits n (y ∷ ys) h =
    let both = sum_both n (λ x. hit x y) (λ x. occurrences x ys) in
    let here = hits_one n y h.0 in let rest = all_hits n ys h.1 in omega (arith, both, here, rest)

sum_most : (n : ℕ) (f : ℕ → ℕ) → ((x : ℕ) → f x ≤ 1) → sum_below n f ≤ n
unfolding sum_below
sum_most zero f h = omega arith
sum_most (suc n) f h = let a = h n in let b = sum_most n f h in omega (arith, a, b)

each_one : (n : ℕ) (f : ℕ → ℕ) → ((x : ℕ) → f x ≤ 1) → sum_below n f ≡ n → (x : ℕ) → x < n → f x ≡ 1
unfolding sum_below
each_one zero f h e x l = absurd (omega (arith, l))
each_one (suc n) f h e x l =
    let a = h n in let b = sum_most n f h in
    let top : f n ≡ 1 = omega (arith, a, b, e) in
    elim (cases_lt x n) [
      | inl g ↦ each_one n f h (omega (arith, e, top)) x g
      | inr g ↦ let same : x ≡ n = omega (arith, l, g) in ap f same ∙ top
    ]

-- numbers that are all different
none_among : (x : ℕ) (ys : List ℕ) → Every (λ y. x ≡ y → ⊥) ys → occurrences x ys ≡ 0
none_among x [] h = refl
none_among x (y ∷ ys) h = let a = hit_none x y h.0 in let b = none_among x ys h.1 in omega (arith, a, b)

once_among : (x : ℕ) (ys : List ℕ) → Later (λ y z. y ≡ z → ⊥) ys → occurrences x ys ≤ 1
once_among x [] h = omega arith
once_among x (y ∷ ys) h = elim (cases_eq x y) [
  | inl e ↦ let a = ap (hit x) (sym e) ∙ hit_one x in let b = ap (λ (z : ℕ). occurrences z ys) e ∙ none_among y ys h.0 in omega (arith, a, b)
  | inr ne ↦ let a = hit_none x y ne in let b = once_among x ys h.1 in omega (arith, a, b)
]

-- as many different numbers below n as there are
pub all_there : (n : ℕ) (ys : List ℕ) → length ys ≡ n → Every (λ y. y < n) ys → Later (λ y z. y ≡ z → ⊥) ys → (x : ℕ) → x < n → occurrences x ys ≡ 1
all_there n ys few below apart x l = each_one n (λ z. occurrences z ys) (λ z. once_among z ys apart) (all_hits n ys below ∙ few) x l

-- an object that is found by its number
pub record IsFound (ds : List Declaration) (object : ℕ) : Type 0 where
  pub declaration : Declaration
  pub place : ℕ
  pub there : slice_get ds place ≡ Some declaration
  pub number : declaration.number ≡ object
  pub by_number : with_number object ds ≡ Some declaration

pub found_number : (ds : List Declaration) (object : ℕ) → 0 < occurrences object (map (λ (d : Declaration). d.number) ds) → IsFound ds object
found_number [] object l = absurd (omega (arith, l))
found_number (d ∷ ds) object l = elim (cases_eq object d.number) [
  | inl e ↦ record {
    declaration = d;
    place = 0;
    there = refl;
    number = sym e;
    by_number = ap (λ (b : Bool). cond b (Some d) (with_number object ds)) (eq-eqb d.number object (sym e));
  }
  | inr ne ↦
      let off : hit object d.number ≡ 0 = hit_none object d.number ne in
      let rest : IsFound ds object = found_number ds object (omega (arith, l, off)) in
      let miss : d.number == object ≡ false = differs d.number object (λ e. ne (sym e)) in
      record {
        declaration = rest.declaration;
        place = suc rest.place;
        there = rest.there;
        number = rest.number;
        by_number = ap (λ (b : Bool). cond b (Some d) (with_number object ds)) miss ∙ rest.by_number;
      }
]
  where
    differs : (x y : ℕ) → (x ≡ y → ⊥) → x == y ≡ false
    differs x y ne = grind (arith, nat_tests)

same_some : (d e : Declaration) → Some d ≡ Some e → d ≡ e
same_some d e h = cc

neither : (a b : Bool) → (a || b) ≡ false → (a ≡ false) × (b ≡ false)
neither true b e = absurd (cc)
neither false b e = (refl, e)

-- a name that stands nowhere among the names of others is none of them
differs_from : (n : List ℕ) (ds : List Declaration) (i : ℕ) (d : Declaration) → list_any (bytes_eq n) (map (λ (x : Declaration). x.name) ds) ≡ false → slice_get ds i ≡ Some d → bytes_eq n d.name ≡ false
differs_from n [] zero d h at = absurd cc
differs_from n [] (suc i) d h at = absurd cc
differs_from n (e ∷ ds) zero d h at =
    ap (λ (x : Declaration). bytes_eq n x.name) (sym (same_some e d at)) ∙ (neither (bytes_eq n e.name) (list_any (bytes_eq n) (map (λ (x : Declaration). x.name) ds)) h).0
differs_from n (e ∷ ds) (suc i) d h at = differs_from n ds i d (neither (bytes_eq n e.name) (list_any (bytes_eq n) (map (λ (x : Declaration). x.name) ds)) h).1 at

turned : (n q : List ℕ) → bytes_eq n q ≡ false → bytes_eq q n ≡ true → ⊥
turned n q e f = let back : n ≡ q = sym ((bytes_eq-Decides q n).0 f) in let is : bytes_eq n q ≡ true = (bytes_eq-Decides n q).1 back in true≢false (sym is ∙ e)

-- where no two objects have one name, each is found by its own
pub found_name : (ds : List Declaration) (i : ℕ) (d : Declaration) → AllDiffer (map (λ (x : Declaration). x.name) ds) → slice_get ds i ≡ Some d → declared_as d.name ds ≡ Some d
found_name [] zero d own at = absurd cc
found_name [] (suc i) d own at = absurd cc
found_name (e ∷ ds) zero d own at =
    let same : e ≡ d = same_some e d at in
    let hit_it : bytes_eq d.name e.name ≡ true = (bytes_eq-Decides d.name e.name).1 (ap (λ (x : Declaration). x.name) (sym same)) in
    ap (λ (b : Bool). cond b (Some e) (declared_as d.name ds)) hit_it ∙ ap Some same
found_name (e ∷ ds) (suc i) d own at = elim (cases_Bool (bytes_eq d.name e.name)) [
  | inl hit_it ↦ absurd (turned e.name d.name (differs_from e.name ds i d own.0 at) hit_it)
  | inr miss ↦ ap (λ (b : Bool). cond b (Some e) (declared_as d.name ds)) miss ∙ found_name ds i d own.1 at
]
