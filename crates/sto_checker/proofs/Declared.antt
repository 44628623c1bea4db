-- Objects by their names and by their numbers.
use Rattle.std.proofs.Common.{◌≡◌, ℕ, zero, suc, ◌+◌, ◌<◌, ◌≤◌, ◌^◌, List, [], ◌∷◌, length, map, refl, sym, ap, ◌∙◌, subst, Bool, true, false, cond, ◌==◌, Option, None, Some, slice_get, is_some, arith, find, sum_by}
use Rattle.std.specs.Option.{option_map}
use Rattle.std.specs.Str.{bytes_eq}
use Rattle.std.proofs.lemmas.Bool.Decides.{nat_tests}
use Rattle.std.proofs.lemmas.Slice.Eq.{bytes_eq-Decides}
use Rattle.std.proofs.lemmas.List.Sums.{sum_by-cons}
use Rattle.std.specs.List.{All}
use Rattle.std.proofs.lemmas.List.Elements.{All-head, All-tail}
use Rattle.sto_model.specs.Sizes.{part_count}
use Rattle.sto_model.specs.declared.shape.Shape.{Shape}
use Rattle.sto_lang.specs.declared.file.Decl.{Decl}
use Rattle.sto_lang.specs.Objects.{Declaration, shapes_of, with_number}
use Rattle.sto_lang.specs.Scripts.{File}
use Rattle.sto_lang.specs.Limits.{most_parts}
use Rattle.sto_lang.specs.Sound.{IsNumbered, HaveOwnNumbers, IsSound}
use Rattle.sto_lang.specs.Views.{declaration}
use Rattle.sto_report_spec.specs.Aborts.{LocalPart, name_of, part_by_home}
use Rattle.sto_report_spec.specs.LawfulAborts.{declared_as}

-- what is found stands somewhere and passes
record Stands {X : Type 0} (p : X → Bool) (xs : List X) (x : X) : Type 0 where
  place : ℕ
  at : slice_get xs place ≡ Some x
  passes : p x ≡ true

found_stands : {X : Type 0} (p : X → Bool) (xs : List X) (x : X) → find p xs ≡ Some x → Stands p xs x
found_stands p [] x e = absurd cc
found_stands p (y ∷ xs) x e = by (p y) refl e (found_stands p xs x)
  where
    by : (b : Bool) → p y ≡ b → cond b (Some y) (find p xs) ≡ Some x → (find p xs ≡ Some x → Stands p xs x) → Stands p (y ∷ xs) x
    by true k e more = let same : y ≡ x = cc in record { place = 0; at = e; passes = subst (λ z. p z ≡ true) same k }
    by false k e more = let h = more e in record { place = suc h.place; at = h.at; passes = h.passes }

-- what passes somewhere is found, it or another
record IsFoundSome {X : Type 0} (p : X → Bool) (xs : List X) : Type 0 where
  item : X
  found : find p xs ≡ Some item

some_found : {X : Type 0} (p : X → Bool) (xs : List X) (n : ℕ) (x : X) → slice_get xs n ≡ Some x → p x ≡ true → IsFoundSome p xs
some_found p [] zero x e k = absurd cc
some_found p [] (suc n) x e k = absurd cc
some_found p (y ∷ xs) zero x e k = let same : y ≡ x = cc in record { item = y; found = ap (λ (b : Bool). cond b (Some y) (find p xs)) (subst (λ z. p z ≡ true) (sym same) k) }
some_found p (y ∷ xs) (suc n) x e k = by (p y) (some_found p xs n x e k) refl
  where
    by : (b : Bool) → IsFoundSome p xs → p y ≡ b → IsFoundSome p (y ∷ xs)
    by true h g = record { item = y; found = ap (λ (b : Bool). cond b (Some y) (find p xs)) g }
    by false h g = record { item = h.item; found = ap (λ (b : Bool). cond b (Some y) (find p xs)) g ∙ h.found }

same_number : (a b : ℕ) → (a == b) ≡ true → a ≡ b
same_number a b e = grind (arith, nat_tests)

own_number : (a : ℕ) → (a == a) ≡ true
own_number a = grind (arith, nat_tests)

-- an object that was found by its name
module _ (declarations : List Declaration) (own : HaveOwnNumbers declarations) (name : List ℕ) (d : Declaration) (e : declared_as name declarations ≡ Some d) where
  here : Stands (λ d. bytes_eq name d.name) declarations d
  here = found_stands (λ d. bytes_eq name d.name) declarations d e

  pub name_is : d.name ≡ name
  name_is = sym ((bytes_eq-Decides name d.name).0 here.passes)

  -- is the one with its number
  pub numbered : with_number d.number declarations ≡ Some d
  numbered =
      let some = some_found (λ x. x.number == d.number) declarations here.place d here.at (own_number d.number) in
      let other = found_stands (λ x. x.number == d.number) declarations some.item some.found in
      let places : other.place ≡ here.place = own other.place here.place some.item d other.at here.at (same_number some.item.number d.number other.passes) in
      let same : Some some.item ≡ Some d = sym other.at ∙ ap (slice_get declarations) places ∙ here.at in
      some.found ∙ same

  pub is_declared : is_some (with_number d.number declarations) ≡ true
  is_declared = ap is_some numbered

  pub part_named : (part : ℕ) → part_by_home declarations (d.number, part) ≡ record { object = name; part = part }
  part_named part =
      ap (λ (o : Option Declaration). let p : LocalPart = record { object = name_of o; part = part } in p) numbered
      ∙ ap (λ (n : List ℕ). let p : LocalPart = record { object = n; part = part } in p) name_is

same_named : (decls : List Decl) (name : List ℕ) → declared_as name (map declaration decls) ≡ option_map declaration (find (λ d. bytes_eq name d.name.items) decls)
same_named [] name = refl
same_named (d ∷ decls) name = by (bytes_eq name d.name.items) (same_named decls name)
  where
    by : (b : Bool) → declared_as name (map declaration decls) ≡ option_map declaration (find (λ (d : Decl). bytes_eq name d.name.items) decls)
        → cond b (Some (declaration d)) (declared_as name (map declaration decls)) ≡ option_map declaration (cond b (Some d) (find (λ (d : Decl). bytes_eq name d.name.items) decls))
    by true h = refl
    by false h = h

pub named_found : (decls : List Decl) (name : List ℕ) (d : Decl) → find (λ d. bytes_eq name d.name.items) decls ≡ Some d → declared_as name (map declaration decls) ≡ Some (declaration d)
named_found decls name d e = same_named decls name ∙ ap (option_map declaration) e

pub not_found : (decls : List Decl) (name : List ℕ) → find (λ d. bytes_eq name d.name.items) decls ≡ None → declared_as name (map declaration decls) ≡ None
not_found decls name e = same_named decls name ∙ ap (option_map declaration) e

-- Parts are few.

one_of_sum : (shapes : List Shape) (n : ℕ) (shape : Shape) → slice_get shapes n ≡ Some shape → part_count shape ≤ sum_by part_count shapes
one_of_sum [] zero shape e = absurd cc
one_of_sum [] (suc n) shape e = absurd cc
one_of_sum (s ∷ shapes) zero shape e =
    let same : part_count s ≡ part_count shape = ap (λ (o : Option Shape). count_or o) e in
    let cons = sum_by-cons part_count s shapes in
    omega (arith, same, cons)
  where
    count_or : Option Shape → ℕ
    count_or None = 0
    count_or (Some x) = part_count x
one_of_sum (s ∷ shapes) (suc n) shape e =
    let more = one_of_sum shapes n shape e in
    let cons = sum_by-cons part_count s shapes in
    omega (arith, more, cons)

most : (version : ℕ) → most_parts version ≤ 65536
most version = grind (arith, nat_tests)

at_place : {X : Type 0} (P : X → Type 0) (xs : List X) (n : ℕ) (x : X) → All P xs → slice_get xs n ≡ Some x → P x
at_place P [] zero x h e = absurd cc
at_place P [] (suc n) x h e = absurd cc
at_place P (y ∷ xs) zero x h e = let same : y ≡ x = cc in subst P same (All-head P y xs h)
at_place P (y ∷ xs) (suc n) x h e = at_place P xs n x (All-tail P y xs h) e

pub few_parts : (file : File) (name : List ℕ) (d : Declaration) → IsSound file → declared_as name file.declarations ≡ Some d → part_count d.shape ≤ 65536
few_parts file name d sound e =
    let here = found_stands (λ d. bytes_eq name d.name) file.declarations d e in
    let number = at_place (IsNumbered file.declarations) file.declarations here.place d sound.numbered here.at in
    let one = one_of_sum (shapes_of file.declarations) d.number d.shape number.shaped in
    omega (arith, one, sound.few_parts, most file.version)
