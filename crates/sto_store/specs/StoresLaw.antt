-- The meaning of a store has the plain objects of its shapes, takes what they take, and numbers its parts in the order of the objects.
use Rattle.std.specs.Prelude.{◌≡◌, ◌<◌, ◌≤◌, ◌+◌, ◌-◌, ◌*◌, ℕ, zero, suc, ℤ, pos, nat_lt, Bool, true, false, Some, List, [], ◌∷◌, ◌++◌, map, length, slice_get, IsTrue, refl}
use Rattle.std.specs.Int.{w64}
use Rattle.std.specs.Int.RustNames.{FitsSigned}
use Rattle.std.proofs.Common.{ap, sym, ◌∙◌, arith, subst, length-append, append_assoc}
use Rattle.std.proofs.lemmas.Bool.Decides.{nat_tests}
use Rattle.std.proofs.lemmas.List.{map-append}
use Rattle.sto_model.specs.declared.call.Call.{Call}
use Rattle.sto_model.specs.declared.operation.Operation.{Operation}
use Rattle.sto_model.specs.declared.operation.Operation.TheVariants.{Get, Set, Add, Test as TestWord, Take, Put, Remove, Has, Len, Next, Count, Scan, Push, Pop}
use Rattle.sto_model.specs.declared.shape.Shape.{Shape}
use Rattle.sto_model.specs.declared.shape.Shape.TheVariants.{Single, Counter, Array, Hash, Tree, Vector}
use Rattle.sto_model.specs.Sizes.{part_count}
use Rattle.sto_model.specs.Objects.{machine_of, machines_of, takes, takes_call, IsTaken}
use Rattle.sto_type.specs.Meaning.{Meaning}
use Rattle.sto_type.specs.Joined.{call_beyond, home_moved, joined, no_meaning, all_joined}
use Rattle.sto_model.proofs.CallFacts.{taken_call}
use Rattle.sto_type.proofs.Answering.{home_past}
use Rattle.sto_array.specs.Arrayed.{homes_from as array_homes}
use Rattle.sto_hash.specs.Hashed.{homes_from as hash_homes}
use Rattle.sto_tree.specs.Layout.{listed}
use Rattle.sto_store.specs.Homes.{homes_within, homes_from, HasParts}
use Rattle.sto_store.specs.Stores.{of_kind, mean_of, means_of, sized_means, wide_means, means, AreInOrder, AreSized, AreWide, AreKinds}

by_test : {P : Type 0} (b : Bool) → (b ≡ true → P) → (b ≡ false → P) → P
by_test true f g = f refl
by_test false f g = g refl

-- the machines
one_machine : (s : Shape) → (mean_of s).machines ≡ machine_of s ∷ []
one_machine (Single v) = refl
one_machine (Counter v) = refl
one_machine (Array len v) = refl
one_machine (Hash buckets places) = refl
one_machine (Tree leaves) = refl
one_machine (Vector capacity) = refl

pub all_machines : (ss : List Shape) → (all_joined (map mean_of ss)).machines ≡ machines_of ss
all_machines [] = refl
all_machines (s ∷ ss) =
    let one : (mean_of s).machines ≡ machine_of s ∷ [] = one_machine s in
    let rest : (all_joined (map mean_of ss)).machines ≡ machines_of ss = all_machines ss in
    λ i. one i ++ rest i

pub length-machines : (ss : List Shape) → length (machines_of ss) ≡ length ss
length-machines [] = refl
length-machines (s ∷ ss) = ap suc (length-machines ss)

-- what is taken
pub record IsFitting (call : Call) : Type 0 where
  pub first : FitsSigned w64 call.a
  pub second : FitsSigned w64 call.b

-- the meaning is of as many objects as there are shapes, and takes each call with numbers of 64 bits that these take
pub record TakesAll (m : Meaning) (ss : List Shape) : Type 0 where
  pub many : length m.machines ≡ length ss
  pub takes : (call : Call) → IsTaken ss call → IsFitting call → m.takes call

first_got : (xs ys : List Shape) (i : ℕ) (s : Shape) → i < length xs → slice_get (xs ++ ys) i ≡ Some s → slice_get xs i ≡ Some s
first_got [] ys i s l e = absurd (omega (arith, l))
first_got (x ∷ xs) ys zero s l e = e
first_got (x ∷ xs) ys (suc i) s l e = first_got xs ys i s (omega (arith, l)) e

pub both_take : (a b : Meaning) (xs ys : List Shape) → TakesAll a xs → TakesAll b ys → TakesAll (joined a b) (xs ++ ys)
both_take a b xs ys ha hb = record {
  many = length-append a.machines b.machines ∙ (let m = ha.many in let n = hb.many in let s = length-append xs ys in omega (arith, m, n, s));
  takes = λ call t f. by_test (nat_lt call.object (length a.machines))
      (λ e.
      let l : call.object < length xs = (let m = ha.many in grind (arith, nat_tests)) in
      rw e (ha.takes call (t.0, first_got xs ys call.object t.0 l t.1, t.2) f))
      (λ e.
      let l : length xs ≤ call.object = (let m = ha.many in grind (arith, nat_tests)) in
      let n : call.object - length xs ≡ call.object - length a.machines = (let m = ha.many in omega (arith, m)) in
      let got : slice_get ys (call.object - length a.machines) ≡ Some t.0 = ap (slice_get ys) (sym n) ∙ sym (home_past xs ys call.object l) ∙ t.1 in
      rw e (hb.takes (call_beyond (length a.machines) call) (t.0, got, t.2) (record { first = f.first; second = f.second })));
}

pub none_take : TakesAll no_meaning []
none_take = record { many = refl; takes = λ call t f. no_object call.object t.0 t.1 }
  where
    no_object : (i : ℕ) (s : Shape) → slice_get [] i ≡ Some s → ⊥
    no_object zero s e = cc
    no_object (suc i) s e = cc

-- one object
one_got : (s t : Shape) (i : ℕ) → slice_get (s ∷ []) i ≡ Some t → (i ≡ 0) × (s ≡ t)
one_got s t zero e = (refl, cc)
one_got s t (suc zero) e = cc
one_got s t (suc (suc i)) e = cc

-- what a box, a counter, an array, a hash table and a vector take does not hang on their numbers
box_alike : (v : ℤ) (o : Operation) (a : ℤ) → takes (Single v) o a ≡ takes (Single (pos 0)) o a
box_alike v Get a = refl
box_alike v Set a = refl
box_alike v Add a = refl
box_alike v TestWord a = refl
box_alike v Take a = refl
box_alike v Put a = refl
box_alike v Remove a = refl
box_alike v Has a = refl
box_alike v Len a = refl
box_alike v Next a = refl
box_alike v Count a = refl
box_alike v Scan a = refl
box_alike v Push a = refl
box_alike v Pop a = refl

counter_alike : (v : ℤ) (o : Operation) (a : ℤ) → takes (Counter v) o a ≡ takes (Counter (pos 0)) o a
counter_alike v Get a = refl
counter_alike v Set a = refl
counter_alike v Add a = refl
counter_alike v TestWord a = refl
counter_alike v Take a = refl
counter_alike v Put a = refl
counter_alike v Remove a = refl
counter_alike v Has a = refl
counter_alike v Len a = refl
counter_alike v Next a = refl
counter_alike v Count a = refl
counter_alike v Scan a = refl
counter_alike v Push a = refl
counter_alike v Pop a = refl

array_alike : (n : ℕ) (v : ℤ) (o : Operation) (a : ℤ) → takes (Array n v) o a ≡ takes (Array 0 (pos 0)) o a
array_alike n v Get a = refl
array_alike n v Set a = refl
array_alike n v Add a = refl
array_alike n v TestWord a = refl
array_alike n v Take a = refl
array_alike n v Put a = refl
array_alike n v Remove a = refl
array_alike n v Has a = refl
array_alike n v Len a = refl
array_alike n v Next a = refl
array_alike n v Count a = refl
array_alike n v Scan a = refl
array_alike n v Push a = refl
array_alike n v Pop a = refl

hash_alike : (b p : ℕ) (o : Operation) (a : ℤ) → takes (Hash b p) o a ≡ takes (Hash b 0) o a
hash_alike b p Get a = refl
hash_alike b p Set a = refl
hash_alike b p Add a = refl
hash_alike b p TestWord a = refl
hash_alike b p Take a = refl
hash_alike b p Put a = refl
hash_alike b p Remove a = refl
hash_alike b p Has a = refl
hash_alike b p Len a = refl
hash_alike b p Next a = refl
hash_alike b p Count a = refl
hash_alike b p Scan a = refl
hash_alike b p Push a = refl
hash_alike b p Pop a = refl

vector_alike : (n : ℕ) (o : Operation) (a : ℤ) → takes (Vector n) o a ≡ takes (Vector 0) o a
vector_alike n Get a = refl
vector_alike n Set a = refl
vector_alike n Add a = refl
vector_alike n TestWord a = refl
vector_alike n Take a = refl
vector_alike n Put a = refl
vector_alike n Remove a = refl
vector_alike n Has a = refl
vector_alike n Len a = refl
vector_alike n Next a = refl
vector_alike n Count a = refl
vector_alike n Scan a = refl
vector_alike n Push a = refl
vector_alike n Pop a = refl

one_taken : (s : Shape) (call : Call) → IsTaken (s ∷ []) call → (call.object ≡ 0) × (call.c ≡ pos 0) × IsTrue (takes s call.operation call.a)
one_taken s call t =
    let g : (call.object ≡ 0) × (s ≡ t.0) = one_got s t.0 call.object t.1 in
    let h : (call.c ≡ pos 0) × IsTrue (takes s call.operation call.a) = taken_call s call (subst (λ x. IsTrue (takes_call x call)) (sym g.1) t.2) in
    (g.0, h.0, h.1)

pub one_takes : (s : Shape) → TakesAll (mean_of s) (s ∷ [])
one_takes (Single v) = record {
  many = refl;
  takes = λ call t f.
      let g : (call.object ≡ 0) × (call.c ≡ pos 0) × IsTrue (takes (Single v) call.operation call.a) = one_taken (Single v) call t in
      record { object = g.0; third = g.1; taken = sym (box_alike v call.operation call.a) ∙ g.2; value = λ e. ∣ tt ∣₁; fits = f.first; fits_too = f.second };
}
one_takes (Counter v) = record {
  many = refl;
  takes = λ call t f.
      let g : (call.object ≡ 0) × (call.c ≡ pos 0) × IsTrue (takes (Counter v) call.operation call.a) = one_taken (Counter v) call t in
      record { object = g.0; third = g.1; taken = sym (counter_alike v call.operation call.a) ∙ g.2; fits = f.first; fits_too = f.second };
}
one_takes (Array len v) = record {
  many = refl;
  takes = λ call t f.
      let g : (call.object ≡ 0) × (call.c ≡ pos 0) × IsTrue (takes (Array len v) call.operation call.a) = one_taken (Array len v) call t in
      record { object = g.0; third = g.1; taken = sym (array_alike len v call.operation call.a) ∙ g.2; fits = f.first; fits_too = f.second };
}
one_takes (Hash buckets places) = record {
  many = refl;
  takes = λ call t f.
      let g : (call.object ≡ 0) × (call.c ≡ pos 0) × IsTrue (takes (Hash buckets places) call.operation call.a) = one_taken (Hash buckets places) call t in
      record { object = g.0; third = g.1; taken = sym (hash_alike buckets places call.operation call.a) ∙ g.2; fits = f.first; fits_too = f.second };
}
one_takes (Tree leaves) = record {
  many = refl;
  takes = λ call t f.
      let g : (call.object ≡ 0) × (call.c ≡ pos 0) × IsTrue (takes (Tree leaves) call.operation call.a) = one_taken (Tree leaves) call t in
      record { object = g.0; third = g.1; operation = g.2; fits = f.first; fits_too = f.second };
}
one_takes (Vector capacity) = record {
  many = refl;
  takes = λ call t f.
      let g : (call.object ≡ 0) × (call.c ≡ pos 0) × IsTrue (takes (Vector capacity) call.operation call.a) = one_taken (Vector capacity) call t in
      record { object = g.0; third = g.1; taken = sym (vector_alike capacity call.operation call.a) ∙ g.2; fits = f.first; fits_too = f.second };
}

pub all_take : (ss : List Shape) → TakesAll (all_joined (map mean_of ss)) ss
all_take [] = none_take
all_take (s ∷ ss) = both_take (mean_of s) (all_joined (map mean_of ss)) (s ∷ []) ss (one_takes s) (all_take ss)

-- the homes
within_moved : (n object first count : ℕ) → map (home_moved n) (homes_within object first count) ≡ homes_within (n + object) first count
within_moved n object first zero = refl
within_moved n object first (suc count) = ap (λ (l : List (ℕ × ℕ)). (n + object, first) ∷ l) (within_moved n object (suc first) count)

from_moved : (n object : ℕ) (counts : List ℕ) → map (home_moved n) (homes_from object counts) ≡ homes_from (n + object) counts
from_moved n object [] = refl
from_moved n object (count ∷ counts) =
    let next : n + suc object ≡ suc (n + object) = omega arith in
    map-append (home_moved n) (homes_within object 0 count) (homes_from (suc object) counts)
    ∙ ap (λ (l : List (ℕ × ℕ)). l ++ map (home_moved n) (homes_from (suc object) counts)) (within_moved n object 0 count)
    ∙ ap (λ (l : List (ℕ × ℕ)). homes_within (n + object) 0 count ++ l) (from_moved n (suc object) counts ∙ ap (λ (x : ℕ). homes_from x counts) next)

from_append : (object : ℕ) (xs ys : List ℕ) → homes_from object (xs ++ ys) ≡ homes_from object xs ++ homes_from (length xs + object) ys
from_append object [] ys = let e : 0 + object ≡ object = omega arith in ap (λ (x : ℕ). homes_from x ys) (sym e)
from_append object (x ∷ xs) ys =
    let e : length xs + suc object ≡ suc (length xs) + object = omega arith in
    ap (λ (l : List (ℕ × ℕ)). homes_within object 0 x ++ l) (from_append (suc object) xs ys ∙ ap (λ (k : ℕ). homes_from (suc object) xs ++ homes_from k ys) e)
    ∙ sym (append_assoc (homes_within object 0 x) (homes_from (suc object) xs) (homes_from (suc (length xs) + object) ys))

pub no_parts : HasParts no_meaning []
no_parts = record { objects = refl; homes = refl }

nothing_more : (l : List (ℕ × ℕ)) → l ≡ l ++ []
nothing_more [] = refl
nothing_more (x ∷ l) = ap (λ (t : List (ℕ × ℕ)). x ∷ t) (nothing_more l)

pub one_object : (m : Meaning) (count : ℕ) → length m.machines ≡ 1 → m.homes ≡ homes_within 0 0 count → HasParts m (count ∷ [])
one_object m count one is = record { objects = one; homes = is ∙ nothing_more (homes_within 0 0 count) }

pub both_parts : (a b : Meaning) (xs ys : List ℕ) → HasParts a xs → HasParts b ys → HasParts (joined a b) (xs ++ ys)
both_parts a b xs ys h k =
    let e : length a.machines + 0 ≡ length xs + 0 = (let o = h.objects in omega (arith, o)) in
    record {
      objects = length-append a.machines b.machines ∙ (let o = h.objects in let p = k.objects in let s = length-append xs ys in omega (arith, o, p, s));
      homes =
          ap (λ (l : List (ℕ × ℕ)). l ++ map (home_moved (length a.machines)) b.homes) h.homes
          ∙ ap (λ (l : List (ℕ × ℕ)). homes_from 0 xs ++ map (home_moved (length a.machines)) l) k.homes
          ∙ ap (λ (l : List (ℕ × ℕ)). homes_from 0 xs ++ l) (from_moved (length a.machines) 0 ys ∙ ap (λ (n : ℕ). homes_from n ys) e)
          ∙ sym (from_append 0 xs ys);
    }

array_within : (i n : ℕ) → array_homes i n ≡ homes_within 0 i n
array_within i zero = refl
array_within i (suc n) = ap (λ (l : List (ℕ × ℕ)). (0, i) ∷ l) (array_within (suc i) n)

hash_within : (i n : ℕ) → hash_homes i n ≡ homes_within 0 i n
hash_within i zero = refl
hash_within i (suc n) = ap (λ (l : List (ℕ × ℕ)). (0, i) ∷ l) (hash_within (suc i) n)

tree_within : (i n : ℕ) → listed {A = ℕ × ℕ} (λ p. (0, p)) i n ≡ homes_within 0 i n
tree_within i zero = refl
tree_within i (suc n) = ap (λ (l : List (ℕ × ℕ)). (0, i) ∷ l) (tree_within (suc i) n)

pub one_parts : (s : Shape) → HasParts (mean_of s) (part_count s ∷ [])
one_parts (Single v) = record { objects = refl; homes = refl }
one_parts (Counter v) = record { objects = refl; homes = refl }
one_parts (Array len v) = one_object (mean_of (Array len v)) len refl (array_within 0 len)
one_parts (Hash buckets places) = one_object (mean_of (Hash buckets places)) (buckets * (1 + places)) refl (hash_within 0 (buckets * (1 + places)))
one_parts (Tree leaves) = one_object (mean_of (Tree leaves)) (2 + 9 * leaves) refl (tree_within 0 (2 + 9 * leaves))
one_parts (Vector capacity) =
    let e : suc capacity ≡ 1 + capacity = omega arith in
    one_object (mean_of (Vector capacity)) (1 + capacity) refl (array_within 0 (suc capacity) ∙ ap (homes_within 0 0) e)

pub all_parts : (ss : List Shape) → HasParts (all_joined (map mean_of ss)) (map part_count ss)
all_parts [] = no_parts
all_parts (s ∷ ss) = both_parts (mean_of s) (all_joined (map mean_of ss)) (part_count s ∷ []) (map part_count ss) (one_parts s) (all_parts ss)

-- the whole store
module _ (shapes : List Shape) (order : AreInOrder shapes) where
  abbrev k : ℕ → List Shape
  k r = of_kind r shapes

  by_kind : {A : Type 0} (f : Shape → A) → map f shapes ≡ map f (k 0) ++ (map f (k 1) ++ (map f (k 2) ++ (map f (k 3) ++ (map f (k 4) ++ map f (k 5)))))
  by_kind f =
      ap (map f) order
      ∙ map-append f (k 0) (k 1 ++ (k 2 ++ (k 3 ++ (k 4 ++ k 5))))
      ∙ ap (λ l. map f (k 0) ++ l) (map-append f (k 1) (k 2 ++ (k 3 ++ (k 4 ++ k 5)))
      ∙ ap (λ l. map f (k 1) ++ l) (map-append f (k 2) (k 3 ++ (k 4 ++ k 5))
      ∙ ap (λ l. map f (k 2) ++ l) (map-append f (k 3) (k 4 ++ k 5) ∙ ap (λ l. map f (k 3) ++ l) (map-append f (k 4) (k 5)))))

  pub machines_are : (means shapes).machines ≡ machines_of shapes
  machines_are =
      (λ i. all_machines (k 0) i ++ (all_machines (k 1) i ++ (all_machines (k 2) i ++ (all_machines (k 3) i ++ (all_machines (k 4) i ++ all_machines (k 5) i)))))
      ∙ sym (by_kind machine_of)

  pub takes_all : TakesAll (means shapes) shapes
  takes_all =
      subst (TakesAll (means shapes)) (sym order)
      (both_take (all_joined (means_of 0 shapes)) _ (k 0) (k 1 ++ (k 2 ++ (k 3 ++ (k 4 ++ k 5)))) (all_take (k 0))
      (both_take (all_joined (means_of 1 shapes)) _ (k 1) (k 2 ++ (k 3 ++ (k 4 ++ k 5))) (all_take (k 1))
      (both_take (all_joined (means_of 2 shapes)) _ (k 2) (k 3 ++ (k 4 ++ k 5)) (all_take (k 2))
      (both_take (all_joined (means_of 3 shapes)) _ (k 3) (k 4 ++ k 5) (all_take (k 3))
      (both_take (all_joined (means_of 4 shapes)) _ (k 4) (k 5) (all_take (k 4)) (all_take (k 5)))))))

  pub has_parts : HasParts (means shapes) (map part_count shapes)
  has_parts =
      subst (HasParts (means shapes)) (sym (by_kind part_count))
      (both_parts (all_joined (means_of 0 shapes)) _ (map part_count (k 0)) _ (all_parts (k 0))
      (both_parts (all_joined (means_of 1 shapes)) _ (map part_count (k 1)) _ (all_parts (k 1))
      (both_parts (all_joined (means_of 2 shapes)) _ (map part_count (k 2)) _ (all_parts (k 2))
      (both_parts (all_joined (means_of 3 shapes)) _ (map part_count (k 3)) _ (all_parts (k 3))
      (both_parts (all_joined (means_of 4 shapes)) _ (map part_count (k 4)) (map part_count (k 5)) (all_parts (k 4)) (all_parts (k 5)))))))

-- What is built means what its shapes mean. The members of each kind mean what their shapes mean.
pub map_shapes : {A : Type 0} (shape : A → Shape) (xs : List A) (ss : List Shape) → map shape xs ≡ ss → map (λ x. mean_of (shape x)) xs ≡ map mean_of ss
map_shapes {A} shape xs ss e = map_twice xs ∙ ap (map mean_of) e
  where
    map_twice : (l : List A) → map (λ x. mean_of (shape x)) l ≡ map mean_of (map shape l)
    map_twice [] = refl
    map_twice (x ∷ l) = ap (λ t. mean_of (shape x) ∷ t) (map_twice l)

pub sized_is :
    {E F : Type 0} (l : E → Shape) (n : F → Shape) (vs : List E) (us : List F) (shapes : List Shape) → AreSized (map l vs) (map n us) shapes
    → joined (all_joined (map (λ x. mean_of (l x)) vs)) (all_joined (map (λ x. mean_of (n x)) us)) ≡ sized_means shapes
sized_is l n vs us shapes e i = joined (all_joined (map_shapes l vs (of_kind 4 shapes) e.trees_are i)) (all_joined (map_shapes n us (of_kind 5 shapes) e.vectors_are i))

pub wide_is :
    {C D E F : Type 0} (h : C → Shape) (k : D → Shape) (l : E → Shape) (n : F → Shape) (zs : List C) (ws : List D) (vs : List E) (us : List F) (shapes : List Shape)
    → AreWide (map h zs) (map k ws) (map l vs) (map n us) shapes
    → joined (all_joined (map (λ x. mean_of (h x)) zs))
    (joined (all_joined (map (λ x. mean_of (k x)) ws)) (joined (all_joined (map (λ x. mean_of (l x)) vs)) (all_joined (map (λ x. mean_of (n x)) us))))
    ≡ wide_means shapes
wide_is h k l n zs ws vs us shapes e i =
    joined (all_joined (map_shapes h zs (of_kind 2 shapes) e.arrays_are i))
    (joined (all_joined (map_shapes k ws (of_kind 3 shapes) e.hashes_are i)) (sized_is l n vs us shapes e.sized i))

pub means_is :
    {A B C D E F : Type 0} (f : A → Shape) (g : B → Shape) (h : C → Shape) (k : D → Shape) (l : E → Shape) (n : F → Shape)
    (xs : List A) (ys : List B) (zs : List C) (ws : List D) (vs : List E) (us : List F) (shapes : List Shape)
    → AreKinds (map f xs) (map g ys) (map h zs) (map k ws) (map l vs) (map n us) shapes
    → joined (all_joined (map (λ x. mean_of (f x)) xs))
    (joined (all_joined (map (λ x. mean_of (g x)) ys))
    (joined (all_joined (map (λ x. mean_of (h x)) zs))
    (joined (all_joined (map (λ x. mean_of (k x)) ws)) (joined (all_joined (map (λ x. mean_of (l x)) vs)) (all_joined (map (λ x. mean_of (n x)) us))))))
    ≡ means shapes
means_is f g h k l n xs ys zs ws vs us shapes e i =
    joined (all_joined (map_shapes f xs (of_kind 0 shapes) e.boxes_are i))
    (joined (all_joined (map_shapes g ys (of_kind 1 shapes) e.counters_are i)) (wide_is h k l n zs ws vs us shapes e.wide i))
