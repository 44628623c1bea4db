-- One shape more is built.
use Rattle.std.proofs.Common.{◌≡◌, ◌<◌, ◌≤◌, ◌+◌, ◌*◌, ◌^◌, ℕ, zero, suc, Bool, true, false, nat_eq, if◌then◌else◌, Some, ℤ, pos, List, [], ◌∷◌, ◌++◌, length, map, take, drop, slice_get, slice_index_or, refl, ap, sym, ◌∙◌, subst, arith, length-append}
use Rattle.std.specs.Prelude.{sum_by}
use Rattle.std.proofs.lemmas.List.{length-take, map-append, take-append-drop}
use Rattle.std.proofs.lemmas.List.Sums.{sum_by-cons}
use Rattle.std.proofs.lemmas.Option.{slice_get_within}
use Rattle.sto_model.specs.declared.shape.Shape.{Shape}
use Rattle.sto_model.specs.declared.shape.Shape.TheVariants.{Single, Counter, Array, Hash, Tree, Vector}
use Rattle.sto_model.specs.Sizes.{part_count, rank}
use Rattle.sto_array.specs.ArrayedRows.{length-replicate}
use Rattle.sto_hash.specs.HashedParts.{length-widths}
use Rattle.sto_tree.specs.Layout.{listed, width_of}
use Rattle.sto_type.specs.Meaning.{Meaning, IsLawful}
use Rattle.sto_type.specs.Joined.{joined, all_joined}
use Rattle.sto_type.specs.JoinedLaw.{joined_lawful}
use Rattle.sto_type.specs.Members.{AreFew, parts_of}
use Rattle.sto_type.proofs.Answering.{take_get}
use Rattle.sto_type.proofs.Members.{parts-all, parts-append}
use Rattle.sto_store.specs.Stores.{of_kind, mean_of, means_of, sized_means, means, IsFit, AreFit, AreSized, AreWide}
use Rattle.sto_store.specs.StoresLaw.{all_machines, length-machines, map_shapes, sized_is, wide_is}

by_test : {P : Type 0} (b : Bool) → (b ≡ true → P) → (b ≡ false → P) → P
by_test true f g = f refl
by_test false f g = g refl

pub kind_append : (r : ℕ) (xs ys : List Shape) → of_kind r (xs ++ ys) ≡ of_kind r xs ++ of_kind r ys
kind_append r [] ys = refl
kind_append r (x ∷ xs) ys = by_test (nat_eq (rank x) r) (λ e. rw e (ap (λ l. x ∷ l) (kind_append r xs ys))) (λ e. rw e (kind_append r xs ys))

length-kind : (r : ℕ) (ss : List Shape) → length (of_kind r ss) ≤ length ss
length-kind r [] = omega arith
length-kind r (s ∷ ss) = let h = length-kind r ss in by_test (nat_eq (rank s) r) (λ e. rw e (omega (arith, h))) (λ e. rw e (omega (arith, h)))

one_more : (ss : List Shape) (i : ℕ) (s : Shape) → slice_get ss i ≡ Some s → take (i + 1) ss ≡ take i ss ++ s ∷ []
one_more ss i s e = let z : i + 1 ≡ suc i = omega arith in ap (λ n. take n ss) z ∙ take_get ss i s e

module _ (r : ℕ) (ss : List Shape) (i : ℕ) (s : Shape) (at : slice_get ss i ≡ Some s) where
  pub kind_there : nat_eq (rank s) r ≡ true → of_kind r (take (i + 1) ss) ≡ of_kind r (take i ss) ++ s ∷ []
  kind_there t = ap (of_kind r) (one_more ss i s at) ∙ kind_append r (take i ss) (s ∷ []) ∙ ap (λ b. of_kind r (take i ss) ++ (if b then s ∷ [] else [])) t

  pub kind_past : nat_eq (rank s) r ≡ false → of_kind r (take (i + 1) ss) ≡ of_kind r (take i ss)
  kind_past t = ap (of_kind r) (one_more ss i s at) ∙ kind_append r (take i ss) (s ∷ []) ∙ ap (λ b. of_kind r (take i ss) ++ (if b then s ∷ [] else [])) t ∙ nothing_more (of_kind r (take i ss))
    where
      nothing_more : (l : List Shape) → l ++ [] ≡ l
      nothing_more [] = refl
      nothing_more (x ∷ l) = ap (λ t. x ∷ t) (nothing_more l)

  module _ {A : Type 0} (f : A → Shape) (made : List A) (now : map f made ≡ of_kind r (take i ss)) where
    pub past : nat_eq (rank s) r ≡ false → map f made ≡ of_kind r (take (i + 1) ss)
    past t = now ∙ sym (kind_past t)

    pub few_members : length ss < 2 ^ 32 → length made + 1 < 2 ^ 32
    few_members l =
        let same : length made ≡ length (of_kind r (take i ss)) = length_map made ∙ ap length now in
        let few = length-kind r (take i ss) in
        let long = length-take i ss in
        let within = slice_get_within ss i s at in
        omega (arith, same, few, long, within, l)
      where
        length_map : (l : List A) → length l ≡ length (map f l)
        length_map [] = refl
        length_map (x ∷ l) = ap suc (length_map l)

    module _ (new : A) (is : f new ≡ s) (t : nat_eq (rank s) r ≡ true) where
      pub there : map f (made ++ new ∷ []) ≡ of_kind r (take (i + 1) ss)
      there = map-append f made (new ∷ []) ∙ (λ j. now j ++ is j ∷ []) ∙ sym (kind_there t)

      pub few : length ss < 2 ^ 32 → length (all_joined (means_of r ss)).widths < 2 ^ 32 → AreFew (λ x. mean_of (f x)) (made ++ new ∷ [])
      few l w =
          let front : List Shape = of_kind r (take (i + 1) ss) in
          let all : of_kind r ss ≡ of_kind r (take (i + 1) ss) ++ of_kind r (drop (i + 1) ss) =
          ap (of_kind r) (sym (take-append-drop (i + 1) ss)) ∙ kind_append r (take (i + 1) ss) (drop (i + 1) ss) in
          let parts : parts_of (means_of r ss) ≡ parts_of (map mean_of (of_kind r (take (i + 1) ss))) + parts_of (map mean_of (of_kind r (drop (i + 1) ss))) =
          ap (λ x. parts_of (map mean_of x)) all ∙ ap parts_of (map-append mean_of (of_kind r (take (i + 1) ss)) (of_kind r (drop (i + 1) ss)))
          ∙ parts-append (map mean_of (of_kind r (take (i + 1) ss))) (map mean_of (of_kind r (drop (i + 1) ss))) in
          let whole = parts-all (means_of r ss) in
          let own = parts-all (map mean_of (of_kind r (take (i + 1) ss))) in
          let machines : length (all_joined (map mean_of (of_kind r (take (i + 1) ss)))).machines ≡ length (of_kind r (take (i + 1) ss)) =
          ap length (all_machines (of_kind r (take (i + 1) ss))) ∙ length-machines (of_kind r (take (i + 1) ss)) in
          let most = length-kind r (take (i + 1) ss) in
          let long = length-take (i + 1) ss in
          let objects : length (all_joined (map mean_of (of_kind r (take (i + 1) ss)))).machines < 2 ^ 32 = omega (arith, machines, most, long, l) in
          let widths : length (all_joined (map mean_of (of_kind r (take (i + 1) ss)))).widths < 2 ^ 32 = omega (arith, own, whole, parts, w) in
          subst (λ ms. (length (all_joined ms).machines < 2 ^ 32) × (length (all_joined ms).widths < 2 ^ 32)) (sym (map_shapes f (made ++ new ∷ []) (of_kind r (take (i + 1) ss)) there)) (objects, widths)

-- the shape at a place is fit
pub fit_at : (ss : List Shape) (i : ℕ) (s : Shape) → AreFit ss → slice_get ss i ≡ Some s → IsFit s
fit_at [] zero s h e = cc
fit_at [] (suc i) s h e = cc
fit_at (x ∷ ss) zero s h e = let same : x ≡ s = cc in subst IsFit same h.0
fit_at (x ∷ ss) (suc i) s h e = fit_at ss i s h.1 e

-- the first word of a box of one
pub first_word : (x y v : ℤ) → take 1 (x ∷ y ∷ []) ≡ v ∷ [] → x ≡ v
first_word x y v e = ap (λ (l : List ℤ). slice_index_or l 0 (pos 0)) e

-- the kinds have no more members than there are shapes
pub sum_kinds : (ss : List Shape) → length (of_kind 0 ss) + (length (of_kind 1 ss) + (length (of_kind 2 ss) + (length (of_kind 3 ss) + (length (of_kind 4 ss) + length (of_kind 5 ss))))) ≤ length ss
sum_kinds [] = omega arith
sum_kinds (Single v ∷ ss) = let h = sum_kinds ss in omega (arith, h)
sum_kinds (Counter v ∷ ss) = let h = sum_kinds ss in omega (arith, h)
sum_kinds (Array len v ∷ ss) = let h = sum_kinds ss in omega (arith, h)
sum_kinds (Hash buckets places ∷ ss) = let h = sum_kinds ss in omega (arith, h)
sum_kinds (Tree leaves ∷ ss) = let h = sum_kinds ss in omega (arith, h)
sum_kinds (Vector capacity ∷ ss) = let h = sum_kinds ss in omega (arith, h)

kind_count : (r : ℕ) (ss : List Shape) → length (all_joined (means_of r ss)).machines ≡ length (of_kind r ss)
kind_count r ss = ap length (all_machines (of_kind r ss)) ∙ length-machines (of_kind r ss)

pub kind_objects : {A : Type 0} (r : ℕ) (ss : List Shape) (f : A → Shape) (xs : List A) → map f xs ≡ of_kind r ss → length (all_joined (map (λ x. mean_of (f x)) xs)).machines ≡ length (of_kind r ss)
kind_objects r ss f xs e = ap (λ ms. length (all_joined ms).machines) (map_shapes f xs (of_kind r ss) e) ∙ kind_count r ss

pub kind_widths : {A : Type 0} (r : ℕ) (ss : List Shape) (f : A → Shape) (xs : List A) → map f xs ≡ of_kind r ss → length (all_joined (map (λ x. mean_of (f x)) xs)).widths ≡ length (all_joined (means_of r ss)).widths
kind_widths r ss f xs e = ap (λ ms. length (all_joined ms).widths) (map_shapes f xs (of_kind r ss) e)

-- what the trees and the vectors come to
module _ {E F : Type 0} (ss : List Shape) (l : E → Shape) (n : F → Shape) (vs : List E) (us : List F) (e : AreSized (map l vs) (map n us) ss) where
  abbrev sized : Meaning
  sized = joined (all_joined (map (λ x. mean_of (l x)) vs)) (all_joined (map (λ x. mean_of (n x)) us))

  pub sized_objects : length sized.machines ≡ length (of_kind 4 ss) + length (of_kind 5 ss)
  sized_objects =
      let inner = length-append (all_joined (means_of 4 ss)).machines (all_joined (means_of 5 ss)).machines in
      ap (λ m. length m.machines) (sized_is l n vs us ss e) ∙ omega (arith, inner, kind_count 4 ss, kind_count 5 ss)

  pub sized_widths : length sized.widths ≡ length (all_joined (means_of 4 ss)).widths + length (all_joined (means_of 5 ss)).widths
  sized_widths =
      let inner = length-append (all_joined (means_of 4 ss)).widths (all_joined (means_of 5 ss)).widths in
      ap (λ m. length m.widths) (sized_is l n vs us ss e) ∙ omega (arith, inner)

-- what the four kinds that may have more than one part come to
module _
    {C D E F : Type 0} (ss : List Shape) (h : C → Shape) (k : D → Shape) (l : E → Shape) (n : F → Shape) (zs : List C) (ws : List D) (vs : List E) (us : List F)
    (e : AreWide (map h zs) (map k ws) (map l vs) (map n us) ss)
  where
    abbrev wide : Meaning
    wide =
        joined (all_joined (map (λ x. mean_of (h x)) zs))
        (joined (all_joined (map (λ x. mean_of (k x)) ws)) (joined (all_joined (map (λ x. mean_of (l x)) vs)) (all_joined (map (λ x. mean_of (n x)) us))))

    pub wide_objects : length wide.machines ≡ length (of_kind 2 ss) + (length (of_kind 3 ss) + (length (of_kind 4 ss) + length (of_kind 5 ss)))
    wide_objects =
        let outer = length-append (all_joined (means_of 2 ss)).machines ((all_joined (means_of 3 ss)).machines ++ (sized_means ss).machines) in
        let middle = length-append (all_joined (means_of 3 ss)).machines (sized_means ss).machines in
        let inner = length-append (all_joined (means_of 4 ss)).machines (all_joined (means_of 5 ss)).machines in
        ap (λ m. length m.machines) (wide_is h k l n zs ws vs us ss e) ∙ omega (arith, outer, middle, inner, kind_count 2 ss, kind_count 3 ss, kind_count 4 ss, kind_count 5 ss)

    pub wide_widths :
        length wide.widths
        ≡ length (all_joined (means_of 2 ss)).widths
        + (length (all_joined (means_of 3 ss)).widths + (length (all_joined (means_of 4 ss)).widths + length (all_joined (means_of 5 ss)).widths))
    wide_widths =
        let outer = length-append (all_joined (means_of 2 ss)).widths ((all_joined (means_of 3 ss)).widths ++ (sized_means ss).widths) in
        let middle = length-append (all_joined (means_of 3 ss)).widths (sized_means ss).widths in
        let inner = length-append (all_joined (means_of 4 ss)).widths (all_joined (means_of 5 ss)).widths in
        ap (λ m. length m.widths) (wide_is h k l n zs ws vs us ss e) ∙ omega (arith, outer, middle, inner)

-- a shape that is not of a kind has another rank
pub not_box : (s : Shape) → ((v : ℤ) → s ≡ Single v → ⊥) → nat_eq (rank s) 0 ≡ false
not_box (Single v) n = absurd (n v refl)
not_box (Counter v) n = refl
not_box (Array len v) n = refl
not_box (Hash buckets places) n = refl
not_box (Tree leaves) n = refl
not_box (Vector capacity) n = refl

pub not_counter : (s : Shape) → ((v : ℤ) → s ≡ Counter v → ⊥) → nat_eq (rank s) 1 ≡ false
not_counter (Single v) n = refl
not_counter (Counter v) n = absurd (n v refl)
not_counter (Array len v) n = refl
not_counter (Hash buckets places) n = refl
not_counter (Tree leaves) n = refl
not_counter (Vector capacity) n = refl

pub not_array : (s : Shape) → ((len : ℕ) (v : ℤ) → s ≡ Array len v → ⊥) → nat_eq (rank s) 2 ≡ false
not_array (Single v) n = refl
not_array (Counter v) n = refl
not_array (Array len v) n = absurd (n len v refl)
not_array (Hash buckets places) n = refl
not_array (Tree leaves) n = refl
not_array (Vector capacity) n = refl

pub not_hash : (s : Shape) → ((buckets places : ℕ) → s ≡ Hash buckets places → ⊥) → nat_eq (rank s) 3 ≡ false
not_hash (Single v) n = refl
not_hash (Counter v) n = refl
not_hash (Array len v) n = refl
not_hash (Hash buckets places) n = absurd (n buckets places refl)
not_hash (Tree leaves) n = refl
not_hash (Vector capacity) n = refl

pub not_tree : (s : Shape) → ((leaves : ℕ) → s ≡ Tree leaves → ⊥) → nat_eq (rank s) 4 ≡ false
not_tree (Single v) n = refl
not_tree (Counter v) n = refl
not_tree (Array len v) n = refl
not_tree (Hash buckets places) n = refl
not_tree (Tree leaves) n = absurd (n leaves refl)
not_tree (Vector capacity) n = refl

pub not_vector : (s : Shape) → ((capacity : ℕ) → s ≡ Vector capacity → ⊥) → nat_eq (rank s) 5 ≡ false
not_vector (Single v) n = refl
not_vector (Counter v) n = refl
not_vector (Array len v) n = refl
not_vector (Hash buckets places) n = refl
not_vector (Tree leaves) n = refl
not_vector (Vector capacity) n = absurd (n capacity refl)

-- an object has as many parts as its shape tells
length-listed : (f : ℕ → ℕ) (i n : ℕ) → length (listed f i n) ≡ n
length-listed f i zero = refl
length-listed f i (suc n) = ap suc (length-listed f (suc i) n)

one_width : (s : Shape) → length (mean_of s).widths ≤ part_count s
one_width (Single v) = omega arith
one_width (Counter v) = omega arith
one_width (Array len v) = omega (arith, length-replicate len)
one_width (Hash buckets places) = omega (arith, length-widths buckets places)
one_width (Tree leaves) = omega (arith, length-listed (width_of leaves) 0 (2 + 9 * leaves))
one_width (Vector capacity) = omega (arith, length-replicate (suc capacity))

all_widths : (ss : List Shape) → length (all_joined (map mean_of ss)).widths ≤ sum_by part_count ss
all_widths [] = omega arith
all_widths (s ∷ ss) =
    let both = length-append (mean_of s).widths (all_joined (map mean_of ss)).widths in
    let one = one_width s in
    let rest = all_widths ss in
    omega (arith, both, one, rest, sum_by-cons part_count s ss)

-- the parts of the kinds are those of the shapes
abbrev parts_in : ℕ → List Shape → ℕ
parts_in r ss = sum_by part_count (of_kind r ss)

kinds_total : (ss : List Shape) → parts_in 0 ss + (parts_in 1 ss + (parts_in 2 ss + (parts_in 3 ss + (parts_in 4 ss + parts_in 5 ss)))) ≤ sum_by part_count ss
kinds_total [] = omega arith
kinds_total (Single v ∷ ss) = let h = kinds_total ss in omega (arith, h, sum_by-cons part_count (Single v) ss, sum_by-cons part_count (Single v) (of_kind 0 ss))
kinds_total (Counter v ∷ ss) = let h = kinds_total ss in omega (arith, h, sum_by-cons part_count (Counter v) ss, sum_by-cons part_count (Counter v) (of_kind 1 ss))
kinds_total (Array len v ∷ ss) = let h = kinds_total ss in omega (arith, h, sum_by-cons part_count (Array len v) ss, sum_by-cons part_count (Array len v) (of_kind 2 ss))
kinds_total (Hash buckets places ∷ ss) =
    let h = kinds_total ss in omega (arith, h, sum_by-cons part_count (Hash buckets places) ss, sum_by-cons part_count (Hash buckets places) (of_kind 3 ss))
kinds_total (Tree leaves ∷ ss) = let h = kinds_total ss in omega (arith, h, sum_by-cons part_count (Tree leaves) ss, sum_by-cons part_count (Tree leaves) (of_kind 4 ss))
kinds_total (Vector capacity ∷ ss) = let h = kinds_total ss in omega (arith, h, sum_by-cons part_count (Vector capacity) ss, sum_by-cons part_count (Vector capacity) (of_kind 5 ss))

pub whole_widths :
    (ss : List Shape) → sum_by part_count ss < 2 ^ 32
    → length (all_joined (means_of 0 ss)).widths
    + (length (all_joined (means_of 1 ss)).widths + (length (all_joined (means_of 2 ss)).widths + (length (all_joined (means_of 3 ss)).widths + (length (all_joined (means_of 4 ss)).widths + length (all_joined (means_of 5 ss)).widths))))
    < 2 ^ 32
whole_widths ss h = omega (arith, h, all_widths (of_kind 0 ss), all_widths (of_kind 1 ss), all_widths (of_kind 2 ss), all_widths (of_kind 3 ss), all_widths (of_kind 4 ss), all_widths (of_kind 5 ss), kinds_total ss)

pub same_parts : (ss all : List Shape) → ss ≡ all → sum_by part_count all < 2 ^ 32 → sum_by part_count ss < 2 ^ 32
same_parts ss all e h = subst (λ (t : List Shape). sum_by part_count t < 2 ^ 32) (sym e) h

-- a store is lawful where its kinds are
pub means_lawful :
    (ss : List Shape) → IsLawful (all_joined (means_of 0 ss)) → IsLawful (all_joined (means_of 1 ss)) → IsLawful (all_joined (means_of 2 ss)) → IsLawful (all_joined (means_of 3 ss)) → IsLawful (all_joined (means_of 4 ss))
    → IsLawful (all_joined (means_of 5 ss)) → IsLawful (means ss)
means_lawful ss zero_law one_law two_law three_law four_law five_law =
    joined_lawful (all_joined (means_of 0 ss)) _ zero_law
    (joined_lawful (all_joined (means_of 1 ss)) _ one_law
    (joined_lawful (all_joined (means_of 2 ss)) _ two_law
    (joined_lawful (all_joined (means_of 3 ss)) _ three_law (joined_lawful (all_joined (means_of 4 ss)) (all_joined (means_of 5 ss)) four_law five_law))))

pub kind_lawful : {A : Type 0} (r : ℕ) (ss : List Shape) (f : A → Shape) (xs : List A) → map f xs ≡ of_kind r ss → IsLawful (all_joined (map (λ x. mean_of (f x)) xs)) → IsLawful (all_joined (means_of r ss))
kind_lawful r ss f xs e law = subst (λ ms. IsLawful (all_joined ms)) (map_shapes f xs (of_kind r ss) e) law
