-- The order of the objects of a file is that of the store.
use Rattle.std.specs.Prelude.{nat_eq, if◌then◌else◌}
use Rattle.std.proofs.Common.{◌≡◌, ℕ, List, [], ◌∷◌, ◌++◌, refl, sym, ap, subst, ◌∙◌, arith, Bool, true, false, append_assoc}
use Rattle.std.proofs.lemmas.Bool.Decides.{nat_tests}
use Rattle.sto_model.specs.declared.shape.Shape.{Shape}
use Rattle.sto_model.specs.declared.shape.Shape.TheVariants.{Single, Counter, Array, Hash, Tree, Vector}
use Rattle.sto_lang.specs.Shapes.{of_rank, in_order}
use Rattle.sto_model.specs.Sizes.{rank}
use Rattle.sto_store.specs.Stores.{of_kind, AreInOrder}
use Rattle.sto_store.proofs.Built.{kind_append}

pub by_test : {P : Type 0} (b : Bool) → (b ≡ true → P) → (b ≡ false → P) → P
by_test true f g = f refl
by_test false f g = g refl

same_rank : (m n : ℕ) → nat_eq m n ≡ true → m ≡ n
same_rank m n e = grind (arith, nat_tests)

-- each shape has the rank
abbrev EachRank : ℕ → List Shape → Type 0
EachRank r [] = Unit {0}
EachRank r (s ∷ ss) = (rank s ≡ r) × EachRank r ss

kind_ranks : (r : ℕ) (ss : List Shape) → EachRank r (of_kind r ss)
kind_ranks r [] = tt
kind_ranks r (s ∷ ss) = by_test (nat_eq (rank s) r) (λ e. rw e (same_rank (rank s) r e, kind_ranks r ss)) (λ e. rw e (kind_ranks r ss))

-- of shapes of one rank, all are of its kind, and none of another
all_there : (q r : ℕ) (ss : List Shape) → nat_eq q r ≡ true → EachRank q ss → of_kind r ss ≡ ss
all_there q r [] t h = refl
all_there q r (s ∷ ss) t h = ap (λ b. if b then s ∷ of_kind r ss else of_kind r ss) (ap (λ n. nat_eq n r) h.0 ∙ t) ∙ ap (λ l. s ∷ l) (all_there q r ss t h.1)

none_there : (q r : ℕ) (ss : List Shape) → nat_eq q r ≡ false → EachRank q ss → of_kind r ss ≡ []
none_there q r [] t h = refl
none_there q r (s ∷ ss) t h = ap (λ b. if b then s ∷ of_kind r ss else of_kind r ss) (ap (λ n. nat_eq n r) h.0 ∙ t) ∙ none_there q r ss t h.1

nothing_more : (l : List Shape) → l ++ [] ≡ l
nothing_more [] = refl
nothing_more (x ∷ l) = ap (λ t. x ∷ t) (nothing_more l)

module _ (all : List Shape) where
  abbrev k : ℕ → List Shape
  k r = of_kind r all

  abbrev ordered : List Shape
  ordered = k 0 ++ (k 1 ++ (k 2 ++ (k 3 ++ (k 4 ++ k 5))))

  own : (r : ℕ) → nat_eq r r ≡ true → of_kind r (k r) ≡ k r
  own r t = all_there r r (k r) t (kind_ranks r all)

  none : (q r : ℕ) → nat_eq q r ≡ false → of_kind r (k q) ≡ []
  none q r t = none_there q r (k q) t (kind_ranks q all)

  by_kind :
      (r : ℕ)
      → of_kind r (k 0 ++ (k 1 ++ (k 2 ++ (k 3 ++ (k 4 ++ k 5)))))
      ≡ of_kind r (k 0) ++ (of_kind r (k 1) ++ (of_kind r (k 2) ++ (of_kind r (k 3) ++ (of_kind r (k 4) ++ of_kind r (k 5)))))
  by_kind r =
      kind_append r (k 0) (k 1 ++ (k 2 ++ (k 3 ++ (k 4 ++ k 5))))
      ∙ ap (λ l. of_kind r (k 0) ++ l) (kind_append r (k 1) (k 2 ++ (k 3 ++ (k 4 ++ k 5)))
      ∙ ap (λ l. of_kind r (k 1) ++ l) (kind_append r (k 2) (k 3 ++ (k 4 ++ k 5))
      ∙ ap (λ l. of_kind r (k 2) ++ l) (kind_append r (k 3) (k 4 ++ k 5) ∙ ap (λ l. of_kind r (k 3) ++ l) (kind_append r (k 4) (k 5)))))

  zero_is : of_kind 0 ordered ≡ k 0
  zero_is = by_kind 0 ∙ (λ i. own 0 refl i ++ (none 1 0 refl i ++ (none 2 0 refl i ++ (none 3 0 refl i ++ (none 4 0 refl i ++ none 5 0 refl i))))) ∙ nothing_more (k 0)

  one_is : of_kind 1 ordered ≡ k 1
  one_is = by_kind 1 ∙ (λ i. none 0 1 refl i ++ (own 1 refl i ++ (none 2 1 refl i ++ (none 3 1 refl i ++ (none 4 1 refl i ++ none 5 1 refl i))))) ∙ nothing_more (k 1)

  two_is : of_kind 2 ordered ≡ k 2
  two_is = by_kind 2 ∙ (λ i. none 0 2 refl i ++ (none 1 2 refl i ++ (own 2 refl i ++ (none 3 2 refl i ++ (none 4 2 refl i ++ none 5 2 refl i))))) ∙ nothing_more (k 2)

  three_is : of_kind 3 ordered ≡ k 3
  three_is = by_kind 3 ∙ (λ i. none 0 3 refl i ++ (none 1 3 refl i ++ (none 2 3 refl i ++ (own 3 refl i ++ (none 4 3 refl i ++ none 5 3 refl i))))) ∙ nothing_more (k 3)

  four_is : of_kind 4 ordered ≡ k 4
  four_is = by_kind 4 ∙ (λ i. none 0 4 refl i ++ (none 1 4 refl i ++ (none 2 4 refl i ++ (none 3 4 refl i ++ (own 4 refl i ++ none 5 4 refl i))))) ∙ nothing_more (k 4)

  five_is : of_kind 5 ordered ≡ k 5
  five_is = by_kind 5 ∙ (λ i. none 0 5 refl i ++ (none 1 5 refl i ++ (none 2 5 refl i ++ (none 3 5 refl i ++ (none 4 5 refl i ++ own 5 refl i)))))

  in_kinds : AreInOrder ordered
  in_kinds i = sym zero_is i ++ (sym one_is i ++ (sym two_is i ++ (sym three_is i ++ (sym four_is i ++ sym five_is i))))

-- the two say the kinds alike
kind_is : (r : ℕ) (ss : List Shape) → of_rank r ss ≡ of_kind r ss
kind_is r [] = refl
kind_is r (Single v ∷ ss) = ap (λ l. if nat_eq 0 r then Single v ∷ l else l) (kind_is r ss)
kind_is r (Counter v ∷ ss) = ap (λ l. if nat_eq 1 r then Counter v ∷ l else l) (kind_is r ss)
kind_is r (Array len v ∷ ss) = ap (λ l. if nat_eq 2 r then Array len v ∷ l else l) (kind_is r ss)
kind_is r (Hash buckets places ∷ ss) = ap (λ l. if nat_eq 3 r then Hash buckets places ∷ l else l) (kind_is r ss)
kind_is r (Tree leaves ∷ ss) = ap (λ l. if nat_eq 4 r then Tree leaves ∷ l else l) (kind_is r ss)
kind_is r (Vector capacity ∷ ss) = ap (λ l. if nat_eq 5 r then Vector capacity ∷ l else l) (kind_is r ss)

pub order_is : (all : List Shape) → in_order all ≡ of_kind 0 all ++ (of_kind 1 all ++ (of_kind 2 all ++ (of_kind 3 all ++ (of_kind 4 all ++ of_kind 5 all))))
order_is all =
    (λ i. kind_is 0 all i ++ kind_is 1 all i ++ kind_is 2 all i ++ kind_is 3 all i ++ kind_is 4 all i ++ kind_is 5 all i)
    ∙ regrouped (of_kind 0 all) (of_kind 1 all) (of_kind 2 all) (of_kind 3 all) (of_kind 4 all) (of_kind 5 all)
  where
    regrouped : (a b c d e f : List Shape) → ((((a ++ b) ++ c) ++ d) ++ e) ++ f ≡ a ++ (b ++ (c ++ (d ++ (e ++ f))))
    regrouped a b c d e f = simp append_assoc

-- Objects in the order of a file are in that of the store.
pub is_in_order : (all : List Shape) → AreInOrder (in_order all)
is_in_order all = subst AreInOrder (sym (order_is all)) (in_kinds all)
