-- The shapes of a sound file are fit to be built.
use Rattle.std.specs.Prelude.{nat_eq, map, sum_by, ◌*◌}
use Rattle.std.specs.List.{All}
use Rattle.std.proofs.Common.{◌≡◌, ◌<◌, ◌≤◌, ◌+◌, ◌^◌, ℕ, List, [], ◌∷◌, ◌++◌, refl, sym, subst, arith}
use Rattle.std.proofs.lemmas.Nat.{mul-le}
use Rattle.std.proofs.lemmas.List.Elements.{All-head, All-tail}
use Rattle.sto_model.specs.declared.shape.Shape.{Shape}
use Rattle.sto_model.specs.declared.shape.Shape.TheVariants.{Single, Counter, Array, Hash, Tree, Vector}
use Rattle.sto_model.specs.Sizes.{part_count}
use Rattle.sto_lang.specs.Shapes.{in_order}
use Rattle.sto_lang.specs.Limits.{most_parts}
use Rattle.sto_lang.specs.Objects.{Declaration, shapes_of}
use Rattle.sto_lang.specs.Scripts.{File}
use Rattle.sto_lang.specs.Sound.{HasRanges, IsSound}
use Rattle.sto_model.specs.Sizes.{rank}
use Rattle.sto_store.specs.Stores.{of_kind, IsFit, AreFit}
use Rattle.sto_run.proofs.Ordered.{by_test, order_is}

is_fit : (version : ℕ) (s : Shape) → HasRanges version s → IsFit s
is_fit version (Single v) h = tt
is_fit version (Counter v) h = tt
is_fit version (Array len v) h = tt
is_fit version (Hash buckets places) h =
    let some : 1 ≤ buckets = h.0.0 in
    let most : buckets ≤ 1024 = h.0.1 in
    let wide : places ≤ 64 = h.1.1 in
    let parts : buckets * (1 + places) ≤ 1024 * 65 = mul-le buckets (1 + places) 1024 65 most (omega (arith, wide)) in
    (omega (arith, some), omega (arith, parts), omega (arith, wide))
is_fit version (Tree leaves) h =
    let some : 1 ≤ leaves = h.0 in
    let most : leaves ≤ 256 = h.1 in
    (some, omega (arith, most))
is_fit version (Vector capacity) h =
    let most : capacity ≤ 4096 = h.1.1 in
    omega (arith, most)

declared_fit : (version : ℕ) (ds : List Declaration) → All (λ d. HasRanges version d.shape) ds → AreFit (map (λ d. d.shape) ds)
declared_fit version [] h = tt
declared_fit version (d ∷ ds) h =
    let P : Declaration → Type 0 = λ d. HasRanges version d.shape in
    (is_fit version d.shape (All-head P d ds h), declared_fit version ds (All-tail P d ds h))

fit_append : (xs ys : List Shape) → AreFit xs → AreFit ys → AreFit (xs ++ ys)
fit_append [] ys h k = k
fit_append (x ∷ xs) ys h k = (h.0, fit_append xs ys h.1 k)

fit_kind : (r : ℕ) (ss : List Shape) → AreFit ss → AreFit (of_kind r ss)
fit_kind r [] h = tt
fit_kind r (s ∷ ss) h = by_test (nat_eq (rank s) r) (λ e. rw e (h.0, fit_kind r ss h.1)) (λ e. rw e (fit_kind r ss h.1))

in_order_fit : (all : List Shape) → AreFit all → AreFit (in_order all)
in_order_fit all h =
    let k : (r : ℕ) → AreFit (of_kind r all) = λ r. fit_kind r all h in
    subst AreFit (sym (order_is all))
    (fit_append (of_kind 0 all) _ (k 0) (fit_append (of_kind 1 all) _ (k 1) (fit_append (of_kind 2 all) _ (k 2) (fit_append (of_kind 3 all) _ (k 3) (fit_append (of_kind 4 all) (of_kind 5 all) (k 4) (k 5))))))

pub sound_fit : (file : File) → IsSound file → AreFit (shapes_of file.declarations)
sound_fit file sound = in_order_fit (map (λ d. d.shape) file.declarations) (declared_fit file.version file.declarations sound.in_ranges)

-- The parts of a sound file are in u32.
most_few : (version : ℕ) → most_parts version ≤ 65536
most_few version = by_test (nat_eq version 2) (λ e. rw e (omega arith)) (λ e. rw e (omega arith))

pub few_parts : (file : File) → IsSound file → sum_by part_count (shapes_of file.declarations) ≤ 65536
few_parts file sound = omega (arith, sound.few_parts, most_few file.version)

pub parts_fit : (file : File) → IsSound file → sum_by part_count (shapes_of file.declarations) < 2 ^ 32
parts_fit file sound = omega (arith, few_parts file sound)
