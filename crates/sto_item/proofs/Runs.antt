-- Items in rising order of their parts, and their watches, run by run.
use Rattle.std.proofs.Common.{◌≡◌, ℕ, suc, ◌+◌, ◌-◌, ◌<◌, ◌≤◌, ◌||◌, Bool, true, false, nat_eq, if◌then◌else◌, List, [], ◌∷◌, ◌++◌, length, map, refl, ap, sym, ◌∙◌, subst, arith, inl, inr, slice_index_or, eqb-true}
use Rattle.std.specs.List.{IsChunkByPrefix}
use Rattle.std.specs.List.Sorted.{IsNonDecreasingBy}
use Rattle.std.proofs.lemmas.Bool.{cases_Bool}
use Rattle.std.proofs.lemmas.Bool.Decides.{nat_tests}
use Rattle.sto_item.specs.declared.item.Item.{Item}
use Rattle.sto_item.specs.declared.item.Item.TheVariants.{Seen, Holds}
use Rattle.sto_item.specs.Observed.{part_of_item, parts_of_items, is_sight_of, sees, pred_on, preds_on, watch_at, Watched}

-- the parts of items rise, from n on
abbrev pub Rises : ℕ → List Item → Type 0
Rises n [] = Unit {0}
Rises n (x ∷ xs) = (n ≤ part_of_item x) × Rises (part_of_item x) xs

-- numbers rise, from n on, and no two are equal
abbrev pub RisesFrom : ℕ → List ℕ → Type 0
RisesFrom n [] = Unit {0}
RisesFrom n (q ∷ qs) = (n ≤ q) × RisesFrom (q + 1) qs

-- each item is on part p
abbrev pub AllOn : ℕ → List Item → Type 0
AllOn p [] = Unit {0}
AllOn p (x ∷ xs) = (part_of_item x ≡ p) × AllOn p xs

-- numbers without a first one that is p
abbrev pub past : ℕ → List ℕ → List ℕ
past p [] = []
past p (q ∷ qs) = if nat_eq p q then qs else q ∷ qs

-- of numbers that rise, each once
abbrev pub distinct : List ℕ → List ℕ
distinct [] = []
distinct (p ∷ ps) = p ∷ past p (distinct ps)

-- the watches of items whose parts rise
abbrev pub watches_of : List Item → List Watched
watches_of items = map (watch_at items) (distinct (parts_of_items items))

pub none_left : (xs : List Item) → length xs ≡ 0 → xs ≡ []
none_left [] e = refl
none_left (x ∷ xs) e = absurd (omega (arith, e))

rises_on : (x : Item) (xs : List Item) → IsNonDecreasingBy part_of_item (x ∷ xs) → Rises (part_of_item x) xs
rises_on x [] h = tt
rises_on x (y ∷ ys) h =
    let next : part_of_item x ≤ part_of_item y = h 0 1 x (omega arith) (omega arith) in
    (next, rises_on y ys (λ i j d le lt. h (suc i) (suc j) d (omega (arith, le)) (omega (arith, lt))))

pub Rises-sorted : (xs : List Item) → IsNonDecreasingBy part_of_item xs → Rises 0 xs
Rises-sorted [] h = tt
Rises-sorted (x ∷ xs) h = (omega arith, rises_on x xs h)

pub Rises-lower : (n m : ℕ) (xs : List Item) → n ≤ m → Rises m xs → Rises n xs
Rises-lower n m [] l r = tt
Rises-lower n m (x ∷ xs) l r = (omega (arith, l, r.0), r.1)

-- the first run: its items are on one part, and the parts behind are higher
abbrev pub same_part : Item → Item → Bool
same_part x y = nat_eq (part_of_item x) (part_of_item y)

first_run :
    (n : ℕ) (x : Item) (run rest : List Item)
    → ((k : ℕ) (d : Item) → suc k < length (x ∷ run) → same_part (slice_index_or (x ∷ run ++ rest) k d) (slice_index_or (x ∷ run ++ rest) (suc k) d) ≡ true)
    → (length (x ∷ run) < length (x ∷ run ++ rest) → (d : Item) → same_part (slice_index_or (x ∷ run ++ rest) (length run) d) (slice_index_or (x ∷ run ++ rest) (suc (length run)) d) ≡ false)
    → Rises n (x ∷ run ++ rest) → AllOn (part_of_item x) run × Rises (suc (part_of_item x)) rest
first_run n x [] [] alike apart r = (tt, tt)
first_run n x [] (y ∷ ys) alike apart r =
    let other : nat_eq (part_of_item x) (part_of_item y) ≡ false = apart (omega arith) x in
    let le : part_of_item x ≤ part_of_item y = r.1.0 in
    let more : suc (part_of_item x) ≤ part_of_item y = grind (arith, nat_tests) in
    (tt, (more, r.1.1))
first_run n x (y ∷ run) rest alike apart r =
    let same : part_of_item x ≡ part_of_item y = eqb-true (part_of_item x) (part_of_item y) (alike 0 x (omega arith)) in
    let more : AllOn (part_of_item y) run × Rises (suc (part_of_item y)) rest =
    first_run (part_of_item x) y run rest (λ k d h. alike (suc k) d (omega (arith, h))) (λ h d. apart (omega (arith, h)) d) r.1 in
    ((sym same, subst (λ (p : ℕ). AllOn p run) (sym same) more.0), subst (λ (p : ℕ). Rises (suc p) rest) (sym same) more.1)

-- an item that is on another part tells nothing of part p
pub other_part : (p : ℕ) (x : Item) → nat_eq (part_of_item x) p ≡ false → (is_sight_of p x ≡ false) × (pred_on p x ≡ [])
other_part p (Seen q) e = (e, refl)
other_part p (Holds q) e = (refl, rw e refl)

none_above : (p n : ℕ) (xs : List Item) → p < n → Rises n xs → (sees p xs ≡ false) × (preds_on p xs ≡ [])
none_above p n [] h r = (refl, refl)
none_above p n (x ∷ xs) h r =
    let le : n ≤ part_of_item x = r.0 in
    let miss : nat_eq (part_of_item x) p ≡ false = grind (arith, nat_tests) in
    let here = other_part p x miss in
    let more = none_above p (part_of_item x) xs (omega (arith, h, le)) r.1 in
    (rw here.0 more.0, rw (here.1, more.1) refl)

sees_front : (p : ℕ) (xs ys : List Item) → sees p ys ≡ false → sees p (xs ++ ys) ≡ sees p xs
sees_front p [] ys e = e
sees_front p (x ∷ xs) ys e = ap (λ b. is_sight_of p x || b) (sees_front p xs ys e)

preds_front : (p : ℕ) (xs ys : List Item) → preds_on p ys ≡ [] → preds_on p (xs ++ ys) ≡ preds_on p xs
preds_front p [] ys e = e
preds_front p (x ∷ xs) ys e = ap (λ l. pred_on p x ++ l) (preds_front p xs ys e)

behind : (p q : ℕ) (run rest : List Item) → p < q → AllOn p run → (sees q (run ++ rest) ≡ sees q rest) × (preds_on q (run ++ rest) ≡ preds_on q rest)
behind p q [] rest h all = (refl, refl)
behind p q (x ∷ run) rest h all =
    let on : part_of_item x ≡ p = all.0 in
    let miss : nat_eq (part_of_item x) q ≡ false = grind (arith, nat_tests) in
    let here = other_part q x miss in
    let more = behind p q run rest h all.1 in
    (rw here.0 more.0, rw here.1 more.1)

pub watch_same : (p : ℕ) (xs ys : List Item) → sees p xs ≡ sees p ys → preds_on p xs ≡ preds_on p ys → watch_at xs p ≡ watch_at ys p
watch_same p xs ys s e = λ i. record { part = p; seen = s i; preds = (if s i then [] else e i) }

-- the numbers that are left rise
past-rises : (p : ℕ) (qs : List ℕ) → RisesFrom p qs → RisesFrom (p + 1) (past p qs)
past-rises p [] r = tt
past-rises p (q ∷ qs) r = elim (cases_Bool (nat_eq p q)) [
  | inl same ↦ rw same (subst (λ (m : ℕ). RisesFrom (m + 1) qs) (sym (eqb-true p q same)) r.1)
  | inr other ↦ rw other ((let le : p ≤ q = r.0 in grind (arith, nat_tests)), r.1)
]

pub RisesFrom-distinct : (n : ℕ) (xs : List Item) → Rises n xs → RisesFrom n (distinct (parts_of_items xs))
RisesFrom-distinct n [] r = tt
RisesFrom-distinct n (x ∷ xs) r = (r.0, past-rises (part_of_item x) (distinct (parts_of_items xs)) (RisesFrom-distinct (part_of_item x) xs r.1))

-- a run and what is behind it
past-above : (p n : ℕ) (rest : List Item) → p < n → Rises n rest → past p (distinct (parts_of_items rest)) ≡ distinct (parts_of_items rest)
past-above p n [] h r = refl
past-above p n (y ∷ ys) h r =
    let le : n ≤ part_of_item y = r.0 in
    let miss : nat_eq p (part_of_item y) ≡ false = grind (arith, nat_tests) in
    rw miss refl

past-run : (p : ℕ) (run rest : List Item) → AllOn p run → Rises (suc p) rest → past p (distinct (parts_of_items (run ++ rest))) ≡ distinct (parts_of_items rest)
past-run p [] rest all r = past-above p (suc p) rest (omega arith) r
past-run p (x ∷ run) rest all r =
    let on : part_of_item x ≡ p = all.0 in
    let hit : nat_eq p (part_of_item x) ≡ true = grind (arith, nat_tests) in
    rw hit (subst (λ (q : ℕ). past q (distinct (parts_of_items (run ++ rest))) ≡ distinct (parts_of_items rest)) (sym on) (past-run p run rest all.1 r))

watches-behind : (p n : ℕ) (run rest : List Item) (qs : List ℕ) → p < n → AllOn p run → RisesFrom n qs → map (watch_at (run ++ rest)) qs ≡ map (watch_at rest) qs
watches-behind p n run rest [] h all r = refl
watches-behind p n run rest (q ∷ qs) h all r =
    let le : n ≤ q = r.0 in
    let same = behind p q run rest (omega (arith, h, le)) all in
    let one : watch_at (run ++ rest) q ≡ watch_at rest q = watch_same q (run ++ rest) rest same.0 same.1 in
    let more : map (watch_at (run ++ rest)) qs ≡ map (watch_at rest) qs = watches-behind p (q + 1) run rest qs (omega (arith, h, le)) all r.1 in
    λ i. one i ∷ more i

watches-run : (x : Item) (run rest : List Item) → AllOn (part_of_item x) run → Rises (suc (part_of_item x)) rest → watches_of (x ∷ run ++ rest) ≡ watch_at (x ∷ run) (part_of_item x) ∷ watches_of rest
watches-run x run rest all r =
    let p : ℕ = part_of_item x in
    let none = none_above p (suc p) rest (omega arith) r in
    let one : watch_at (x ∷ run ++ rest) p ≡ watch_at (x ∷ run) p = watch_same p (x ∷ run ++ rest) (x ∷ run) (sees_front p (x ∷ run) rest none.0) (preds_front p (x ∷ run) rest none.1) in
    let left : past p (distinct (parts_of_items (run ++ rest))) ≡ distinct (parts_of_items rest) = past-run p run rest all r in
    let more : map (watch_at (x ∷ run ++ rest)) (distinct (parts_of_items rest)) ≡ watches_of rest =
    watches-behind p (suc p) (x ∷ run) rest (distinct (parts_of_items rest)) (omega arith) (refl, all) (RisesFrom-distinct (suc p) rest r) in
    λ i. one i ∷ ((ap (map (watch_at (x ∷ run ++ rest))) left ∙ more) i)

-- what `chunk_by` gives next of items whose parts rise
pub cut :
    (run rest : List Item) (p : ℕ) → p ≡ part_of_item (slice_index_or run 0 (Seen 0)) → 0 < length run → IsChunkByPrefix same_part (run ++ rest) (length run) → Rises 0 (run ++ rest)
    → Rises 0 rest × (watches_of (run ++ rest) ≡ watch_at run p ∷ watches_of rest)
cut [] rest p same some prefix r = absurd (omega (arith, some))
cut (x ∷ run) rest p same some prefix r =
    let next : (k : ℕ) → k + 1 ≡ suc k = λ k. omega arith in
    let last : length (x ∷ run) - 1 ≡ length run = omega arith in
    let found : AllOn (part_of_item x) run × Rises (suc (part_of_item x)) rest =
    first_run 0 x run rest
    (λ k d h. subst (λ (m : ℕ). same_part (slice_index_or (x ∷ run ++ rest) k d) (slice_index_or (x ∷ run ++ rest) m d) ≡ true) (next k) (prefix.0 k d (omega (arith, h))))
    (λ h d. subst (λ (m : ℕ). same_part (slice_index_or (x ∷ run ++ rest) m d) (slice_index_or (x ∷ run ++ rest) (suc (length run)) d) ≡ false) last (prefix.1 h d))
    r in (
      Rises-lower 0 (suc (part_of_item x)) rest (omega arith) found.1,
      watches-run x run rest found.0 found.1 ∙ ap (λ (q : ℕ). watch_at (x ∷ run) q ∷ watches_of rest) (sym same),
    )
