-- What stays so of each watched part stays so of each item.
use Rattle.std.proofs.Common.{◌≡◌, ◌<◌, ℕ, suc, ℤ, Bool, true, false, nat_eq, Some, List, [], ◌∷◌, ◌++◌, length, map, refl, ap, sym, ◌∙◌, subst, arith, inl, inr, eq-eqb, true≢false, ◌||◌, append_assoc, slice_index_or}
use Rattle.std.specs.List.{Contains}
use Rattle.std.proofs.lemmas.Bool.{cases_Bool}
use Rattle.std.proofs.lemmas.List.{length-map, get_or-map}
use Rattle.sto_part.specs.declared.pred.Pred.{Pred}
use Rattle.sto_item.specs.declared.item.Item.{Item}
use Rattle.sto_item.specs.declared.item.Item.TheVariants.{Seen, Holds}
use Rattle.sto_item.specs.Observed.{Watched, IsObserved, watch_at, sees, is_sight_of, preds_on, pred_on, part_of_item, parts_of_items}
use Rattle.sto_type.specs.Known.{Known}
use Rattle.sto_attempt_log.specs.Every.{AllOf}
use Rattle.sto_attempt_log.specs.ReadSet.{IsTrueIn, AllTrueIn}
use Rattle.sto_attempt_log.specs.Extending.{StaysSo, SameSeen, PredsHold, StaysWatched}
use Rattle.sto_attempt_log.proofs.Every.{all_contained}

or_right : (a b : Bool) → b ≡ true → (a || b) ≡ true
or_right true b h = refl
or_right false b h = h

or_left : (a b : Bool) → a ≡ true → (a || b) ≡ true
or_left true b h = refl
or_left false b h = absurd (true≢false (sym h))

-- a part that is seen is seen by its watch
seen_by : (p : ℕ) (pre : List Item) (is : List Item) → sees p (pre ++ Seen p ∷ is) ≡ true
seen_by p [] is = or_left (nat_eq p p) (sees p is) (eq-eqb p p refl)
seen_by p (i ∷ pre) is = or_right (is_sight_of p i) (sees p (pre ++ Seen p ∷ is)) (seen_by p pre is)

all_true_append : (ws : List ℤ) (xs ys : List Pred) → AllTrueIn ws (xs ++ ys) → AllTrueIn ws xs × AllTrueIn ws ys
all_true_append ws [] ys h = (tt, h)
all_true_append ws (x ∷ xs) ys h = let r : AllTrueIn ws xs × AllTrueIn ws ys = all_true_append ws xs ys h.1 in ((h.0, r.0), r.1)

-- a predicate is among those of its part
true_among : (ws : List ℤ) (q : Pred) (pre : List Item) (is : List Item) → AllTrueIn ws (preds_on q.part (pre ++ Holds q ∷ is)) → IsTrueIn ws q
true_among ws q [] is h = (rw (eq-eqb q.part q.part refl) at h).0
true_among ws q (i ∷ pre) is h = true_among ws q pre is (all_true_append ws (pred_on q.part i) (preds_on q.part (pre ++ Holds q ∷ is)) h).1

-- the item stands at a place
at_seam : (i : Item) (pre is : List Item) → Contains (parts_of_items (pre ++ i ∷ is)) (part_of_item i)
at_seam i [] is = (0, omega arith, refl)
at_seam i (x ∷ pre) is = let c = at_seam i pre is in (suc c.0, omega (arith, c.1), c.2)

-- the watch of an observed part stands among the watches
watch_of : (items : List Item) (watches : List Watched) (p : ℕ) → IsObserved items watches → Contains (parts_of_items items) p → Contains watches (watch_at items p)
watch_of items watches p o c =
    let ps : List ℕ = map (λ (w : Watched). w.part) watches in
    let k = (o.parts.exact p).1 c in
    let long : k.0 < length watches = omega (arith, k.1, length-map watches (λ (w : Watched). w.part)) in
    let at : slice_index_or watches k.0 (watch_at items p) ≡ watch_at items p =
    ap (λ (l : List Watched). slice_index_or l k.0 (watch_at items p)) o.each ∙ get_or-map (watch_at items) ps k.0 p (watch_at items p) k.1 ∙ ap (watch_at items) k.2 in
    (k.0, long, at)

-- a predicate is true of the words that were read
abbrev pub WasTrue : Known → Item → Type 0
WasTrue old (Seen p) = Unit {0}
WasTrue old (Holds q) = (ws : List ℤ) → old q.part ≡ Some ws → IsTrueIn ws q

module _ (long : ℕ) (old new : Known) (items : List Item) (watches : List Watched) (o : IsObserved items watches) (stays : AllOf (StaysWatched long old new) watches) where
  watched_at : (i : Item) (pre is : List Item) → pre ++ i ∷ is ≡ items → StaysWatched long old new (watch_at items (part_of_item i))
  watched_at i pre is e =
      all_contained (StaysWatched long old new) watches (watch_at items (part_of_item i))
      (watch_of items watches (part_of_item i) o (subst (λ (l : List Item). Contains (parts_of_items l) (part_of_item i)) e (at_seam i pre is))) stays

  one_stays : (i : Item) (pre is : List Item) → pre ++ i ∷ is ≡ items → part_of_item i < long → WasTrue old i → StaysSo long old new i
  one_stays (Seen p) pre is e l t =
      let seen : sees p items ≡ true = ap (sees p) (sym e) ∙ seen_by p pre is in
      rw seen at (watched_at (Seen p) pre is e)
  one_stays (Holds q) pre is e l t = elim (cases_Bool (sees q.part items)) [
    | inl seen ↦
        let same : SameSeen long old new q.part = rw seen at (watched_at (Holds q) pre is e) in
        record { range = l; words = same.words; now = same.now; holds = t same.words same.before }
    | inr none ↦
        let h : PredsHold new q.part (preds_on q.part items) = rw none at (watched_at (Holds q) pre is e) in
        let hold : AllTrueIn h.words (preds_on q.part (pre ++ Holds q ∷ is)) = subst (λ (l : List Item). AllTrueIn h.words (preds_on q.part l)) (sym e) h.hold in
        record { range = l; words = h.words; now = h.now; holds = true_among h.words q pre is hold }
  ]

  pub all_stay : (pre is : List Item) → pre ++ is ≡ items → AllOf (λ (i : Item). part_of_item i < long) is → AllOf (WasTrue old) is → AllOf (StaysSo long old new) is
  all_stay pre [] e l t = tt
  all_stay pre (i ∷ is) e l t = (one_stays i pre is e l.0 t.0, all_stay (pre ++ i ∷ []) is (append_assoc pre (i ∷ []) is ∙ e) l.1 t.1)
