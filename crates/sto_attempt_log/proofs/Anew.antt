-- An extension by its lists: which watch is next, and what is known once the last one was read anew.
use Rattle.std.proofs.Common.{◌≡◌, ◌≤◌, ◌<◌, ℕ, suc, ℤ, Bool, true, false, nat_eq, Option, Some, None, List, [], ◌∷◌, ◌++◌, length, length-append, eqb-true, map, drop, refl, ap, sym, ◌∙◌, subst, arith, inl, inr, append_assoc, append-nil, slice_index_or, IsSome}
use Rattle.std.specs.List.{Contains, slice_get, AllPairs}
use Rattle.std.specs.List.Sorted.{IsStrictlyIncreasing}
use Rattle.std.proofs.lemmas.List.Kept.{AllPairs-from_increasing}
use Rattle.std.proofs.lemmas.List.{length-map, map-append, get_or_append_left}
use Rattle.std.proofs.lemmas.Bool.{cases_Bool}
use Rattle.std.proofs.lemmas.Bool.Decides.{nat_tests}
use Rattle.std.proofs.Math.Seq.{get_or-append_seam}
use Rattle.sto_part.specs.declared.pred.Pred.{Pred}
use Rattle.sto_item.specs.declared.item.Item.{Item}
use Rattle.sto_item.specs.declared.item.Item.TheVariants.{Seen, Holds}
use Rattle.sto_item.specs.Observed.{Watched, IsObserved, watch_at, preds_on, pred_on, part_of_item, parts_of_items}
use Rattle.sto_item.specs.Agreement.{Agrees}
use Rattle.sto_item.specs.Pending.{Entry as Update}
use Rattle.sto_model.specs.PlainReplies.{PlainReply}
use Rattle.sto_model.specs.Run.{Behaviour}
use Rattle.sto_type.specs.Known.{Parts, Known, IsPartOf}
use Rattle.sto_type.specs.Meaning.{Meaning, IsLawful}
use Rattle.sto_attempt_log.specs.declared.read_entry.ReadEntry.{ReadEntry}
use Rattle.sto_attempt_log.specs.Every.{AllOf}
use Rattle.sto_type.specs.Touching.{HasTouched}
use Rattle.sto_attempt_log.specs.ReadSet.{words_in, IsTrueIn, AllTrueIn}
use Rattle.sto_attempt_log.specs.Log.{IsLog, IsRead}
use Rattle.sto_attempt_log.specs.Extending.{StaysSo, IsWatched, StaysWatched}
use Rattle.sto_attempt_log.specs.Standing.{IsRenewed, IsNext}
use Rattle.sto_attempt_log.proofs.Every.{all_contained, all_map, all_append}
use Rattle.sto_attempt_log.proofs.Touched.{touched_range}
use Rattle.sto_attempt_log.proofs.Claimed.{words_more}
use Rattle.sto_attempt_log.proofs.Extended.{carried_over}
use Rattle.sto_attempt_log.proofs.Observing.{WasTrue, all_stay}

abbrev read_entry_part : ReadEntry → ℕ
read_entry_part s = s.part

abbrev watch_part : Watched → ℕ
watch_part w = w.part

-- parts that are all below another do not tell of it
below_other : (a p : ℕ) → a < p → nat_eq a p ≡ false
below_other a p l = grind (arith, nat_tests)

unread_above : (ss : List ReadEntry) (p : ℕ) → ((k : ℕ) → k < length (map read_entry_part ss) → slice_index_or (map read_entry_part ss) k 0 < p) → words_in ss p ≡ None
unread_above [] p h = refl
unread_above (s ∷ ss) p h = rw (below_other s.part p (h 0 (omega arith))) (unread_above ss p (λ k l. h (suc k) (omega (arith, l))))

-- a list with a seam contains what stands at it
contains_seam : (xs : List ℕ) (y : ℕ) (ys : List ℕ) → Contains (xs ++ y ∷ ys) y
contains_seam [] y ys = (0, omega arith, refl)
contains_seam (x ∷ xs) y ys = let c = contains_seam xs y ys in (suc c.0, omega (arith, c.1), c.2)

each_seam : (g : Watched → Watched) (done : List Watched) (next : Watched) (more : List Watched) → done ++ next ∷ more ≡ map g (done ++ next ∷ more) → next ≡ g next
each_seam g [] next more e = ap (λ (l : List Watched). slice_index_or l 0 next) e
each_seam g (d ∷ done) next more e = each_seam g done next more (ap (λ (l : List Watched). drop 1 l) e)

map_twice : (items : List Item) (ws : List Watched) → map (watch_at items) (map watch_part ws) ≡ map (λ (w : Watched). watch_at items w.part) ws
map_twice items [] = refl
map_twice items (w ∷ ws) = ap (λ l. watch_at items w.part ∷ l) (map_twice items ws)

-- what all items have, the part of a watch has
all_mapped : (P : ℕ → Type 0) (is : List Item) → AllOf (λ (i : Item). P (part_of_item i)) is → AllOf P (parts_of_items is)
all_mapped P [] h = tt
all_mapped P (i ∷ is) h = (h.0, all_mapped P is h.1)

module _ (long : ℕ) (old : Known) (fresh : List ReadEntry) (watches : List Watched) where
  same_length : (left : List Watched) (r : IsRenewed long old fresh watches left) → length fresh ≡ length r.done
  same_length left r = sym (length-map fresh read_entry_part) ∙ ap length r.parts ∙ length-map r.done watch_part

  -- the next watch by its place
  pub ahead : (left : List Watched) → IsRenewed long old fresh watches left → (w : Watched) → slice_get watches (length fresh) ≡ Some w → IsNext long old fresh watches w.seen w.part
  ahead left r w e = by left r (at_done r.done left (sym (ap (λ (l : List Watched). slice_get l (length r.done)) r.all) ∙ ap (slice_get watches) (sym (same_length left r)) ∙ e))
    where
      at_done : (done left : List Watched) → slice_get (done ++ left) (length done) ≡ Some w → slice_get left 0 ≡ Some w
      at_done [] left h = h
      at_done (d ∷ done) left h = at_done done left h

      by : (left : List Watched) → IsRenewed long old fresh watches left → slice_get left 0 ≡ Some w → IsNext long old fresh watches w.seen w.part
      by [] r h = cc
      by (x ∷ more) r h =
          let same : x ≡ w = cc in
          record { next = x; more = more; renewed = r; on = ap (λ (y : Watched). y.part) same; whole = ap (λ (y : Watched). y.seen) same }

  -- there is none
  pub all_renewed : (left : List Watched) → IsRenewed long old fresh watches left → length watches ≤ length fresh → AllOf (StaysWatched long old (words_in fresh)) watches
  all_renewed left r l = by left r (omega (arith, l, same_length left r, ap length r.all, length-append r.done left))
    where
      by : (left : List Watched) (r : IsRenewed long old fresh watches left) → length left ≤ 0 → AllOf (StaysWatched long old (words_in fresh)) watches
      by [] r e = subst (λ (l : List Watched). AllOf (StaysWatched long old (words_in fresh)) l) (sym (append-nil r.done) ∙ sym r.all) r.stay
      by (x ∷ left) r e = absurd (omega (arith, e))

  module _ (seen : Bool) (p : ℕ) (n : IsNext long old fresh watches seen p) where
    -- it is of a part that some item is of
    pub next_observed : (items : List Item) → IsObserved items watches → Contains (parts_of_items items) p
    next_observed items o =
        let parts : List ℕ = map watch_part n.renewed.done in
        let all : map watch_part watches ≡ parts ++ n.next.part ∷ map watch_part n.more = ap (map watch_part) n.renewed.all ∙ map-append watch_part n.renewed.done (n.next ∷ n.more) in
        let c : Contains (map watch_part watches) n.next.part = subst (λ (l : List ℕ). Contains l n.next.part) (sym all) (contains_seam parts n.next.part (map watch_part n.more)) in
        subst (λ (q : ℕ). Contains (parts_of_items items) q) n.on ((o.parts.exact n.next.part).0 c)

    -- and is what the items observe of it
    pub next_is : (items : List Item) → IsObserved items watches → n.next ≡ watch_at items p
    next_is items o =
        let e : watches ≡ map (λ (w : Watched). watch_at items w.part) watches = o.each ∙ map_twice items watches in
        let e2 : n.renewed.done ++ n.next ∷ n.more ≡ map (λ (w : Watched). watch_at items w.part) (n.renewed.done ++ n.next ∷ n.more) =
        subst (λ (l : List Watched). l ≡ map (λ (w : Watched). watch_at items w.part) l) n.renewed.all e in
        each_seam (λ (w : Watched). watch_at items w.part) n.renewed.done n.next n.more e2 ∙ ap (watch_at items) n.on

    -- it was not read anew yet
    pub next_unread : IsStrictlyIncreasing (map watch_part watches) → words_in fresh p ≡ None
    next_unread rises =
        let done : List ℕ = map watch_part n.renewed.done in
        let all : map watch_part watches ≡ done ++ n.next.part ∷ map watch_part n.more = ap (map watch_part) n.renewed.all ∙ map-append watch_part n.renewed.done (n.next ∷ n.more) in
        let pairs : AllPairs (λ (x y : ℕ). x < y) (done ++ n.next.part ∷ map watch_part n.more) = subst (λ (l : List ℕ). AllPairs (λ (x y : ℕ). x < y) l) all (AllPairs-from_increasing (map watch_part watches) rises) in
        let long_enough : length done < length (done ++ n.next.part ∷ map watch_part n.more) = omega (arith, length-append done (n.next.part ∷ map watch_part n.more)) in
        let one : (k : ℕ) → k < length done → slice_index_or done k 0 < p = λ k l.
        subst (λ (x : ℕ). x < p) (get_or_append_left done (n.next.part ∷ map watch_part n.more) 0 k l)
        (subst (λ (y : ℕ). slice_index_or (done ++ n.next.part ∷ map watch_part n.more) k 0 < y) (get_or-append_seam done n.next.part (map watch_part n.more) 0 ∙ n.on)
        (pairs k (length done) 0 l long_enough)) in
        unread_above fresh p (subst (λ (l : List ℕ). (k : ℕ) → k < length l → slice_index_or l k 0 < p) (sym n.renewed.parts) one)

    -- with the next part read anew
    pub renewed_more : (x : ReadEntry) → x.part ≡ p → IsWatched long old (words_in (fresh ++ x ∷ [])) seen p n.next.preds → IsRenewed long old (fresh ++ x ∷ []) watches n.more
    renewed_more x on h =
        let one : StaysWatched long old (words_in (fresh ++ x ∷ [])) n.next =
        subst (λ (q : ℕ). IsWatched long old (words_in (fresh ++ x ∷ [])) n.next.seen q n.next.preds) (sym n.on)
        (subst (λ (b : Bool). IsWatched long old (words_in (fresh ++ x ∷ [])) b p n.next.preds) (sym n.whole) h) in
        record {
          done = n.renewed.done ++ n.next ∷ [];
          all = n.renewed.all ∙ sym (append_assoc n.renewed.done (n.next ∷ []) n.more);
          parts = map-append read_entry_part fresh (x ∷ []) ∙ ap (λ (l : List ℕ). l ++ x.part ∷ []) n.renewed.parts ∙ ap (λ (q : ℕ). map watch_part n.renewed.done ++ q ∷ []) (on ∙ sym n.on) ∙ sym (map-append watch_part n.renewed.done (n.next ∷ []));
          stay = all_append (StaysWatched long old (words_in (fresh ++ x ∷ []))) n.renewed.done (n.next ∷ [])
              (all_map (StaysWatched long old (words_in fresh)) (StaysWatched long old (words_in (fresh ++ x ∷ []))) (λ w h. wider x w.seen w.part w.preds h) n.renewed.done n.renewed.stay) (one, tt);
        }
      where
        wider : (x : ReadEntry) (b : Bool) (q : ℕ) (ps : List Pred) → IsWatched long old (words_in fresh) b q ps → IsWatched long old (words_in (fresh ++ x ∷ [])) b q ps
        wider x true q ps h = record { range = h.range; words = h.words; before = h.before; now = words_more fresh x q h.words h.now }
        wider x false q ps h = record { words = h.words; now = words_more fresh x q h.words h.now; hold = h.hold }

-- what the predicates said of the parts that were read
pub all_were_true : (long : ℕ) (old : Known) (c : Parts) (is : List Item) → length c ≡ long → IsPartOf old c → AllOf (λ (i : Item). part_of_item i < long) is → Agrees c is c → AllOf (WasTrue old) is
all_were_true long old c [] e o l a = tt
all_were_true long old c (Seen p ∷ is) e o l a = (tt, all_were_true long old c is e o l.1 a.1)
all_were_true long old c (Holds q ∷ is) e o l a =
    (λ ws known. subst (λ (w : List ℤ). IsTrueIn w q) (o.same q.part ws (subst (λ (n : ℕ). q.part < n) (sym e) l.0) known) a.0, all_were_true long old c is e o l.1 a.1)

true_both : (ws : List ℤ) (xs ys : List Pred) → AllTrueIn ws xs → AllTrueIn ws ys → AllTrueIn ws (xs ++ ys)
true_both ws [] ys a b = b
true_both ws (x ∷ xs) ys a b = (a.0, true_both ws xs ys a.1 b)

pub preds_were_true : (old : Known) (p : ℕ) (ws : List ℤ) (is : List Item) → old p ≡ Some ws → AllOf (WasTrue old) is → AllTrueIn ws (preds_on p is)
preds_were_true old p ws [] e h = tt
preds_were_true old p ws (Seen q ∷ is) e h = preds_were_true old p ws is e h.1
preds_were_true old p ws (Holds q ∷ is) e h = true_both ws (pred_on p (Holds q)) (preds_on p is) one (preds_were_true old p ws is e h.1)
  where
    one : AllTrueIn ws (pred_on p (Holds q))
    one = elim (cases_Bool (nat_eq q.part p)) [
      | inl hit ↦ rw hit (h.0 ws (ap old (eqb-true q.part p hit) ∙ e), tt)
      | inr miss ↦ rw miss tt
    ]

-- the log of an attempt whose observed parts were all read anew
module _ (m : Meaning) (law : IsLawful m) (f : Behaviour) (base : List ReadEntry) (items : List Item) (es : List Update) (rs : List PlainReply) (log : IsLog m f (words_in base) items es rs)
    (c : Parts) (valid : m.valid c) (part : IsPartOf (words_in base) c) where
  abbrev long : ℕ
  long = length m.widths

  wide : (d : Parts) → m.valid d → length d ≡ long
  wide d v = sym (length-map d length) ∙ ap length (law.widths d v)

  in_range : AllOf (λ (i : Item). part_of_item i < long) items
  in_range = all_map (λ (i : Item). HasTouched m f rs (part_of_item i)) (λ (i : Item). part_of_item i < long) (λ i h. omega (arith, touched_range m law f rs (part_of_item i) h, law.homes)) items log.touched_items

  pub were_true : AllOf (WasTrue (words_in base)) items
  were_true = all_were_true long (words_in base) c items (wide c valid) part in_range (log.carried.holds c valid part)

  some_words : (new : Known) (i : Item) → StaysSo long (words_in base) new i → IsRead new i
  some_words new (Seen p) h = subst (λ (o : Option (List ℤ)). IsSome o) (sym h.now) refl
  some_words new (Holds q) h = subst (λ (o : Option (List ℤ)). IsSome o) (sym h.now) refl

  pub log_renewed : (fresh : List ReadEntry) (watches : List Watched) → IsObserved items watches → AllOf (StaysWatched long (words_in base) (words_in fresh)) watches → IsLog m f (words_in fresh) items es rs
  log_renewed fresh watches o stays =
      let stay : AllOf (StaysSo long (words_in base) (words_in fresh)) items = all_stay long (words_in base) (words_in fresh) items watches o stays [] items refl in_range were_true in
      record {
        carried = carried_over m (words_in base) (words_in fresh) f items es rs long c wide valid part stay log.carried;
        read = all_map (StaysSo long (words_in base) (words_in fresh)) (IsRead (words_in fresh)) (some_words (words_in fresh)) items stay;
        inside = log.inside;
        touched_items = log.touched_items;
        touched_updates = log.touched_updates;
        written = log.written;
      }

  -- the part of a watch was read, and is asked
  pub watch_read : (p : ℕ) → Contains (parts_of_items items) p → IsSome (words_in base p)
  watch_read p h = all_contained (λ (q : ℕ). IsSome (words_in base q)) (parts_of_items items) p h (all_mapped (λ (q : ℕ). IsSome (words_in base q)) items log.read)

  pub watch_touched : (p : ℕ) → Contains (parts_of_items items) p → HasTouched m f rs p
  watch_touched p h = all_contained (λ (q : ℕ). HasTouched m f rs q) (parts_of_items items) p h (all_mapped (λ (q : ℕ). HasTouched m f rs q) items log.touched_items)

  -- and predicates on it were true of its words
  pub watch_true : (p : ℕ) (ws : List ℤ) → words_in base p ≡ Some ws → AllTrueIn ws (preds_on p items)
  watch_true p ws e = preds_were_true (words_in base) p ws items e were_true

  -- and is one of the type's
  pub items_range : (p : ℕ) → Contains (parts_of_items items) p → p < long
  items_range p h = omega (arith, touched_range m law f rs p (watch_touched p h), law.homes)
