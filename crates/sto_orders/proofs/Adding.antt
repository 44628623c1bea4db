-- Nodes that were found, with one way more.
use Rattle.std.proofs.Common.{◌≡◌, ◌⊎◌, ℕ, zero, suc, ◌≤◌, List, [], ◌∷◌, length, refl, sym, ap, ◌∙◌, subst, Bool, true, false, cond, Option, None, Some, slice_get, arith, inl, inr}
use Rattle.std.specs.BTreeMap.{get, is_at}
use Rattle.std.specs.Ordering.{is_eq}
use Rattle.std.specs.declared.cmp.Ordering.{Ordering}
use Rattle.std.specs.declared.cmp.Ordering.TheVariants.{Less, Equal, Greater}
use Rattle.std.proofs.lemmas.Cmp.{tied_itself}
use Rattle.sto_lang.specs.Scripts.{File}
use Rattle.sto_report_spec.specs.Orders.{TransactionPlace}
use Rattle.sto_orders.specs.declared.same_by.SameBy.{SameBy}
use Rattle.sto_orders.specs.declared.key.Key.{Key}
use Rattle.sto_orders.specs.declared.way.Way.{Way}
use Rattle.sto_orders.specs.declared.way.Ways.{Ways}
use Rattle.sto_orders.specs.Keys.{key_cmp, IsKeyOf}
use Rattle.sto_orders.specs.Ways.{AreKept, IsWay, AreWays}
use Rattle.sto_orders.specs.Levels.{Found, HasFound, AreFound, Keeps, HasMoreWays, IsAdded}
use Rattle.sto_orders.proofs.Comparing.{Agree, key_total, agree_by_cmp, key_agree}

equal_from : (o : Ordering) → is_eq o ≡ true → o ≡ Equal
equal_from Less e = absurd cc
equal_from Equal e = refl
equal_from Greater e = absurd cc

one_way : (way w : Way) (k : ℕ) → slice_get (way ∷ []) k ≡ Some w → w ≡ way
one_way way w zero e = cc
one_way way w (suc k) e = absurd cc

module _ (by : SameBy) (f : File) (count : ℕ) where
  ways_more : (key : Key) (way : Way) (old : Option Ways) (new : Ways) → ((r : Ways) → old ≡ Some r → AreWays by f count key r) → IsWay by f count key way
      → HasMoreWays old way new → AreWays by f count key new
  ways_more key way None new known is more = record {
    some = omega (arith, ap length more);
    each = λ k w e. subst (IsWay by f count key) (sym (one_way way w k (ap (λ (ws : List Way). slice_get ws k) (sym more) ∙ e))) is;
  }
  ways_more key way (Some old) new known is more = record {
    some = more.1;
    each = λ k w e. by_place k w (more.0 k w e);
  }
    where
      by_place : (k : ℕ) (w : Way) → (slice_get old.each.items k ≡ Some w) ⊎ (w ≡ way) → IsWay by f count key w
      by_place k w (inl e) = (known old refl).each k w e
      by_place k w (inr e) = subst (IsWay by f count key) (sym e) is

  ways_along : (key other : Key) (r : Ways) → Agree key other → AreWays by f count key r → AreWays by f count other r
  ways_along key other r a h = record {
    some = h.some;
    each = λ k w e. let is : IsWay by f count key w = h.each k w e in
        record { beginning = is.beginning; leads = key_agree by f _ key other a is.leads };
  }

  module _ (old new : Found) (key : Key) (way : Way) (added : IsAdded old new key way) where
    pub found_more : AreFound by f count old → IsWay by f count key way → AreFound by f count new
    found_more h is other r e = by_other (is_at (key_cmp key) other) refl (sym (added.here other) ∙ e)
      where
        by_other : (b : Bool) → is_at (key_cmp key) other ≡ b → cond b (Some added.ways) (get key_cmp old other) ≡ Some r → AreWays by f count other r
        by_other true same e =
            let ways : added.ways ≡ r = cc in
            subst (AreWays by f count other) ways
            (ways_along key other added.ways (agree_by_cmp key other (equal_from (key_cmp key other) same))
            (ways_more key way (get key_cmp old key) added.ways (h key) is added.more))
        by_other false apart e = h other r e

    pub keeps_more : Keeps by f old new
    keeps_more order has = by_key (is_at (key_cmp key) has.key) (added.here has.key)
      where
        by_key : (b : Bool) → get key_cmp new has.key ≡ cond b (Some added.ways) (get key_cmp old has.key) → HasFound by f new order
        by_key true e = record { key = has.key; ways = added.ways; stands = e; leads = has.leads }
        by_key false e = record { key = has.key; ways = has.ways; stands = e ∙ has.stands; leads = has.leads }

    pub found_here : (order : List TransactionPlace) → IsKeyOf by f order key → HasFound by f new order
    found_here order is = record {
      key = key;
      ways = added.ways;
      stands = added.here key ∙ ap (λ (o : Ordering). cond (is_eq o) (Some added.ways) (get key_cmp old key)) (tied_itself key_total key);
      leads = is;
    }
