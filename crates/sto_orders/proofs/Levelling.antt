-- Levels of nodes.
use Rattle.std.proofs.Common.{◌≡◌, ℕ, zero, suc, ◌+◌, ◌<◌, List, [], ◌∷◌, ◌++◌, length, map, refl, sym, ap, ◌∙◌, subst, true, Option, None, Some, slice_get, get_or, arith, inl, inr}
use Rattle.std.specs.Option.{option_map}
use Rattle.std.specs.BTreeMap.{is_at}
use Rattle.std.specs.List.Sorted.{IsStrictlySortedBy}
use Rattle.std.specs.Ordering.{is_eq}
use Rattle.std.specs.declared.cmp.Ordering.{Ordering}
use Rattle.std.specs.declared.cmp.Ordering.TheVariants.{Less, Equal, Greater}
use Rattle.std.proofs.lemmas.Bool.{cases_order}
use Rattle.std.proofs.lemmas.List.{length-map}
use Rattle.std.proofs.lemmas.Option.{slice_get-map, slice_get_within, get_or_from_slice_get}
use Rattle.std.proofs.lemmas.Map.Entries.{btree_map_get_place, place_from_lookup}
use Rattle.std.proofs.lemmas.Map.Keys.{sorted_from_all_adjacent, Less-from_sorted}
use Rattle.sto_lang.specs.Scripts.{File}
use Rattle.sto_report_spec.specs.Orders.{TransactionPlace}
use Rattle.sto_orders.specs.declared.same_by.SameBy.{SameBy}
use Rattle.sto_orders.specs.declared.key.Key.{Key}
use Rattle.sto_orders.specs.declared.way.Way.{Way}
use Rattle.sto_orders.specs.declared.way.Ways.{Ways}
use Rattle.sto_orders.specs.declared.level.Node.{Node}
use Rattle.sto_orders.specs.Keys.{key_cmp, IsKeyOf}
use Rattle.sto_orders.specs.Ways.{along, next_of, IsBeginning, AreWays, HasNoSteps}
use Rattle.sto_orders.specs.Levels.{Found, HasNode, AreLevel, HasFound, AreFound, Keeps, HasNext, HasNextBelow, node_of}
use Rattle.sto_orders.proofs.Beginnings.{none_begun, LastOf, last_of}
use Rattle.sto_orders.proofs.Leading.{SameLead}
use Rattle.sto_orders.proofs.Comparing.{key_total, agree_by_cmp, key_agree, cmp_by_agree, agree_by_lead}

-- What is kept stays.

pub keeps_all : (by : SameBy) (f : File) (a b c : Found) → Keeps by f a b → Keeps by f b c → Keeps by f a c
keeps_all by f a b c h k order has = k order (h order has)

pub keeps_below : (by : SameBy) (f : File) (a b : Found) (key : Key) (n : ℕ) → Keeps by f a b → HasNextBelow by f a key n → HasNextBelow by f b key n
keeps_below by f a b key n keeps below order is t l left = keeps (order ++ next_of order t ∷ []) (below order is t l left)

pub below_more : (by : SameBy) (f : File) (a b : Found) (key : Key) (n : ℕ) → Keeps by f a b → HasNextBelow by f a key n
    → ((order : List TransactionPlace) → IsKeyOf by f order key → HasNext by f b order n) → HasNextBelow by f b key (n + 1)
below_more by f a b key n keeps below here order is t l = elim (cases_order t n) [
  | inl e ↦ subst (HasNext by f b order) (sym e) (here order is)
  | inr (inl k) ↦ keeps_below by f a b key n keeps below order is t k
  | inr (inr k) ↦ absurd (omega (arith, l, k))
]

-- The first level.

one_item : {X : Type 0} (x y : X) (k : ℕ) → slice_get (x ∷ []) k ≡ Some y → y ≡ x
one_item x y zero e = cc
one_item x y (suc k) e = absurd cc

no_items : {X : Type 0} (xs : List X) → length xs ≡ 0 → xs ≡ []
no_items [] e = refl
no_items (x ∷ xs) e = absurd (omega (arith, e))

pub first_level : (by : SameBy) (f : File) (node : Node) (nodes : List Node) → IsKeyOf by f [] node.key → HasNoSteps node.ways → nodes ≡ node ∷ [] → AreLevel by f 0 nodes
first_level by f node nodes is ways only = subst (AreLevel by f 0) (sym only) (record {
  ways = λ k p e. subst (λ (q : Node). AreWays by f 0 q.key q.ways) (sym (one_item node p k e)) there;
  all = λ order h. record { at = 0; node = node; stands = refl; leads = subst (λ (ps : List TransactionPlace). IsKeyOf by f ps node.key) (sym (no_items order h.long)) is };
  apart = sorted_from_all_adjacent key_total (node.key ∷ []) node.key (λ k l. absurd (omega (arith, l)));
})
  where
    there : AreWays by f 0 node.key node.ways
    there = record {
      some = omega (arith, ap length ways.only);
      each = λ k w e.
          let same : w ≡ ways.way = one_item ways.way w k (ap (λ (ws : List Way). slice_get ws k) (sym ways.only) ∙ e) in
          let none : [] ≡ along w.order.items = sym (ap along (ap (λ (x : Way). x.order.items) same ∙ ways.none)) in
          record { beginning = subst (IsBeginning f 0) none (none_begun f); leads = subst (λ (ps : List TransactionPlace). IsKeyOf by f ps node.key) none is };
    }

-- The next level.

mapped : {A B : Type 0} (g : A → B) (o : Option A) (y : B) → option_map g o ≡ Some y → (x : A) × (o ≡ Some x) × (g x ≡ y)
mapped g None y e = absurd cc
mapped g (Some x) y e = (x, refl, (let same : g x ≡ y = cc in same))

pub keys_of_nodes : (es : List (Key × Ways)) → map (λ (p : Node). p.key) (map node_of es) ≡ map (λ (e : Key × Ways). e.0) es
keys_of_nodes [] = refl
keys_of_nodes (e ∷ es) = ap (λ (ks : List Key). e.0 ∷ ks) (keys_of_nodes es)

equal_from : (o : Ordering) → is_eq o ≡ true → o ≡ Equal
equal_from Less e = absurd cc
equal_from Equal e = refl
equal_from Greater e = absurd cc

module _ (by : SameBy) (f : File) (count : ℕ) (nodes : List Node) (found : Found) (next : List Node) (level : AreLevel by f count nodes) (ways : AreFound by f (suc count) found)
    (below : (k : ℕ) (p : Node) → slice_get nodes k ≡ Some p → HasNextBelow by f found p.key (length f.threads))
    (are : next ≡ map node_of found.entries) (apart : IsStrictlySortedBy key_cmp (map (λ (p : Node). p.key) next)) where
  ordered : IsStrictlySortedBy key_cmp (map (λ (e : Key × Ways). e.0) found.entries)
  ordered = subst (IsStrictlySortedBy key_cmp) (ap (map (λ (p : Node). p.key)) are ∙ keys_of_nodes found.entries) apart

  ways_at : (k : ℕ) (p : Node) → slice_get next k ≡ Some p → AreWays by f (suc count) p.key p.ways
  ways_at k p e =
      let m = mapped node_of (slice_get found.entries k) p (sym (slice_get-map node_of found.entries k) ∙ ap (λ (ns : List Node). slice_get ns k) (sym are) ∙ e) in
      subst (λ (q : Node). AreWays by f (suc count) q.key q.ways) m.2
      (ways m.0.0 m.0.1 (btree_map_get_place key_total found k m.0.0 m.0.1 ordered m.1))

  node_by_key : (order : List TransactionPlace) → HasFound by f found order → HasNode by f next order
  node_by_key order has =
      let at = place_from_lookup (is_at (key_cmp has.key)) found.entries has.ways has.stands in
      let e : Key × Ways = (at.1, has.ways) in
      record {
        at = at.0;
        node = node_of e;
        stands = ap (λ (ns : List Node). slice_get ns at.0) are ∙ slice_get-map node_of found.entries at.0 ∙ ap (option_map node_of) at.2;
        leads = key_agree by f order has.key at.1 (agree_by_cmp has.key at.1 (equal_from (key_cmp has.key at.1) at.3)) has.leads;
      }

  pub level_more : AreLevel by f (suc count) next
  level_more = record {
    ways = ways_at;
    all = λ order h.
        let last : LastOf f count order = last_of f count order h in
        let before : HasNode by f nodes last.front = level.all last.front last.begins in
        node_by_key order (subst (HasFound by f found) (sym last.are)
        (below before.at before.node before.stands last.front before.leads last.thread last.inside last.left));
    apart = apart;
  }

-- Two nodes of a level.

key_at : (nodes : List Node) (k : ℕ) (p : Node) → slice_get nodes k ≡ Some p → (d : Key) → get_or (map (λ (q : Node). q.key) nodes) k d ≡ p.key
key_at nodes k p e d = get_or_from_slice_get (map (λ (q : Node). q.key) nodes) k p.key d (slice_get-map (λ (q : Node). q.key) nodes k ∙ ap (option_map (λ (q : Node). q.key)) e)

keys_rise : (nodes : List Node) → IsStrictlySortedBy key_cmp (map (λ (p : Node). p.key) nodes) → (i j : ℕ) (p q : Node) → slice_get nodes i ≡ Some p → slice_get nodes j ≡ Some q → i < j → key_cmp p.key q.key ≡ Less
keys_rise nodes apart i j p q e g l =
    let keys : List Key = map (λ (n : Node). n.key) nodes in
    let inside : j < length keys = omega (arith, slice_get_within nodes j q g, length-map nodes (λ (n : Node). n.key)) in
    let less : key_cmp (get_or keys i p.key) (get_or keys j p.key) ≡ Less = Less-from_sorted key_cmp keys i j p.key apart l inside in
    ap (λ (k : Key). key_cmp k q.key) (sym (key_at nodes i p e p.key)) ∙ ap (λ (k : Key). key_cmp (get_or keys i p.key) k) (sym (key_at nodes j q g p.key)) ∙ less

-- orders that lead to two of them do not lead to the same
pub nodes_differ : (by : SameBy) (f : File) (nodes : List Node) → IsStrictlySortedBy key_cmp (map (λ (p : Node). p.key) nodes) → (i j : ℕ) (p q : Node) (a b : List TransactionPlace) → slice_get nodes i ≡ Some p → slice_get nodes j ≡ Some q
    → IsKeyOf by f a p.key → IsKeyOf by f b q.key → SameLead by f a b → i < j → ⊥
nodes_differ by f nodes apart i j p q a b e g one two lead l =
    let tied : key_cmp p.key q.key ≡ Equal = cmp_by_agree p.key q.key (agree_by_lead by f a b p.key q.key lead one two) in
    differ (sym tied ∙ keys_rise nodes apart i j p q e g l)
  where
    differ : Equal ≡ Less → ⊥
    differ e = absurd cc
