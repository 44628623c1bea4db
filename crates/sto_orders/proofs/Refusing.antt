-- Nodes that are more than there may be.
use Rattle.std.proofs.Common.{◌≡◌, ◌⊎◌, ℕ, zero, suc, ◌+◌, ◌-◌, ◌<◌, ◌≤◌, List, [], ◌∷◌, ◌++◌, length, map, refl, sym, ap, ◌∙◌, subst, Bool, true, false, cond, ◌==◌, Some, slice_get, arith, inl, inr, length-append}
use Rattle.std.specs.List.{All}
use Rattle.std.specs.List.Sorted.{IsStrictlySortedBy}
use Rattle.std.proofs.lemmas.Bool.{cases_order}
use Rattle.std.proofs.lemmas.Bool.Decides.{nat_tests}
use Rattle.std.proofs.lemmas.List.{length-map}
use Rattle.std.proofs.lemmas.List.Elements.{All-nil, All-cons, All-head, All-tail, All-weaker, All-append}
use Rattle.std.proofs.lemmas.Option.{slice_get_within}
use Rattle.sto_lang.specs.Scripts.{File}
use Rattle.sto_lang.proofs.SoundLines.{all_get}
use Rattle.sto_report_spec.specs.Orders.{TransactionPlace, positions_of, numbers_from}
use Rattle.sto_checker.specs.Shown.{IsInside, AreInside}
use Rattle.sto_orders.specs.declared.same_by.SameBy.{SameBy}
use Rattle.sto_orders.specs.declared.key.Key.{Key}
use Rattle.sto_orders.specs.declared.way.Way.{Way}
use Rattle.sto_orders.specs.declared.way.Ways.{Ways}
use Rattle.sto_orders.specs.declared.level.Node.{Node}
use Rattle.sto_orders.specs.declared.limit.OrdersError.{OrdersError}
use Rattle.sto_orders.specs.declared.limit.OrdersError.TheVariants.{NoMemory, AtLeast, TooMany}
use Rattle.sto_orders.specs.Outcomes.{OrderEnd, threads_in}
use Rattle.sto_orders.specs.Keys.{key_cmp, done_in, IsKeyOf}
use Rattle.sto_orders.specs.Ways.{along, IsBeginning, IsWay, AreWays}
use Rattle.sto_orders.specs.Causes.{IsFront, DoMeet, HasMoreNodes, IsCause}
use Rattle.sto_orders.specs.Levels.{Found, AreLevel, AreFound, HasNextBelow, node_of, AreTooMany, HaveApart, HasMoreAt, IsLevelCause, IsFrontWithin, AreFronts, AreSeen}
use Rattle.sto_orders.proofs.Beginnings.{none_begun}
use Rattle.sto_orders.proofs.Levelling.{level_more, keys_of_nodes, nodes_differ}
use Rattle.sto_orders.proofs.Gathering.{all_by_place, item_at}

-- As many transactions as the threads have done together.

abbrev total : List ℕ → ℕ
total [] = 0
total (n ∷ ns) = n + total ns

abbrev own : ℕ → ℕ → ℕ
own u t = cond (u == t) 1 0

own_here : (u t : ℕ) → u ≡ t → own u t ≡ 1
own_here u t e = ap (λ (b : Bool). cond b 1 0) (same u t e)
  where
    same : (u t : ℕ) → u ≡ t → (u == t) ≡ true
    same u t e = grind (arith, nat_tests)

own_there : (u t : ℕ) → (u ≡ t → ⊥) → own u t ≡ 0
own_there u t h = ap (λ (b : Bool). cond b 1 0) (other u t h)
  where
    other : (u t : ℕ) → (u ≡ t → ⊥) → (u == t) ≡ false
    other u t h = grind (arith, nat_tests)

own_none : (u first n : ℕ) → u < first → total (map (own u) (numbers_from first n)) ≡ 0
own_none u first zero l = refl
own_none u first (suc n) l =
    let here = own_there u first (λ e. absurd (omega (arith, e, l))) in
    let more = own_none u (suc first) n (omega (arith, l)) in
    omega (arith, here, more)

own_one : (u first n : ℕ) → first ≤ u → u < first + n → total (map (own u) (numbers_from first n)) ≡ 1
own_one u first zero from l = absurd (omega (arith, from, l))
own_one u first (suc n) from l = elim (cases_order u first) [
  | inl same ↦ (let here = own_here u first same in let more = own_none u (suc first) n (omega (arith, same)) in omega (arith, here, more))
  | inr (inl less) ↦ absurd (omega (arith, from, less))
  | inr (inr above) ↦ (let here = own_there u first (λ e. absurd (omega (arith, e, above))) in
      let more = own_one u (suc first) n (omega (arith, above)) (omega (arith, l)) in
      omega (arith, here, more))
]

done_first : (p : TransactionPlace) (order : List TransactionPlace) (t : ℕ) → done_in (p ∷ order) t ≡ own p.0 t + done_in order t
done_first p order t = by (p.0 == t)
  where
    by : (b : Bool) → length (cond b (p.1 ∷ positions_of t order) (positions_of t order)) ≡ cond b 1 0 + length (positions_of t order)
    by true = omega arith
    by false = omega arith

total_first : (p : TransactionPlace) (order : List TransactionPlace) (ts : List ℕ) → total (map (done_in (p ∷ order)) ts) ≡ total (map (own p.0) ts) + total (map (done_in order) ts)
total_first p order [] = omega arith
total_first p order (t ∷ ts) =
    let here = done_first p order t in
    let more = total_first p order ts in
    omega (arith, here, more)

total_none : (ts : List ℕ) → total (map (done_in []) ts) ≡ 0
total_none [] = refl
total_none (t ∷ ts) = let more = total_none ts in omega (arith, more)

done_together : (f : File) (order : List TransactionPlace) → AreInside f order → total (map (done_in order) (threads_in f)) ≡ length order
done_together f [] inside = total_none (threads_in f)
done_together f (p ∷ order) inside =
    let here = own_one p.0 0 (length f.threads) (omega arith) (let in_file = (All-head (IsInside f.threads) p order inside).thread in omega (arith, in_file)) in
    let split = total_first p order (threads_in f) in
    let rest = done_together f order (All-tail (IsInside f.threads) p order inside) in
    omega (arith, here, split, rest)

-- beginnings that meet are as long
meeting_long : (by : SameBy) (f : File) (a b : List TransactionPlace) → AreInside f a → AreInside f b → DoMeet by f a b → length a ≡ length b
meeting_long by f a b in_a in_b meet = sym (done_together f a in_a) ∙ ap total meet.done ∙ done_together f b in_b

-- A beginning to each node of a level.

record Picked (by : SameBy) (f : File) (count : ℕ) (nodes : List Node) : Type 0 where
  orders : List (List TransactionPlace)
  long : length orders ≡ length nodes
  each : (k : ℕ) (p : Node) (o : List TransactionPlace) → slice_get nodes k ≡ Some p → slice_get orders k ≡ Some o → IsBeginning f count o × IsKeyOf by f o p.key

picked_more : (by : SameBy) (f : File) (count : ℕ) (p : Node) (nodes : List Node) (o : List TransactionPlace) → IsBeginning f count o → IsKeyOf by f o p.key → Picked by f count nodes → Picked by f count (p ∷ nodes)
picked_more by f count p nodes o begun leads rest = record { orders = o ∷ rest.orders; long = ap suc rest.long; each = each }
  where
    each : (k : ℕ) (q : Node) (x : List TransactionPlace) → slice_get (p ∷ nodes) k ≡ Some q → slice_get (o ∷ rest.orders) k ≡ Some x → IsBeginning f count x × IsKeyOf by f x q.key
    each zero q x e g =
        let node : p ≡ q = cc in
        let order : o ≡ x = cc in
        subst (λ (y : List TransactionPlace). IsBeginning f count y × IsKeyOf by f y q.key) order (begun, subst (λ (n : Node). IsKeyOf by f o n.key) node leads)
    each (suc k) q x e g = rest.each k q x e g

first_way : (ways : List Way) → 1 ≤ length ways → (w : Way) × (slice_get ways 0 ≡ Some w)
first_way [] l = absurd (omega (arith, l))
first_way (w ∷ ways) l = (w, refl)

pick : (by : SameBy) (f : File) (count : ℕ) (nodes : List Node) → ((k : ℕ) (p : Node) → slice_get nodes k ≡ Some p → AreWays by f count p.key p.ways) → Picked by f count nodes
pick by f count [] h = record { orders = []; long = refl; each = λ k p o e g. absurd cc }
pick by f count (p ∷ nodes) h =
    let ways : AreWays by f count p.key p.ways = h 0 p refl in
    let w = first_way p.ways.each.items ways.some in
    let is : IsWay by f count p.key w.0 = ways.each 0 w.0 w.1 in
    picked_more by f count p nodes (along w.0.order.items) is.beginning is.leads (pick by f count nodes (λ k q e. h (suc k) q e))

module _ (by : SameBy) (f : File) (count : ℕ) (nodes : List Node) (level : AreLevel by f count nodes) where
  picked : Picked by f count nodes
  picked = pick by f count nodes level.ways

  node_at : (k : ℕ) (o : List TransactionPlace) → slice_get picked.orders k ≡ Some o → (p : Node) × (slice_get nodes k ≡ Some p)
  node_at k o e = item_at nodes k (omega (arith, slice_get_within picked.orders k o e, picked.long))

  not_meeting : (i j : ℕ) (a b : List TransactionPlace) → slice_get picked.orders i ≡ Some a → slice_get picked.orders j ≡ Some b → DoMeet by f a b → i < j → ⊥
  not_meeting i j a b e g meet l =
      let p = node_at i a e in
      let q = node_at j b g in
      nodes_differ by f nodes level.apart i j p.0 q.0 a b p.1 q.1 (picked.each i p.0 a p.1 e).1 (picked.each j q.0 b q.1 g).1 (record {
        done = meet.done;
        threads = ap (λ (x : OrderEnd). x.threads) meet.same;
        writers = ap (λ (x : OrderEnd). x.writers) meet.same;
        state = ap (λ (x : OrderEnd). x.state) meet.same;
      }) l

  turned : (a b : List TransactionPlace) → DoMeet by f a b → DoMeet by f b a
  turned a b meet = record { done = sym meet.done; same = sym meet.same }

  pub level_apart : HaveApart by f count (length nodes)
  level_apart = record {
    orders = picked.orders;
    long = picked.long;
    begun = all_by_place (IsBeginning f count) picked.orders (λ k o e. let p = node_at k o e in (picked.each k p.0 o p.1 e).0);
    apart = λ i j a b e g meet. elim (cases_order i j) [
      | inl same ↦ same
      | inr (inl l) ↦ absurd (not_meeting i j a b e g meet l)
      | inr (inr l) ↦ absurd (not_meeting j i b a g e (turned a b meet) l)
    ];
  }

-- More nodes were found than may be.

module _ (by : SameBy) (f : File) (count : ℕ) (nodes : List Node) (found : Found) (room : ℕ) (level : AreLevel by f count nodes) (ways : AreFound by f (suc count) found)
    (below : (k : ℕ) (p : Node) → slice_get nodes k ≡ Some p → HasNextBelow by f found p.key (length f.threads)) where
  more_found : room < length found.entries → IsStrictlySortedBy key_cmp (map (λ (e : Key × Ways). e.0) found.entries) → HasMoreAt by f (suc count) room
  more_found more ordered =
      let next : List Node = map node_of found.entries in
      let sorted : IsStrictlySortedBy key_cmp (map (λ (p : Node). p.key) next) = subst (IsStrictlySortedBy key_cmp) (sym (keys_of_nodes found.entries)) ordered in
      record {
        many = length next;
        more = omega (arith, more, length-map found.entries node_of);
        are = level_apart by f (suc count) next (level_more by f count nodes found next level ways below refl sorted);
      }

pub level_cause : (by : SameBy) (f : File) (nodes : List Node) (found : Found) (room : ℕ) (why : OrdersError)
    → ((count : ℕ) → AreLevel by f count nodes → AreFound by f (suc count) found)
    → ((k : ℕ) (p : Node) → slice_get nodes k ≡ Some p → HasNextBelow by f found p.key (length f.threads))
    → AreTooMany found room why → IsLevelCause by f nodes room why
level_cause by f nodes found room NoMemory ways below many = tt
level_cause by f nodes found room (AtLeast least) ways below many = many
level_cause by f nodes found room TooMany ways below many = λ count level. more_found by f count nodes found room level (ways count level) below many.0 many.1

-- Beginnings one after the other.

behind : {X : Type 0} (xs ys : List X) (k : ℕ) (y : X) → slice_get (xs ++ ys) k ≡ Some y → (slice_get xs k ≡ Some y) ⊎ ((j : ℕ) × (k ≡ length xs + j) × (slice_get ys j ≡ Some y))
behind [] ys k y e = inr (k, omega arith, e)
behind (x ∷ xs) ys zero y e = inl e
behind (x ∷ xs) ys (suc k) y e = elim (behind xs ys k y e) [ inl h ↦ inl h | inr h ↦ inr (h.0, (let at = h.1 in omega (arith, at)), h.2) ]

module _ (by : SameBy) (f : File) (count many : ℕ) (old : List (List TransactionPlace)) (fronts : AreFronts by f count old) (h : HaveApart by f (suc count) many) where
  before : (i : ℕ) (a : List TransactionPlace) → slice_get old i ≡ Some a → IsFrontWithin f count a
  before i a e = all_get (IsFrontWithin f count) old i a fronts.within e

  after : (j : ℕ) (b : List TransactionPlace) → slice_get h.orders j ≡ Some b → IsBeginning f (suc count) b
  after j b g = all_get (IsBeginning f (suc count)) h.orders j b h.begun g

  not_both : (i j : ℕ) (a b : List TransactionPlace) → slice_get old i ≡ Some a → slice_get h.orders j ≡ Some b → DoMeet by f a b → ⊥
  not_both i j a b e g meet =
      let first = before i a e in
      let second = after j b g in
      let same = meeting_long by f a b first.front.inside second.inside meet in
      let short = first.within in
      let long = second.long in
      absurd (omega (arith, same, short, long))

  by_place : (i j : ℕ) (a b : List TransactionPlace) → DoMeet by f a b
      → (slice_get old i ≡ Some a) ⊎ ((k : ℕ) × (i ≡ length old + k) × (slice_get h.orders k ≡ Some a))
      → (slice_get old j ≡ Some b) ⊎ ((k : ℕ) × (j ≡ length old + k) × (slice_get h.orders k ≡ Some b)) → i ≡ j
  by_place i j a b meet (inl e) (inl g) = fronts.apart i j a b e g meet
  by_place i j a b meet (inl e) (inr g) = absurd (not_both i g.0 a b e g.2 meet)
  by_place i j a b meet (inr e) (inl g) = absurd (not_both j e.0 b a g e.2 (record { done = sym meet.done; same = sym meet.same }))
  by_place i j a b meet (inr e) (inr g) =
      let same = h.apart e.0 g.0 a b e.2 g.2 meet in
      let at_i = e.1 in
      let at_j = g.1 in
      omega (arith, same, at_i, at_j)

  all_within : All (IsFrontWithin f (suc count)) (old ++ h.orders)
  all_within = All-append (IsFrontWithin f (suc count)) old h.orders
      (All-weaker (IsFrontWithin f count) (IsFrontWithin f (suc count)) (λ a is. let l = is.within in record { front = is.front; within = omega (arith, l) }) old fronts.within)
      (All-weaker (IsBeginning f (suc count)) (IsFrontWithin f (suc count)) (λ a is. let l = is.long in record { front = record { begun = is.begun; inside = is.inside }; within = omega (arith, l) }) h.orders h.begun)

  fronts_more : AreFronts by f (suc count) (old ++ h.orders)
  fronts_more = record { within = all_within; apart = λ i j a b e g meet. by_place i j a b meet (behind old h.orders i a e) (behind old h.orders j b g) }

pub seen_first : (by : SameBy) (f : File) (most room : ℕ) → 1 ≤ most → room ≡ most - 1 → AreSeen by f 0 most room
seen_first by f most room some is = record {
  orders = [] ∷ [];
  fronts = record {
    within = All-cons (IsFrontWithin f 0) [] [] (let none = none_begun f in record { front = record { begun = none.begun; inside = none.inside }; within = omega arith }) (All-nil (IsFrontWithin f 0));
    apart = λ i j a b e g meet. let at_i = slice_get_within ([] ∷ []) i a e in let at_j = slice_get_within ([] ∷ []) j b g in omega (arith, at_i, at_j);
  };
  many = omega (arith, some, is);
}

pub seen_more : (by : SameBy) (f : File) (count most room left : ℕ) (nodes : List Node) → AreSeen by f count most room → AreLevel by f (suc count) nodes → length nodes ≤ room → left ≡ room - length nodes
    → AreSeen by f (suc count) most left
seen_more by f count most room left nodes seen level few is =
    let h : HaveApart by f (suc count) (length nodes) = level_apart by f (suc count) nodes level in
    let many = seen.many in
    let long = h.long in
    record {
      orders = seen.orders ++ h.orders;
      fronts = fronts_more by f count (length nodes) seen.orders seen.fronts h;
      many = omega (arith, few, is, many, long, length-append seen.orders h.orders);
    }

more_nodes : (by : SameBy) (f : File) (count most room : ℕ) → AreSeen by f count most room → HasMoreAt by f (suc count) room → HasMoreNodes by f most
more_nodes by f count most room seen more =
    let h : HaveApart by f (suc count) more.many = more.are in
    let all : AreFronts by f (suc count) (seen.orders ++ h.orders) = fronts_more by f count more.many seen.orders seen.fronts h in
    let many = seen.many in
    let long = h.long in
    let above = more.more in
    record {
      orders = seen.orders ++ h.orders;
      fronts = All-weaker (IsFrontWithin f (suc count)) (IsFront f) (λ a is. is.front) (seen.orders ++ h.orders) all.within;
      apart = all.apart;
      many = omega (arith, many, long, above, length-append seen.orders h.orders);
    }

pub cause_of : (by : SameBy) (f : File) (count most room : ℕ) (nodes : List Node) (why : OrdersError) → AreLevel by f count nodes → AreSeen by f count most room → IsLevelCause by f nodes room why
    → IsCause by f most why
cause_of by f count most room nodes NoMemory level seen cause = tt
cause_of by f count most room nodes (AtLeast least) level seen cause = absurd cause
cause_of by f count most room nodes TooMany level seen cause = more_nodes by f count most room seen (cause count level)
