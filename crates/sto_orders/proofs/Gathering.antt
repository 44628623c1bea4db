-- The outcomes of the last level.
use Rattle.std.proofs.Common.{◌≡◌, ◌⊎◌, ℕ, zero, suc, ◌+◌, ◌<◌, List, [], ◌∷◌, ◌++◌, length, map, take, refl, sym, ap, ◌∙◌, subst, Some, slice_get, arith, inl, inr, length-append}
use Rattle.std.specs.List.{All}
use Rattle.std.proofs.lemmas.Bool.{cases_order}
use Rattle.std.proofs.lemmas.List.Elements.{All-nil, All-cons}
use Rattle.std.proofs.lemmas.Option.{slice_get_within}
use Rattle.sto_lang.specs.Scripts.{File}
use Rattle.sto_lang.specs.Drafts.{transaction_count}
use Rattle.sto_report_spec.specs.Orders.{TransactionPlace, numbers_from, IsOrder}
use Rattle.sto_orders.specs.declared.same_by.SameBy.{SameBy}
use Rattle.sto_orders.specs.declared.level.Node.{Node}
use Rattle.sto_orders.specs.declared.outcome.Outcome.{Outcome}
use Rattle.sto_orders.specs.Outcomes.{OrderEnd, end_of, threads_in, order_of, IsOrderOutcome, HasOutcome, AreOutcomes}
use Rattle.sto_orders.specs.Keys.{done_in}
use Rattle.sto_orders.specs.Levels.{HasNode, AreLevel, IsOutcomeAt, AreOutcomesAt}
use Rattle.sto_orders.proofs.Leading.{SameLead}
use Rattle.sto_orders.proofs.Beginnings.{order_begins, whole_order}
use Rattle.sto_orders.proofs.Levelling.{nodes_differ}
use Rattle.sto_orders.proofs.Filling.{take_one}

-- Items by their places.

pub all_by_place : {X : Type 0} (P : X → Type 0) (xs : List X) → ((k : ℕ) (x : X) → slice_get xs k ≡ Some x → P x) → All P xs
all_by_place P [] h = All-nil P
all_by_place P (x ∷ xs) h = All-cons P x xs (h 0 x refl) (all_by_place P xs (λ k y e. h (suc k) y e))

pub item_at : {X : Type 0} (xs : List X) (k : ℕ) → k < length xs → (x : X) × (slice_get xs k ≡ Some x)
item_at [] k l = absurd (omega (arith, l))
item_at (x ∷ xs) zero l = (x, refl)
item_at (x ∷ xs) (suc k) l = item_at xs k (omega (arith, l))

-- an item of a list with one more at its end
pushed_at : {X : Type 0} (xs : List X) (x y : X) (k : ℕ) → slice_get (xs ++ x ∷ []) k ≡ Some y → (slice_get xs k ≡ Some y) ⊎ ((k ≡ length xs) × (y ≡ x))
pushed_at [] x y zero e = inr (refl, (let same : y ≡ x = cc in same))
pushed_at [] x y (suc k) e = absurd cc
pushed_at (z ∷ xs) x y zero e = inl e
pushed_at (z ∷ xs) x y (suc k) e = elim (pushed_at xs x y k e) [ inl h ↦ inl h | inr h ↦ inr (ap suc h.0, h.1) ]

-- One outcome more.

pub outcomes_none : (by : SameBy) (f : File) (count : ℕ) (outcomes : List Outcome) → outcomes ≡ [] → AreOutcomesAt by f count [] outcomes
outcomes_none by f count outcomes none = record { long = ap length none; each = λ k p o e g. absurd cc }

pub outcomes_more : (by : SameBy) (f : File) (count : ℕ) (nodes : List Node) (i : ℕ) (node : Node) (old new : List Outcome) (o : Outcome) → slice_get nodes i ≡ Some node
    → AreOutcomesAt by f count (take i nodes) old → IsOutcomeAt by f count node o → new ≡ old ++ o ∷ [] → AreOutcomesAt by f count (take (i + 1) nodes) new
outcomes_more by f count nodes i node old new o at h is more =
    subst (λ (ns : List Node). AreOutcomesAt by f count ns new) (sym (take_one nodes i node at))
    (subst (AreOutcomesAt by f count (take i nodes ++ node ∷ [])) (sym more) (record {
      long = omega (arith, length-append old (o ∷ []), length-append (take i nodes) (node ∷ []), h.long);
      each = λ k p q e g. by_place k p q (pushed_at (take i nodes) node p k e) (pushed_at old o q k g);
    }))
  where
    by_place : (k : ℕ) (p : Node) (q : Outcome) → (slice_get (take i nodes) k ≡ Some p) ⊎ ((k ≡ length (take i nodes)) × (p ≡ node)) → (slice_get old k ≡ Some q) ⊎ ((k ≡ length old) × (q ≡ o))
        → IsOutcomeAt by f count p q
    by_place k p q (inl e) (inl g) = h.each k p q e g
    by_place k p q (inl e) (inr g) = absurd (omega (arith, slice_get_within (take i nodes) k p e, g.0, h.long))
    by_place k p q (inr e) (inl g) = absurd (omega (arith, slice_get_within old k q g, e.0, h.long))
    by_place k p q (inr e) (inr g) = subst (λ (n : Node). IsOutcomeAt by f count n q) (sym e.1) (subst (IsOutcomeAt by f count node) (sym g.1) is)

-- All orders.

long_numbers : (first n : ℕ) → length (numbers_from first n) ≡ n
long_numbers first zero = refl
long_numbers first (suc n) = ap suc (long_numbers (suc first) n)

pub same_done : (f : File) (a b : List TransactionPlace) (ts : List ℕ) → IsOrder f a → IsOrder f b → map (done_in a) ts ≡ map (done_in b) ts
same_done f a b [] h k = refl
same_done f a b (t ∷ ts) h k =
    let here : done_in a t ≡ done_in b t = ap length (h t ∙ sym (k t)) in
    ap (λ (n : ℕ). n ∷ map (done_in a) ts) here ∙ ap (λ (ns : List ℕ). done_in b t ∷ ns) (same_done f a b ts h k)

module _ (by : SameBy) (f : File) (nodes : List Node) (outcomes : List Outcome) (level : AreLevel by f (transaction_count f.threads) nodes)
    (are : AreOutcomesAt by f (transaction_count f.threads) nodes outcomes) where
  node_at : (k : ℕ) (o : Outcome) → slice_get outcomes k ≡ Some o → (p : Node) × (slice_get nodes k ≡ Some p)
  node_at k o e = item_at nodes k (omega (arith, slice_get_within outcomes k o e, are.long))

  order_at : (k : ℕ) (o : Outcome) → slice_get outcomes k ≡ Some o → IsOrder f (order_of o)
  order_at k o e = let p = node_at k o e in whole_order f (order_of o) (are.each k p.0 o p.1 e).begins

  each_outcome : (k : ℕ) (o : Outcome) → slice_get outcomes k ≡ Some o → IsOrderOutcome f o
  each_outcome k o e =
      let p = node_at k o e in
      let is : IsOutcomeAt by f (transaction_count f.threads) p.0 o = are.each k p.0 o p.1 e in
      record { order = order_at k o e; entries = is.entries; final = is.final }

  all_orders : (order : List TransactionPlace) → IsOrder f order → HasOutcome by f outcomes order
  all_orders order whole =
      let has : HasNode by f nodes order = level.all order (order_begins f order whole) in
      let o = item_at outcomes has.at (omega (arith, slice_get_within nodes has.at has.node has.stands, are.long)) in
      let is : IsOutcomeAt by f (transaction_count f.threads) has.node o.0 = are.each has.at has.node o.0 has.stands o.1 in
      let threads : (end_of by f (order_of o.0)).threads ≡ (end_of by f order).threads = sym is.leads.threads ∙ has.leads.threads in
      let writers : (end_of by f (order_of o.0)).writers ≡ (end_of by f order).writers = sym is.leads.writers ∙ has.leads.writers in
      let state : (end_of by f (order_of o.0)).state ≡ (end_of by f order).state = sym is.leads.rows ∙ has.leads.rows in
      record { at = has.at; outcome = o.0; stands = o.1; same = λ i. record { threads = threads i; writers = writers i; state = state i } }

  not_below : (i j : ℕ) (a b : Outcome) → slice_get outcomes i ≡ Some a → slice_get outcomes j ≡ Some b → end_of by f (order_of a) ≡ end_of by f (order_of b) → i < j → ⊥
  not_below i j a b e g same l =
      let p = node_at i a e in
      let q = node_at j b g in
      let one : IsOutcomeAt by f (transaction_count f.threads) p.0 a = are.each i p.0 a p.1 e in
      let two : IsOutcomeAt by f (transaction_count f.threads) q.0 b = are.each j q.0 b q.1 g in
      let lead : SameLead by f (order_of a) (order_of b) = record {
        done = same_done f (order_of a) (order_of b) (threads_in f) (order_at i a e) (order_at j b g);
        threads = ap (λ (x : OrderEnd). x.threads) same;
        writers = ap (λ (x : OrderEnd). x.writers) same;
        state = ap (λ (x : OrderEnd). x.state) same;
      } in
      nodes_differ by f nodes level.apart i j p.0 q.0 (order_of a) (order_of b) p.1 q.1 one.leads two.leads lead l

  pub are_outcomes : AreOutcomes by f outcomes
  are_outcomes = record {
    each = all_by_place (IsOrderOutcome f) outcomes each_outcome;
    complete = all_orders;
    distinct = λ i j a b e g same. elim (cases_order i j) [
      | inl h ↦ h
      | inr (inl l) ↦ absurd (not_below i j a b e g same l)
      | inr (inr l) ↦ absurd (not_below j i b a g e (sym same) l)
    ];
  }
