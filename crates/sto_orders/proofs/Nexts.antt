-- What the code finds of lists, ways and nodes.
use Rattle.std.proofs.Common.{◌≡◌, ◌⊎◌, ℕ, zero, suc, ◌+◌, ◌<◌, ◌≤◌, List, [], ◌∷◌, ◌++◌, length, map, take, refl, sym, ap, ◌∙◌, subst, Option, None, Some, slice_get, slice_set, get_or, arith, inl, inr, length-append}
use Rattle.std.specs.List.{All}
use Rattle.std.specs.Map.{lookup}
use Rattle.std.specs.BTreeMap.{get, is_at, UpdatesBy}
use Rattle.std.proofs.lemmas.Bool.{cases_order}
use Rattle.std.proofs.lemmas.List.{map-append}
use Rattle.std.proofs.lemmas.List.Elements.{All-head, All-tail}
use Rattle.std.proofs.lemmas.Option.{slice_get_read, get_or_from_slice_get}
use Rattle.sto_model.specs.Run.{State}
use Rattle.sto_lang.specs.Scripts.{File}
use Rattle.sto_report_spec.specs.Orders.{TransactionPlace as Place, count_in}
use Rattle.sto_report_spec.specs.Replay.{opening_state}
use Rattle.sto_journal.specs.Journals.{places}
use Rattle.sto_checker.specs.declared.transaction.TransactionPlace.{TransactionPlace}
use Rattle.sto_checker.specs.declared.progress.Progress.{Progress}
use Rattle.sto_checker.specs.Reading.{place_of}
use Rattle.sto_checker.specs.Runs.{IsSoFar}
use Rattle.sto_checker.specs.Shown.{IsInside, AreInside}
use Rattle.sto_checker.proofs.Replays.{along_none}
use Rattle.sto_orders.specs.declared.same_by.SameBy.{SameBy}
use Rattle.sto_orders.specs.declared.key.Key.{Key}
use Rattle.sto_orders.specs.declared.way.Way.{Way}
use Rattle.sto_orders.specs.declared.way.Ways.{Ways}
use Rattle.sto_orders.specs.Keys.{key_cmp, done_in, IsReplayed, IsKeyOf}
use Rattle.sto_orders.specs.Ways.{along, next_of, IsWay, AreWays, AreKept, IsNextAt}
use Rattle.sto_orders.specs.declared.level.Node.{Node}
use Rattle.sto_orders.specs.Levels.{Found, Keeps, HasNextBelow, HasMoreWays, IsAdded}
use Rattle.sto_orders.proofs.Filling.{take_one}
use Rattle.sto_orders.proofs.Levelling.{keeps_below}
use Rattle.sto_orders.proofs.Stepping.{done_at, done_long}

-- Ways that are kept.

pub kept_same : (old : List Way) (way : Way) → AreKept old way old
kept_same old way k w e = inl e

pub kept_set : (old : List Way) (place : ℕ) (way : Way) → AreKept old way (slice_set old place way)
kept_set [] place way k w e = inl e
kept_set (x ∷ old) zero way zero w e = inr (let same : w ≡ way = cc in same)
kept_set (x ∷ old) zero way (suc k) w e = inl e
kept_set (x ∷ old) (suc place) way zero w e = inl e
kept_set (x ∷ old) (suc place) way (suc k) w e = kept_set old place way k w e

pub kept_pushed : (old : List Way) (way : Way) → AreKept old way (old ++ way ∷ [])
kept_pushed [] way zero w e = inr (let same : w ≡ way = cc in same)
kept_pushed [] way (suc k) w e = absurd cc
kept_pushed (x ∷ old) way zero w e = inl e
kept_pushed (x ∷ old) way (suc k) w e = kept_pushed old way k w e

pub longer_by_one : {X : Type 0} (xs : List X) (x : X) → 1 ≤ length (xs ++ x ∷ [])
longer_by_one xs x = omega (arith, length-append xs (x ∷ []))

-- A run along an order.

pub opening_so_far : (f : File) (run : Progress) → run.lines.items ≡ [] → run.writers ≡ 0 → run.state.items ≡ opening_state f → IsSoFar f run.lines.items run.writers run.state.items
opening_so_far f run none zero_writers opening = (along_none f [] run none zero_writers opening).so_far

pub so_far_replayed : (f : File) (run : Progress) → IsSoFar f run.lines.items run.writers run.state.items → IsReplayed f run.lines.items run.state.items
so_far_replayed f run h = record { entries = h.entries; final = h.state_is }

pub along_one : (order : List TransactionPlace) (i : ℕ) (at : TransactionPlace) → slice_get order i ≡ Some at → along (take (i + 1) order) ≡ along (take i order) ++ place_of at ∷ []
along_one order i at e = ap along (take_one order i at e) ∙ map-append place_of (take i order) (at ∷ [])

pub inside_at : (f : File) (order : List TransactionPlace) (i : ℕ) (at : TransactionPlace) → AreInside f (along order) → slice_get order i ≡ Some at → IsInside f.threads (place_of at)
inside_at f [] i at h e = absurd cc
inside_at f (x ∷ order) zero at h e =
    let same : x ≡ at = cc in subst (λ (p : TransactionPlace). IsInside f.threads (place_of p)) same (All-head (IsInside f.threads) (place_of x) (along order) h)
inside_at f (x ∷ order) (suc i) at h e = inside_at f order i at (All-tail (IsInside f.threads) (place_of x) (along order) h) e

-- Nodes.

pub done_is : (by : SameBy) (f : File) (order : List Place) (key : Key) (t d : ℕ) → IsKeyOf by f order key → t < length f.threads → d ≡ get_or key.done.items t 0 → d ≡ done_in order t
done_is by f order key t d h l e = e ∙ get_or_from_slice_get key.done.items t (done_in order t) 0 (done_at by f order key t h l)

pub way_is : (by : SameBy) (f : File) (count : ℕ) (key : Key) (ways : Ways) (xs : List Way) (i : ℕ) (w : Way) → AreWays by f count key ways → xs ≡ ways.each.items → i < length xs → w ≡ get_or xs i w
    → IsWay by f count key w
way_is by f count key ways xs i w h same l is =
    h.each i w (ap (λ (ws : List Way). slice_get ws i) (sym same) ∙ slice_get_read xs (length xs) i w refl l is)

pub some_ways : (by : SameBy) (f : File) (count : ℕ) (key : Key) (ways : Ways) (xs : List Way) → AreWays by f count key ways → xs ≡ ways.each.items → 1 ≤ length xs
some_ways by f count key ways xs h same = omega (arith, h.some, ap length same)

first_item : {X : Type 0} (xs : List X) → 1 ≤ length xs → (x : X) × (slice_get xs 0 ≡ Some x)
first_item [] l = absurd (omega (arith, l))
first_item (x ∷ xs) l = (x, refl)

-- the key of a node to which there are ways has a number for each thread
pub node_long : (by : SameBy) (f : File) (count : ℕ) (key : Key) (ways : Ways) → AreWays by f count key ways → length key.done.items ≡ length f.threads
node_long by f count key ways h =
    let w = first_item ways.each.items h.some in
    done_long by f (along w.0.order.items) key (h.each 0 w.0 w.1).leads

-- A way that was added.

pub added_again : (old new : Found) (key : Key) (way : Way) (before ways : Ways) → UpdatesBy key_cmp (key_cmp key) old new (Some ways) → Some before ≡ get key_cmp old key
    → HasMoreWays (Some before) way ways → IsAdded old new key way
added_again old new key way before ways put is more = record { ways = ways; here = put.0; more = subst (λ (o : Option Ways). HasMoreWays o way ways) is more }

pub added_first : (old new : Found) (key : Key) (way : Way) (ways : Ways) → UpdatesBy key_cmp (key_cmp key) old new (Some ways) → get key_cmp old key ≡ None
    → ways.each.items ≡ way ∷ [] → IsAdded old new key way
added_first old new key way ways put none one = record { ways = ways; here = put.0; more = subst (λ (o : Option Ways). HasMoreWays o way ways) (sym none) one }

pub found_none : (found : Found) (key : Key) (ways : Ways) → found.entries ≡ [] → get key_cmp found key ≡ Some ways → ⊥
found_none found key ways empty e =
    let none : get key_cmp found key ≡ None = ap (λ (es : List (Key × Ways)). lookup (is_at (key_cmp key)) es) empty in
    absurd (let wrong : None ≡ Some ways = sym none ∙ e in cc)

-- Nodes one after the other.

pub next_nodes : (by : SameBy) (f : File) (old new : Found) (nodes : List Node) (i : ℕ) (node : Node) (threads : ℕ) → slice_get nodes i ≡ Some node → Keeps by f old new
    → ((k : ℕ) (p : Node) → k < i → slice_get nodes k ≡ Some p → HasNextBelow by f old p.key threads) → HasNextBelow by f new node.key threads
    → (k : ℕ) (p : Node) → k < i + 1 → slice_get nodes k ≡ Some p → HasNextBelow by f new p.key threads
next_nodes by f old new nodes i node threads at keeps below here k p l e = elim (cases_order k i) [
  | inl same ↦
      let is : Some node ≡ Some p = sym at ∙ ap (λ (n : ℕ). slice_get nodes n) (sym same) ∙ e in
      let own : node ≡ p = cc in
      subst (λ (n : Node). HasNextBelow by f new n.key threads) own here
  | inr (inl less) ↦ keeps_below by f old new p.key threads keeps (below k p less e)
  | inr (inr more) ↦ absurd (omega (arith, l, more))
]
