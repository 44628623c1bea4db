-- What is said of a part that has another number.
use Rattle.std.proofs.Common.{◌≡◌, ◌+◌, ◌+ℤ◌, ℕ, ℤ, pos, Bool, true, false, int_le, if◌then◌else◌, List, [], ◌∷◌, map, refl, ap, sym, ◌∙◌, subst, arith}
use Rattle.sto_part.specs.declared.change.Change.TheVariants.{Add}
use Rattle.sto_part.specs.declared.pred.Test.TheVariants.{Lt, Le, Gt, Ge}
use Rattle.sto_item.specs.declared.item.Item.{Item}
use Rattle.sto_item.specs.declared.item.Item.TheVariants.{Holds}
use Rattle.sto_item.specs.Pending.{Entry, renumbered}
use Rattle.sto_model.specs.declared.call.Call.{Call}
use Rattle.sto_model.specs.Objects.{greatest}
use Rattle.sto_model.specs.PlainReplies.{PlainReply, plain_reply}
use Rattle.sto_type.specs.Known.{Known, beyond}
use Rattle.sto_type.specs.Meaning.{Meaning}
use Rattle.sto_type.specs.Plans.{Plan, Ask, Say, IsPlan, IsSaid, planned}
use Rattle.sto_type.specs.Joined.{item_moved}
use Rattle.sto_type.specs.Saying.{IsSaidFrom}
use Rattle.sto_type.specs.declared.answer.Answer.{Answer}
use Rattle.sto_type.specs.declared.answer.Answer.TheVariants.{Need, Done}
use Rattle.sto_type.proofs.Unmoved.{plan_unmoved}
use Rattle.sto_counter.specs.Sums.{word_pred_of, grows, falls, add_items, add_updates, enough_items, take_items, take_updates, less}

pub none_more : (p : ℕ) → p + 0 ≡ p
none_more p = omega arith

-- the same said in other words
pub said_same : (t : PlainReply) (is js : List Item) (es fs : List Entry) (a : Answer) → IsSaid t is es a → is ≡ js → es ≡ fs → IsSaid t js fs a
said_same t is js es fs (Need p) h i e = absurd h
said_same t is js es fs (Done reply items updates) h i e = (h.0, h.1 ∙ i, h.2 ∙ e)

-- and with another reply that is the same
pub said_in : (t u : PlainReply) (is js : List Item) (es fs : List Entry) (a : Answer) → IsSaid t is es a → t ≡ u → is ≡ js → es ≡ fs → IsSaid u js fs a
said_in t u is js es fs a h r i e = subst (λ (v : PlainReply). IsSaid v js fs a) r (said_same t is js es fs a h i e)

-- what an answer says of part 0 is said of its own part
abbrev items_of : Plan → List Item
items_of (Ask p) = []
items_of (Say t is es) = is

abbrev updates_of : Plan → List Entry
updates_of (Ask p) = []
updates_of (Say t is es) = es

pub said_unmoved : (t : PlainReply) (is : List Item) (es : List Entry) (a : Answer) → IsSaid t (map (item_moved 0) is) (map (renumbered 0) es) a → IsSaid t is es a
said_unmoved t is es a h =
    let e = plan_unmoved (Say t is es) in
    said_same t (map (item_moved 0) is) is (map (renumbered 0) es) es a h (ap items_of e) (ap updates_of e)

-- an answer under other numbers is said from a part on, where the type plans it under its own
pub said_from :
    (m : Meaning) (call : Call) (k : Known) (p : ℕ) (t : PlainReply) (is : List Item) (es : List Entry) (a : Answer) → IsSaid t (map (item_moved p) is) (map (renumbered p) es) a
    → ((own : Answer) → IsSaid t is es own → IsPlan m call (beyond p k) (planned own)) → IsSaidFrom m p call k (planned a)
said_from m call k p t is es (Need q) h plans = absurd h
said_from m call k p t is es (Done reply items updates) h plans = record {
  own = Say (plain_reply reply) is es;
  is = plans (Done reply (record { items = is; spare = 0 }) (record { items = es; spare = 0 })) (h.0, refl, refl);
  moved = λ j. Say (plain_reply reply) (h.1 j) (h.2 j);
}

pub map_if : {A B : Type 0} (f : A → B) (b : Bool) (xs ys : List A) → map f (if b then xs else ys) ≡ (if b then map f xs else map f ys)
map_if f true xs ys = refl
map_if f false xs ys = refl

-- what an add and a take observe and write, under other numbers
module _ (p : ℕ) (d x : ℤ) where
  pub add_items_moved : add_items p d x ≡ map (item_moved p) (add_items 0 d x)
  add_items_moved = ap (λ (q : ℕ). add_items q d x) (sym (none_more p))

  pub add_updates_moved : add_updates p d x ≡ map (renumbered p) (add_updates 0 d x)
  add_updates_moved =
      ap (λ (q : ℕ). add_updates q d x) (sym (none_more p)) ∙ sym (map_if (renumbered p) (grows d x) ((0, Add d ∷ []) ∷ []) [])

  enough_moved : enough_items p d ≡ map (item_moved p) (enough_items 0 d)
  enough_moved =
      ap (λ (q : ℕ). enough_items q d) (sym (none_more p))
      ∙ sym (map_if (item_moved p) (int_le (pos 0) d) (Holds (word_pred_of 0 Ge d) ∷ []) (Holds (word_pred_of 0 Ge d) ∷ Holds (word_pred_of 0 Le (greatest +ℤ d)) ∷ []))

  take_items_beyond : take_items (p + 0) d x ≡ map (item_moved p) (take_items 0 d x)
  take_items_beyond =
      let far = Holds (word_pred_of 0 Gt (greatest +ℤ d)) ∷ [] in
      let low = Holds (word_pred_of 0 Lt d) ∷ [] in
      let f = map (item_moved p) in
      ap (λ (l : List Item). if int_le d x then (if falls d x then l else f far) else f low) (ap (λ (q : ℕ). enough_items q d) (none_more p) ∙ enough_moved)
      ∙ ap (λ (l : List Item). if int_le d x then l else f low) (sym (map_if (item_moved p) (falls d x) (enough_items 0 d) far))
      ∙ sym (map_if (item_moved p) (int_le d x) (if falls d x then enough_items 0 d else far) low)

  pub take_items_moved : take_items p d x ≡ map (item_moved p) (take_items 0 d x)
  take_items_moved = ap (λ (q : ℕ). take_items q d x) (sym (none_more p)) ∙ take_items_beyond

  pub take_updates_moved : take_updates p d x ≡ map (renumbered p) (take_updates 0 d x)
  take_updates_moved =
      let one = (0, Add (less d) ∷ []) ∷ [] in
      ap (λ (q : ℕ). take_updates q d x) (sym (none_more p))
      ∙ ap (λ (l : List Entry). if int_le d x then l else []) (sym (map_if (renumbered p) (falls d x) one []))
      ∙ sym (map_if (renumbered p) (int_le d x) (if falls d x then one else []) [])
