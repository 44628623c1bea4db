-- What is said of an array whose first part has another number.
use Rattle.std.proofs.Common.{◌≡◌, ◌+◌, ℕ, ℤ, Bool, true, false, if◌then◌else◌, Some, None, List, [], ◌∷◌, map, refl, ap, sym, ◌∙◌, subst, arith}
use Rattle.sto_part.specs.declared.change.Change.TheVariants as C
use Rattle.sto_item.specs.declared.item.Item.TheVariants.{Seen}
use Rattle.sto_item.specs.Pending.{Entry, renumbered}
use Rattle.sto_model.specs.declared.call.Call.{Call}
use Rattle.sto_model.specs.declared.operation.Operation.TheVariants.{Get, Set, Add}
use Rattle.sto_model.specs.PlainReplies as T
use Rattle.sto_type.specs.Known.{Known, beyond, word_known}
use Rattle.sto_type.specs.Meaning.{Meaning}
use Rattle.sto_type.specs.Joined.{plan_moved}
use Rattle.sto_type.specs.Plans.{Plan, Ask, IsSaid, IsPlan, planned}
use Rattle.sto_type.specs.Saying.{IsSaidFrom}
use Rattle.sto_type.specs.declared.answer.Answer.{Answer}
use Rattle.sto_type.proofs.Unmoved.{plan_unmoved}
use Rattle.sto_counter.specs.Sums.{grows, add_items, add_updates}
use Rattle.sto_counter.specs.Replies.{add_reply}
use Rattle.sto_counter.proofs.Saying.{map_if, said_same, said_from}
use Rattle.sto_array.specs.Arrayed.{array_meaning, place_of, ArrayTakes}
use Rattle.sto_array.specs.ArrayedLaw.{plan_outside, plan_set}
use Rattle.sto_array.proofs.Plans.{get_on, add_on, get_needs, add_needs}

none_before : (n : ℕ) → 0 + n ≡ n
none_before n = omega arith

-- what is said from the first part on is as planned
pub said_planned : (m : Meaning) (call : Call) (k : Known) (p : Plan) → IsSaidFrom m 0 call k p → IsPlan m call k p
said_planned m call k p s =
    let all : beyond 0 k ≡ k = λ i q. k (none_before q i) in
    subst (IsPlan m call k) (sym (s.moved ∙ plan_unmoved s.own)) (subst (λ (j : Known). IsPlan m call j s.own) all s.is)

add_updates_moved : (p i : ℕ) (d x : ℤ) → add_updates (p + i) d x ≡ map (renumbered p) (add_updates i d x)
add_updates_moved p i d x = sym (map_if (renumbered p) (grows d x) ((i, C.Add d ∷ []) ∷ []) [])

module _ (n : ℕ) (value : ℤ) (call : Call) (k : Known) (p : ℕ) where
  abbrev SaidFrom : Plan → Type 0
  SaidFrom = IsSaidFrom (array_meaning n value) p call k

  -- outside of the array
  pub said_outside : (a : Answer) → ArrayTakes call → place_of n call.a ≡ None → IsSaid T.Absent [] [] a → SaidFrom (planned a)
  said_outside a t e h = said_from (array_meaning n value) call k p T.Absent [] [] a h (λ own s. plan_outside n value call (beyond p k) own t e s)

  module _ (i : ℕ) (zero : call.object ≡ 0) (place : place_of n call.a ≡ Some i) where
    -- the part is needed
    pub get_need : call.operation ≡ Get → word_known (k (p + i)) ≡ None → SaidFrom (Ask (p + i))
    get_need e u = record { own = Ask i; is = get_needs n value call (beyond p k) i e place u; moved = refl }

    pub add_need : call.operation ≡ Add → word_known (k (p + i)) ≡ None → SaidFrom (Ask (p + i))
    add_need e u = record { own = Ask i; is = add_needs n value call (beyond p k) i e place u; moved = refl }

    -- or it is known, or is not needed
    pub said_get : (x : ℤ) (a : Answer) → call.operation ≡ Get → word_known (k (p + i)) ≡ Some x → IsSaid (T.Value x) (Seen (p + i) ∷ []) [] a → SaidFrom (planned a)
    said_get x a e w h = said_from (array_meaning n value) call k p (T.Value x) (Seen i ∷ []) [] a h (λ own s. get_on n value call (beyond p k) i x own zero e place w s)

    pub said_set : (a : Answer) → call.operation ≡ Set → IsSaid T.Done [] ((p + i, C.Put call.b ∷ []) ∷ []) a → SaidFrom (planned a)
    said_set a e h = said_from (array_meaning n value) call k p T.Done [] ((i, C.Put call.b ∷ []) ∷ []) a h (λ own s. plan_set n value call (beyond p k) i own zero e place s)

    pub said_add :
        (x : ℤ) (a : Answer) → call.operation ≡ Add → word_known (k (p + i)) ≡ Some x → IsSaid (add_reply call.b x) (add_items (p + i) call.b x) (add_updates (p + i) call.b x) a → SaidFrom (planned a)
    said_add x a e w h =
        said_from (array_meaning n value) call k p (add_reply call.b x) (add_items i call.b x) (add_updates i call.b x) a
        (said_same (add_reply call.b x) (add_items (p + i) call.b x) (add_items (p + i) call.b x) (add_updates (p + i) call.b x) (map (renumbered p) (add_updates i call.b x)) a h refl (add_updates_moved p i call.b x))
        (λ own s. add_on n value call (beyond p k) i x own zero e place w s)
