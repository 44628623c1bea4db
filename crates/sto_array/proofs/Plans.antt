-- The answers on the word that is known.
use Rattle.std.proofs.Common.{◌≡◌, ℕ, ℤ, pos, Some, None, List, [], ◌∷◌, slice_index_or, ap, sym, subst}
use Rattle.sto_item.specs.declared.item.Item.TheVariants.{Seen}
use Rattle.sto_model.specs.declared.call.Call.{Call}
use Rattle.sto_model.specs.declared.operation.Operation.TheVariants.{Get, Add}
use Rattle.sto_model.specs.PlainReplies as T
use Rattle.sto_type.specs.Known.{Known}
use Rattle.sto_type.specs.Plans.{IsSaid, IsPlan, planned}
use Rattle.sto_type.specs.declared.answer.Answer.{Answer}
use Rattle.sto_counter.specs.Sums.{add_items, add_updates}
use Rattle.sto_counter.specs.Replies.{add_reply}
use Rattle.sto_array.specs.Arrayed.{array_meaning, place_of, asked}
use Rattle.sto_type.specs.Known.{word_known}
use Rattle.sto_type.proofs.FirstWords.{known_word, unknown_word}
use Rattle.sto_array.specs.ArrayedLaw.{plan_get, plan_add, plan_needs}

module _ (n : ℕ) (first : ℤ) (call : Call) (k : Known) (i : ℕ) where
  pub get_on :
      (x : ℤ) (answer : Answer) → call.object ≡ 0 → call.operation ≡ Get → place_of n call.a ≡ Some i → word_known (k i) ≡ Some x
      → IsSaid (T.Value x) (Seen i ∷ []) [] answer → IsPlan (array_meaning n first) call k (planned answer)
  get_on x answer z e p s h =
      let w : (ws : List ℤ) × (k i ≡ Some ws) × (slice_index_or ws 0 (pos 0) ≡ x) = known_word (k i) x s in
      plan_get n first call k i w.0 answer z e p w.1 (subst (λ (y : ℤ). IsSaid (T.Value y) (Seen i ∷ []) [] answer) (sym w.2) h)

  pub add_on :
      (x : ℤ) (answer : Answer) → call.object ≡ 0 → call.operation ≡ Add → place_of n call.a ≡ Some i → word_known (k i) ≡ Some x
      → IsSaid (add_reply call.b x) (add_items i call.b x) (add_updates i call.b x) answer → IsPlan (array_meaning n first) call k (planned answer)
  add_on x answer z e p s h =
      let w : (ws : List ℤ) × (k i ≡ Some ws) × (slice_index_or ws 0 (pos 0) ≡ x) = known_word (k i) x s in
      plan_add n first call k i w.0 answer z e p w.1 (subst (λ (y : ℤ). IsSaid (add_reply call.b y) (add_items i call.b y) (add_updates i call.b y) answer) (sym w.2) h)

  pub get_needs : call.operation ≡ Get → place_of n call.a ≡ Some i → word_known (k i) ≡ None → (array_meaning n first).need call k ≡ Some i
  get_needs e p s = plan_needs n first call k Get i e p (ap (asked i) (unknown_word (k i) s))

  pub add_needs : call.operation ≡ Add → place_of n call.a ≡ Some i → word_known (k i) ≡ None → (array_meaning n first).need call k ≡ Some i
  add_needs e p s = plan_needs n first call k Add i e p (ap (asked i) (unknown_word (k i) s))
