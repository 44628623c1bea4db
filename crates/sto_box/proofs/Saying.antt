-- What is said of a box whose part has another number.
use Rattle.std.proofs.Common.{◌≡◌, ◌≤◌, ◌+◌, ℕ, ℤ, pos, true, Some, None, List, [], ◌∷◌, map, refl, ap, sym, ◌∙◌, subst, arith, inl, inr}
use Rattle.sto_part.specs.Listed.{Listed}
use Rattle.sto_part.specs.Parts.{part_of}
use Rattle.sto_part.specs.declared.change.Change.{Change}
use Rattle.sto_part.specs.declared.change.Change.TheVariants.{Put}
use Rattle.sto_item.specs.declared.item.Item.{Item}
use Rattle.sto_item.specs.declared.item.Item.TheVariants.{Seen}
use Rattle.sto_item.specs.Pending.{Entry}
use Rattle.sto_model.specs.declared.call.Call.{Call}
use Rattle.sto_model.specs.declared.operation.Operation.TheVariants.{Get, Set}
use Rattle.sto_model.specs.Calls.{call_of}
use Rattle.sto_model.specs.declared.reply.Reply.{Reply}
use Rattle.sto_model.specs.PlainReplies.{Done, plain_reply}
use Rattle.sto_model.specs.Rows.{Row}
use Rattle.sto_model.specs.SequentialObjects.{reply_to}
use Rattle.sto_type.specs.Known.{Known, beyond}
use Rattle.sto_type.specs.Plans.{Ask, Say, IsPlan}
use Rattle.sto_type.specs.Saying.{IsSaidFrom}
use Rattle.sto_box.specs.Boxed.{box_meaning, box_machine, call_words, asked, is_get, keyed, words_reply, BoxTakes}
use Rattle.sto_box.specs.BoxedLaw.{one_or_two, by_call}
use Rattle.sto_box.proofs.Words.{known_says}

none_more : (p : ℕ) → p + 0 ≡ p
none_more p = omega arith

module _ (n : ℕ) (C : List ℤ → Type 0) (vs : List ℤ) (call : Call) (k : Known) (p : ℕ) where
  -- a get needs the part, where it is not known
  pub said_need : call.operation ≡ Get → k p ≡ None → IsSaidFrom (box_meaning n C vs) p call k (Ask p)
  said_need get unknown =
      let asks : is_get call.operation ≡ true = ap is_get get in
      record { own = Ask 0; is = rw (asks, none_more p, unknown) refl; moved = ap Ask (sym (none_more p)) }

  -- and answers it, where it is known
  pub said_known :
      (bounds : (1 ≤ n) × (n ≤ 2)) (ws : List ℤ) (reply : Reply) (items : Listed Item) (updates : Listed Entry) → call.object ≡ 0 → call.c ≡ pos 0 → call.operation ≡ Get → k p ≡ Some ws
      → plain_reply reply ≡ words_reply ws → items.items ≡ Seen p ∷ [] → updates.items ≡ [] → IsSaidFrom (box_meaning n C vs) p call k (Say (plain_reply reply) items.items updates.items)
  said_known bounds ws reply items updates o third get known says seen none =
      let here : beyond p k 0 ≡ Some ws = ap k (none_more p) ∙ known in
      let more : items.items ≡ Seen (p + 0) ∷ [] = seen ∙ ap (λ (q : ℕ). Seen q ∷ []) (sym (none_more p)) in
      record {
        own = Say (plain_reply reply) (Seen 0 ∷ []) [];
        is = known_says n C bounds vs call (beyond p k) ws reply (record { items = Seen 0 ∷ []; spare = 0 }) (record { items = []; spare = 0 }) o third get here says refl refl;
        moved = λ j. Say (plain_reply reply) (more j) (none j);
      }

-- a set is answered without its part
set_replies : (n : ℕ) → (1 ≤ n) × (n ≤ 2) → (vs : List ℤ) (a b : ℤ) (rows : List Row) → Done ≡ reply_to (box_machine n vs ∷ []) (call_of 0 Set a b) (rows ∷ [])
set_replies n bounds vs a b rows =
    let P : ℕ → Type 0 = λ j. Done ≡ reply_to (box_machine j vs ∷ []) (call_of 0 Set a b) (rows ∷ []) in
    elim (one_or_two n bounds) [
      | inl one ↦ subst P (sym one) refl
      | inr two ↦ subst P (sym two) refl
    ]

set_plan :
    (n : ℕ) (C : List ℤ → Type 0) → (1 ≤ n) × (n ≤ 2) → (vs : List ℤ) (k : Known) (call : Call) → BoxTakes n C call → (call.operation ≡ Get → ⊥)
    → IsPlan (box_meaning n C vs) call k (Say Done [] ((0, map Put (call_words n call)) ∷ []))
set_plan n C bounds vs k =
    by_call n C (λ (x : Call). (x.operation ≡ Get → ⊥) → IsPlan (box_meaning n C vs) x k (Say Done [] ((0, map Put (call_words n x)) ∷ [])))
    (λ a b other. absurd (other refl))
    (λ a b t other. (refl, refl, λ d v part. (set_replies n bounds vs a b (keyed 0 (part_of d 0)), refl)))

-- a set puts the words of its value
pub said_set :
    (n : ℕ) (C : List ℤ → Type 0) (bounds : (1 ≤ n) × (n ≤ 2)) (vs : List ℤ) (call : Call) (k : Known) (p : ℕ) (items : Listed Item) (updates : Listed Entry) → BoxTakes n C call
    → (call.operation ≡ Get → ⊥) → items.items ≡ [] → updates.items ≡ (p, map Put (call_words n call)) ∷ [] → IsSaidFrom (box_meaning n C vs) p call k (Say Done items.items updates.items)
said_set n C bounds vs call k p items updates t other none puts =
    let ws : List Change = map Put (call_words n call) in
    let more : updates.items ≡ (p + 0, ws) ∷ [] = puts ∙ ap (λ (q : ℕ). (q, ws) ∷ []) (sym (none_more p)) in
    record { own = Say Done [] ((0, ws) ∷ []); is = set_plan n C bounds vs (beyond p k) call t other; moved = λ j. Say Done (none j) (more j) }
