-- Wrong answers of a call that is said into a buffer, which the definitions refuse.
use Rattle.std.proofs.Common.{◌≡◌, ◌<◌, ◌+◌, ◌∙◌, ℕ, Some, None, List, [], ◌∷◌, sym, arith}
use Rattle.sto_part.specs.Listed.{Listed}
use Rattle.sto_item.specs.declared.item.Item.{Item}
use Rattle.sto_item.specs.declared.item.Item.TheVariants.{Seen}
use Rattle.sto_item.specs.Pending.{Entry}
use Rattle.sto_model.specs.declared.call.Call.{Call}
use Rattle.sto_model.specs.declared.reply.Reply.{Reply}
use Rattle.sto_model.specs.PlainReplies.{PlainReply, Done as PlainDone}
use Rattle.sto_type.specs.Known.{Known, beyond}
use Rattle.sto_type.specs.Meaning.{Meaning}
use Rattle.sto_type.specs.Plans.{Plan, Ask, Say, IsPlan, planned}
use Rattle.sto_type.specs.Joined.{plan_moved}
use Rattle.sto_type.specs.Saying.{said_plan, IsSaidFrom}
use Rattle.sto_type.specs.declared.answer.Answer.TheVariants.{Need, Done}
use Rattle.sto_type.specs.declared.said.Said.{Said}

-- No part is needed that stands before the first

asked_from : (first p : ℕ) (own : Plan) → Ask p ≡ plan_moved first own → p < first → ⊥
asked_from first p (Ask q) same less = let e : p ≡ first + q = cc in absurd (omega (arith, e, less))
asked_from first p (Say t is es) same less = cc

pub none_needed_before_the_first : (m : Meaning) (first : ℕ) (call : Call) (k : Known) (p : ℕ) → p < first → IsSaidFrom m first call k (Ask p) → ⊥
none_needed_before_the_first m first call k p less said = asked_from first p said.own said.moved less

-- Nor is one seen

seen_from : (first p : ℕ) (t : PlainReply) (is : List Item) (es : List Entry) (own : Plan) → Say t (Seen p ∷ is) es ≡ plan_moved first own → p < first → ⊥
seen_from first p t is es (Ask q) same less = cc
seen_from first p t is es (Say u [] fs) same less = cc
seen_from first p t is es (Say u (Seen q ∷ js) fs) same less = let e : p ≡ first + q = cc in absurd (omega (arith, e, less))
seen_from first p t is es (Say u (j ∷ js) fs) same less = cc

pub none_seen_before_the_first : (m : Meaning) (first : ℕ) (call : Call) (k : Known) (p : ℕ) (t : PlainReply) (is : List Item) (es : List Entry)
    → p < first → IsSaidFrom m first call k (Say t (Seen p ∷ is) es) → ⊥
none_seen_before_the_first m first call k p t is es less said = seen_from first p t is es said.own said.moved less

-- There is no reply while a part is needed

replied : (m : Meaning) (first : ℕ) (call : Call) (k : Known) (p : ℕ) (t : PlainReply) (is : List Item) (es : List Entry) (own : Plan)
    → IsPlan m call (beyond first k) own → Say t is es ≡ plan_moved first own → m.need call (beyond first k) ≡ Some p → ⊥
replied m first call k p t is es (Ask q) plan same needs = cc
replied m first call k p t is es (Say u js fs) plan same needs = let none : None ≡ Some p = sym plan.0 ∙ needs in cc

pub no_reply_while_a_part_is_needed : (m : Meaning) (first : ℕ) (call : Call) (k : Known) (p : ℕ) (t : PlainReply) (is : List Item) (es : List Entry)
    → m.need call (beyond first k) ≡ Some p → IsSaidFrom m first call k (Say t is es) → ⊥
no_reply_while_a_part_is_needed m first call k p t is es needs said = replied m first call k p t is es said.own said.is said.moved needs

-- A buffer that an answer was poured into has no reply where the answer needs a part, and leaves no item out

pub no_reply_of_a_need : (p : ℕ) (s : Said) → said_plan None s ≡ planned (Need p) → ⊥
no_reply_of_a_need p s same = cc

pub no_item_left_out : (s : Said) (reply : Reply) (items : Listed Item) (updates : Listed Entry) (i : Item) (is : List Item)
    → items.items ≡ i ∷ is → said_plan None s ≡ planned (Done reply items updates) → s.items.items ≡ [] → ⊥
no_item_left_out s reply items updates i is some same none = cc

-- A new buffer has no item, and no update

pub no_item_at_first : (s : Said) (i : Item) (is : List Item) → said_plan None s ≡ Say PlainDone [] [] → s.items.items ≡ i ∷ is → ⊥
no_item_at_first s i is new some = cc

pub no_update_at_first : (s : Said) (e : Entry) (es : List Entry) → said_plan None s ≡ Say PlainDone [] [] → s.updates.items ≡ e ∷ es → ⊥
no_update_at_first s e es new some = cc
