use Rattle.std.proofs.Common.{◌≡◌, ◌++◌, ◌∷◌, [], List, ap, sym, ◌∙◌, rules, FitsSigned, to_z, of_z}
use Rattle.std.specs.Int.{w64}
use Rattle.std.proofs.lemmas.Int.{to_z-of_z}
use Rattle.sto_item.specs.declared.item.Item.{Item}
use Rattle.sto_item.specs.declared.item.Item.TheVariants.{Seen}
use Rattle.sto_model.specs.PlainReplies.{Value}
use Rattle.sto_type.specs.Known.{known}
use Rattle.sto_type.specs.Plans.{Ask, Say}
use Rattle.sto_type.specs.Words.{word}
use Rattle.sto_map.specs.Mapped.{key_part, value_part}
use Rattle.sto_map.proofs.Looks.{get_asks, get_says}
use Rattle.sto_map.proofs.plan.get_answer.Goals as goal

pub returns-in_default : goal.returns-in_default
returns-in_default c z e s =
    let k = known c.args.cache.now in
    let part = c.value_part-part.ensures z e s in
    ap Ask part ∙ sym (get_asks z k c.args.place (ap k (sym part) ∙ c.in_default.ensures))

pub returns : goal.returns
returns c z e s =
    let k = known c.args.cache.now in
    let part = c.value_part-part.ensures z e s in
    let f : FitsSigned w64 c.word_at.result = search rules in
    let value : to_z w64 (of_z w64 c.word_at.result) ≡ word c.in-Some.words.now 0 = to_z-of_z w64 c.word_at.result f ∙ c.word_at.ensures in
    let items : c.push.new.self.items ≡ Seen (key_part z c.args.place) ∷ Seen (value_part z c.args.place) ∷ [] =
    c.in_ok-push.ensures.ok ∙ ap (λ (l : List Item). l ++ Seen c.value_part-part.result ∷ []) c.in_ok-items.ensures ∙ (λ i. Seen (c.key_part.ensures z e s i) ∷ Seen (part i) ∷ []) in
    (λ i. Say (Value (value i)) (items i) (c.updates.ensures i)) ∙ sym (get_says z k c.args.place c.in-Some.words.now (ap k (sym part) ∙ c.in-Some.ensures))
