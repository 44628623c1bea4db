use Rattle.std.proofs.Common.{List, [], false, ap, sym, ◌∙◌}
use Rattle.std.proofs.lemmas.Result.{IfOk-weaker}
use Rattle.sto_item.specs.declared.item.Item.{Item}
use Rattle.sto_model.specs.PlainReplies.{Flag}
use Rattle.sto_type.specs.Known.{known}
use Rattle.sto_type.specs.Telling.{Tell, plan_of}
use Rattle.sto_map.specs.Mapped.{look, remove_found}
use Rattle.sto_map.specs.Looked.{comes_to}
use Rattle.sto_map.proofs.Looks.{plainly}
use Rattle.sto_map.proofs.plan.plan_remove.Goals as goal

pub returns-in-Found : goal.returns-in-Found
returns-in-Found c =
    let k = known c.args.cache.now in
    IfOk-weaker c.remove_answer.result _ _
    (λ a said z e s h t.
    let f = remove_found z c.args.key in
    let g = λ (seen : List Item). Tell (Flag false) seen [] in
    let comes = plainly c.args.key c.ranges.key (λ y. plan_of (look z y f g z.places c.args.home []) k) (λ y. comes_to c.in_ok-part.field-0 f g k) (c.in_ok-part.ensures.comes z e s f g) in
    said z c.args.key e s h t k ∙ sym (ap (λ q. plan_of (look z c.args.key f g z.places q []) k) h ∙ comes ∙ ap (λ l. comes_to l f g k) c.in-Found.is))
    c.remove_answer.ensures
