use Rattle.std.proofs.Common.{List, [], ap, sym, ◌∙◌}
use Rattle.std.proofs.lemmas.Result.{IfOk-weaker}
use Rattle.sto_item.specs.declared.item.Item.{Item}
use Rattle.sto_model.specs.PlainReplies.{Absent}
use Rattle.sto_type.specs.Known.{known}
use Rattle.sto_type.specs.Telling.{Tell, plan_of}
use Rattle.sto_map.specs.Mapped.{look, change_found}
use Rattle.sto_map.specs.Looked.{comes_to}
use Rattle.sto_map.proofs.Looks.{plainly}
use Rattle.sto_map.proofs.plan.plan_change.Goals as goal

pub returns-in-Found : goal.returns-in-Found
returns-in-Found c =
    let k = known c.args.cache.now in
    IfOk-weaker c.change_answer.result _ _
    (λ a h z e s o.
    let f = change_found z c.args.change in
    let g = λ (seen : List Item). Tell Absent seen [] in
    let comes = plainly c.args.key c.ranges.key (λ y. plan_of (look z y f g z.places c.args.home []) k) (λ y. comes_to c.in_ok-part.field-0 f g k) (c.in_ok-part.ensures.comes z e s f g) in
    h z e s k ∙ sym (ap (λ q. plan_of (look z c.args.key f g z.places q []) k) o ∙ comes ∙ ap (λ l. comes_to l f g k) c.in-Found.is))
    c.change_answer.ensures
