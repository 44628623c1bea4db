use Rattle.std.proofs.Common.{◌∷◌, List, [], true, false, ap, sym, ◌∙◌}
use Rattle.std.proofs.lemmas.Result.{IfOk-weaker}
use Rattle.sto_item.specs.declared.item.Item.TheVariants.{Seen}
use Rattle.sto_item.specs.declared.item.Item.{Item}
use Rattle.sto_model.specs.PlainReplies.{Flag}
use Rattle.sto_type.specs.Known.{known}
use Rattle.sto_type.specs.Plans.{Say}
use Rattle.sto_type.specs.Telling.{Tell, plan_of}
use Rattle.sto_map.specs.Mapped.{look, has_found}
use Rattle.sto_map.specs.Looked.{comes_to}
use Rattle.sto_map.proofs.Looks.{plainly}
use Rattle.sto_map.proofs.plan.plan_has.Goals as goal

pub returns-in_ok-items-in-Found : goal.returns-in_ok-items-in-Found
returns-in_ok-items-in-Found c =
    let k = known c.args.cache.now in
    IfOk-weaker c.says-in-Found.result _ _
    (λ a h z e s o.
    let f = has_found z in
    let g = λ (seen : List Item). Tell (Flag false) seen [] in
    let comes = plainly c.args.key c.ranges.key (λ y. plan_of (look z y f g z.places c.args.home []) k) (λ y. comes_to c.in_ok-part.field-0 f g k) (c.in_ok-part.ensures.comes z e s f g) in
    let items = c.in_ok-items-in-Found.ensures ∙ ap (λ x. Seen x ∷ []) (c.key_part.ensures z e s) in
    h ∙ ap (λ l. Say (Flag true) l []) items ∙ sym (ap (λ q. plan_of (look z c.args.key f g z.places q []) k) o ∙ comes ∙ ap (λ l. comes_to l f g k) c.in-Found.is))
    c.says-in-Found.ensures
