use Rattle.std.proofs.Common.{[], ap, sym, ◌∙◌}
use Rattle.std.specs.Int.{w64}
use Rattle.std.proofs.lemmas.Int.{to_z-of_z}
use Rattle.std.proofs.lemmas.Result.{IfOk-weaker}
use Rattle.sto_part.specs.declared.change.Change.TheVariants.{Put}
use Rattle.sto_type.specs.Known.{known}
use Rattle.sto_type.specs.Telling.{plan_of}
use Rattle.sto_map.specs.Mapped.{look, change_found, put_absent}
use Rattle.sto_map.specs.Looked.{comes_to}
use Rattle.sto_map.proofs.Looks.{plainly}
use Rattle.sto_map.proofs.putting.plan_put.Goals as goal

pub returns-in-Found : goal.returns-in-Found
returns-in-Found c =
    let k = known c.args.cache.now in
    IfOk-weaker c.change_answer.result _ _
    (λ a h z e s o t.
    let f = change_found z (Put c.args.value) in
    let g = put_absent z c.args.key c.args.value in
    let comes = plainly c.args.key c.ranges.key (λ y. plan_of (look z y f g z.places c.args.home []) k) (λ y. comes_to c.in_ok-part.field-0 f g k) (c.in_ok-part.ensures.comes z e s f g) in
    h z e s k ∙ ap (λ v. plan_of (change_found z (Put v) c.in-Found.place) k) (to_z-of_z w64 c.args.value c.ranges.value)
    ∙ sym (ap (λ q. plan_of (look z c.args.key f g z.places q []) k) o ∙ comes ∙ ap (λ l. comes_to l f g k) c.in-Found.is))
    c.change_answer.ensures
