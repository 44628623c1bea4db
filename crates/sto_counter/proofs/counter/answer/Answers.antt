use Rattle.std.proofs.Common.{◌∙◌, ap, sym, [], ◌∷◌, rules, FitsSigned}
use Rattle.std.specs.Int.{w64}
use Rattle.std.proofs.lemmas.Int.{to_z-of_z}
use Rattle.std.proofs.lemmas.Result.{IfOk-weaker}
use Rattle.sto_item.specs.declared.item.Item.TheVariants.{Seen}
use Rattle.sto_counter.specs.Sums.{add_items, add_updates, take_items, take_updates}
use Rattle.sto_counter.specs.Replies.{add_reply, take_reply}
use Rattle.sto_counter.proofs.Saying.{none_more, said_in, add_items_moved, add_updates_moved, take_items_moved, take_updates_moved}
use Rattle.sto_counter.proofs.Told.{add_told, take_told}
use Rattle.sto_counter.proofs.counter.answer.Goals as goal

pub returns-in_ok-one_item-in-Get : goal.returns-in_ok-one_item-in-Get
returns-in_ok-one_item-in-Get c =
    let f : FitsSigned w64 c.args.value = search rules in
    rw c.in-Get.is (simp to_z-of_z, c.in_ok-one_item-in-Get.ensures ∙ ap (λ n. Seen n ∷ []) (sym (none_more c.args.part)), c.updates.ensures)

pub returns-in-Add : goal.returns-in-Add
returns-in-Add c =
    let p = c.args.part in
    let d = c.args.call.now.a in
    let x = c.args.value in
    let f : FitsSigned w64 c.args.value = search rules in
    let g : FitsSigned w64 c.args.call.now.a = search rules in
    let done = simp to_z-of_z at c.add_answer.ensures in
    rw c.in-Add.is (IfOk-weaker c.add_answer.result _ _
    (λ a said. said_in (add_reply d x) _ (add_items p d x) _ (add_updates p d x) _ a said (add_told d c.args.call.now.b x) (add_items_moved p d x) (add_updates_moved p d x)) done)

pub returns-in-Take : goal.returns-in-Take
returns-in-Take c =
    let p = c.args.part in
    let d = c.args.call.now.a in
    let x = c.args.value in
    let f : FitsSigned w64 c.args.value = search rules in
    let g : FitsSigned w64 c.args.call.now.a = search rules in
    let done = simp to_z-of_z at c.take_answer.ensures in
    rw c.in-Take.is (IfOk-weaker c.take_answer.result _ _
    (λ a said. said_in (take_reply d x) _ (take_items p d x) _ (take_updates p d x) _ a said (take_told d c.args.call.now.b x) (take_items_moved p d x) (take_updates_moved p d x)) done)
