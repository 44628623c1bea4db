use Rattle.std.proofs.Common.{◌≡◌, ℕ, ℤ, List, sym, ◌∙◌, subst, rules, w64, to_z, of_z, []}
use Rattle.std.specs.Int.RustNames.{FitsSigned}
use Rattle.std.proofs.lemmas.Int.{to_z-of_z}
use Rattle.sto_item.specs.Pending.{Entry}
use Rattle.sto_model.specs.declared.call.Call.{Call}
use Rattle.sto_model.specs.PlainReplies.{Value}
use Rattle.sto_type.specs.Known.{Known, known}
use Rattle.sto_type.specs.Plans.{Say, IsPlan}
use Rattle.sto_tree.specs.Layout.{word}
use Rattle.sto_tree.specs.Meaning.{tree_meaning}
use Rattle.sto_tree.proofs.LenPlan.{says_size, as_len}
use Rattle.sto_tree.proofs.Leaves.{size_wide}
use Rattle.sto_tree.proofs.len.plan_len.Goals as goal

pub only_word-requires : goal.only_word-requires
only_word-requires c = size_wide c.args.leaves (known c.args.cache.now) c.in-Some.size.now c.requires.part c.in-Some.ensures

pub returns : goal.returns
returns c =
    let n : ℕ = c.args.leaves in
    let k : Known = known c.args.cache.now in
    let call : Call = c.args.call.now in
    let g : FitsSigned w64 c.only_word.result = search rules in
    let said : word c.in-Some.size.now 0 ≡ to_z w64 (of_z w64 c.only_word.result) = sym (to_z-of_z w64 c.only_word.result g ∙ c.only_word.ensures) in
    let base : IsPlan (tree_meaning n) call k (Say (Value (word c.in-Some.size.now 0)) c.in_ok-one_item.field-0.items []) =
    subst (λ (x : Call). IsPlan (tree_meaning n) x k (Say (Value (word c.in-Some.size.now 0)) c.in_ok-one_item.field-0.items [])) (as_len call c.requires.takes.object c.requires.takes.third c.requires.len)
    (says_size n k call.a call.b c.in_ok-one_item.field-0.items c.in-Some.size.now c.in-Some.ensures c.in_ok-one_item.ensures) in
    let spoken : IsPlan (tree_meaning n) call k (Say (Value (to_z w64 (of_z w64 c.only_word.result))) c.in_ok-one_item.field-0.items []) =
    subst (λ (x : ℤ). IsPlan (tree_meaning n) call k (Say (Value x) c.in_ok-one_item.field-0.items [])) said base in
    subst (λ (es : List Entry). IsPlan (tree_meaning n) call k (Say (Value (to_z w64 (of_z w64 c.only_word.result))) c.in_ok-one_item.field-0.items es)) (sym c.updates.ensures) spoken
