use Rattle.std.proofs.Common.{◌≡◌, ℕ, ℤ, Some, None, List, refl, ap, sym, ◌∙◌, subst, rules, w64, to_z, of_z}
use Rattle.std.specs.Int.RustNames.{FitsSigned}
use Rattle.std.proofs.lemmas.Int.{to_z-of_z}
use Rattle.sto_model.specs.declared.call.Call.{Call}
use Rattle.sto_model.specs.PlainReplies.{Value, Absent}
use Rattle.sto_type.specs.Known.{Known, known}
use Rattle.sto_tree.specs.Layout.{greatest}
use Rattle.sto_tree.specs.Between.{leaves_between}
use Rattle.sto_tree.specs.Walked.{next_need, next_found}
use Rattle.sto_tree.proofs.Leaves.{directory_wide}
use Rattle.sto_tree.proofs.NextPlan.{next_needs, says_next}
use Rattle.sto_tree.proofs.next.plan_next.Goals as goal

pub listed_leaves-requires : goal.listed_leaves-requires
listed_leaves-requires c = directory_wide c.args.leaves (known c.args.cache.now) c.in-Some.directory.now c.requires.part c.in-Some.ensures

pub returns-in-Err : goal.returns-in-Err
returns-in-Err c =
    let k : Known = known c.args.cache.now in
    let call : Call = c.args.call.now in
    let fa : FitsSigned w64 c.args.call.now.a = c.requires.takes.fits in
    let dir : List ℤ = c.in-Some.directory.now in
    let listed = simp to_z-of_z at c.in_ok-listed.ensures.listed in
    let all : c.as_slice.result.now ≡ leaves_between c.args.leaves dir call.a greatest = c.as_slice.ensures.items ∙ listed in
    let raw = rw c.in-Err.is at c.in_ok-part.ensures in
    let need = simp to_z-of_z at raw in
    next_needs c.args.leaves k call c.requires.takes.object c.requires.takes.third c.requires.next fa dir c.in-Some.ensures c.in-Err.part
    (subst (λ (xs : List ℕ). next_need k call.a xs ≡ Some c.in-Err.part) all need)

pub all_between-requires-clause-width : goal.all_between-requires-clause-width
all_between-requires-clause-width c = directory_wide c.args.leaves (known c.args.cache.now) c.in-Some.directory.now c.requires.part c.in-Some.ensures

pub returns-in-Ok-Some : goal.returns-in-Ok-Some
returns-in-Ok-Some c =
    let k : Known = known c.args.cache.now in
    let call : Call = c.args.call.now in
    let fa : FitsSigned w64 c.args.call.now.a = c.requires.takes.fits in
    let dir : List ℤ = c.in-Some.directory.now in
    let listed = simp to_z-of_z at c.in_ok-listed.ensures.listed in
    let all : c.as_slice.result.now ≡ leaves_between c.args.leaves dir call.a greatest = c.as_slice.ensures.items ∙ listed in
    let raw = rw c.in-Ok-Some.is at c.in_ok-part.ensures in
    let said = simp to_z-of_z at raw in
    let g : FitsSigned w64 c.in-Ok-Some.key = search rules in
    let items = simp to_z-of_z at c.in_ok-all_between-in-Ok-Some.ensures in
    says_next c.args.leaves k call c.requires.takes.object c.requires.takes.third c.requires.next fa dir c.in-Some.ensures (Some c.in-Ok-Some.key) (Value (to_z w64 (of_z w64 c.in-Ok-Some.key))) c.in_ok-all_between-in-Ok-Some.field-0.items c.updates.result.items
    (subst (λ (xs : List ℕ). next_need k call.a xs ≡ None) all said.0)
    (subst (λ (xs : List ℕ). Some c.in-Ok-Some.key ≡ next_found k call.a xs) all (sym c.in-Ok-Some.field-0-is ∙ said.1))
    (ap Value (to_z-of_z w64 c.in-Ok-Some.key g)) items c.updates.ensures

pub all_between-requires-in-Ok-None-clause-width : goal.all_between-requires-in-Ok-None-clause-width
all_between-requires-in-Ok-None-clause-width c = directory_wide c.args.leaves (known c.args.cache.now) c.in-Some.directory.now c.requires.part c.in-Some.ensures

pub returns : goal.returns
returns c =
    let k : Known = known c.args.cache.now in
    let call : Call = c.args.call.now in
    let fa : FitsSigned w64 c.args.call.now.a = c.requires.takes.fits in
    let dir : List ℤ = c.in-Some.directory.now in
    let listed = simp to_z-of_z at c.in_ok-listed.ensures.listed in
    let all : c.as_slice.result.now ≡ leaves_between c.args.leaves dir call.a greatest = c.as_slice.ensures.items ∙ listed in
    let raw = rw c.in-Ok-None.is at c.in_ok-part.ensures in
    let said = simp to_z-of_z at raw in
    let items = simp to_z-of_z at c.in_ok-all_between-in-Ok-None.ensures in
    says_next c.args.leaves k call c.requires.takes.object c.requires.takes.third c.requires.next fa dir c.in-Some.ensures None Absent c.in_ok-all_between-in-Ok-None.field-0.items c.updates-in-Ok-None.result.items
    (subst (λ (xs : List ℕ). next_need k call.a xs ≡ None) all said.0)
    (subst (λ (xs : List ℕ). None ≡ next_found k call.a xs) all (sym c.in-Ok-None.field-0-is ∙ said.1))
    refl items c.updates-in-Ok-None.ensures
