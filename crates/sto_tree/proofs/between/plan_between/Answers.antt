use Rattle.std.proofs.Common.{◌≡◌, ◌<◌, ℕ, ℤ, int_le, int_lt, true, false, Some, List, [], length, sym, ◌∙◌, subst, arith, w64}
use Rattle.std.specs.Prelude.{slice_index}
use Rattle.std.proofs.lemmas.Int.{ints}
use Rattle.std.specs.Int.RustNames.{FitsSigned}
use Rattle.std.proofs.lemmas.Int.{to_z-of_z}
use Rattle.sto_model.specs.declared.call.Call.{Call}
use Rattle.sto_type.specs.Known.{Known, known}
use Rattle.sto_type.specs.Reading.{need_of}
use Rattle.sto_tree.specs.Between.{leaves_between, between_each}
use Rattle.sto_tree.specs.Walked.{IsSaid}
use Rattle.sto_tree.proofs.Leaves.{directory_wide}
use Rattle.sto_tree.proofs.BetweenPlan.{known_is_told, says_empty, needs_part, says_range}
use Rattle.sto_tree.proofs.between.plan_between.Goals as goal

above_false : (x y : ℤ) → int_lt y x ≡ true → int_le x y ≡ false
above_false x y e = grind (arith, ints)

below_true : (x y : ℤ) → int_lt y x ≡ false → int_le x y ≡ true
below_true x y e = grind (arith, ints)

pub returns-then-call : goal.returns-then-call
returns-then-call c =
    let k : Known = known c.args.cache.now in
    let call : Call = c.args.call.now in
    let fa : FitsSigned w64 c.args.call.now.a = c.requires.takes.fits in
    let fb : FitsSigned w64 c.args.call.now.b = c.requires.takes.fits_too in
    let above = simp to_z-of_z at c.if-call.true in
    let none : int_le call.a call.b ≡ false = above_false call.a call.b above in
    says_empty c.args.leaves k c.args.scans call c.requires.takes.object c.requires.takes.third c.requires.operation fa fb _ c.items.result.items c.updates.result.items none
    c.empty_reply.ensures c.items.ensures c.updates.ensures

pub listed_leaves-requires : goal.listed_leaves-requires
listed_leaves-requires c = directory_wide c.args.leaves (known c.args.cache.now) c.in-Some.directory.now c.requires.part c.in-Some.ensures

pub see_leaves-requires-clause-width : goal.see_leaves-requires-clause-width
see_leaves-requires-clause-width c = directory_wide c.args.leaves (known c.args.cache.now) c.in-Some.directory.now c.requires.part c.in-Some.ensures

pub see_leaves-requires-clause-below : goal.see_leaves-requires-clause-below
see_leaves-requires-clause-below c = subst (λ (xs : List ℕ). (n : ℕ) → n < length xs → slice_index xs n < c.args.leaves) (sym c.as_slice.ensures.items) c.in_ok-listed.ensures.below

pub returns-in-Err : goal.returns-in-Err
returns-in-Err c =
    let k : Known = known c.args.cache.now in
    let call : Call = c.args.call.now in
    let fa : FitsSigned w64 c.args.call.now.a = c.requires.takes.fits in
    let fb : FitsSigned w64 c.args.call.now.b = c.requires.takes.fits_too in
    let dir : List ℤ = c.in-Some.directory.now in
    let below = simp to_z-of_z at c.if-call.false in
    let some : int_le call.a call.b ≡ true = below_true call.a call.b below in
    let listed = simp to_z-of_z at c.in_ok-listed.ensures.listed in
    let all : c.as_slice.result.now ≡ leaves_between c.args.leaves dir call.a call.b = c.as_slice.ensures.items ∙ listed in
    let raw = rw c.in-Err.is at c.in_ok-seen.ensures in
    let need = simp to_z-of_z at raw in
    needs_part c.args.leaves k c.args.scans call c.requires.takes.object c.requires.takes.third c.requires.operation fa fb some dir c.in-Some.ensures c.in-Err.part
    (subst (λ (xs : List ℕ). need_of (between_each c.args.scans dir call.a call.b xs []) k ≡ Some c.in-Err.part) all need)

pub reply_of-requires-clause-width : goal.reply_of-requires-clause-width
reply_of-requires-clause-width c = directory_wide c.args.leaves (known c.args.cache.now) c.in-Some.directory.now c.requires.part c.in-Some.ensures

pub returns : goal.returns
returns c =
    let k : Known = known c.args.cache.now in
    let call : Call = c.args.call.now in
    let fa : FitsSigned w64 c.args.call.now.a = c.requires.takes.fits in
    let fb : FitsSigned w64 c.args.call.now.b = c.requires.takes.fits_too in
    let dir : List ℤ = c.in-Some.directory.now in
    let below = simp to_z-of_z at c.if-call.false in
    let some : int_le call.a call.b ≡ true = below_true call.a call.b below in
    let listed = simp to_z-of_z at c.in_ok-listed.ensures.listed in
    let all : c.as_slice.result.now ≡ leaves_between c.args.leaves dir call.a call.b = c.as_slice.ensures.items ∙ listed in
    let raw = rw c.in-Ok.is at c.in_ok-seen.ensures in
    let said = simp to_z-of_z at raw in
    let range : IsSaid (between_each c.args.scans dir call.a call.b (leaves_between c.args.leaves dir call.a call.b) []) k c.in-Ok.items.items =
    subst (λ (xs : List ℕ). IsSaid (between_each c.args.scans dir call.a call.b xs []) k c.in-Ok.items.items) all said in
    let told = simp to_z-of_z at c.in_ok-reply_of-in-Ok.ensures in
    says_range c.args.leaves k c.args.scans call c.requires.takes.object c.requires.takes.third c.requires.operation fa fb some dir c.in-Some.ensures _ c.in-Ok.items.items c.updates-in-Ok.result.items
    range
    (told ∙ known_is_told c.args.leaves k c.args.scans call.a call.b fa fb dir c.in-Some.ensures range.0 c.requires.part.0 c.requires.part.1 c.requires.part.2)
    c.updates-in-Ok.ensures
