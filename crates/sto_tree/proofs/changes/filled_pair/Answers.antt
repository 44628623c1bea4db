use Rattle.std.proofs.Common.{◌<◌, ◌+◌, ◌*◌, ℤ, pos, length, ap, sym, ◌∙◌, arith, rules, w64}
use Rattle.std.specs.Int.RustNames.{FitsSigned}
use Rattle.std.proofs.lemmas.Int.{to_z-of_z}
use Rattle.sto_part.specs.declared.change.Change.{Change}
use Rattle.sto_part.specs.declared.change.Change.TheVariants.{Put}
use Rattle.sto_tree.proofs.Adding.{filled_there, filled_past, filled_none}
use Rattle.sto_tree.proofs.changes.filled_pair.Goals.{else-place-lt4-via-then-place-lt4+else-leaf-place, else-place-lt4-via-else-place-lt4}
use Rattle.sto_tree.proofs.changes.filled_pair.Goals as goal

pub returns-then-leaf-place : goal.returns-then-leaf-place
returns-then-leaf-place c =
    let f : FitsSigned w64 c.get.result.now.0 = search rules in
    let there : 4 * c.args.leaf + c.args.place < length c.args.rows.now.items = omega (arith, c.if-leaf-place.true, c.len.ensures) in
    ap {B = Change × Change} (λ (x : ℤ). (Put (pos 1), Put x)) (to_z-of_z w64 c.get.result.now.0 f)
    ∙ sym (filled_there c.args.rows.now.items c.args.leaf c.args.place c.get.result.now (omega (arith, c.if-place-lt4.true)) there c.get.ensures)

pub returns-else-place-lt4 : goal.returns-else-place-lt4
returns-else-place-lt4 c = elim c.else-place-lt4.branch [
  | else-place-lt4-via-then-place-lt4+else-leaf-place w ↦ sym (filled_none c.args.rows.now.items c.args.leaf c.args.place (omega (arith, w.if-leaf-place.false, w.len.ensures)))
  | else-place-lt4-via-else-place-lt4 w ↦ sym (filled_past c.args.rows.now.items c.args.leaf c.args.place (omega (arith, w.if-place-lt4.false)))
]
