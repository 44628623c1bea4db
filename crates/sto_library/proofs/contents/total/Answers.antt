use Rattle.std.specs.Prelude.{MatchOption}
use Rattle.std.proofs.Common.{◌≡◌, ◌+◌, ◌+ℤ◌, ℤ, Option, take, w64, to_z, of_z, sym, ap, ◌∙◌, subst, arith}
use Rattle.std.proofs.lemmas.Int.{ints, to_z-of_z}
use Rattle.sto_model.specs.Objects.{in_range}
use Rattle.sto_library.specs.Contents.{total, Overflows}
use Rattle.sto_library.proofs.Totals.{total_next}
use Rattle.sto_library.proofs.contents.total.Goals as goal

pub loop-place-preserved : goal.loop-place-preserved
loop-place-preserved c = grind (arith, ints, to_z-of_z, total_next)

pub returns-in_err-total : goal.returns-in_err-total
returns-in_err-total c =
    let within = c.loop-place-test.true in
    let end = c.len-place-end.ensures in
    let sum : to_z w64 c.loop-place.total-bits +ℤ to_z w64 (of_z w64 c.value_at.result) ≡ total (take (c.loop-place.place + 1) c.args.rows.now.items) =
    grind (arith, ints, to_z-of_z, total_next) in
    let beyond : Overflows c.args.rows.now.items = record {
      many = c.loop-place.place + 1;
      within = omega (arith, within, end);
      beyond = ap in_range (sym sum) ∙ sym c.checked_sum.ensures.fits ∙ c.in_err-total.was;
    } in
    subst (λ (o : Option ℤ). MatchOption o (Overflows c.args.rows.now.items) (λ s. s ≡ total c.args.rows.now.items)) (sym c.from_residual.ensures) beyond
