use Rattle.std.proofs.Common.{◌≡◌, ◌<◌, rules, arith, sym, ap, ◌∙◌, subst, Some, pos, length, slice_index_or, to_z, of_z, to_z-of_z, SFits}
use Rattle.std.specs.Int.{w64}
use Rattle.sto_model.specs.Rows.{place_of, value_at}
use Rattle.sto_model.proofs.RowPlaces.{value_there, value_nowhere}
use Rattle.sto_model.proofs.rows.value_in.Goals as goal
use Rattle.sto_model.proofs.rows.value_in.Goals.{else-place-rows-via-then-place-rows+else-rows-place, else-place-rows-via-else-place-rows}

pub returns-then-rows-place : goal.returns-then-rows-place
returns-then-rows-place c =
    let rows = c.args.rows.now in
    let key = c.args.key in
    let row = slice_index_or rows c.place_in-place.result (pos 0, pos 0) in
    let place : c.place_in-place.result ≡ place_of rows key = rw (to_z-of_z c.ranges.key) at c.place_in-place.ensures in
    let fits : SFits w64 row.0 = search rules in
    let value : SFits w64 row.1 = search rules in
    let same : row.0 ≡ key = sym (to_z-of_z fits) ∙ ap (to_z w64) c.if-rows-place.true ∙ to_z-of_z c.ranges.key in
    let there = value_there rows key (pos 0, pos 0) in
    rw (to_z-of_z value) (sym (subst (λ n. n < length rows → (slice_index_or rows n (pos 0, pos 0)).0 ≡ key → value_at rows key ≡ Some (slice_index_or rows n (pos 0, pos 0)).1) (sym place) there c.if-place-rows.true same))

pub returns-else-place-rows : goal.returns-else-place-rows
returns-else-place-rows c =
    let rows = c.args.rows.now in
    let key = c.args.key in
    let place : c.place_in-place.result ≡ place_of rows key = rw (to_z-of_z c.ranges.key) at c.place_in-place.ensures in
    sym (value_nowhere rows key (pos 0, pos 0) c.requires.rising (subst (λ n. n < length rows → (slice_index_or rows n (pos 0, pos 0)).0 ≡ key → ⊥) place (λ l e. elim c.else-place-rows.branch [
      | else-place-rows-via-then-place-rows+else-rows-place w ↦ w.if-rows-place.false (ap (of_z w64) e)
      | else-place-rows-via-else-place-rows w ↦ absurd (omega (arith, l, w.if-place-rows.false))
    ])))
