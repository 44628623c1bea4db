use Rattle.std.proofs.Common.{◌∙◌, rules, arith, SFits, slice_index_or, pos, refl}
use Rattle.std.specs.Int.{w64}
use Rattle.std.proofs.lemmas.Int.{to_z-of_z}
use Rattle.sto_type.proofs.Taken.{one_more, more_rise, few_taken}
use Rattle.sto_type.proofs.words.rows_of.Goals as goal

pub push-requires-clause-few : goal.push-requires-clause-few
push-requires-clause-few c = omega (arith, few_taken c.args.words.now c.loop-place.place c.loop-place.rows.items c.loop-place.invariant, c.loop-place-test.true, c.requires)

pub push-requires-clause-rising : goal.push-requires-clause-rising
push-requires-clause-rising c =
    let f : SFits w64 c.from.result = search rules in
    let g : SFits w64 (slice_index_or c.args.words.now c.loop-place.place (pos 0)) = search rules in
    simp to_z-of_z
    (more_rise c.args.words.now c.loop-place.place c.loop-place.rows.items c.from.result _ c.loop-place-test.true c.loop-place.invariant c.from.ensures refl)

pub loop-place-preserved : goal.loop-place-preserved
loop-place-preserved c =
    let f : SFits w64 c.from.result = search rules in
    let g : SFits w64 (slice_index_or c.args.words.now c.loop-place.place (pos 0)) = search rules in
    let made = simp to_z-of_z at c.in_ok-push.ensures.ok in
    made
    ∙ one_more c.args.words.now c.loop-place.place c.loop-place.rows.items c.from.result _ c.loop-place-test.true c.loop-place.invariant c.from.ensures refl
