use Rattle.std.proofs.Common.{length, arith, rules, ap, sym, ◌∙◌, ◌≡◌, take, pos, ℤ, slice_index_or, slice_set, FitsSigned, w64}
use Rattle.std.proofs.lemmas.Int.{to_z-of_z}
use Rattle.std.proofs.lemmas.Option.{get_or_from_slice_get}
use Rattle.sto_part.specs.Listed.{Listed}
use Rattle.sto_part.specs.Changes.{applied}
use Rattle.sto_part.specs.declared.change.Change.TheVariants.{Keep}
use Rattle.sto_item.proofs.Widths.{length-applied_all}
use Rattle.sto_attempt_log.proofs.Recalling.{change_more}
use Rattle.sto_attempt_log.proofs.recall.install_all.Goals as goal

pub get-requires : goal.get-requires
get-requires g c =
    omega (arith, c.requires.fits, c.loop-place-test.true, ap length c.loop-place.invariant, length-applied_all (take c.loop-place.place c.args.changes.now) c.args.words.now.items)

pub set-requires : goal.set-requires
set-requires g c =
    omega (arith, c.requires.fits, c.loop-place-test.true, ap length c.loop-place.invariant, length-applied_all (take c.loop-place.place c.args.changes.now) c.args.words.now.items)

pub loop-place-preserved : goal.loop-place-preserved
loop-place-preserved g c =
    let cs = c.args.changes.now in
    let made = c.loop-place.words.items in
    let i = c.loop-place.place in
    let x = c.get.result.now in
    let f : FitsSigned w64 c.install-now.result = search rules in
    let h : FitsSigned w64 x = search rules in
    let stood : x ≡ slice_index_or made i (pos 0) = sym (get_or_from_slice_get made i x (pos 0) c.get.ensures) in
    let now : c.install-now.result ≡ applied (slice_index_or cs i Keep) (slice_index_or made i (pos 0)) =
    c.install-now.ensures ∙ ap (applied (slice_index_or cs i Keep)) (to_z-of_z w64 x h ∙ stood) in
    ap (λ (l : Listed ℤ). l.items) c.set.ensures
    ∙ (ap (slice_set made i) (to_z-of_z w64 c.install-now.result f)
    ∙ change_more cs c.args.words.now.items made i c.install-now.result c.loop-place-test.true c.requires.fits c.loop-place.invariant now)
