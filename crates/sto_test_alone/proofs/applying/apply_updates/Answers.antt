use Rattle.std.proofs.Common.{arith, ap, sym, ◌∙◌, ◌≡◌, ◌<◌, List, ℤ, length, take}
use Rattle.sto_part.specs.Listed.{Listed}
use Rattle.sto_part.specs.Parts.{part_of}
use Rattle.sto_item.specs.Pending.{Entry, plain, applied_update, applied_updates}
use Rattle.sto_item.proofs.Widths.{length-applied_updates, width-applied_updates}
use Rattle.sto_test_alone.proofs.Entries.{applied_updates-more, one_more, fits}
use Rattle.sto_test_alone.proofs.applying.apply_updates.Goals as goal

pub apply_update-requires-clause-range : goal.apply_update-requires-clause-range
apply_update-requires-clause-range g c =
    let x = c.entry-item.result in
    let parts = c.args.contents.now.items in
    let f = fits c.as_slice-entry-items.result.now c.args.updates.now.items c.loop-entry.entry-index x c.as_slice-entry-items.ensures.items c.loop-entry-test.true c.entry-item.is parts c.requires in
    let now = ap (λ s. length s.items) c.loop-entry.invariant in
    let here : x.0 < length c.loop-entry.contents.items = omega (arith, f.0, now, length-applied_updates (take c.loop-entry.entry-index c.args.updates.now.items) parts) in
    here

pub apply_update-requires-clause-width : goal.apply_update-requires-clause-width
apply_update-requires-clause-width g c =
    let x = c.entry-item.result in
    let parts = c.args.contents.now.items in
    let f = fits c.as_slice-entry-items.result.now c.args.updates.now.items c.loop-entry.entry-index x c.as_slice-entry-items.ensures.items c.loop-entry-test.true c.entry-item.is parts c.requires in
    let here : length (part_of c.loop-entry.contents.items x.0) ≡ length x.1.items =
    ap (λ s. length (part_of s.items x.0)) c.loop-entry.invariant ∙ width-applied_updates (take c.loop-entry.entry-index c.args.updates.now.items) parts x.0 ∙ f.1 in
    here

pub loop-entry-preserved : goal.loop-entry-preserved
loop-entry-preserved g c =
    let x = c.entry-item.result in
    let es = c.args.updates.now.items in
    let parts = c.args.contents.now.items in
    let more = one_more c.as_slice-entry-items.result.now es c.loop-entry.entry-index x c.as_slice-entry-items.ensures.items c.loop-entry-test.true c.entry-item.is in
    let same = ap (λ (l : List Entry). applied_updates l parts) more ∙ applied_updates-more (take c.loop-entry.entry-index es) (plain x) parts in
    let one : Listed (List ℤ) → Listed (List ℤ) = λ s. record s { items = applied_update (plain x) s.items } in
    let with : List (List ℤ) → Listed (List ℤ) = λ l. record c.args.contents.now { items = l } in
    c.apply_update.ensures ∙ ap one c.loop-entry.invariant ∙ ap with (sym same)
