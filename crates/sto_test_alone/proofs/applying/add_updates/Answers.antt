use Rattle.std.proofs.Common.{ap, sym, ◌∙◌, List, take}
use Rattle.sto_item.specs.Pending.{Entry, plain, with_update, with_updates}
use Rattle.sto_item.proofs.Widths.{IsWidthOf-fits, HasWidths-with_update}
use Rattle.sto_test_alone.proofs.Entries.{with_updates-more, one_more, fits}
use Rattle.sto_test_alone.proofs.applying.add_updates.Goals as goal

pub add_update-requires : goal.add_update-requires
add_update-requires c =
    let x = c.entry-item.result in
    let parts = c.args.contents.now.items in
    let f = fits c.as_slice-entry-items.result.now c.args.updates.now.items c.loop-entry.entry-index x c.as_slice-entry-items.ensures.items c.loop-entry-test.true c.entry-item.is parts c.requires.widths in
    IsWidthOf-fits c.loop-entry.pending.updates x.0 x.1.items parts c.loop-entry.invariant.widths f.1

pub loop-entry-preserved : goal.loop-entry-preserved
loop-entry-preserved c =
    let x = c.entry-item.result in
    let es = c.args.updates.now.items in
    let parts = c.args.contents.now.items in
    let f = fits c.as_slice-entry-items.result.now es c.loop-entry.entry-index x c.as_slice-entry-items.ensures.items c.loop-entry-test.true c.entry-item.is parts c.requires.widths in
    let more = one_more c.as_slice-entry-items.result.now es c.loop-entry.entry-index x c.as_slice-entry-items.ensures.items c.loop-entry-test.true c.entry-item.is in
    let made = ap (λ s. s.updates) c.in_ok-add_update.ensures.ok in
    record {
      ordered = c.in_ok-add_update.ensures.ordered;
      widths = rw made (HasWidths-with_update c.loop-entry.pending.updates x.0 x.1.items parts c.loop-entry.invariant.widths f.0 f.1);
      same =
          made ∙ ap (λ (l : List Entry). with_update l x.0 x.1.items) c.loop-entry.invariant.same
          ∙ sym (ap (with_updates c.args.pending.now.updates) more ∙ with_updates-more c.args.pending.now.updates (take c.loop-entry.entry-index es) (plain x));
    }
