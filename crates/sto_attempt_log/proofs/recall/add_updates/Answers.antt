use Rattle.std.proofs.Common.{ap, sym, ◌∙◌, List, take}
use Rattle.sto_item.specs.Pending.{Entry, plain, with_update, with_updates}
use Rattle.sto_item.specs.Recorded.{Recorded}
use Rattle.sto_item.proofs.Widths.{IsWidthOf-fits, HasWidths-with_update}
use Rattle.sto_attempt_log.proofs.Listing.{with_updates-more, one_more, fits}
use Rattle.sto_attempt_log.proofs.recall.add_updates.Goals as goal

pub add_update-requires : goal.add_update-requires
add_update-requires c =
    let x = c.entry-item.result in
    let d = c.requires.widths.0 in
    let f = fits c.as_slice-entry-items.result.now c.args.updates.now.items c.loop-entry.entry-index x c.as_slice-entry-items.ensures.items c.loop-entry-test.true c.entry-item.is d c.requires.widths.2 in
    IsWidthOf-fits c.loop-entry.set.updates x.0 x.1.items d (c.loop-entry.invariant.widths d c.requires.widths.1 c.requires.widths.2) f.1

pub loop-entry-preserved : goal.loop-entry-preserved
loop-entry-preserved c =
    let x = c.entry-item.result in
    let es = c.args.updates.now.items in
    let i = c.loop-entry.entry-index in
    let more = one_more c.as_slice-entry-items.result.now es i x c.as_slice-entry-items.ensures.items c.loop-entry-test.true c.entry-item.is in
    let made = ap (λ (s : Recorded). s.updates) c.in_ok-add_update.ensures.ok in
    let items = ap (λ (s : Recorded). s.items) c.in_ok-add_update.ensures.ok ∙ ap (λ (s : Recorded). s.items) c.loop-entry.invariant.same in
    let was = ap (λ (s : Recorded). s.updates) c.loop-entry.invariant.same in
    let now = made ∙ ap (λ (l : List Entry). with_update l x.0 x.1.items) was ∙ sym (ap (with_updates c.args.set.now.updates) more ∙ with_updates-more c.args.set.now.updates (take i es) (plain x)) in
    record {
      ordered = c.in_ok-add_update.ensures.ordered;
      widths = λ d h k.
          let f = fits c.as_slice-entry-items.result.now es i x c.as_slice-entry-items.ensures.items c.loop-entry-test.true c.entry-item.is d k in
          rw made (HasWidths-with_update c.loop-entry.set.updates x.0 x.1.items d (c.loop-entry.invariant.widths d h k) f.0 f.1);
      same = λ j. record { items = items j; updates = now j };
    }
