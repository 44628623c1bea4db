use Rattle.std.proofs.Common.{sym, subst}
use Rattle.sto_explore.specs.Tallied.{AreRising}
use Rattle.sto_explore.proofs.Listing.{AreListed, listed, listed_in_order}
use Rattle.sto_explore.proofs.tally.Tally.outcomes.Goals as goal

pub returns : goal.returns
returns c = λ xs h.
    let same = c.in_ok-each.ensures.each in
    let rising = c.in_ok-each.ensures.rising in
    let each = subst (AreListed xs) (sym same) (listed xs c.args.self.ways h.ways (subst AreRising same rising)) in
    let all = listed_in_order xs _ _ c.in_ok-sort.ensures.same each in
    record {
      each = all.each;
      once = all.once;
      in_order = c.in_ok-sort.ensures.order;
      sum = all.sum;
      schedules = h.schedules;
      locked = h.locked;
      changed = h.changed;
    }
