use Rattle.std.proofs.Common.{◌≡◌, map, rules, sym, subst}
use Rattle.sto_explore.specs.Tallied.{AreRising, outcome_of}
use Rattle.sto_explore.proofs.Listing.{rising}
use Rattle.sto_explore.proofs.tally.outcomes_of.Goals as goal

pub returns-in-Ok-clause-rising : goal.returns-in-Ok-clause-rising
returns-in-Ok-clause-rising c =
    let all : c.in-Ok.outcomes.items ≡ map outcome_of c.args.ways.entries = search rules in
    subst AreRising (sym all) (rising c.args.ways.entries c.into_iter.ensures.into_iter_gives.5)
