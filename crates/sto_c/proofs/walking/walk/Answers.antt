-- Something is wrong with the call for the next key.
use Rattle.std.proofs.Common.{subst}
use Rattle.std.proofs.lemmas.Int.{to_z-of_z}
use Rattle.sto_c.specs.declared.crossing.CallIn.{CallIn}
use Rattle.sto_c.specs.Calls.{IsFault}
use Rattle.sto_c.proofs.Walked.{not_begun}
use Rattle.sto_c.proofs.walking.walk.Goals as goal

pub returns-in-Err-clause-walked : goal.returns-in-Err-clause-walked
returns-in-Err-clause-walked c =
    let from_fits = c.ranges.from in
    let h = c.args.held.now in
    let why = c.in-Err.status in
    not_begun c.args.object c.args.from c.args.pairs.now c.args.count.now h why (subst (λ (given : CallIn). IsFault given h why) (simp to_z-of_z at c.call_at.ensures) c.in-Err.ensures.fault)
