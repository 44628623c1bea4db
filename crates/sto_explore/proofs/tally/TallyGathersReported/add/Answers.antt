use Rattle.std.specs.Prelude.{string_bytes, ◌≡◌, ◌+◌}
use Rattle.std.proofs.Common.{rules, ap}
use Rattle.std.proofs.lemmas.Result.{on_ok_weaker}
use Rattle.sto_explore.specs.Explored.{Found}
use Rattle.sto_explore.specs.Tallied.{HasOneMoreWay}
use Rattle.sto_explore.specs.declared.aborted.Aborted.{Aborted}
use Rattle.sto_explore.specs.declared.outcome.Reported.{Reported}
use Rattle.sto_explore.specs.declared.tally.Tally.{Tally}
use Rattle.sto_explore.proofs.Adding.{tallied_more}
use Rattle.sto_explore.proofs.tally.TallyGathersReported.add.Goals as goal

pub returns : goal.returns
returns c =
    let x : Found Reported = record { legs = c.args.legs.items; report = c.args.report } in
    let new : Tally = record { ways = c.add_way.new.ways; schedules = c.in-Some.schedules; aborted = c.in_ok-self.field-0 } in
    let one : c.in-Some.schedules ≡ c.args.self.now.schedules + 1 = search rules in
    let aborted = c.in_ok-self.ensures in
    on_ok_weaker c.add_way.result
    (λ (more : HasOneMoreWay c.args.self.now.ways (string_bytes c.args.report.text) c.args.legs.items c.add_way.new.ways). λ xs h.
    tallied_more xs x c.args.self.now new h more one (ap (λ (a : Aborted). a.locked) aborted) (ap (λ (a : Aborted). a.changed) aborted))
    c.add_way.ensures
