use Rattle.std.proofs.Common.{rules, refl, inr}
use Rattle.sto_run_schedules.proofs.kept.Kept.remember.Goals as goal

pub returns : goal.returns
returns c =
    inr (
      record { records = c.args.records; report = c.in_ok-report.report },
      record { records_are = refl; text = c.in_ok-report.ensures.text; aborted = c.in_ok-report.ensures.aborted },
      search rules,
    )
