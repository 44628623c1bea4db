use Rattle.std.proofs.Common.{sym, subst}
use Rattle.sto_explore.specs.Legs.{AreApart}
use Rattle.sto_run_schedules.proofs.BusyThreads.{busy_apart}
use Rattle.sto_run_schedules.specs.Ready.{file_of}
use Rattle.sto_run_schedules.proofs.runs.FileRunsRunsReportedKept.threads.Goals as goal

pub returns-clause-apart : goal.returns-clause-apart
returns-clause-apart g c = subst AreApart (sym c.requires.threads) (busy_apart 0 (file_of c.args.self.now).threads)
