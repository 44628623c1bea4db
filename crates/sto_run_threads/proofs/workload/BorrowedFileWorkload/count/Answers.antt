use Rattle.std.proofs.Common.{sym, ◌∙◌}
use Rattle.sto_run_threads.proofs.Places.{count_at}
use Rattle.sto_run_threads.proofs.workload.BorrowedFileWorkload.count.Goals as goal

pub returns : goal.returns
returns c = c.len.ensures ∙ sym (count_at c.args.self.now.file.now.threads.items c.args.thread c.get.result.now c.get.ensures)
