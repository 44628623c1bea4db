use Rattle.std.proofs.Common.{sym}
use Rattle.sto_gen.proofs.Sound.{thread_count}
use Rattle.sto_bench.proofs.file.GeneratedFileWorkload.threads.Goals as goal

pub returns : goal.returns
returns c = sym (thread_count c.args.self.now.number 16)
