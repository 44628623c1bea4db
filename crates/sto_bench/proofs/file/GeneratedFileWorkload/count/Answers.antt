use Rattle.std.proofs.Common.{sym, arith}
use Rattle.sto_gen.proofs.Sound.{thread_count}
use Rattle.sto_bench.proofs.Places.{counts_there}
use Rattle.sto_bench.proofs.file.GeneratedFileWorkload.count.Goals as goal

pub returns : goal.returns
returns c =
    let n = c.args.self.now.number in
    let below = c.requires in let all = thread_count n 16 in
    sym (counts_there n c.args._thread (omega (arith, below, all)))
