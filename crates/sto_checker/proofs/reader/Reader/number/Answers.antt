use Rattle.std.proofs.Common.{◌+◌, arith}
use Rattle.sto_checker.proofs.Lines.{few_lines}
use Rattle.sto_checker.proofs.reader.Reader.number.Goals as goal

pub overflow_add-result : goal.overflow_add-result
overflow_add-result c = omega (arith, few_lines c.args.self.now.bytes.now, c.args.self.now.few, c.args.self.now.within)
