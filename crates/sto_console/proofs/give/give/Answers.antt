use Rattle.std.proofs.Common.{arith, ◌≤◌, length, drop}
use Rattle.std.proofs.lemmas.Grind.{common_steps}
use Rattle.sto_console.proofs.ToldLemmas.{copied_front, rest_is}
use Rattle.sto_console.proofs.give.give.Goals as goal

pub returns-clause-taken : goal.returns-clause-taken
returns-clause-taken c =
    let few : c.min-taken.result ≤ length (drop c.args.at c.args.bytes.now) = grind (arith, common_steps) in
    copied_front c.args.bytes.now c.args.buf.now c.copy_from_slice.new.self c.args.at c.min-taken.result (rw rest_is at c.copy_from_slice.ensures.after) few
