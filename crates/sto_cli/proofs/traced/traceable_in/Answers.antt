use Rattle.std.proofs.Common.{arith}
use Rattle.sto_lang.specs.Views.{file as view}
use Rattle.sto_cli.proofs.traced.traceable_in.Goals as goal

pub transactions_of-count-requires : goal.transactions_of-count-requires
transactions_of-count-requires c = c.in_ok-file.ensures.sound

pub returns-clause-file : goal.returns-clause-file
returns-clause-file c =
    let all = c.transactions_of-count.ensures in
    (c.in_ok-file.ensures.file, omega (arith, all, c.if-count-gt-MOST_TRACED.false))

pub returns-then-count-gt-MOST_TRACED-clause-fault : goal.returns-then-count-gt-MOST_TRACED-clause-fault
returns-then-count-gt-MOST_TRACED-clause-fault c =
    let all = c.transactions_of-count.ensures in
    (view c.in_ok-file.file, c.in_ok-file.ensures.file, omega (arith, all, c.if-count-gt-MOST_TRACED.true))
