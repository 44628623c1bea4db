use Rattle.std.proofs.Common.{◌<◌, sym, length, arith}
use Rattle.std.proofs.lemmas.Grind.{common_steps}
use Rattle.sto_checker.proofs.Lines.{first_line, first_content, only_line, only_content}
use Rattle.sto_checker.proofs.reader.first_line.Goals as goal

pub returns-in-Some-clause-found : goal.returns-in-Some-clause-found
returns-in-Some-clause-found c = (first_line c.args.bytes.now c.in-Some.end (sym c.in-Some.ensures), first_content c.args.bytes.now c.in-Some.end (sym c.in-Some.ensures))

pub returns-in-None-clause-found : goal.returns-in-None-clause-found
returns-in-None-clause-found c =
    let some : 0 < length c.args.bytes.now = grind (arith, common_steps) in
    (only_line c.args.bytes.now some (sym c.in-None.ensures), only_content c.args.bytes.now (sym c.in-None.ensures))
