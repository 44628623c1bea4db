use Rattle.std.proofs.Common.{◌<◌, ◌∙◌, sym, ap, arith, length}
use Rattle.std.proofs.lemmas.Grind.{common_steps}
use Rattle.sto_syntax.specs.Lines.{is_line_feed, lines_of_pieces}
use Rattle.sto_syntax.proofs.Pieces.{piece_whole, line_at, lines_last}
use Rattle.sto_syntax.proofs.line.next_line.Goals as goal

pub returns-in-Some-clause-found : goal.returns-in-Some-clause-found
returns-in-Some-clause-found c = line_at c.args.bytes.now c.in-Some.end (sym c.in-Some.ensures)

pub returns-in-None-clause-found : goal.returns-in-None-clause-found
returns-in-None-clause-found c =
    let some : 0 < length c.args.bytes.now = grind (arith, common_steps) in
    ap lines_of_pieces (piece_whole is_line_feed c.args.bytes.now (sym c.in-None.ensures)) ∙ lines_last _ some
