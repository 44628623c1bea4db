use Rattle.std.proofs.Common.{sym}
use Rattle.sto_syntax.proofs.Pieces.{words_at, words_whole}
use Rattle.sto_syntax.proofs.line.first_piece.Goals as goal

pub returns-in-Some-clause-pieces : goal.returns-in-Some-clause-pieces
returns-in-Some-clause-pieces c = words_at c.args.line.now c.in-Some.end (sym c.in-Some.ensures)

pub returns-in-None-clause-pieces : goal.returns-in-None-clause-pieces
returns-in-None-clause-pieces c = words_whole c.args.line.now (sym c.in-None.ensures)
