use Rattle.std.proofs.Common.{sym}
use Rattle.sto_checker.proofs.Cuts.{piece_at, piece_whole}
use Rattle.sto_checker.proofs.word.first_piece.Goals as goal

pub returns-in-Some-clause-pieces : goal.returns-in-Some-clause-pieces
returns-in-Some-clause-pieces c = piece_at c.args.at c.args.bytes.now c.in-Some.end (sym c.in-Some.ensures)

pub returns-in-None-clause-pieces : goal.returns-in-None-clause-pieces
returns-in-None-clause-pieces c = piece_whole c.args.at c.args.bytes.now (sym c.in-None.ensures)
