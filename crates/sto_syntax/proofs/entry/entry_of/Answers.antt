use Rattle.std.proofs.Common.{◌∙◌, sym, ap}
use Rattle.sto_syntax.specs.Forms.{entry_of_pieces, is_colon}
use Rattle.sto_syntax.proofs.Pieces.{piece_at, piece_whole}
use Rattle.sto_syntax.proofs.entry.entry_of.Goals as goal

pub returns-in-None : goal.returns-in-None
returns-in-None c = sym (ap (entry_of_pieces c.args.version) (piece_whole is_colon c.args.word.now (sym c.in-None.ensures)))

pub returns-in-Some : goal.returns-in-Some
returns-in-Some c = c.two_parts.ensures ∙ sym (ap (entry_of_pieces c.args.version) (piece_at is_colon c.args.word.now c.in-Some.end (sym c.in-Some.ensures)))
