use Rattle.std.proofs.Common.{◌∙◌, sym, ap, map}
use Rattle.sto_syntax.proofs.Pieces.{piece_at, piece_whole}
use Rattle.sto_lang.specs.Views.{declaration}
use Rattle.sto_question.specs.Questions.{is_opening, object_amount}
use Rattle.sto_question.proofs.amount.object_amount.Goals as goal

pub returns-in-None : goal.returns-in-None
returns-in-None c = c.one_piece.ensures ∙ sym (ap (object_amount (map declaration c.args.decls.now)) (piece_whole is_opening c.args.word.now (sym c.in-None.ensures)))

pub returns-in-Some : goal.returns-in-Some
returns-in-Some c =
    c.two_pieces.ensures ∙ sym (ap (object_amount (map declaration c.args.decls.now)) (piece_at is_opening c.args.word.now c.in-Some.end (sym c.in-Some.ensures)))
