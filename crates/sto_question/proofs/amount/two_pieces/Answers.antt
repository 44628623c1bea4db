use Rattle.std.proofs.Common.{◌≡◌, ℕ, List, [], ◌∷◌, ◌+◌, ◌-◌, take, drop, length, map, ◌∙◌, sym, ap}
use Rattle.std.specs.List.{slice_split}
use Rattle.sto_syntax.proofs.Pieces.{piece_at, piece_whole, pieces_some}
use Rattle.sto_lang.specs.Views.{declaration}
use Rattle.sto_question.specs.Questions.{is_opening, object_amount}
use Rattle.sto_question.proofs.Pieces.{three_pieces}
use Rattle.sto_question.proofs.amount.two_pieces.Goals as goal

pub returns-in-None : goal.returns-in-None
returns-in-None c =
    c.with_key.ensures ∙ sym (ap (λ pieces. object_amount (map declaration c.args.decls.now) (c.args.name.now ∷ pieces)) (piece_whole is_opening c.args.rest.now (sym c.in-None.ensures)))

pub returns-in-Some : goal.returns-in-Some
returns-in-Some c =
    let rest : List ℕ = c.args.rest.now in
    let more : List ℕ = take (length rest - (c.in-Some.field-0 + 1)) (drop (c.in-Some.field-0 + 1) rest) in
    sym (ap (λ pieces. object_amount (map declaration c.args.decls.now) (c.args.name.now ∷ pieces)) (piece_at is_opening rest c.in-Some.field-0 (sym c.in-Some.ensures))
    ∙ three_pieces (map declaration c.args.decls.now) c.args.name.now (take c.in-Some.field-0 rest) (slice_split is_opening more) (pieces_some is_opening more))
