use Rattle.std.proofs.Common.{ℕ, List, ◌∷◌, ap, ◌∙◌}
use Rattle.std.specs.List.{slice_split}
use Rattle.sto_lang.specs.Views.{names_of}
use Rattle.sto_report_spec.specs.Named.{is_dot}
use Rattle.sto_checker.proofs.Reading.{more_pieces}
use Rattle.sto_checker.proofs.transaction.transaction_in.Goals as goal

pub returns-in-Some : goal.returns-in-Some
returns-in-Some c =
    let one = rw c.in_ok-after.was at c.first_piece.ensures.pieces in
    let two = rw c.in-Some.is at c.first_piece-2.ensures.pieces in
    more_pieces (names_of c.args.threads.now) (slice_split is_dot c.args.word.now) c.first_piece.result.0.now c.first_piece-2.result.0.now is_dot c.in-Some.field-0.now (one ∙ ap (λ (ps : List (List ℕ)). c.first_piece.result.0.now ∷ ps) two)
