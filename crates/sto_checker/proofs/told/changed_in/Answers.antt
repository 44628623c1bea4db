use Rattle.std.proofs.Common.{ℕ, List, ◌∷◌, ap, ◌∙◌}
use Rattle.std.specs.List.{slice_split}
use Rattle.sto_report_spec.specs.Named.{is_space}
use Rattle.sto_checker.proofs.Reading.{changed_more}
use Rattle.sto_checker.proofs.told.changed_in.Goals as goal

pub returns-in-Some : goal.returns-in-Some
returns-in-Some c = λ h f small.
    let one = rw c.in_ok-after.was at c.first_piece.ensures.pieces in
    let two = rw c.in_ok-after-2.was at c.first_piece-2.ensures.pieces in
    let three = rw c.in_ok-after-3.was at c.first_piece-3.ensures.pieces in
    let four = rw c.in-Some.is at c.first_piece-4.ensures.pieces in
    changed_more (slice_split is_space c.args.words.now) c.first_piece.result.0.now c.first_piece-2.result.0.now c.first_piece-3.result.0.now c.first_piece-4.result.0.now is_space c.in-Some.field-0.now (
    one
    ∙ ap (λ (ps : List (List ℕ)). c.first_piece.result.0.now ∷ ps) two
    ∙ ap (λ (ps : List (List ℕ)). c.first_piece.result.0.now ∷ c.first_piece-2.result.0.now ∷ ps) three
    ∙ ap (λ (ps : List (List ℕ)). c.first_piece.result.0.now ∷ c.first_piece-2.result.0.now ∷ c.first_piece-3.result.0.now ∷ ps) four
    ) h f
