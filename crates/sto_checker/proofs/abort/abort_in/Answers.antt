use Rattle.std.proofs.Common.{ℕ, List, ◌∷◌, ap, ◌∙◌, subst, arith}
use Rattle.std.specs.List.{slice_split}
use Rattle.sto_lang.specs.Views.{names_of}
use Rattle.sto_report_spec.specs.Named.{is_space, is_dot, place_of_pieces}
use Rattle.sto_checker.specs.Reading.{IsReadAs}
use Rattle.sto_checker.proofs.Named.{words_name}
use Rattle.sto_checker.proofs.abort.abort_in.Goals as goal

pub returns-in_err-place : goal.returns-in_err-place
returns-in_err-place c = λ a f small.
    let one = rw c.in_ok-after.was at c.first_piece.ensures.pieces in
    let two = rw c.in_ok-after-2.was at c.first_piece-2.ensures.pieces in
    let three = rw c.in_ok-after-3.was at c.first_piece-3.ensures.pieces in
    let four = rw c.in_ok-after-4.was at c.first_piece-4.ensures.pieces in
    let five = rw c.in_ok-rest.was at c.first_piece-5.ensures.pieces in
    let none = subst (IsReadAs (place_of_pieces (names_of c.args.threads.now) (slice_split is_dot c.first_piece-2.result.0.now))) c.in_err-place.was c.transaction_in.ensures in
    let named = words_name (names_of c.args.threads.now) (slice_split is_space c.args.content.now) c.first_piece.result.0.now c.first_piece-2.result.0.now c.first_piece-3.result.0.now c.first_piece-4.result.0.now c.first_piece-5.result.0.now
    (slice_split is_space c.in_ok-rest.rest.now) (
    one
    ∙ ap (λ (ps : List (List ℕ)). c.first_piece.result.0.now ∷ ps) two
    ∙ ap (λ (ps : List (List ℕ)). c.first_piece.result.0.now ∷ c.first_piece-2.result.0.now ∷ ps) three
    ∙ ap (λ (ps : List (List ℕ)). c.first_piece.result.0.now ∷ c.first_piece-2.result.0.now ∷ c.first_piece-3.result.0.now ∷ ps) four
    ∙ ap (λ (ps : List (List ℕ)). c.first_piece.result.0.now ∷ c.first_piece-2.result.0.now ∷ c.first_piece-3.result.0.now ∷ c.first_piece-4.result.0.now ∷ ps) five
    ) a f in
    let large = none a.place named.place in
    absurd (omega (arith, large, small.position))
