use Rattle.std.proofs.Common.{◌≡◌, ℕ, List, [], ◌∷◌, ◌<◌, ◌+◌, ◌-◌, take, drop, length, ◌∙◌, sym, ap, refl, None, arith}
use Rattle.std.specs.List.{slice_split}
use Rattle.sto_syntax.specs.Forms.{entry_of_pieces, is_colon}
use Rattle.sto_syntax.proofs.Pieces.{piece_at, piece_whole, pieces_some}
use Rattle.sto_syntax.proofs.entry.two_parts.Goals as goal

-- three parts or more are no entry
three_parts : (version : ℕ) (a b : List ℕ) (more : List (List ℕ)) → 0 < length more → entry_of_pieces version (a ∷ b ∷ more) ≡ None
three_parts version a b [] h = absurd (omega (arith, h))
three_parts version a b (c ∷ more) h = refl

pub returns-in-None : goal.returns-in-None
returns-in-None c = c.of_parts.ensures ∙ sym (ap (λ pieces. entry_of_pieces c.args.version (c.args.thread.now ∷ pieces)) (piece_whole is_colon c.args.steps.now (sym c.in-None.ensures)))

pub returns-in-Some : goal.returns-in-Some
returns-in-Some c =
    let steps : List ℕ = c.args.steps.now in
    let rest : List ℕ = take (length steps - (c.in-Some.field-0 + 1)) (drop (c.in-Some.field-0 + 1) steps) in
    sym (ap (λ pieces. entry_of_pieces c.args.version (c.args.thread.now ∷ pieces)) (piece_at is_colon steps c.in-Some.field-0 (sym c.in-Some.ensures))
    ∙ three_parts c.args.version c.args.thread.now (take c.in-Some.field-0 steps) (slice_split is_colon rest) (pieces_some is_colon rest))
