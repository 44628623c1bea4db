use Rattle.std.proofs.Common.{ℤ, List, Bool, sym, ap, ◌∙◌, w64}
use Rattle.std.specs.Int.RustNames.{FitsSigned}
use Rattle.std.proofs.lemmas.Int.{to_z-of_z}
use Rattle.sto_model.specs.Rows.{Row, rows_between}
use Rattle.sto_model.specs.PlainReplies.{Pairs}
use Rattle.sto_type.specs.Known.{known}
use Rattle.sto_tree.specs.KnownCount.{known_told}
use Rattle.sto_tree.proofs.between.reply_of.Goals as goal

pub returns-in_ok-pairs_between : goal.returns-in_ok-pairs_between
returns-in_ok-pairs_between c =
    let a : ℤ = c.args.from in
    let b : ℤ = c.args.to in
    let f : FitsSigned w64 c.args.from = c.ranges.from in
    let g : FitsSigned w64 c.args.to = c.ranges.to in
    let rows = simp to_z-of_z at c.in_ok-rows.ensures in
    let pairs = simp to_z-of_z at c.in_ok-pairs_between.ensures in
    ap Pairs (pairs ∙ ap (λ (xs : List Row). rows_between xs a b) rows) ∙ sym (ap (λ (s : Bool). known_told s c.args.leaves (known c.args.cache.now) c.args.directory.now a b) c.if-scans.true)
