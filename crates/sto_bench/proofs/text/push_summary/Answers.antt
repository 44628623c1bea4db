use Rattle.std.proofs.Common.{◌∙◌, ap, ◌++◌, ℤ, ℕ, List, length, codes, decimal, string_bytes}
use Rattle.std.specs.Fmt.{signed_decimal}
use Rattle.std.proofs.Common.{rules}
use Rattle.std.proofs.lemmas.Int.{to_z-of_z}
use mir.Syntax.{w128}
use mir.Val.{SFits}
use Rattle.sto_bench.specs.Summary.{rows_named, total_of, line_of}
use Rattle.sto_bench.proofs.Texts.{joined}
use Rattle.sto_bench.proofs.text.push_summary.Goals as goal

pub returns : goal.returns
returns c =
    let fits : SFits w128 c.balance.result = search rules in
    let state = c.args.journal.now.state.items in
    let line : List ℕ → ℕ → List ℕ = λ word n. line_of word (decimal n) in
    let s1 = string_bytes c.push_count.new.out in
    let s2 = string_bytes c.push_count-2.new.out in
    let s3 = string_bytes c.push_balance.new.out in
    let s4 = string_bytes c.push_count-3.new.out in
    let s5 = string_bytes c.push_count-4.new.out in
    joined (string_bytes c.args.out.now) (line (codes "bench") c.args.number) (line (codes "transactions") (length c.args.journal.now.lines.items))
    (line_of (codes "acct") (signed_decimal (total_of (rows_named state (codes "acct")))))
    (line (codes "log") (length (rows_named state (codes "log")))) (line (codes "owner") (length (rows_named state (codes "owner")))) s1 s2 s3 s4 s5
    c.in_ok-push_count.ensures
    (c.in_ok-push_count-2.ensures ∙ ap (λ (n : ℕ). s1 ++ line (codes "transactions") n) (c.from.ensures ∙ c.len.ensures))
    (c.in_ok-push_balance.ensures ∙ ap (λ (z : ℤ). s2 ++ line_of (codes "acct") (signed_decimal z)) (to_z-of_z w128 c.balance.result fits ∙ c.balance.ensures))
    (c.in_ok-push_count-3.ensures ∙ ap (λ (n : ℕ). s3 ++ line (codes "log") n) (c.from-2.ensures ∙ c.pair_count.ensures))
    (c.in_ok-push_count-4.ensures ∙ ap (λ (n : ℕ). s4 ++ line (codes "owner") n) (c.from-3.ensures ∙ c.pair_count-2.ensures))
