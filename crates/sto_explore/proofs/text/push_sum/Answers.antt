use Rattle.std.proofs.Common.{◌≡◌, length, ◌∙◌, append_assoc, rules}
use Rattle.std.proofs.lemmas.Result.{on_ok_weaker}
use Rattle.sto_explore.proofs.text.push_sum.Goals as goal

pub returns : goal.returns
returns c =
    let many : c.len.result ≡ length c.args.outcomes.now.each.items = search rules in
    on_ok_weaker c.append.result
    (λ e. e ∙ simp (c.in_ok-push_count-4.ensures, c.in_ok-push_count-3.ensures, c.in_ok-push_count-2.ensures, c.in_ok-push_count.ensures, append_assoc) (rw many))
    c.append.ensures.ok
