use Rattle.std.proofs.Common.{◌∙◌, append_assoc}
use Rattle.std.proofs.lemmas.Result.{on_ok_weaker}
use Rattle.sto_explore.proofs.json.push_json.Goals as goal

pub returns : goal.returns
returns c =
    on_ok_weaker c.append-2.result
    (λ e. e ∙ simp (c.in_ok-push_count-3.ensures, c.in_ok-push_each.ensures, c.as_slice.ensures.value, c.in_ok-append.ensures.ok, c.in_ok-push_count-2.ensures, c.in_ok-push_count.ensures, append_assoc))
    c.append-2.ensures.ok
