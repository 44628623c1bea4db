use Rattle.std.proofs.Common.{◌≡◌, ◌∙◌, append_assoc}
use Rattle.std.proofs.lemmas.Result.{on_ok_weaker}
use Rattle.sto_run_orders.proofs.json.push_of.Goals as goal

pub returns : goal.returns
returns c =
    on_ok_weaker c.append-3.result
    (λ e. e ∙ simp (c.in_ok-push_each.ensures, c.in_ok-append-2.ensures.ok, c.in_ok-push_number.ensures, c.in_ok-append.ensures.ok, append_assoc))
    c.append-3.ensures.ok
