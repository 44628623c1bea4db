use Rattle.std.proofs.Common.{◌∙◌, append_assoc}
use Rattle.std.proofs.lemmas.Result.{on_ok_weaker}
use Rattle.sto_run_orders.specs.Texts.{heading}
use Rattle.sto_run_orders.proofs.text.push_report.Goals as goal

pub returns : goal.returns
returns c =
    on_ok_weaker c.append-2.result
    (λ e. e ∙ simp (c.as_str.ensures.items, c.in_ok-append.ensures.ok, c.in_ok-push_schedule_line.ensures, c.in_ok-push_heading.ensures, append_assoc))
    c.append-2.ensures.ok
