use Rattle.std.proofs.Common.{◌∙◌, append_assoc}
use Rattle.std.proofs.lemmas.Result.{on_ok_weaker}
use Rattle.sto_explore.proofs.text.push_outcome.Goals as goal

pub returns : goal.returns
returns c =
    on_ok_weaker c.push_report.result
    (λ e. e ∙ simp (c.as_str.ensures.value, c.in_ok-append-2.ensures.ok, c.in_ok-push_schedule_line.ensures, c.in_ok-append.ensures.ok, c.in_ok-push_count-2.ensures, c.in_ok-push_count.ensures, append_assoc))
    c.push_report.ensures
