use Rattle.std.proofs.Common.{sym, ap, ◌∙◌}
use Rattle.sto_model.specs.Objects.{machines_of}
use Rattle.sto_model.specs.Serial.{SerialRun}
use Rattle.sto_checker.proofs.Uncommitted.{same_replies}
use Rattle.sto_checker.proofs.open_replies.replies_of.Goals as goal

pub returns-clause-replies : goal.returns-clause-replies
returns-clause-replies g c =
    ap (λ (r : SerialRun). r.replies) (sym c.in_ok-outcome.ensures.computed)
    ∙ same_replies (machines_of c.args.shapes.now.items) (g.B.Body.left_at_reset c.args.body) (g.B.Body.script c.args.body) c.args.state.now.items
