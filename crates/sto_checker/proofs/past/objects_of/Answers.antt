use Rattle.std.proofs.Common.{◌≡◌, List, map, subst}
use Rattle.std.specs.Prelude.{IfOk}
use Rattle.sto_model.specs.PlainReplies.{plain_reply}
use Rattle.sto_model.specs.Run.{Behaviour}
use Rattle.sto_model.specs.declared.reply.Reply.{Reply}
use Rattle.sto_script.specs.Bodies.{script_of}
use Rattle.sto_checker.specs.Written.{objects_along}
use Rattle.sto_checker.proofs.past.objects_of.Goals as goal

pub returns : goal.returns
returns c =
    subst (λ (f : Behaviour). IfOk c.objects_written.result (λ objects. objects.items ≡ objects_along f (map plain_reply c.args.line.now.replies.items))) c.in_ok-body.ensures.script
    (subst (λ (rs : List Reply). IfOk c.objects_written.result (λ objects. objects.items ≡ objects_along (script_of c.in_ok-body.body) (map plain_reply rs))) c.as_slice.ensures.items c.objects_written.ensures)
