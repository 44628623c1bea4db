use Rattle.std.proofs.Common.{◌≡◌, ◌∙◌, List, IsTrue, map, sym, subst}
use Rattle.sto_model.specs.Asked.{HasAsked, IsUnsettled}
use Rattle.sto_model.specs.PlainReplies.{PlainReply, plain_reply}
use Rattle.sto_model.specs.Run.{Behaviour}
use Rattle.sto_checker.specs.Heard.{AreHeard}
use Rattle.sto_checker.proofs.heard.may_be_aborted.Goals as goal
use Rattle.sto_checker.proofs.heard.may_be_aborted.Goals.{then-is_unsettled, else-is_unsettled}

pub is_unsettled-requires : goal.is_unsettled-requires
is_unsettled-requires c = subst (λ (f : Behaviour). AreHeard f (map plain_reply c.args.replies.now)) (sym c.in_ok-body.ensures.script) c.requires.heard

pub has_asked-requires : goal.has_asked-requires
has_asked-requires c = subst (λ (f : Behaviour). AreHeard f (map plain_reply c.args.replies.now)) (sym (c.is_unsettled.ensures.script ∙ c.in_ok-body.ensures.script)) c.requires.heard

pub returns : goal.returns
returns c =
    let rs : List PlainReply = map plain_reply c.args.replies.now in
    let first = c.in_ok-body.ensures.script in
    let then = c.is_unsettled.ensures.script ∙ first in
    elim c.if-is_unsettled.branch [
      | then-is_unsettled w ↦
          let unsettled = (rw w.if-is_unsettled.true at c.is_unsettled.ensures.unsettled).0 cc in (
            (λ yes. (subst (λ (f : Behaviour). HasAsked c.args.object f rs) then (w.has_asked.ensures.0 (subst IsTrue w.result-is yes)), subst (λ (f : Behaviour). IsUnsettled f rs) first unsettled)),
            (λ h. subst IsTrue (sym w.result-is) (w.has_asked.ensures.1 (subst (λ (f : Behaviour). HasAsked c.args.object f rs) (sym then) h.0))),
          )
      | else-is_unsettled w ↦ (
        (λ yes. absurd (let no = w.result-is in cc)),
        (λ h. absurd (let no = (rw w.if-is_unsettled.false at c.is_unsettled.ensures.unsettled).1 (subst (λ (f : Behaviour). IsUnsettled f rs) (sym first) h.1) in cc)),
      )
    ]
