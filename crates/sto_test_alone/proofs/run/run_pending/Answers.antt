use Rattle.std.proofs.Common.{◌≡◌, ap, sym, ◌∙◌, [], map, append-nil}
use Rattle.sto_model.specs.PlainReplies.{plain_reply}
use Rattle.sto_model.specs.Serial.{end_step}
use Rattle.sto_model.specs.declared.run.End.TheVariants.{Commit, Cancel}
use Rattle.sto_test_alone.proofs.Whole.{trial_of}
use Rattle.sto_test_alone.proofs.run.run_pending.Goals as goal

pub ask-requires-clause-along : goal.ask-requires-clause-along
ask-requires-clause-along g c =
    let i = c.loop-call.invariant in
    rw i.script i.along

pub loop-call-preserved : goal.loop-call-preserved
loop-call-preserved g c =
    let i = c.loop-call.invariant in
    let e = c.ask.ensures in
    record {
      along = rw (← i.script) c.in_ok-ask-in-Ask.ensures.along;
      script = e.script ∙ i.script;
      left_at_reset = e.left_at_reset ∙ i.left_at_reset;
      may = λ call h. i.may call (e.may call h);
    }

pub returns-in-Commit-clause-tried : goal.returns-in-Commit-clause-tried
returns-in-Commit-clause-tried g c =
    let m = g.T.TxType.meaning c.args.ty.now in
    let f = g.B.Body.script c.args.body.now in
    let h = c.loop-call.heard in
    let i = c.loop-call.invariant.along in
    let rs = map plain_reply h.replies.items in
    let ends : f rs ≡ end_step Commit = ap f (sym (append-nil rs)) ∙ sym (c.in-Commit.ensures.next ∙ i.then []) in
    rw c.ended.ensures (trial_of m f c.args.contents.now.items h.items.items h.pending.updates rs Commit c.requires.valid i.carried i.observes ends)

pub returns-in-Cancel-clause-tried : goal.returns-in-Cancel-clause-tried
returns-in-Cancel-clause-tried g c =
    let m = g.T.TxType.meaning c.args.ty.now in
    let f = g.B.Body.script c.args.body.now in
    let h = c.loop-call.heard in
    let i = c.loop-call.invariant.along in
    let rs = map plain_reply h.replies.items in
    let ends : f rs ≡ end_step Cancel = ap f (sym (append-nil rs)) ∙ sym (c.in-Cancel.ensures.next ∙ i.then []) in
    rw c.ended-in-Cancel.ensures (trial_of m f c.args.contents.now.items h.items.items h.pending.updates rs Cancel c.requires.valid i.carried i.observes ends)
