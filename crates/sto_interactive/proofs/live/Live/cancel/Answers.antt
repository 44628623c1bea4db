-- Its body cancels where it stands.
use Rattle.std.proofs.Common.{◌≡◌, List, length, map, ap, sym, ◌∙◌, subst}
use denote.Bor.{Bor}
use Rattle.sto_part.specs.Listed.{Listed}
use Rattle.sto_model.specs.PlainReplies.{PlainReply, plain_reply}
use Rattle.sto_model.specs.Run.{Behaviour}
use Rattle.sto_model.specs.declared.call.Call.{Call}
use Rattle.sto_model.specs.declared.reply.Reply.{Reply}
use Rattle.sto_model.specs.declared.run.End.TheVariants as E
use Rattle.sto_type.specs.Traits.{of_type}
use Rattle.sto_attempt_log.specs.Answers.{IsPrefix}
use Rattle.sto_attempt_log.specs.Standing.{IsUnaborted}
use Rattle.sto_attempt_log.specs.declared.verdict.Turn.{Turn}
use Rattle.sto_attempt_log.specs.declared.verdict.Verdict.{Verdict}
use Rattle.sto_attempt_log.specs.declared.verdict.Verdict.TheVariants.{Cancelled}
use Rattle.sto_attempt_log.specs.declared.verdict.Turn.TheVariants.{Ended}
use Rattle.sto_attempt.specs.declared.attempt.Attempt.{Attempt}
use Rattle.sto_attempt.specs.Attempts.{HasTurned, heard}
use Rattle.sto_transaction.proofs.Steps.{ended_as}
use Rattle.sto_interactive.specs.declared.asked_calls.AskedCalls.{AskedCalls}
use Rattle.sto_interactive.specs.Bodies.{next_of, script_in, left_of, MayAskOf, asked}
use Rattle.sto_interactive.specs.Scripts.{script_of}
use Rattle.sto_interactive.specs.Waiting.{HasCome, HearsMore}
use Rattle.sto_interactive.proofs.AtEnd.{cancel_ends}
use Rattle.sto_interactive.proofs.Coming.{own_now, own_turned, resumed}
use Rattle.sto_interactive.proofs.Lasting.{cancel_waits, cancel_turn, ends_there, few_on, same_replies}
use Rattle.sto_interactive.proofs.live.Live.cancel.Goals as goal

pub resume-requires-clause-log : goal.resume-requires-clause-log
resume-requires-clause-log g c =
    let t = of_type g.T.Naming g.T.TxType in
    let r = c.requires in
    let a = c.args.self.attempt in
    let b = c.cancel.new.self in
    let old : c.replace_body-body.result ≡ a.log.body = c.replace_body-body.ensures.old in
    let given : c.replace_body.new.self ≡ record a { log = record a.log { body = b } } =
    c.replace_body.ensures.new ∙ ap (λ (x : Attempt g.row.T.Denot AskedCalls). record x { log = record x.log { body = b } }) c.replace_body-body.ensures.new in
    (cancel_waits t r.0 r.1 r.2 c.args.self r.3 r.4 r.5 b (ap (λ (l : Listed Call). l.items) c.cancel.ensures.calls ∙ ap (λ (x : AskedCalls). x.calls.items) old) c.cancel.ensures.end
    (c.cancel.ensures.heard ∙ ap (λ (x : AskedCalls). x.heard) old) c.replace_body.new.self given).own.log

pub resume-requires-clause-waits : goal.resume-requires-clause-waits
resume-requires-clause-waits g c =
    let t = of_type g.T.Naming g.T.TxType in
    let r = c.requires in
    let a = c.args.self.attempt in
    let b = c.cancel.new.self in
    let old : c.replace_body-body.result ≡ a.log.body = c.replace_body-body.ensures.old in
    let given : c.replace_body.new.self ≡ record a { log = record a.log { body = b } } =
    c.replace_body.ensures.new ∙ ap (λ (x : Attempt g.row.T.Denot AskedCalls). record x { log = record x.log { body = b } }) c.replace_body-body.ensures.new in (
      r.4,
      (cancel_waits t r.0 r.1 r.2 c.args.self r.3 r.4 r.5 b (ap (λ (l : Listed Call). l.items) c.cancel.ensures.calls ∙ ap (λ (x : AskedCalls). x.calls.items) old) c.cancel.ensures.end
          (c.cancel.ensures.heard ∙ ap (λ (x : AskedCalls). x.heard) old) c.replace_body.new.self given).waits,
    )

pub unreachable-requires : goal.unreachable-requires
unreachable-requires g c =
    let t = of_type g.T.Naming g.T.TxType in
    let r = c.requires in
    let a = c.args.self.attempt in
    let b = c.cancel.new.self in
    let j = c.replace_body.new.self in
    let k = c.resume.new.self in
    let e = c.in_ok-verdict.ensures in
    let f = script_of r.1 E.Cancel in
    let old : c.replace_body-body.result ≡ a.log.body = c.replace_body-body.ensures.old in
    let given : j ≡ record a { log = record a.log { body = b } } =
    c.replace_body.ensures.new ∙ ap (λ (x : Attempt g.row.T.Denot AskedCalls). record x { log = record x.log { body = b } }) c.replace_body-body.ensures.new in
    let waiting = cancel_waits t r.0 r.1 r.2 c.args.self r.3 r.4 r.5 b (ap (λ (l : Listed Call). l.items) c.cancel.ensures.calls ∙ ap (λ (x : AskedCalls). x.calls.items) old) c.cancel.ensures.end
    (c.cancel.ensures.heard ∙ ap (λ (x : AskedCalls). x.heard) old) j given in
    let own = own_now t asked r.0 f j k waiting.own e.ty e.script e.log in
    let all = ap (λ (x : Attempt g.row.T.Denot AskedCalls). length (heard x)) given ∙ ap (λ (rs : List PlainReply). length rs) r.5.replies ∙ r.5.all in
    let hears : HearsMore (heard j) (heard k) = record { more = e.grown.grown.more; all = e.grown.grown.replies } in
    let cancels = ap (λ (h : Behaviour). h (heard k)) own.same_script ∙ ends_there r.1 E.Cancel (heard j) (heard k) all hears in
    let end = cancel_turn t asked k r.4 c.in_ok-verdict.field-0 cancels e.begun e.alone (own_turned t asked j k r.4 c.in_ok-verdict.field-0 e.ty e.script (e.turned r.4 waiting.waits)) in
    c.in_default.not-Ended (Cancelled end.0) end.1

pub returns-clause-cancelled : goal.returns-clause-cancelled
returns-clause-cancelled g c passes ty calls rs begun v live =
    let t = of_type g.T.Naming g.T.TxType in
    let a = c.args.self.attempt in
    let b = c.cancel.new.self in
    let j = c.replace_body.new.self in
    let k = c.resume.new.self in
    let e = c.in_ok-verdict.ensures in
    let x = c.in-Ended.verdict in
    let f = script_of calls E.Cancel in
    let old : c.replace_body-body.result ≡ a.log.body = c.replace_body-body.ensures.old in
    let given : j ≡ record a { log = record a.log { body = b } } =
    c.replace_body.ensures.new ∙ ap (λ (y : Attempt g.row.T.Denot AskedCalls). record y { log = record y.log { body = b } }) c.replace_body-body.ensures.new in
    let waiting = cancel_waits t ty calls rs c.args.self begun v live b (ap (λ (l : Listed Call). l.items) c.cancel.ensures.calls ∙ ap (λ (y : AskedCalls). y.calls.items) old) c.cancel.ensures.end
    (c.cancel.ensures.heard ∙ ap (λ (y : AskedCalls). y.heard) old) j given in
    let own = own_now t asked ty f j k waiting.own e.ty e.script e.log in
    let before : heard j ≡ rs = ap (λ (y : Attempt g.row.T.Denot AskedCalls). heard y) given ∙ live.replies in
    let all = ap (λ (l : List PlainReply). length l) before ∙ live.all in
    let hears : HearsMore (heard j) (heard k) = record { more = e.grown.grown.more; all = e.grown.grown.replies } in
    let cancels = ap (λ (h : Behaviour). h (heard k)) own.same_script ∙ ends_there calls E.Cancel (heard j) (heard k) all hears in
    let turned = subst (λ (turn : Turn). HasTurned t asked k k v turn) c.in-Ended.is (own_turned t asked j k v c.in_ok-verdict.field-0 e.ty e.script (e.turned v waiting.waits)) in
    let end = cancel_ends t asked k v cancels x (subst (λ (turn : Turn). IsUnaborted turn) c.in-Ended.is e.alone.1) turned in
    let come = subst (λ (turn : Turn). HasCome t asked passes ty f turn k begun v) c.in-Ended.is
    (resumed t asked passes ty f j k begun v c.in_ok-verdict.field-0 live.rests waiting e.ty e.script e.at e.log (e.turned v waiting.waits) e.begun e.alone) in
    let told_so = subst (λ (y : Verdict). HasTurned t asked k k v (Ended y)) end.1 turned in
    let runs : IsPrefix (t.meaning k.log.ty.now) f v k.at (heard k) = subst (λ (h : Behaviour). IsPrefix (t.meaning k.log.ty.now) h v k.at (heard k)) own.same_script told_so.3.1.runs in
    let most = few_on (t.meaning k.log.ty.now) t.valid (t.sizes k.log.ty.now) calls E.Cancel v k.at (heard k) waiting.waits.0.fit
    (waiting.waits.0.own.same_sizes ∙ sym (ap (λ (y : Bor g.row.T.Denot). t.sizes y.now) e.ty)) (λ d h. (g.met.T.TxType.valid_is k.log.ty.now d).1 h) runs in
    record {
      at = end.0;
      verdict = end.1;
      ended = ended_as t.meaning t.valid t.sizes script_in next_of left_of MayAskOf passes ty f k.log.body c.end-heard.result.body k.log.table.replies c.end-heard.result.replies x begun v c.end-heard.ensures.body c.end-heard.ensures.replies come.0;
      replies = ap (λ (l : Listed Reply). map plain_reply l.items) c.end-heard.ensures.replies ∙ same_replies calls (heard j) (heard k) all hears most ∙ before;
    }
