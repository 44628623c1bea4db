-- It goes on to its commit, or to its end, without a further call.
use Rattle.std.proofs.Common.{map, ap, ◌∙◌}
use Rattle.sto_part.specs.Listed.{Listed}
use Rattle.sto_model.specs.PlainReplies.{plain_reply}
use Rattle.sto_model.specs.declared.reply.Reply.{Reply}
use Rattle.sto_model.specs.declared.run.End.TheVariants as E
use Rattle.sto_type.specs.Traits.{of_type}
use Rattle.sto_attempt_log.specs.declared.log.Log.{Log}
use Rattle.sto_attempt_log.proofs.Reading.{always_err}
use Rattle.sto_transaction.specs.Machines.{HasStopped}
use Rattle.sto_transaction.proofs.Steps.{seals, ended_as}
use Rattle.sto_interactive.specs.declared.asked_calls.AskedCalls.{AskedCalls}
use Rattle.sto_interactive.specs.Scripts.{script_of}
use Rattle.sto_interactive.specs.Bodies.{next_of, script_in, left_of, MayAskOf, asked}
use Rattle.sto_interactive.proofs.Coming.{waiting_stops}
use Rattle.sto_interactive.proofs.Committing.{as_before, none_wanting, is_ready, ends_so}
use Rattle.sto_interactive.proofs.live.Live.commit.Goals as goal

pub returns-in_err-resume-clause-err : goal.returns-in_err-resume-clause-err
returns-in_err-resume-clause-err g c ty calls rs begun live =
    let t = of_type g.T.Naming g.T.TxType in
    let v = g.C.Cells.view c.args.cells.now in
    always_err c.from_residual.result (HasStopped (t.meaning ty) (t.sizes ty) begun v) (waiting_stops t asked ty (script_of calls E.Commit) c.args.self.attempt begun v live.rests live.waiting)

pub seal-requires-clause-log : goal.seal-requires-clause-log
seal-requires-clause-log g c =
    let t = of_type g.T.Naming g.T.TxType in
    let r = c.requires in
    let v = g.C.Cells.view c.args.cells.now in
    let e = c.in_ok-resume.ensures in
    (is_ready t r.0 r.1 r.2 c.args.self c.resume.new.self r.3 v r.4 e.ty e.script e.at e.log e.grown e.begun c.in_ok-resume.field-0 e.alone (e.turned v r.4.waiting.waits) c.in-Ready.is).own.log

pub seal-requires-clause-fits : goal.seal-requires-clause-fits
seal-requires-clause-fits g c =
    let t = of_type g.T.Naming g.T.TxType in
    let r = c.requires in
    let v = g.C.Cells.view c.args.cells.now in
    let e = c.in_ok-resume.ensures in
    (v, (is_ready t r.0 r.1 r.2 c.args.self c.resume.new.self r.3 v r.4 e.ty e.script e.at e.log e.grown e.begun c.in_ok-resume.field-0 e.alone (e.turned v r.4.waiting.waits) c.in-Ready.is).fits)

pub finish-requires : goal.finish-requires
finish-requires g c =
    let t = of_type g.T.Naming g.T.TxType in
    let r = c.requires in
    let v = g.C.Cells.view c.args.cells.now in
    let k = c.resume.new.self in
    let e = c.in_ok-resume.ensures in
    let s = c.in-Ok.ensures in
    let f = script_of r.1 E.Commit in
    let ready = is_ready t r.0 r.1 r.2 c.args.self k r.3 v r.4 e.ty e.script e.at e.log e.grown e.begun c.in_ok-resume.field-0 e.alone (e.turned v r.4.waiting.waits) c.in-Ready.is in
    let before = s.before v ready.fits in (
      r.0,
      f,
      r.3,
      r.4.rests,
      seals t.meaning t.valid t.sizes script_in next_of left_of MayAskOf (g.C.Cells.passes c.args.cells.now) r.0 f k c.in-Ok.ready r.3 v ready s.log s.at before.stands before.space before.copy s.undisturbed,
    )

pub returns-in-Ok-clause-committed : goal.returns-in-Ok-clause-committed
returns-in-Ok-clause-committed g c ty calls rs begun live =
    let t = of_type g.T.Naming g.T.TxType in
    let passes = g.C.Cells.passes c.args.cells.now in
    let v = g.C.Cells.view c.args.cells.now in
    let k = c.resume.new.self in
    let e = c.in_ok-resume.ensures in
    let s = c.in-Ok.ensures in
    let f = script_of calls E.Commit in
    let turned = e.turned v live.waiting.waits in
    let ready = is_ready t ty calls rs c.args.self k begun v live e.ty e.script e.at e.log e.grown e.begun c.in_ok-resume.field-0 e.alone turned c.in-Ready.is in
    let before = s.before v ready.fits in
    let commits = seals t.meaning t.valid t.sizes script_in next_of left_of MayAskOf passes ty f k c.in-Ok.ready begun v ready s.log s.at before.stands before.space before.copy s.undisturbed in
    let same = as_before t ty calls rs c.args.self k begun v live e.ty e.script e.at e.log e.grown e.begun c.in_ok-resume.field-0 e.alone turned (λ d h. (g.met.T.TxType.valid_is k.log.ty.now d).1 h) in
    record {
      ended = c.finish.ensures.ended ty f begun live.rests commits;
      replies = ap (λ (l : Listed Reply). map plain_reply l.items) c.finish.ensures.replies ∙ ap (λ (l : Log g.row.T.Denot AskedCalls). map plain_reply l.table.replies.items) s.log ∙ same;
    }

pub returns-in-Err-clause-err : goal.returns-in-Err-clause-err
returns-in-Err-clause-err g c ty calls rs begun live =
    waiting_stops (of_type g.T.Naming g.T.TxType) asked ty (script_of calls E.Commit) c.args.self.attempt begun (g.C.Cells.view c.args.cells.now) live.rests live.waiting

pub returns-in-Ended-clause-committed : goal.returns-in-Ended-clause-committed
returns-in-Ended-clause-committed g c ty calls rs begun live =
    let t = of_type g.T.Naming g.T.TxType in
    let passes = g.C.Cells.passes c.args.cells.now in
    let v = g.C.Cells.view c.args.cells.now in
    let k = c.resume.new.self in
    let e = c.in_ok-resume.ensures in
    let x = c.in-Ended.verdict in
    let f = script_of calls E.Commit in
    let turned = e.turned v live.waiting.waits in
    let ends = ends_so t ty calls rs c.args.self k begun v live e.ty e.script e.at e.log e.grown e.begun c.in_ok-resume.field-0 e.alone turned passes x c.in-Ended.is in
    let same = as_before t ty calls rs c.args.self k begun v live e.ty e.script e.at e.log e.grown e.begun c.in_ok-resume.field-0 e.alone turned (λ d h. (g.met.T.TxType.valid_is k.log.ty.now d).1 h) in
    record {
      ended = ended_as t.meaning t.valid t.sizes script_in next_of left_of MayAskOf passes ty f k.log.body c.end-heard.result.body k.log.table.replies c.end-heard.result.replies x begun v c.end-heard.ensures.body c.end-heard.ensures.replies ends;
      replies = ap (λ (l : Listed Reply). map plain_reply l.items) c.end-heard.ensures.replies ∙ same;
    }

pub unreachable-requires : goal.unreachable-requires
unreachable-requires g c =
    let t = of_type g.T.Naming g.T.TxType in
    let r = c.requires in
    let v = g.C.Cells.view c.args.cells.now in
    let e = c.in_ok-resume.ensures in
    none_wanting t r.0 r.1 r.2 c.args.self c.resume.new.self r.3 v r.4 e.ty e.script e.at e.log e.grown e.begun c.in_ok-resume.field-0 e.alone (e.turned v r.4.waiting.waits) c.in-More.is
