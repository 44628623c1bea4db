use Rattle.std.proofs.Common.{ℕ, List, map, sym, ap, ◌∙◌, subst}
use Rattle.sto_model.specs.PlainReplies.{PlainReply, plain_reply}
use Rattle.sto_model.specs.Run.{Behaviour}
use Rattle.sto_model.specs.Objects.{machines_of}
use Rattle.sto_model.specs.Serial.{serial_run_of, has_written, is_writer_run}
use Rattle.sto_model.specs.declared.reply.Reply.{Reply}
use Rattle.sto_model.specs.declared.run.End.{End}
use Rattle.sto_lang.specs.Views.{script as view}
use Rattle.sto_script.specs.Meaning.{meaning_of}
use Rattle.sto_script.specs.Bodies.{script_of, left_at_reset_of}
use Rattle.sto_script.proofs.TakenCalls.{taken}
use Rattle.sto_checker.specs.Heard.{AreHeard}
use Rattle.sto_checker.proofs.Walks.{run_heard}
use Rattle.sto_checker.proofs.run_one.run_transaction.Goals as goal
use Rattle.sto_checker.proofs.run_one.run_transaction.Goals.{in-Commit, in-Cancel}

pub serial_run-requires-clause-taken : goal.serial_run-requires-clause-taken
serial_run-requires-clause-taken c = λ call may. taken c.args.shapes.now.items c.args.script.now.body c.requires.fits.taken call (c.in_ok-body.ensures.may call may)

pub has_written-writer-requires : goal.has_written-writer-requires
has_written-writer-requires c =
    let replies : List Reply = c.in_ok-outcome.outcome.replies.items in
    let heard = run_heard (machines_of c.args.shapes.now.items) (script_of c.in_ok-body.body) c.args.state.now.items (map plain_reply replies) c.in_ok-outcome.ensures.run.runs in
    let same = subst (λ (f : Behaviour). AreHeard f (map plain_reply replies)) (sym c.in_ok-outcome.ensures.script) heard in
    subst (λ (rs : List Reply). AreHeard (script_of c.serial_run.new.body) (map plain_reply rs)) (sym c.as_slice.ensures.items) same

pub returns-clause-run : goal.returns-clause-run
returns-clause-run c =
    let ms = machines_of c.args.shapes.now.items in
    ap (λ (n : ℕ). serial_run_of ms n (meaning_of (view c.args.script.now)) c.args.state.now.items) (sym c.in_ok-body.ensures.left_at_reset)
    ∙ ap (λ (f : Behaviour). serial_run_of ms (left_at_reset_of c.in_ok-body.body) f c.args.state.now.items) (sym c.in_ok-body.ensures.script)
    ∙ c.in_ok-outcome.ensures.computed

pub returns-clause-writer : goal.returns-clause-writer
returns-clause-writer c =
    let f : Behaviour = meaning_of (view c.args.script.now) in
    let rs : List PlainReply = map plain_reply c.in_ok-outcome.outcome.replies.items in
    elim c.match-outcome.branch [
      | in-Commit w ↦
          w.writer-is
          ∙ w.has_written-writer.ensures
          ∙ ap (λ (xs : List Reply). has_written (script_of c.serial_run.new.body) (map plain_reply xs)) w.as_slice.ensures.items
          ∙ ap (λ (g : Behaviour). has_written g rs) (c.in_ok-outcome.ensures.script ∙ c.in_ok-body.ensures.script)
          ∙ ap (λ (e : End). is_writer_run f rs e) (sym w.in-Commit.is)
      | in-Cancel w ↦ w.writer-is ∙ ap (λ (e : End). is_writer_run f rs e) (sym w.in-Cancel.is)
    ]
