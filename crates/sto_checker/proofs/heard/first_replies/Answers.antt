use Rattle.std.proofs.Common.{◌≡◌, ℕ, List, length, ap, ◌∙◌, arith}
use Rattle.sto_model.specs.PlainReplies.{PlainReply}
use Rattle.sto_model.specs.Objects.{machines_of}
use Rattle.sto_model.specs.Run.{Behaviour}
use Rattle.sto_model.specs.Serial.{serial_run_of}
use Rattle.sto_lang.specs.Views.{script as script_view}
use Rattle.sto_script.specs.Meaning.{meaning_of}
use Rattle.sto_script.specs.Bodies.{script_of}
use Rattle.sto_script.proofs.TakenCalls.{taken}
use Rattle.sto_checker.proofs.Hearing.{too_few, first_heard}
use Rattle.sto_checker.proofs.heard.first_replies.Goals as goal

pub replies_of-requires-clause-taken : goal.replies_of-requires-clause-taken
replies_of-requires-clause-taken c = λ call may. taken c.args.shapes.now.items c.args.script.now.body c.requires.fits.taken call (c.in_ok-body.ensures.may call may)

pub returns-then-len-count-clause-replies : goal.returns-then-len-count-clause-replies
returns-then-len-count-clause-replies c =
    let heard : ℕ → Behaviour → List PlainReply = λ n f. (serial_run_of (machines_of c.args.shapes.now.items) n f c.args.state.now.items).replies in
    let meaning = meaning_of (script_view c.args.script.now) in
    let kept = c.in_ok-replies.ensures.replies ∙ ap (λ (n : ℕ). heard n (script_of c.in_ok-body.body)) c.in_ok-body.ensures.left_at_reset ∙ ap (heard c.args.script.now.weight) c.in_ok-body.ensures.script in
    too_few (heard c.args.script.now.weight meaning) c.in_ok-replies.replies.items c.args.count kept (omega (arith, c.len.ensures, c.if-len-count.true))

pub returns-clause-replies : goal.returns-clause-replies
returns-clause-replies c =
    let heard : ℕ → Behaviour → List PlainReply = λ n f. (serial_run_of (machines_of c.args.shapes.now.items) n f c.args.state.now.items).replies in
    let meaning = meaning_of (script_view c.args.script.now) in
    let kept = c.in_ok-replies.ensures.replies ∙ ap (λ (n : ℕ). heard n (script_of c.in_ok-body.body)) c.in_ok-body.ensures.left_at_reset ∙ ap (heard c.args.script.now.weight) c.in_ok-body.ensures.script in
    let count_is : length c.loop-replies.replies.items ≡ c.args.count = omega (arith, c.loop-replies.invariant.enough, c.loop-replies-test.false, c.len-in-loop-replies.ensures) in
    first_heard (heard c.args.script.now.weight meaning) c.in_ok-replies.replies.items c.args.count kept c.loop-replies.replies.items c.loop-replies.invariant.front.0 c.loop-replies.invariant.front.1 count_is
