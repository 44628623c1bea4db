use Rattle.std.proofs.Common.{◌≡◌, List, map, sym, subst}
use Rattle.sto_model.specs.PlainReplies.{plain_reply}
use Rattle.sto_model.specs.Run.{Behaviour}
use Rattle.sto_model.specs.declared.reply.Reply.{Reply}
use Rattle.sto_model.specs.declared.shape.Shape.{Shape}
use Rattle.sto_lang.specs.Views.{file as view, script as script_view, declaration}
use Rattle.sto_script.specs.Meaning.{meaning_of}
use Rattle.sto_report_spec.specs.Report.{abort_text}
use Rattle.sto_report_spec.specs.Short.{IsShortAbort}
use Rattle.sto_journal.specs.Journals.{cause}
use Rattle.sto_checker.specs.Heard.{AreHeard}
use Rattle.sto_checker.specs.Runnable.{CanRun}
use Rattle.sto_checker.proofs.SoundRuns.{sound_runnable}
use Rattle.sto_checker.specs.Reading.{place_of}
use Rattle.sto_checker.specs.Given.{MayBeAborted, IsHeard}
use Rattle.sto_checker.proofs.Judged.{made}
use Rattle.sto_checker.proofs.Hearing.{heard_all, not_enough, not_aborted, heard_by_text, decided, thread_inside, script_at, object_at, cause_named, home_declared}
use Rattle.sto_checker.proofs.heard.is_heard.Goals as goal

pub first_replies-requires-clause-fits : goal.first_replies-requires-clause-fits
first_replies-requires-clause-fits c =
    let at = script_at c.args.file.now c.args.given.now c.requires.placed c.get-2.result.now c.get-script.result.now c.get-2.ensures c.get-script.ensures in
    subst (λ (ss : List Shape). CanRun ss (script_view c.get-script.result.now)) (sym c.requires.shapes)
    ((sound_runnable (view c.args.file.now) c.requires.sound).scripts (place_of c.args.given.now.told.place) (script_view c.get-script.result.now) at)

pub returns-in_default-clause-heard : goal.returns-in_default-clause-heard
returns-in_default-clause-heard c =
    let at = script_at c.args.file.now c.args.given.now c.requires.placed c.get-2.result.now c.get-script.result.now c.get-2.ensures c.get-script.ensures in
    let stands = object_at c.args.file.now c.args.given.now c.requires.placed c.get.result.now c.get.ensures in
    let few = rw c.in_default.is at c.in_ok-replies.ensures.replies in (
      (λ e. absurd cc),
      (λ h. absurd (not_enough (view c.args.file.now) c.args.shapes.now.items c.args.state.now.items c.args.given.now (script_view c.get-script.result.now) (declaration c.get.result.now) c.requires.shapes at stands few h)),
    )

pub may_be_aborted-requires-clause-weighed : goal.may_be_aborted-requires-clause-weighed
may_be_aborted-requires-clause-weighed c =
    let at = script_at c.args.file.now c.args.given.now c.requires.placed c.get-2.result.now c.get-script.result.now c.get-2.ensures c.get-script.ensures in
    ((sound_runnable (view c.args.file.now) c.requires.sound).scripts (place_of c.args.given.now.told.place) (script_view c.get-script.result.now) at).weighed

pub may_be_aborted-requires-clause-heard : goal.may_be_aborted-requires-clause-heard
may_be_aborted-requires-clause-heard c =
    let meaning : Behaviour = meaning_of (script_view c.get-script.result.now) in
    let kept = rw c.in-Some.is at c.in_ok-replies.ensures.replies in
    let heard = heard_all c.args.shapes.now.items (script_view c.get-script.result.now) c.args.state.now.items c.args.given.now.told.heard in
    subst (λ (rs : List Reply). AreHeard meaning (map plain_reply rs)) (sym c.as_slice.ensures.items) (subst (AreHeard meaning) (sym kept.1) heard)

pub returns-then-not-branch-clause-heard : goal.returns-then-not-branch-clause-heard
returns-then-not-branch-clause-heard c =
    let at = script_at c.args.file.now c.args.given.now c.requires.placed c.get-2.result.now c.get-script.result.now c.get-2.ensures c.get-script.ensures in
    let stands = object_at c.args.file.now c.args.given.now c.requires.placed c.get.result.now c.get.ensures in
    let kept = rw c.in-Some.is at c.in_ok-replies.ensures.replies in
    let may_abort = rw c.if-not-branch.true at c.in_ok-may_be_aborted.ensures in (
      (λ e. absurd cc),
      (λ h. absurd (not_aborted (view c.args.file.now) c.args.shapes.now.items c.args.state.now.items c.args.given.now (script_view c.get-script.result.now) (declaration c.get.result.now) c.requires.shapes at stands
          (map plain_reply c.in-Some.replies.items) kept.0 kept.1
          (λ k. absurd (let no = may_abort.1
          (subst (λ (rs : List Reply). MayBeAborted c.get.result.now.number (meaning_of (script_view c.get-script.result.now)) (map plain_reply rs)) (sym c.as_slice.ensures.items) k) in cc)) h)),
    )

pub is_abort-requires-clause-known : goal.is_abort-requires-clause-known
is_abort-requires-clause-known c = (
  thread_inside c.args.file.now c.args.given.now c.requires.placed,
  home_declared c.args.file.now c.args.given.now c.requires.placed c.get.result.now c.get.ensures c.requires.sound c.cause_of.result c.cause_of.ensures,
)

pub returns-clause-heard : goal.returns-clause-heard
returns-clause-heard c =
    let file = view c.args.file.now in
    let given = c.args.given.now in
    let at = script_at c.args.file.now given c.requires.placed c.get-2.result.now c.get-script.result.now c.get-2.ensures c.get-script.ensures in
    let stands = object_at c.args.file.now given c.requires.placed c.get.result.now c.get.ensures in
    let kept = rw c.in-Some.is at c.in_ok-replies.ensures.replies in
    let may_abort = (rw c.if-not-branch.false at c.in_ok-may_be_aborted.ensures).0 cc in
    let named = cause_named c.args.file.now given c.requires.placed c.get.result.now c.get.ensures c.requires.sound c.cause_of.result c.cause_of.ensures in
    let a = made (place_of given.told.place) given.told.seen (map plain_reply c.in-Some.replies.items) (cause file.declarations c.cause_of.result) in
    decided c.is_abort.result (given.text.now ≡ abort_text file.names a) (IsHeard file c.args.state.now.items given) (IsShortAbort file.names a)
    (heard_by_text file c.args.shapes.now.items c.args.state.now.items given (script_view c.get-script.result.now) (declaration c.get.result.now) c.requires.shapes at stands
    (map plain_reply c.in-Some.replies.items) kept.0 kept.1 (cause file.declarations c.cause_of.result) named c.requires.sound
    (subst (λ (rs : List Reply). MayBeAborted c.get.result.now.number (meaning_of (script_view c.get-script.result.now)) (map plain_reply rs)) c.as_slice.ensures.items may_abort))
    c.is_abort.ensures.text c.is_abort.ensures.short
