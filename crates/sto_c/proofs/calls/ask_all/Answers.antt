-- Each call is told its reply, behind those before it.
use Rattle.std.proofs.Common.{◌≡◌, ℕ, ◌+◌, ◌<◌, ◌++◌, ◌∷◌, [], List, length, take, drop, pos, refl, sym, ap, ◌∙◌, subst, arith, append_assoc}
use Rattle.std.specs.Prelude.{slice_index_or, slice_set}
use Rattle.std.proofs.Math.Seq.{take-length}
use Rattle.std.proofs.lemmas.List.{take_more, take_more_set, drop-set-lt, length-take-le, length-set, take-append-drop}
use Rattle.sto_c.specs.declared.crossing.CallIn.{CallIn}
use Rattle.sto_c.specs.declared.crossing.ReplyOut.{ReplyOut}
use Rattle.sto_c.specs.Whole.{HaveAsked}
use Rattle.sto_c.proofs.Whole.{have_asked_more, have_asked_all}
use Rattle.sto_c.proofs.calls.ask_all.Goals as goal

abbrev no_call : CallIn
no_call = record { object = 0; operation = 0; numbers = 0; unused = 0; a = pos 0; b = pos 0 }

pub loop-at-init : goal.loop-at-init
loop-at-init c = record { worker = c.requires.worker; store = (refl, refl); long = refl; asked = refl; behind = refl }

pub returns-in-Err-clause-unanswered : goal.returns-in-Err-clause-unanswered
returns-in-Err-clause-unanswered c =
    let calls = c.args.calls.now in
    let n = c.loop-at.at in
    let given = slice_index_or calls n no_call in
    let there : n < length calls = omega (arith, c.loop-at-test.true) in
    record {
      before = take n calls;
      given = given;
      after = drop (n + 1) calls;
      replies = take n c.loop-at.replies;
      at = c.loop-at.held;
      all = sym (take-append-drop (n + 1) calls) ∙ ap (λ (l : List CallIn). l ++ drop (n + 1) calls) (take_more calls n no_call there) ∙ append_assoc (take n calls) (given ∷ []) (drop (n + 1) calls);
      asked = c.loop-at.invariant.asked;
      unanswered = c.in-Err.ensures.asked.0;
    }

pub loop-at-preserved : goal.loop-at-preserved
loop-at-preserved c =
    let i = c.loop-at.invariant in
    let calls = c.args.calls.now in
    let n = c.loop-at.at in
    let given = slice_index_or calls n no_call in
    let reply = c.ask.new.reply in
    let there : n < length calls = omega (arith, c.loop-at-test.true) in
    let room : n < length c.loop-at.replies = omega (arith, there, i.long, c.requires.room) in
    let same : length (take n c.loop-at.replies) ≡ length (take n calls) =
    length-take-le n c.loop-at.replies (omega (arith, room)) ∙ sym (length-take-le n calls (omega (arith, there))) in
    let more : HaveAsked (take n calls ++ given ∷ []) (take n c.loop-at.replies ++ reply ∷ []) c.args.held.now c.ask.new.held =
    have_asked_more (take n calls) (take n c.loop-at.replies) given reply c.args.held.now c.loop-at.held c.ask.new.held same i.asked c.in-Ok.ensures.asked in
    record {
      worker = c.ask.ensures.worker;
      store = (c.ask.ensures.store.0 ∙ i.store.0, c.ask.ensures.store.1 ∙ i.store.1);
      long = length-set c.loop-at.replies n reply ∙ i.long;
      asked =
          subst (λ (l : List CallIn). HaveAsked l (take (n + 1) (slice_set c.loop-at.replies n reply)) c.args.held.now c.ask.new.held) (sym (take_more calls n no_call there))
          (subst (λ (l : List ReplyOut). HaveAsked (take n calls ++ given ∷ []) l c.args.held.now c.ask.new.held) (sym (take_more_set c.loop-at.replies n reply room)) more);
      behind = drop-set-lt (length calls) c.loop-at.replies n reply there ∙ i.behind;
    }

pub returns-clause-asked : goal.returns-clause-asked
returns-clause-asked c =
    let calls = c.args.calls.now in
    let replies = c.loop-at.replies in
    let all : c.loop-at.at ≡ length calls = omega (arith, c.loop-at.auto.at-end, c.loop-at-test.false) in
    have_asked_all calls replies c.args.held.now c.loop-at.held
    (subst (λ (l : List CallIn). HaveAsked l (take (length calls) replies) c.args.held.now c.loop-at.held) (take-length calls)
    (subst (λ (n : ℕ). HaveAsked (take n calls) (take n replies) c.args.held.now c.loop-at.held) all c.loop-at.invariant.asked))
