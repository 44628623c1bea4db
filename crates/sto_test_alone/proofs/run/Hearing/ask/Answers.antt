use Rattle.std.proofs.Common.{arith, refl, ap, sym, subst, ◌∙◌, ◌≡◌, ◌++◌, ◌∷◌, [], length, map, append_assoc, append-nil, length-append}
use Rattle.std.proofs.lemmas.List.{map-append, length-map}
use Rattle.sto_item.specs.Pending.{applied_updates}
use Rattle.sto_item.specs.Rebase.{rebased, HoldsWherePut}
use Rattle.sto_model.specs.PlainReplies.{plain_reply}
use Rattle.sto_model.specs.Run.{IsAsk}
use Rattle.sto_model.specs.declared.body.Next.TheVariants.{Ask}
use Rattle.sto_type.specs.Runs.{Answered, IsAnswer}
use Rattle.sto_type.proofs.Carrying.{HoldsWherePut-true}
use Rattle.sto_test_alone.proofs.Whole.{run_here, call_true_here, updates_fit, carried_more, observes_more}
use Rattle.sto_test_alone.proofs.run.Hearing.ask.Goals as goal

pub ask_call-requires : goal.ask_call-requires
ask_call-requires g c =
    let m = g.T.TxType.meaning c.args.ty.now in
    let law = g.met.T.TxType.lawful c.args.ty.now in
    let f = g.B.Body.script c.args.body.now in
    let parts = c.args.contents.now.items in
    let was = c.requires.along in
    let items = c.args.self.now.items.items in
    let es = c.args.self.now.pending.updates in
    let rs = map plain_reply c.args.self.now.replies.items in
    let on = run_here m f parts items es rs c.requires.valid was.carried in
    record { takes = c.requires.takes; ordered = on.ordered; widths = on.widths; valid = on.valid }

pub rebase-requires : goal.rebase-requires
rebase-requires g c =
    let m = g.T.TxType.meaning c.args.ty.now in
    let law = g.met.T.TxType.lawful c.args.ty.now in
    let f = g.B.Body.script c.args.body.now in
    let parts = c.args.contents.now.items in
    let was = c.requires.along in
    let items = c.args.self.now.items.items in
    let es = c.args.self.now.pending.updates in
    let rs = map plain_reply c.args.self.now.replies.items in
    let on = run_here m f parts items es rs c.requires.valid was.carried in
    let step = c.in_ok-step.ensures in
    subst (λ is. HoldsWherePut es is) (sym step.plan.1) (HoldsWherePut-true es (m.items c.args.call.now step.known) parts on.ordered.0 on.widths (call_true_here m law f parts es rs c.args.call.now step.known on c.requires.takes step.part step.plan.0))

pub add_updates-requires : goal.add_updates-requires
add_updates-requires g c =
    let m = g.T.TxType.meaning c.args.ty.now in
    let law = g.met.T.TxType.lawful c.args.ty.now in
    let f = g.B.Body.script c.args.body.now in
    let parts = c.args.contents.now.items in
    let was = c.requires.along in
    let items = c.args.self.now.items.items in
    let es = c.args.self.now.pending.updates in
    let rs = map plain_reply c.args.self.now.replies.items in
    let on = run_here m f parts items es rs c.requires.valid was.carried in
    let step = c.in_ok-step.ensures in
    let says = step.plan.2 (applied_updates es parts) on.valid step.part in
    record {
      ordered = on.ordered;
      pending = on.widths;
      widths = rw says.1 (updates_fit m law f parts es rs c.args.call.now on c.requires.takes);
      few = c.requires.few;
    }

pub hear-requires : goal.hear-requires
hear-requires g c = subst IsAsk (sym c.requires.next) tt

pub push-requires : goal.push-requires
push-requires g c = omega (arith, c.requires.along.few, c.hear.ensures.left, length-map c.args.self.now.replies.items plain_reply)

pub returns-clause-along : goal.returns-clause-along
returns-clause-along g c =
    let m = g.T.TxType.meaning c.args.ty.now in
    let law = g.met.T.TxType.lawful c.args.ty.now in
    let f = g.B.Body.script c.args.body.now in
    let parts = c.args.contents.now.items in
    let was = c.requires.along in
    let items = c.args.self.now.items.items in
    let es = c.args.self.now.pending.updates in
    let rs = map plain_reply c.args.self.now.replies.items in
    let on = run_here m f parts items es rs c.requires.valid was.carried in
    let takes = c.requires.takes in
    let call = c.args.call.now in
    let step = c.in_ok-step.ensures in
    let reply = plain_reply c.in_ok-step.step.reply in
    let asks : f rs ≡ Ask call = ap f (sym (append-nil rs)) ∙ sym (was.then []) ∙ c.requires.next in
    let more : map plain_reply c.push.new.self.items ≡ rs ++ reply ∷ [] = ap (map plain_reply) c.in_ok-push.ensures.ok ∙ map-append plain_reply c.args.self.now.replies.items (c.in_ok-step.step.reply ∷ []) in
    let carried = carried_more m law f parts items es rs call step.known c.requires.valid was.carried takes step.part step.plan.0 reply c.in_ok-step.step.updates.items step.plan.2 asks in
    let added = c.in_ok-add_items.ensures ∙ ap (λ l. items ++ l) (c.in_ok-rebase.ensures.items ∙ ap (rebased es) step.plan.1) in
    let says = step.plan.2 (applied_updates es parts) on.valid step.part in
    let a : Answered = record { call = call; found = applied_updates es parts; known = step.known } in
    let answer : IsAnswer m f rs reply a = record { asks = asks; ready = record { takes = takes; valid = on.valid; part = step.part; done = step.plan.0 }; says = says.0 } in
    let observes = observes_more m f parts items es rs reply a c.in_ok-step.step.updates.items was.observes answer refl says.1 in
    record {
      then = λ xs. c.hear.ensures.then xs ∙ was.then (reply ∷ xs) ∙ ap f (sym (append_assoc rs (reply ∷ []) xs) ∙ ap (λ l. l ++ xs) (sym more));
      carried = rw (more, added, c.in_ok-add_updates.ensures) carried;
      observes = rw (more, added, c.in_ok-add_updates.ensures) observes;
      few = omega (arith, was.few, c.hear.ensures.left, ap length more, length-append rs (reply ∷ []));
    }
