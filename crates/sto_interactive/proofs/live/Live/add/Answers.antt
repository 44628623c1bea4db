-- The body has the calls so far and one more.
use Rattle.std.proofs.Common.{◌≡◌, List, [], ◌∷◌, ◌++◌, length, inl, inr, ap, ◌∙◌, subst}
use Rattle.std.proofs.lemmas.List.Elements.{Contains-push_cases}
use Rattle.sto_model.specs.declared.call.Call.{Call}
use Rattle.sto_model.specs.declared.run.End.TheVariants as E
use Rattle.sto_model.specs.PlainReplies.{PlainReply}
use Rattle.sto_core.specs.declared.view.View.{View}
use Rattle.sto_type.specs.Traits.{of_type}
use Rattle.sto_attempt_log.proofs.Stepping.{ok_map}
use Rattle.sto_attempt.specs.declared.attempt.Attempt.{Attempt}
use Rattle.sto_interactive.specs.declared.asked_calls.AskedCalls.{AskedCalls}
use Rattle.sto_interactive.specs.Scripts.{script_of}
use Rattle.sto_interactive.specs.Bodies.{asked}
use Rattle.sto_interactive.specs.Waiting.{IsWaiting}
use Rattle.sto_interactive.specs.Lives.{IsLive}
use Rattle.sto_interactive.proofs.Adding.{same_body, waits_given, taken_so_far}
use Rattle.sto_interactive.proofs.live.Live.add.Goals as goal

pub returns-clause-added : goal.returns-clause-added
returns-clause-added g c =
    let t = of_type g.T.Naming g.T.TxType in
    let a = c.args.self.now.attempt in
    let b = c.add-added.new.self in
    let call = c.args.call in
    let old : c.replace_body-body.result ≡ a.log.body = c.replace_body-body.ensures.old in
    let given : c.replace_body.new.self ≡ record a { log = record a.log { body = b } } =
    c.replace_body.ensures.new ∙ ap (λ (x : Attempt g.row.T.Denot AskedCalls). record x { log = record x.log { body = b } }) c.replace_body-body.ensures.new in
    ok_map c.add-added.result (b.calls.items ≡ c.replace_body-body.result.calls.items ++ call ∷ [])
    ((ty : g.row.T.Denot) (calls : List Call) (rs : List PlainReply) (begun v : View) → IsLive t ty calls rs c.args.self.now begun v → (t.meaning ty).takes call
    → IsWaiting t asked ty (script_of (calls ++ call ∷ []) E.Commit) c.replace_body.new.self begun v)
    (λ has ty calls rs begun v live takes.
    let own = live.waiting.own in
    let same = same_body a.log.body calls E.Commit own.same_script in
    waits_given t ty a calls E.Commit own begun v live.waiting (ap (λ (l : List PlainReply). length l) live.replies ∙ live.all) (call ∷ []) E.Commit
    (λ other there. elim (Contains-push_cases calls call other there) [
      | inl before ↦ taken_so_far t ty a calls E.Commit own other before
      | inr last ↦ subst (λ (x : Call). (t.meaning ty).takes x) last takes
    ])
    b (has ∙ ap (λ (x : AskedCalls). x.calls.items ++ call ∷ []) old ∙ ap (λ (l : List Call). l ++ call ∷ []) same.same_calls)
    (c.add-added.ensures.end ∙ ap (λ (x : AskedCalls). x.end) old ∙ same.same_ends)
    (c.add-added.ensures.heard ∙ ap (λ (x : AskedCalls). x.heard) old) c.replace_body.new.self given)
    c.add-added.ensures.calls
