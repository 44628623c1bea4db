use Rattle.std.proofs.Common.{rules, ◌≡◌, length, ◌∙◌, arith}
use Rattle.sto_core.specs.Opened.{opened_core}
use Rattle.sto_run_steps.proofs.Opening.{opened_seated}
use Rattle.sto_run_steps.proofs.file.open.Goals as goal

pub open-requires-clause-valid : goal.open-requires-clause-valid
open-requires-clause-valid g c = c.requires.opens.lawful

pub returns-clause-seated : goal.returns-clause-seated
returns-clause-seated g c =
    let seats = c.in_ok-seats.seats.items in let opens = c.requires.opens in
    let many = c.in_ok-seats.ensures.many in let few = c.requires.threads in
    let long : c.len.result ≡ length seats = search rules in
    opened_seated (g.W.Work.plan c.args.work.now) opens.few (g.W.Attempts.fits c.args.work.now) c.at.result.plain seats (omega (arith, many, few))
    (c.at.ensures.plain ∙ c.in_ok-words.ensures ∙ λ i. opened_core (opens.sized i) (opens.opened i) (long i)) c.in_ok-seats.ensures.begun

pub returns-clause-opened : goal.returns-clause-opened
returns-clause-opened g c =
    let long : c.len.result ≡ length c.in_ok-seats.seats.items = search rules in
    c.at.ensures.plain ∙ c.in_ok-words.ensures ∙ λ i. opened_core (g.T.Naming.sizes c.args.ty.now) c.args.contents.now.items (long i)
