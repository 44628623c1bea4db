use Rattle.std.specs.List.{All, AllZip}
use Rattle.std.proofs.Common.{◌≡◌, ◌<◌, ◌++◌, ◌∷◌, [], List, length, get_or, map-id, sym, ◌∙◌, subst, rules}
use Rattle.std.proofs.lemmas.Iterator.Adapters.{YieldsList-from_vec}
use Rattle.std.proofs.lemmas.Iterator.Consumers.{YieldsList-turn, YieldsList-end}
use Rattle.sto_run.specs.Forms.{form_for}
use Rattle.sto_orders.specs.declared.outcome.Outcome.{Outcome}
use Rattle.sto_orders.specs.Outcomes.{IsOrderOutcome}
use Rattle.sto_run_orders.specs.Ready.{file_of, tries_of}
use Rattle.sto_run_orders.specs.declared.report.OrderReport.{OrderReport}
use Rattle.sto_run_orders.specs.Reports.{IsOutcomeReport}
use Rattle.sto_run_orders.proofs.Reporting.{zipped_more}
use Rattle.sto_run_orders.proofs.runs.OrderRuns.reports_of.Goals as goal

pub report_of-requires-clause-outcome : goal.report_of-requires-clause-outcome
report_of-requires-clause-outcome c =
    let all : List Outcome = c.args.outcomes.items in
    let t = YieldsList-turn (YieldsList-from_vec all (cc) (cc)) c.loop-outcome.yielded c.loop-outcome.outcome-iterator c.loop-outcome.yielded_by c.next.result c.next.new.self c.in-Some.outcome c.in-Some.is c.next.ensures.steps in
    subst (IsOrderOutcome (file_of c.args.self.now)) (sym t.1) (c.requires.outcomes (length c.loop-outcome.yielded) c.in-Some.outcome t.0)

pub loop-outcome-preserved : goal.loop-outcome-preserved
loop-outcome-preserved c =
    let r = c.args.self.now in
    let Tells : Outcome → OrderReport → Type 0 = IsOutcomeReport r.by (form_for r.json) (file_of r) (tries_of r) in
    let added : c.push.new.self.items ≡ c.loop-outcome.reports.items ++ c.in_ok-report.report ∷ [] = search rules in
    subst (λ (rs : List OrderReport). AllZip Tells (c.loop-outcome.yielded ++ c.in-Some.outcome ∷ []) rs) (sym added)
    (zipped_more Tells c.loop-outcome.yielded c.loop-outcome.reports.items c.in-Some.outcome c.in_ok-report.report c.loop-outcome.invariant c.in_ok-report.ensures)

pub returns : goal.returns
returns c =
    let r = c.args.self.now in
    let all : List Outcome = c.args.outcomes.items in
    let t = YieldsList-end (YieldsList-from_vec all (cc) (cc)) c.loop-outcome.yielded c.loop-outcome.outcome-iterator c.loop-outcome.yielded_by c.next.result c.next.new.self c.in-None.is c.next.ensures.steps in
    subst (λ (os : List Outcome). AllZip (IsOutcomeReport r.by (form_for r.json) (file_of r) (tries_of r)) os c.loop-outcome.reports.items) (sym (map-id c.loop-outcome.yielded) ∙ t.0) c.loop-outcome.invariant
