use Rattle.std.proofs.Common.{rules, ◌≡◌, length, ℕ, sym, ap, ◌∙◌, subst}
use Rattle.std.proofs.lemmas.List.{length-map}
use Rattle.sto_history.specs.Records.{times_written}
use Rattle.sto_history.specs.Counted.{times_committed}
use Rattle.sto_transaction.specs.Plain.{plain}
use Rattle.sto_plain.specs.Passes.{view_of}
use Rattle.std.specs.List.{All}
use Rattle.sto_core.specs.declared.view.View.{View}
use Rattle.sto_run_threads.specs.Worked.{HasWorked, WasFound}
use Rattle.sto_run_threads.proofs.Accounts.{all_started}
use Rattle.sto_run_threads.proofs.Reopened.{reopened_whole, back_at}
use Rattle.sto_run_threads.specs.Plans.{MayDraw, IsPaced, draws_of}
use Rattle.sto_run_threads.specs.Told.{told_in}
use Rattle.sto_run_threads.specs.Teams.{view_at}
use Rattle.sto_run_threads.proofs.file.run_rest.Goals as goal

pub close-requires-clause-of : goal.close-requires-clause-of
close-requires-clause-of g c = c.requires.made.of

pub close-requires-clause-all : goal.close-requires-clause-all
close-requires-clause-all g c = c.requires.all.gathered

pub run_left-requires-clause-free : goal.run_left-requires-clause-free
run_left-requires-clause-free g c =
    let plan = g.W.Work.plan c.args.work.now in let made = c.requires.made in
    let v = view_at c.args.worked.rest in let rs = told_in c.args.worked.records in
    let k = reopened_whole plan (draws_of plan) c.args.shared.table.shared.key.passes c.in_ok-closed.closed v rs
    c.at-pass.result.plain (c.at-pass.ensures.plain ∙ c.in-Ok.ensures.ok) c.in_ok-closed.ensures.views c.args.worked.rest.live made.rests made.worked c.requires.all in
    subst (λ (n : ℕ). MayDraw plan (draws_of plan) (view_of c.at-pass.result.plain n)) (sym c.at-pass.ensures.pass) (record { rests = k.rests; draws = k.all.draws })

pub run_left-requires-clause-worked : goal.run_left-requires-clause-worked
run_left-requires-clause-worked g c =
    let plan = g.W.Work.plan c.args.work.now in let made = c.requires.made in
    let v = view_at c.args.worked.rest in let rs = told_in c.args.worked.records in
    let k = reopened_whole plan (draws_of plan) c.args.shared.table.shared.key.passes c.in_ok-closed.closed v rs
    c.at-pass.result.plain (c.at-pass.ensures.plain ∙ c.in-Ok.ensures.ok) c.in_ok-closed.ensures.views c.args.worked.rest.live made.rests made.worked c.requires.all in
    subst (λ (n : ℕ). HasWorked plan (view_of c.at-pass.result.plain n) rs) (sym c.at-pass.ensures.pass) k.worked

pub run_left-requires-clause-tickets : goal.run_left-requires-clause-tickets
run_left-requires-clause-tickets g c =
    let plan = g.W.Work.plan c.args.work.now in let made = c.requires.made in
    let v = view_at c.args.worked.rest in let rs = told_in c.args.worked.records in
    let k = reopened_whole plan (draws_of plan) c.args.shared.table.shared.key.passes c.in_ok-closed.closed v rs
    c.at-pass.result.plain (c.at-pass.ensures.plain ∙ c.in-Ok.ensures.ok) c.in_ok-closed.ensures.views c.args.worked.rest.live made.rests made.worked c.requires.all in
    subst (λ (n : ℕ). (t : ℕ) → times_written t rs ≡ times_committed t (view_of c.at-pass.result.plain n).entries) (sym c.at-pass.ensures.pass) k.all.tickets

pub returns-clause-finished : goal.returns-clause-finished
returns-clause-finished g c =
    let zero : c.run_left.new.cells.pass ≡ 0 = c.run_left.ensures.same.0.0 ∙ c.at-pass.ensures.pass in
    let there = back_at c.back.result c.run_left.new.cells.plain c.run_left.new.cells.pass c.back.ensures zero in
    record {
      one = search rules;
      rests = search rules;
      finished = search rules;
      paced = subst (IsPaced (g.W.Work.plan c.args.work.now)) (sym there) c.in_ok-run_left.ensures.paced;
    }

pub returns-clause-accounted : goal.returns-clause-accounted
returns-clause-accounted g c =
    let plan = g.W.Work.plan c.args.work.now in let made = c.requires.made in
    let v = view_at c.args.worked.rest in let rs = told_in c.args.worked.records in
    let k = reopened_whole plan (draws_of plan) c.args.shared.table.shared.key.passes c.in_ok-closed.closed v rs
    c.at-pass.result.plain (c.at-pass.ensures.plain ∙ c.in-Ok.ensures.ok) c.in_ok-closed.ensures.views c.args.worked.rest.live made.rests made.worked c.requires.all in
    let zero : c.run_left.new.cells.pass ≡ 0 = c.run_left.ensures.same.0.0 ∙ c.at-pass.ensures.pass in
    let first = subst (λ (n : ℕ). (view_of c.at-pass.result.plain n).starts ≡ length rs) (sym c.at-pass.ensures.pass) k.all.starts in
    let last = all_started _ _ rs (told_in c.run_left.new.records) c.in_ok-run_left.ensures.adds_up first in
    let done : (view_of c.run_left.new.cells.plain 0).starts ≡ length (told_in c.run_left.new.records) =
    subst (λ (n : ℕ). (view_of c.run_left.new.cells.plain n).starts ≡ length (told_in c.run_left.new.records)) zero last in
    record {
      starts = ap (λ (p : _). (view_of p 0).starts) c.back.ensures ∙ done ∙ length-map c.run_left.new.records.items plain;
      found =
          let there = back_at c.back.result c.run_left.new.cells.plain c.run_left.new.cells.pass c.back.ensures zero in
          subst (λ (u : View). All (WasFound u) (told_in c.run_left.new.records)) (sym there) c.in_ok-run_left.ensures.found;
    }
