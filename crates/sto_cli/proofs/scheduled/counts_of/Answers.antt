use Rattle.std.specs.Prelude.{None, Option}
use Rattle.std.proofs.Common.{◌≡◌, ◌≤◌, ℕ, rules, subst, arith, inl, inr}
use Rattle.sto_lang.specs.Views.{file as view}
use Rattle.sto_run.specs.Forms.{form_for}
use Rattle.sto_run_schedules.specs.Explored.{HasTooMany}
use Rattle.sto_run_schedules.proofs.ManySchedules.{many_with_more}
use Rattle.sto_cli.specs.Explorations.{most_schedules, IsCountAt}
use Rattle.sto_cli.proofs.scheduled.counts_of.Goals as goal

pub count_at-requires-clause-many : goal.count_at-requires-clause-many
count_at-requires-clause-many g c = λ is.
    let none : c.args.switches ≡ 0 = search (rules, is) in
    subst (λ (k : ℕ). HasTooMany (form_for c.args.json) (view c.args.file.now) c.args.tries k most_schedules) none c.requires.many

pub count_at-requires-2-clause-many : goal.count_at-requires-2-clause-many
count_at-requires-2-clause-many g c = λ known.
    let form = form_for c.args.json in
    let file = view c.args.file.now in
    let few : 0 ≤ 1 = omega arith in
    elim (c.are_many-many_with_one.ensures known) [
      | inl with_one ↦ many_with_more form file c.args.tries c.args.switches 1 most_schedules with_one c.requires.many
      | inr with_none ↦
          many_with_more form file c.args.tries 0 1 most_schedules few
          (subst (IsCountAt form file c.args.tries 0) with_none c.in_ok-none.ensures.count)
    ]

pub count_at-requires-3-clause-many : goal.count_at-requires-3-clause-many
count_at-requires-3-clause-many g c = λ known.
    let form = form_for c.args.json in
    let file = view c.args.file.now in
    let few : 1 ≤ 2 = omega arith in
    elim (c.are_many-many_with_two.ensures known) [
      | inl with_two ↦ many_with_more form file c.args.tries c.args.switches 2 most_schedules with_two c.requires.many
      | inr with_one ↦
          many_with_more form file c.args.tries 1 2 most_schedules few
          (subst (IsCountAt form file c.args.tries 1) with_one c.in_ok-one.ensures.count)
    ]
