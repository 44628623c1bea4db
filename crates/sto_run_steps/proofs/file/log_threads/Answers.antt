use Rattle.std.specs.List.{flat_map}
use Rattle.std.proofs.Common.{rules, ◌≡◌, ℕ, List, ◌++◌, map, length, sym, ap, ◌∙◌, subst, arith}
use Rattle.sto_transaction.specs.Plain.{plain}
use Rattle.sto_history.specs.Records.{Record, times_written}
use Rattle.sto_history.specs.Counted.{times_committed, aborted_times}
use Rattle.sto_core.specs.Core.{Core}
use Rattle.sto_core.specs.Opened.{opened_core}
use Rattle.sto_plain.specs.Passes.{view_of}
use Rattle.sto_run_threads.specs.Worked.{HasWorked}
use Rattle.std.specs.Prelude.{Option}
use Rattle.sto_part.specs.Listed.{Listed}
use Rattle.sto_trace.specs.declared.Step.{Step}
use Rattle.sto_run_steps.specs.Logged.{kept}
use Rattle.sto_run_steps.specs.Seated.{AreSeated, AreOver, records_of}
use Rattle.sto_run_steps.specs.Turning.{HaveTurns, entry_turns, round_turns}
use Rattle.sto_run_steps.proofs.Reopened.{over_idle, over_made, over_reopened, all_records}
use Rattle.sto_run_steps.proofs.Turns.{turns_append}
use Rattle.sto_run_threads.specs.Plans.{MayDraw, IsPaced, draws_of}
use Rattle.sto_run_threads.proofs.Reopened.{back_at}
use Rattle.sto_run_steps.proofs.file.log_threads.Goals as goal

pub close-requires : goal.close-requires
close-requires g c =
    let plan = g.W.Work.plan c.args.work.now in let s = c.finish.new.self in
    let seated = subst (λ (d : Core). AreSeated plan (g.W.Attempts.fits c.args.work.now) d s.seats.items) (sym c.back.ensures) c.in_ok-finish.ensures.turns.1.seated in
    over_idle plan (g.W.Attempts.fits c.args.work.now) c.back.result s.seats.items seated c.in_ok-finish.ensures.over

pub run_left-requires-clause-free : goal.run_left-requires-clause-free
run_left-requires-clause-free g c =
    let plan = g.W.Work.plan c.args.work.now in let s = c.finish.new.self in
    let seated = subst (λ (d : Core). AreSeated plan (g.W.Attempts.fits c.args.work.now) d s.seats.items) (sym c.back.ensures) c.in_ok-finish.ensures.turns.1.seated in
    let k = over_reopened plan (g.W.Attempts.fits c.args.work.now) c.back.result s.seats.items seated c.in_ok-finish.ensures.over
    g.T.Naming.valid c.close.result c.at-pass.result.plain c.close.ensures.words c.close.ensures.closed (c.at-pass.ensures.plain ∙ c.in-Ok.ensures.ok) in
    subst (λ (n : ℕ). MayDraw plan (draws_of plan) (view_of c.at-pass.result.plain n)) (sym c.at-pass.ensures.pass) (record { rests = k.rests; draws = k.draws })

pub run_left-requires-clause-worked : goal.run_left-requires-clause-worked
run_left-requires-clause-worked g c =
    let plan = g.W.Work.plan c.args.work.now in let s = c.finish.new.self in
    let seated = subst (λ (d : Core). AreSeated plan (g.W.Attempts.fits c.args.work.now) d s.seats.items) (sym c.back.ensures) c.in_ok-finish.ensures.turns.1.seated in
    let k = over_reopened plan (g.W.Attempts.fits c.args.work.now) c.back.result s.seats.items seated c.in_ok-finish.ensures.over
    g.T.Naming.valid c.close.result c.at-pass.result.plain c.close.ensures.words c.close.ensures.closed (c.at-pass.ensures.plain ∙ c.in-Ok.ensures.ok) in
    let whole = ap (map plain) c.in_ok-records.ensures ∙ all_records s.seats.items in
    subst (λ (l : List Record). HasWorked plan (view_of c.at-pass.result.plain c.at-pass.result.pass) l) (sym whole)
    (subst (λ (n : ℕ). HasWorked plan (view_of c.at-pass.result.plain n) (flat_map records_of s.seats.items)) (sym c.at-pass.ensures.pass) k.worked)

pub run_left-requires-clause-tickets : goal.run_left-requires-clause-tickets
run_left-requires-clause-tickets g c =
    let plan = g.W.Work.plan c.args.work.now in let s = c.finish.new.self in
    let seated = subst (λ (d : Core). AreSeated plan (g.W.Attempts.fits c.args.work.now) d s.seats.items) (sym c.back.ensures) c.in_ok-finish.ensures.turns.1.seated in
    let k = over_reopened plan (g.W.Attempts.fits c.args.work.now) c.back.result s.seats.items seated c.in_ok-finish.ensures.over
    g.T.Naming.valid c.close.result c.at-pass.result.plain c.close.ensures.words c.close.ensures.closed (c.at-pass.ensures.plain ∙ c.in-Ok.ensures.ok) in
    let whole = ap (map plain) c.in_ok-records.ensures ∙ all_records s.seats.items in
    subst (λ (l : List Record). (t : ℕ) → times_written t l ≡ times_committed t (view_of c.at-pass.result.plain c.at-pass.result.pass).entries) (sym whole)
    (subst (λ (n : ℕ). (t : ℕ) → times_written t (flat_map records_of s.seats.items) ≡ times_committed t (view_of c.at-pass.result.plain n).entries) (sym c.at-pass.ensures.pass) k.tickets)

pub returns-clause-finished : goal.returns-clause-finished
returns-clause-finished g c =
    let zero : c.run_left.new.cells.pass ≡ 0 = c.run_left.ensures.same.0.0 ∙ c.at-pass.ensures.pass in
    let there = back_at c.back-words.result c.run_left.new.cells.plain c.run_left.new.cells.pass c.back-words.ensures zero in
    record {
      one = search rules;
      rests = search rules;
      finished = search rules;
      paced = subst (IsPaced (g.W.Work.plan c.args.work.now)) (sym there) c.in_ok-run_left.ensures.paced;
    }

pub returns-clause-alone : goal.returns-clause-alone
returns-clause-alone g c = λ one place.
    let plan = g.W.Work.plan c.args.work.now in let s = c.finish.new.self in
    let seated = subst (λ (d : Core). AreSeated plan (g.W.Attempts.fits c.args.work.now) d s.seats.items) (sym c.back.ensures) c.in_ok-finish.ensures.turns.1.seated in
    let k = over_reopened plan (g.W.Attempts.fits c.args.work.now) c.back.result s.seats.items seated c.in_ok-finish.ensures.over
    g.T.Naming.valid c.close.result c.at-pass.result.plain c.close.ensures.words c.close.ensures.closed (c.at-pass.ensures.plain ∙ c.in-Ok.ensures.ok) in
    let whole = ap (map plain) c.in_ok-records.ensures ∙ all_records s.seats.items in
    let many = seated.statuses in
    let a = c.in_ok-finish.ensures.turns.1.many in let b = c.in_ok-follow.ensures.turns.many in let d = c.in_ok-stage.ensures.many in
    let passes : length c.back.result.statuses ≡ 1 = omega (arith, one, many, a, b, d) in
    let none = k.alone passes place in
    let later = c.in_ok-run_left.ensures.none place in
    later ∙ ap (aborted_times place) whole ∙ none

pub returns-clause-stepped : goal.returns-clause-stepped
returns-clause-stepped g c =
    let valid = g.T.Naming.valid in let heard = g.W.Attempts.heard c.args.work.now in
    let first = c.in_ok-stage.stage in let followed = c.follow.new.self in let last = c.finish.new.self in
    let turns = flat_map entry_turns c.args.schedule.now in
    let rounds = c.in_ok-finish.ensures.turns.0 in
    let opened = c.in_ok-stage.ensures.opened ∙ ap (opened_core (g.T.Naming.sizes c.args.ty.now) c.args.contents.now.items) c.in_ok-stage.ensures.many in
    let many = c.in_ok-follow.ensures.turns.many in
    let whole = ap (map plain) c.in_ok-records.ensures ∙ all_records last.seats.items in
    record {
      seats = first.seats.items;
      many = c.in_ok-stage.ensures.many;
      new = c.in_ok-stage.ensures.begun;
      seated = subst (λ (d : Core). AreSeated (g.W.Work.plan c.args.work.now) (g.W.Attempts.fits c.args.work.now) d first.seats.items) opened c.in_ok-stage.ensures.seated;
      rounds = rounds;
      stepped = last.pass.cells.plain;
      later = last.seats.items;
      turns =
          subst (λ (d : Core). HaveTurns valid heard (turns ++ round_turns (length first.seats.items) rounds) d first.seats.items (kept c.args.log) last.pass.cells.plain last.seats.items (kept last.log)) opened
          (subst (λ (o : Option (Listed Step)). HaveTurns valid heard (turns ++ round_turns (length first.seats.items) rounds) first.pass.cells.plain first.seats.items (kept o) last.pass.cells.plain last.seats.items (kept last.log)) c.in_ok-stage.ensures.log
          (turns_append valid heard turns (round_turns (length first.seats.items) rounds) first.pass.cells.plain followed.pass.cells.plain last.pass.cells.plain first.seats.items followed.seats.items last.seats.items (kept first.log) (kept followed.log) (kept last.log) c.in_ok-follow.ensures.turns.turns
          (subst (λ (n : ℕ). HaveTurns valid heard (round_turns n rounds) followed.pass.cells.plain followed.seats.items (kept followed.log) last.pass.cells.plain last.seats.items (kept last.log)) many c.in_ok-finish.ensures.turns.1.turns)));
      over = subst (λ (n : ℕ). AreOver n last.seats.items) (c.in_ok-finish.ensures.turns.1.many ∙ many) c.in_ok-finish.ensures.over;
      still_seated = c.in_ok-finish.ensures.turns.1.seated;
      others = c.in_ok-run_left.ensures.in_order.new;
      records = c.in_ok-run_left.ensures.in_order.whole ∙ ap (λ (l : List Record). l ++ c.in_ok-run_left.ensures.in_order.new) whole;
      made = over_made (g.W.Work.plan c.args.work.now) (g.W.Attempts.fits c.args.work.now)
          last.pass.cells.plain last.seats.items c.in_ok-finish.ensures.turns.1.seated c.in_ok-finish.ensures.over;
      aborts = λ place. c.in_ok-run_left.ensures.none place ∙ ap (aborted_times place) whole;
    }
