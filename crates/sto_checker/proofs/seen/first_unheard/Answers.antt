use Rattle.std.proofs.Common.{◌≡◌, ◌+◌, ℕ, List, length, refl, sym, ap, ◌∙◌, subst, None, slice_get, arith}
use Rattle.std.proofs.lemmas.List.{length-map}
use Rattle.std.proofs.lemmas.Option.{slice_get_read}
use Rattle.sto_model.specs.SequentialObjects.{opening_of}
use Rattle.sto_model.specs.Objects.{machines_of}
use Rattle.sto_model.specs.declared.shape.Shape.{Shape}
use Rattle.sto_part.specs.Listed.{Listed}
use Rattle.sto_lang.specs.Views.{file as view}
use Rattle.sto_report_spec.specs.Orders.{TransactionPlace}
use Rattle.sto_report_spec.specs.Replay.{opening_state}
use Rattle.sto_journal.specs.Journals.{places}
use Rattle.sto_checker.specs.declared.progress.Progress.{Progress}
use Rattle.sto_checker.proofs.Places.{length-threads}
use Rattle.sto_checker.proofs.SoundRuns.{sound_runnable}
use Rattle.sto_checker.specs.Shown.{IsAlong}
use Rattle.sto_checker.specs.Seen.{IsFirstUnheard}
use Rattle.sto_checker.proofs.Taken.{places_long}
use Rattle.sto_checker.proofs.AbortWalk.{none_wrong, seen_inside}
use Rattle.sto_checker.proofs.Replays.{writers_few, along_none, along_more, all_run, not_more, line_inside, walked_on, is_next, is_same}
use Rattle.sto_checker.proofs.seen.first_unheard.Goals as goal
use Rattle.sto_checker.proofs.seen.first_unheard.Goals.{then-before-run+in_ok-wrong-2, else-before-run}

pub by_seen-requires-clause-writers : goal.by_seen-requires-clause-writers
by_seen-requires-clause-writers c =
    let few = writers_few (view c.args.file.now) 0 (opening_state (view c.args.file.now)) (places c.args.lines.now) in
    let long = places_long c.args.lines.now in
    omega (arith, few, long, c.requires.writers, c.requires.few_lines)

pub first_wrong-requires-clause-inside : goal.first_wrong-requires-clause-inside
first_wrong-requires-clause-inside c =
    seen_inside c.args.aborts.now (length c.args.aborts.now) c.args.writers c.in_ok-seen.seen.items c.in_ok-seen.ensures 0 c.get.result.now c.as_slice-places.result.now c.get.ensures c.as_slice-places.ensures.items

pub loop-line-init : goal.loop-line-init
loop-line-init c =
    let file = view c.args.file.now in
    let run : Progress = record { lines = c.in_ok-run.run'.lines; writers = c.in_ok-run.run'.writers; state = c.first_wrong.new.state } in
    let zero_writers = c.in_ok-run.ensures.writers in
    let same = ap (λ (s : Listed _). s.items) c.first_wrong.ensures.state in
    let opening = same ∙ c.in_ok-run.ensures.state ∙ ap (λ (ss : List Shape). opening_of (machines_of ss)) c.requires.shapes in
    let along : IsAlong file (places c.args.lines.now) run = along_none file c.args.lines.now run c.in_ok-run.ensures.lines zero_writers opening in
    let at = ap (slice_get c.in_ok-seen.seen.items) zero_writers ∙ c.get.ensures in
    let none = subst (λ (n : ℕ). IsFirstUnheard file (places c.args.lines.now) c.args.aborts.now n None) (sym zero_writers) (none_wrong file (places c.args.lines.now) c.args.aborts.now) in
    record {
      along = along;
      count = ap length c.in_ok-run.ensures.lines;
      first = walked_on file c.args.lines.now c.args.aborts.now run c.args.writers c.in_ok-seen.seen.items c.get.result.now c.as_slice-places.result.now c.in_ok-run.run'.state.items None c.in_ok-wrong.wrong along c.in_ok-seen.ensures
          at c.as_slice-places.ensures.items (sym same) none c.in_ok-wrong.ensures.first;
    }

pub run_one-requires-clause-runnable : goal.run_one-requires-clause-runnable
run_one-requires-clause-runnable c = sound_runnable (view c.args.file.now) c.requires.sound

pub run_one-requires-clause-thread : goal.run_one-requires-clause-thread
run_one-requires-clause-thread c =
    let at = slice_get_read c.args.lines.now (length c.args.lines.now) c.loop-line.line-index c.line-item.result refl c.loop-line-test.true c.line-item.is in
    let i = line_inside (view c.args.file.now) c.args.lines.now c.loop-line.line-index c.line-item.result c.requires.inside at in
    omega (arith, i.thread, length-threads c.args.file.now.threads.items)

pub run_one-requires-clause-first : goal.run_one-requires-clause-first
run_one-requires-clause-first c =
    let at = slice_get_read c.args.lines.now (length c.args.lines.now) c.loop-line.line-index c.line-item.result refl c.loop-line-test.true c.line-item.is in
    (line_inside (view c.args.file.now) c.args.lines.now c.loop-line.line-index c.line-item.result c.requires.inside at).first

pub run_one-requires-clause-last : goal.run_one-requires-clause-last
run_one-requires-clause-last c =
    let at = slice_get_read c.args.lines.now (length c.args.lines.now) c.loop-line.line-index c.line-item.result refl c.loop-line-test.true c.line-item.is in
    (line_inside (view c.args.file.now) c.args.lines.now c.loop-line.line-index c.line-item.result c.requires.inside at).last

pub get-requires-then-before-run : goal.get-requires-then-before-run
get-requires-then-before-run c =
    let at = slice_get_read c.args.lines.now (length c.args.lines.now) c.loop-line.line-index c.line-item.result refl c.loop-line-test.true c.line-item.is in
    let along = along_more (view c.args.file.now) c.args.lines.now c.loop-line.run c.run_one.new.self c.line-item.result c.loop-line.invariant.along (ap (slice_get c.args.lines.now) c.loop-line.invariant.count ∙ at)
    c.in_ok-run_one.ensures.so_far c.in_ok-run_one.ensures.placed c.in_ok-run_one.ensures.counted in
    let most = not_more (view c.args.file.now) c.args.lines.now c.run_one.new.self along in
    let lists = c.in_ok-seen.ensures.lists in
    let long = length-map c.in_ok-seen.seen.items (λ (l : Listed ℕ). l.items) in
    omega (arith, most, lists, long, c.requires.writers)

pub first_wrong-requires-then-before-run-clause-inside :
    goal.first_wrong-requires-then-before-run-clause-inside
first_wrong-requires-then-before-run-clause-inside c =
    seen_inside c.args.aborts.now (length c.args.aborts.now) c.args.writers c.in_ok-seen.seen.items c.in_ok-seen.ensures c.run_one.new.self.writers c.get-then-before-run.result.now c.as_slice-places-then-before-run.result.now
    c.get-then-before-run.ensures c.as_slice-places-then-before-run.ensures.items

pub loop-line-preserved : goal.loop-line-preserved
loop-line-preserved c =
    let file = view c.args.file.now in
    let lines = c.args.lines.now in
    let order = places lines in
    let aborts = c.args.aborts.now in
    let old = c.loop-line.run in
    let new = c.run_one.new.self in
    let at = slice_get_read lines (length lines) c.loop-line.line-index c.line-item.result refl c.loop-line-test.true c.line-item.is in
    let along = along_more file lines old new c.line-item.result c.loop-line.invariant.along (ap (slice_get lines) c.loop-line.invariant.count ∙ at)
    c.in_ok-run_one.ensures.so_far c.in_ok-run_one.ensures.placed c.in_ok-run_one.ensures.counted in
    let place : TransactionPlace = (c.line-item.result.thread, c.line-item.result.position) in
    let counted = c.in_ok-run_one.ensures.counted ∙ ap (λ (n : ℕ). n + 1) c.loop-line.invariant.count in
    elim c.if-before-run.branch [
      | then-before-run+in_ok-wrong-2 w ↦
          let same = ap (λ (s : Listed _). s.items) w.first_wrong-then-before-run.ensures.state in
          let run_is : c.if-before-run.run ≡ new = w.run-is ∙ ap (λ (s : Listed _). let r : Progress = record { lines = new.lines; writers = new.writers; state = s } in r) w.first_wrong-then-before-run.ensures.state in
          let next = is_next file lines aborts old new place c.loop-line.invariant.along c.in_ok-run_one.ensures.so_far c.in_ok-run_one.ensures.placed w.if-before-run.true in
          let before = subst (λ (n : ℕ). IsFirstUnheard file order aborts n c.loop-line.wrong) (sym next) c.loop-line.invariant.first in
          let first = walked_on file lines aborts new c.args.writers c.in_ok-seen.seen.items w.get-then-before-run.result.now w.as_slice-places-then-before-run.result.now new.state.items c.loop-line.wrong w.in_ok-wrong-2.wrong along c.in_ok-seen.ensures
          w.get-then-before-run.ensures w.as_slice-places-then-before-run.ensures.items refl before w.in_ok-wrong-2.ensures.first in
          record {
            along = subst (IsAlong file order) (sym run_is) along;
            count = ap (λ (r : Progress). length r.lines.items) run_is ∙ counted;
            first = subst (λ (r : Progress). IsFirstUnheard file order aborts (r.writers + 1) c.if-before-run.wrong) (sym run_is) (subst (IsFirstUnheard file order aborts (new.writers + 1)) (sym w.wrong-is) first);
          }
      | else-before-run w ↦
          let same = is_same file lines aborts old new place c.loop-line.invariant.along c.in_ok-run_one.ensures.so_far c.in_ok-run_one.ensures.placed w.if-before-run.false in
          let first = subst (λ (n : ℕ). IsFirstUnheard file order aborts (n + 1) c.loop-line.wrong) (sym same) c.loop-line.invariant.first in
          record {
            along = subst (IsAlong file order) (sym w.run-is) along;
            count = ap (λ (r : Progress). length r.lines.items) w.run-is ∙ counted;
            first = subst (λ (r : Progress). IsFirstUnheard file order aborts (r.writers + 1) c.if-before-run.wrong) (sym w.run-is) (subst (IsFirstUnheard file order aborts (new.writers + 1)) (sym w.wrong-is) first);
          }
    ]

pub returns : goal.returns
returns c =
    let file = view c.args.file.now in
    let run = c.loop-line.run in
    let all = all_run file c.args.lines.now run c.loop-line.invariant.along (omega (arith, c.loop-line-test.false, c.loop-line.invariant.count)) in
    subst (λ (n : ℕ). IsFirstUnheard file (places c.args.lines.now) c.args.aborts.now (n + 1) c.loop-line.wrong) (all ∙ sym c.requires.writers) c.loop-line.invariant.first
