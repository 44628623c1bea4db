use Rattle.std.proofs.Common.{◌≡◌, ℕ, suc, ◌+◌, ◌-◌, ◌<◌, length, Some, slice_get, sym, ap, ◌∙◌, subst, arith}
use Rattle.sto_part.specs.Listed.{Listed}
use Rattle.sto_lang.specs.Views.{file as view, script as script_view}
use Rattle.sto_report_spec.specs.Orders.{transaction_at}
use Rattle.sto_journal.specs.declared.journal.Line.{Line}
use Rattle.sto_journal.specs.Journals.{places}
use Rattle.sto_checker.proofs.SoundRuns.{sound_runnable}
use Rattle.sto_checker.proofs.Places.{count_at, at_place, length-threads}
use Rattle.sto_checker.specs.declared.past.Past.{Past}
use Rattle.sto_checker.proofs.Kept.{few_written}
use Rattle.sto_checker.proofs.Taken.{next_inside, last_is, past_more}
use Rattle.sto_checker.proofs.replayed.run_next.Goals as goal

pub run_one-requires-clause-runnable : goal.run_one-requires-clause-runnable
run_one-requires-clause-runnable c = sound_runnable (view c.args.file.now) c.requires.sound

pub run_one-requires-clause-thread : goal.run_one-requires-clause-thread
run_one-requires-clause-thread c =
    let i = next_inside (view c.args.file.now) (places c.args.past.now.run.lines.items) (c.args.at.thread, c.args.at.position) c.requires.next in
    omega (arith, i.thread, length-threads c.args.file.now.threads.items)

pub run_one-requires-clause-last : goal.run_one-requires-clause-last
run_one-requires-clause-last c = (next_inside (view c.args.file.now) (places c.args.past.now.run.lines.items) (c.args.at.thread, c.args.at.position) c.requires.next).last

pub get-requires : goal.get-requires
get-requires c =
    let i = next_inside (view c.args.file.now) (places c.args.past.now.run.lines.items) (c.args.at.thread, c.args.at.position) c.requires.next in
    omega (arith, i.thread, length-threads c.args.file.now.threads.items)

pub get-script-requires : goal.get-script-requires
get-script-requires c =
    let i = next_inside (view c.args.file.now) (places c.args.past.now.run.lines.items) (c.args.at.thread, c.args.at.position) c.requires.next in
    omega (arith, i.first, i.last, count_at c.args.file.now.threads.items c.args.at.thread c.get.result.now c.get.ensures)

pub add_objects-requires-clause-weighed : goal.add_objects-requires-clause-weighed
add_objects-requires-clause-weighed c =
    let i = next_inside (view c.args.file.now) (places c.args.past.now.run.lines.items) (c.args.at.thread, c.args.at.position) c.requires.next in
    let next : c.args.at.position ≡ suc (c.args.at.position - 1) = omega (arith, i.first) in
    let at = at_place c.args.file.now c.args.at.thread c.args.at.position (c.args.at.position - 1) c.get.result.now c.get-script.result.now next c.get.ensures c.get-script.ensures in
    ((sound_runnable (view c.args.file.now) c.requires.sound).scripts (c.args.at.thread, c.args.at.position) (script_view c.get-script.result.now) at).weighed

pub add_objects-requires-clause-room : goal.add_objects-requires-clause-room
add_objects-requires-clause-room c = omega (arith, few_written (view c.args.file.now) c.args.past.now c.requires.past, c.requires.room)

pub set-requires : goal.set-requires
set-requires c =
    let i = next_inside (view c.args.file.now) (places c.args.past.now.run.lines.items) (c.args.at.thread, c.args.at.position) c.requires.next in
    omega (arith, i.thread, c.requires.past.threads)

pub returns-clause-past : goal.returns-clause-past
returns-clause-past c =
    let new : Past = record { run = c.run_one.new.self; done = c.set.new.self; written = c.add_objects.new.written } in
    let i = next_inside (view c.args.file.now) (places c.args.past.now.run.lines.items) (c.args.at.thread, c.args.at.position) c.requires.next in
    let next : c.args.at.position ≡ suc (c.args.at.position - 1) = omega (arith, i.first) in
    let at = at_place c.args.file.now c.args.at.thread c.args.at.position (c.args.at.position - 1) c.get.result.now c.get-script.result.now next c.get.ensures c.get-script.ensures in
    let last : length c.args.past.now.run.lines.items ≡ c.len.result - 1 = omega (arith, c.in_ok-run_one.ensures.counted, c.len.ensures) in
    past_more (view c.args.file.now) c.args.past.now new (c.args.at.thread, c.args.at.position) c.get-line.result.now c.requires.past c.requires.next
    c.in_ok-run_one.ensures.so_far c.in_ok-run_one.ensures.placed c.in_ok-run_one.ensures.counted (ap (slice_get c.run_one.new.self.lines.items) last ∙ c.get-line.ensures)
    (script_view c.get-script.result.now) at (ap (λ (l : Listed ℕ). l.items) c.set.ensures) c.in_ok-add_objects.ensures

pub returns-clause-last : goal.returns-clause-last
returns-clause-last c =
    let new : Past = record { run = c.run_one.new.self; done = c.set.new.self; written = c.add_objects.new.written } in
    let last : length c.args.past.now.run.lines.items ≡ c.len.result - 1 = omega (arith, c.in_ok-run_one.ensures.counted, c.len.ensures) in
    last_is (view c.args.file.now) c.args.past.now new (c.args.at.thread, c.args.at.position) c.get-line.result.now c.requires.past c.requires.next
    c.in_ok-run_one.ensures.so_far c.in_ok-run_one.ensures.placed c.in_ok-run_one.ensures.counted (ap (slice_get c.run_one.new.self.lines.items) last ∙ c.get-line.ensures)
