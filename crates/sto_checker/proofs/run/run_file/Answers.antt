use Rattle.std.proofs.Common.{◌≡◌, ℕ, suc, ◌+◌, ◌<◌, ◌≤◌, ◌++◌, List, length, take, sym, ap, ◌∙◌, subst, arith}
use Rattle.std.proofs.lemmas.List.{take_all}
use Rattle.sto_lang.specs.Objects.{shapes_of}
use Rattle.sto_lang.specs.Views.{file as view}
use Rattle.sto_report_spec.specs.Orders.{TransactionPlace, count_in, IsOrder}
use Rattle.sto_journal.specs.Journals.{places}
use Rattle.sto_checker.specs.Runs.{places_of, places_from, thread_order}
use Rattle.sto_checker.proofs.SoundRuns.{sound_runnable}
use Rattle.sto_checker.proofs.Places.{length-threads, length-opening, have_rows, have_threads}
use Rattle.sto_checker.proofs.OneMore.{places_from-more, thread_order-is_order}
use Rattle.sto_checker.proofs.run.run_file.Goals as goal

pub run_thread-requires-clause-runnable : goal.run_thread-requires-clause-runnable
run_thread-requires-clause-runnable c = sound_runnable (view c.args.file.now) c.requires

pub loop-thread-preserved : goal.loop-thread-preserved
loop-thread-preserved c =
    let all = (view c.args.file.now).threads in
    let thread = c.loop-thread.thread in
    let inside : thread < length all = omega (arith, c.loop-thread-test.true, c.len-thread-end.ensures, length-threads c.args.file.now.threads.items) in
    let next : thread + 1 ≡ suc thread = omega arith in
    let same : 0 + thread ≡ thread = omega arith in
    record {
      so_far = c.in_ok-run_thread.ensures.so_far;
      placed =
          c.in_ok-run_thread.ensures.placed
          ∙ ap (λ (ps : List TransactionPlace). ps ++ places_of thread (count_in all thread)) c.loop-thread.invariant.placed
          ∙ ap (λ (n : ℕ). places_from 0 (take thread all) ++ places_of n (count_in all thread)) (sym same)
          ∙ sym (places_from-more 0 all thread inside)
          ∙ ap (λ (n : ℕ). places_from 0 (take n all)) (sym next);
      few = omega (arith, c.in_ok-run_thread.ensures.counted, c.loop-thread.invariant.few, (sound_runnable (view c.args.file.now) c.requires).few_transactions thread);
    }

pub returns-clause-replay : goal.returns-clause-replay
returns-clause-replay c =
    let file = view c.args.file.now in
    let past : length file.threads ≤ c.loop-thread.thread = omega (arith, c.loop-thread-test.false, c.len-thread-end.ensures, length-threads c.args.file.now.threads.items) in
    let placed : places c.loop-thread.run.lines.items ≡ thread_order file =
    c.loop-thread.invariant.placed ∙ ap (places_from 0) (take_all c.loop-thread.thread file.threads past) in
    record {
      order = subst (IsOrder file) (sym placed) (thread_order-is_order file);
      entries = c.loop-thread.invariant.so_far.entries;
      final = c.loop-thread.invariant.so_far.state_is;
    }

pub returns-clause-rows : goal.returns-clause-rows
returns-clause-rows c =
    let file = view c.args.file.now in
    let rows : length (shapes_of file.declarations) ≡ length c.loop-thread.run.state.items =
    sym (c.loop-thread.invariant.so_far.objects ∙ length-opening (shapes_of file.declarations)) in
    have_rows c.args.file.now.decls.items (length (shapes_of file.declarations)) c.loop-thread.run.state.items (sound_runnable file c.requires).numbered rows

pub returns-clause-threads : goal.returns-clause-threads
returns-clause-threads c =
    let file = view c.args.file.now in
    let past : length file.threads ≤ c.loop-thread.thread = omega (arith, c.loop-thread-test.false, c.len-thread-end.ensures, length-threads c.args.file.now.threads.items) in
    let placed : places c.loop-thread.run.lines.items ≡ thread_order file =
    c.loop-thread.invariant.placed ∙ ap (places_from 0) (take_all c.loop-thread.thread file.threads past) in
    have_threads file c.loop-thread.run.lines.items (length c.args.file.now.threads.items) placed (length-threads c.args.file.now.threads.items)
