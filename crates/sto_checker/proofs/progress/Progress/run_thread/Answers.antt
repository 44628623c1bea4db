use Rattle.std.proofs.Common.{◌≡◌, ℕ, ◌+◌, ◌≤◌, ◌++◌, List, [], ◌∷◌, length, sym, ap, ◌∙◌, arith, append_assoc}
use Rattle.sto_lang.specs.Views.{file as view}
use Rattle.sto_report_spec.specs.Orders.{TransactionPlace, count_in}
use Rattle.sto_journal.specs.Journals.{places}
use Rattle.sto_checker.specs.Runs.{places_of}
use Rattle.sto_checker.proofs.Places.{count_at, length-threads}
use Rattle.sto_checker.proofs.OneMore.{places_of-more}
use Rattle.sto_checker.proofs.progress.Progress.run_thread.Goals as goal

pub run_one-requires-clause-last : goal.run_one-requires-clause-last
run_one-requires-clause-last c =
    omega (arith, c.loop-earlier-test.true, c.len-count.ensures, count_at c.args.file.now.threads.items c.args.thread c.get.result.now c.get.ensures)

pub run_one-requires-clause-room : goal.run_one-requires-clause-room
run_one-requires-clause-room c =
    let few : length c.args.file.now.threads.items ≤ 64 = omega (arith, c.requires.runnable.few_threads, length-threads c.args.file.now.threads.items) in
    omega (arith, c.loop-earlier-test.true, c.len-count.ensures, c.requires.runnable.few_transactions c.args.thread, c.loop-earlier.invariant.counted, c.requires.room, count_at c.args.file.now.threads.items c.args.thread c.get.result.now c.get.ensures)

pub loop-earlier-preserved : goal.loop-earlier-preserved
loop-earlier-preserved c = record {
  so_far = c.in_ok-run_one.ensures.so_far;
  placed =
      c.in_ok-run_one.ensures.placed
      ∙ ap (λ (ps : List TransactionPlace). ps ++ (c.args.thread, c.loop-earlier.earlier + 1) ∷ []) c.loop-earlier.invariant.placed
      ∙ append_assoc (places c.args.self.now.lines.items) (places_of c.args.thread c.loop-earlier.earlier) ((c.args.thread, c.loop-earlier.earlier + 1) ∷ [])
      ∙ ap (λ (ps : List TransactionPlace). places c.args.self.now.lines.items ++ ps) (sym (places_of-more c.args.thread c.loop-earlier.earlier));
  counted = omega (arith, c.in_ok-run_one.ensures.counted, c.loop-earlier.invariant.counted);
}

pub returns-clause-placed : goal.returns-clause-placed
returns-clause-placed c =
    let all : c.loop-earlier.earlier ≡ count_in (view c.args.file.now).threads c.args.thread =
    omega (arith, c.loop-earlier-test.false, c.loop-earlier.auto.earlier-end, c.len-count.ensures, count_at c.args.file.now.threads.items c.args.thread c.get.result.now c.get.ensures) in
    c.loop-earlier.invariant.placed ∙ ap (λ (n : ℕ). places c.args.self.now.lines.items ++ places_of c.args.thread n) all

pub returns-clause-counted : goal.returns-clause-counted
returns-clause-counted c =
    let all : c.loop-earlier.earlier ≡ count_in (view c.args.file.now).threads c.args.thread =
    omega (arith, c.loop-earlier-test.false, c.loop-earlier.auto.earlier-end, c.len-count.ensures, count_at c.args.file.now.threads.items c.args.thread c.get.result.now c.get.ensures) in
    omega (arith, all, c.loop-earlier.invariant.counted)
