use Rattle.std.proofs.Common.{◌≡◌, ◌+◌, ℕ, List, ◌∷◌, ◌++◌, [], rules, drop, sym, ap, ◌∙◌, append_assoc}
use Rattle.std.proofs.lemmas.Bool.{both_ways}
use Rattle.sto_lang.specs.Views.{file as view}
use Rattle.sto_run_schedules.specs.Telling.{busy_from}
use Rattle.sto_run_schedules.proofs.BusyThreads.{thread_step}
use Rattle.sto_run_schedules.proofs.busy.busy_threads.Goals as goal
use Rattle.sto_run_schedules.proofs.busy.busy_threads.Goals.{else-not-is_empty-via-then-not-is_empty+else-is_err, else-not-is_empty-via-else-not-is_empty}

pub loop-number-preserved : goal.loop-number-preserved
loop-number-preserved c =
    let all = c.args.file.now.threads.items in
    let threads = (view c.args.file.now).threads in
    let n = c.loop-number.number in
    let step = thread_step c.as_slice-thread-items.result.now all n c.thread-item.result c.as_slice-thread-items.ensures.items c.loop-number-test.true c.thread-item.is in
    let rest = busy_from (n + 1) (drop (n + 1) threads) in
    elim c.else-not-is_empty.branch [
      | else-not-is_empty-via-then-not-is_empty+else-is_err w ↦
          let pushed : w.push.new.self.items ≡ c.loop-number.busy.items ++ n ∷ [] = search rules in
          ap (λ v. v.items ++ rest) w.busy-is ∙ ap (λ (l : List ℕ). l ++ rest) pushed ∙ append_assoc c.loop-number.busy.items (n ∷ []) rest
          ∙ ap (λ (l : List ℕ). c.loop-number.busy.items ++ l) (sym (step.1 (λ none. both_ways c.is_empty.result w.if-not-is_empty.true (c.is_empty.ensures.1 none)))) ∙ c.loop-number.invariant
      | else-not-is_empty-via-else-not-is_empty w ↦
          ap (λ v. v.items ++ rest) w.busy-is ∙ ap (λ (l : List ℕ). c.loop-number.busy.items ++ l) (sym (step.0 (c.is_empty.ensures.0 w.if-not-is_empty.false))) ∙ c.loop-number.invariant
    ]
