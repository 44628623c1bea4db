use Rattle.std.proofs.Common.{rules, ◌∙◌, ap, ap₂, ◌+◌, ◌++◌, ◌∷◌, [], map, length}
use Rattle.sto_lang.specs.declared.file.Thread.{Thread}
use Rattle.sto_lang.specs.Views.{script, threads_of, names_of}
use Rattle.sto_gen.specs.Draws.{state_after}
use Rattle.sto_gen.specs.Generated.{transactions, state_before, threads}
use Rattle.sto_gen.proofs.Steps.{one_more_state, one_more_thread, one_more_name, map_last, length_last}
use Rattle.sto_gen.proofs.file.threads.Goals as goal

pub loop-thread-init : goal.loop-thread-init
unfolding threads state_before
loop-thread-init c = search rules

pub loop-thread-preserved : goal.loop-thread-preserved
loop-thread-preserved c =
    let before = c.loop-thread.invariant in
    let made = c.in_ok-scripts.ensures.scripts ∙ ap (λ state. transactions c.loop-thread.thread state 200) before.2 in
    let thread : Thread = record { name = c.in_ok-name.name; scripts = c.in_ok-scripts.scripts } in (
      ap threads_of c.in_ok-push.ensures.ok ∙ map_last (λ (t : Thread). map script t.scripts.items) c.loop-thread.threads.items thread
          ∙ ap₂ (λ all one. all ++ one ∷ []) before.0 made ∙ one_more_thread c.args.number c.loop-thread.thread,
      ap names_of c.in_ok-push.ensures.ok ∙ map_last (λ (t : Thread). t.name.items) c.loop-thread.threads.items thread
          ∙ ap₂ (λ all one. all ++ one ∷ []) before.1 c.in_ok-name.ensures ∙ one_more_name c.loop-thread.thread,
      c.in_ok-scripts.ensures.state ∙ ap (state_after 200) before.2 ∙ one_more_state c.loop-thread.thread c.args.number,
      ap length c.in_ok-push.ensures.ok ∙ length_last c.loop-thread.threads.items thread ∙ ap (λ n. n + 1) before.3,
    )
