use Rattle.std.proofs.Common.{rules, ◌∙◌, ap, ap₂, ◌+◌, ◌++◌, ◌∷◌, [], map, length}
use Rattle.sto_lang.specs.Views.{script}
use Rattle.sto_gen.specs.Draws.{next, state_after, transfer_after}
use Rattle.sto_gen.specs.Generated.{transaction, transactions}
use Rattle.sto_gen.proofs.Steps.{one_more_transfer, one_more_transaction, map_last, length_last}
use Rattle.sto_gen.proofs.file.transactions.Goals as goal

pub loop-earlier-init : goal.loop-earlier-init
unfolding transactions state_after
loop-earlier-init c = search rules

pub loop-earlier-preserved : goal.loop-earlier-preserved
loop-earlier-preserved c =
    let before = c.loop-earlier.invariant in
    let drawn = c.transfer-transfer.ensures.transfer ∙ ap transfer_after before.1 in
    let made = c.in_ok-transaction.ensures ∙ ap (transaction c.args.thread (c.loop-earlier.earlier + 1)) drawn in (
      ap (map script) c.in_ok-push.ensures.ok ∙ map_last script c.loop-earlier.scripts.items c.in_ok-transaction.field-0
          ∙ ap₂ (λ all one. all ++ one ∷ []) before.0 made ∙ one_more_transaction c.args.thread c.args.draws.now.state c.loop-earlier.earlier,
      c.transfer-transfer.ensures.state ∙ ap (λ state. next (next (next state))) before.1 ∙ one_more_transfer c.loop-earlier.earlier c.args.draws.now.state,
      ap length c.in_ok-push.ensures.ok ∙ length_last c.loop-earlier.scripts.items c.in_ok-transaction.field-0 ∙ ap (λ n. n + 1) before.2,
    )
