use Rattle.std.proofs.Common.{rules, ◌∙◌, ap, ap₂, ◌+◌, ◌++◌, ◌∷◌, [], length}
use Rattle.sto_gen.specs.Draws.{next, state_after, transfer_after, transfers_after}
use Rattle.sto_gen.proofs.Steps.{one_more_transfer, one_more_drawn, length_last}
use Rattle.sto_gen.proofs.draws.transfers.Goals as goal

pub loop-init : goal.loop-init
unfolding transfers_after state_after
loop-init c = search rules

pub loop-preserved : goal.loop-preserved
loop-preserved c =
    let before = c.loop.invariant in
    let drawn = c.transfer.ensures.transfer ∙ ap transfer_after before.1 in (
      c.in_ok-push.ensures.ok ∙ ap₂ (λ all one. all ++ one ∷ []) before.0 drawn ∙ one_more_drawn c.loop.counter c.args.number,
      c.transfer.ensures.state ∙ ap (λ state. next (next (next state))) before.1 ∙ one_more_transfer c.loop.counter c.args.number,
      ap length c.in_ok-push.ensures.ok ∙ length_last c.loop.transfers.items c.transfer.result ∙ ap (λ n. n + 1) before.2,
    )
