use Rattle.std.proofs.Common.{◌∙◌, ap, List, ℤ, map, slice_set}
use Rattle.sto_type.specs.Cached.{plain_part}
use Rattle.sto_type.proofs.Slotted.{set_plain, set_same, on_err}
use Rattle.sto_type.proofs.cache.fill.Goals as goal

pub returns-in_err-refill-clause-err : goal.returns-in_err-refill-clause-err
returns-in_err-refill-clause-err c =
    let xs = c.args.slots.now.items in
    let x = c.get_mut-slot.result.now in
    on_err c.from_residual.result _ (set_same xs c.args.place x (x.0, c.refill.new.kept) c.get_mut-slot.ensures.value (ap (λ (ws : List ℤ). (x.0, ws)) c.in_err-refill.ensures.err))

pub returns-clause-ok : goal.returns-clause-ok
returns-clause-ok c =
    let xs = c.args.slots.now.items in
    set_plain xs c.args.place (c.args.part, c.refill.new.kept) ∙ ap (λ (ws : List ℤ). slice_set (map plain_part xs) c.args.place (c.args.part, ws)) c.in_ok-refill.ensures.ok
