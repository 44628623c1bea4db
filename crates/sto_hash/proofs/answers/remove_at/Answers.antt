use Rattle.std.proofs.Common.{◌<◌, refl, ap, ◌∙◌}
use Rattle.std.specs.List.{list_all}
use Rattle.sto_part.specs.declared.change.Change.TheVariants.{Keep, Put}
use Rattle.std.proofs.Common.{pos}
use Rattle.sto_item.specs.Pending.{is_keep}
use Rattle.sto_hash.specs.HashedChanges.{place_changes-change, one_update_rises}
use Rattle.sto_hash.proofs.answers.remove_at.Goals as goal

pub push-requires-clause-ordered : goal.push-requires-clause-ordered
push-requires-clause-ordered c =
    let l : c.in-Some.place < c.args.places = rw c.in-Some.is at c.requires.place in
    one_update_rises c.updates-updates.result.items c.args.part c.in_ok-update.update.items c.updates-updates.ensures
    (ap (list_all is_keep) c.in_ok-update.ensures ∙ place_changes-change c.args.places c.in-Some.place (Put (pos 0)) Keep l refl)
