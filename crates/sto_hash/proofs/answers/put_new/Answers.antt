use Rattle.std.proofs.Common.{refl, ap, ◌∙◌}
use Rattle.std.specs.List.{list_all}
use Rattle.sto_item.specs.Pending.{is_keep}
use Rattle.sto_hash.specs.HashedChanges.{place_changes-change, one_update_rises}
use Rattle.sto_hash.proofs.answers.put_new.Goals as goal

pub push-requires-clause-ordered : goal.push-requires-clause-ordered
push-requires-clause-ordered c =
    one_update_rises c.updates-updates.result.items c.args.part c.in_ok-keys.keys.items c.updates-updates.ensures
    (ap (list_all is_keep) c.in_ok-keys.ensures ∙ place_changes-change c.args.places c.args.place _ _ c.requires.place refl)
