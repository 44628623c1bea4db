use Rattle.std.proofs.Common.{◌≡◌, take, map}
use Rattle.std.specs.List.{AllWithin}
use Rattle.serde_json.specs.View.{view}
use Rattle.sto_journal.specs.Journals.{IsShortlyTold, told_data}
use Rattle.sto_journal.proofs.object.reply_values.Given as goal

abbrev pub invariant-loop-reply : goal.invariant-loop-reply
invariant-loop-reply l = (map view l.items.items ≡ map told_data (take l.reply-index l.replies))
    × AllWithin IsShortlyTold l.replies 0 l.reply-index
