-- Before each event of an attempt that runs its body, there is one left.
use Rattle.std.proofs.Common.{◌<◌, ◌-◌, ℕ, ℤ, List, map, arith}
use Rattle.sto_item.specs.declared.item.Item.{Item}
use Rattle.sto_item.specs.Pending.{Entry as Update}
use Rattle.sto_item.specs.Watched.{watched}
use Rattle.sto_model.specs.PlainReplies.{PlainReply}
use Rattle.sto_model.specs.Run.{Behaviour}
use Rattle.sto_type.specs.Meaning.{Meaning, IsLawful}
use Rattle.sto_core.specs.declared.view.View.{View}
use Rattle.sto_core.specs.History.{Validity}
use Rattle.sto_attempt_log.specs.declared.read_entry.ReadEntry.{ReadEntry}
use Rattle.sto_attempt_log.specs.declared.extension.Extension.{Extension}
use Rattle.sto_attempt_log.specs.declared.read_phase.ReadPhase.{ReadPhase}
use Rattle.sto_attempt_log.specs.declared.read_phase.ReadPhase.TheVariants.{Unstarted, Opening, Reading, Renewing, Rechecking, Reopening, Rereading, Committing, Over}
use Rattle.sto_attempt_log.specs.ReadSet.{words_in}
use Rattle.sto_attempt_log.specs.Standing.{Goes}
use Rattle.sto_attempt_log.specs.Bounds.{events_left}
use Rattle.sto_attempt_log.proofs.Bounding.{commit_cost, reread_costs}
use Rattle.sto_attempt_log.proofs.Lowering.{room, open_over, recheck_over, reopen_over}

module _ (m : Meaning) (law : IsLawful m) (valid : Validity) (sizes : List ℕ) (f : Behaviour) (at calls : ℕ) (words : List ℤ) (extension : Extension) (base : List ReadEntry) (items : List Item) (es : List Update) (rs : List PlainReply) (v : View) where
  pub some_left : (read_phase : ReadPhase) → Goes m valid sizes f at read_phase words extension base items es rs v → 0 < events_left calls m.widths read_phase words extension base
  some_left Unstarted h = omega (arith, commit_cost calls m.widths)
  some_left (Opening p) h = open_over m law f rs p base es h.0.awaits (calls - 1) extension.extended
  some_left (Reading p t) h = omega (arith, room m law f rs p base es h.0.awaits (calls - 1) extension.extended, h.0.stands.2)
  some_left (Renewing p t) h = omega arith
  some_left (Rechecking p) h = recheck_over m.widths (words_in base) extension.fresh.items (map watched extension.watches.items) p h.stands.1 (calls - 1)
  some_left (Reopening p) h = reopen_over m.widths (words_in base) extension.fresh.items (map watched extension.watches.items) p h.stands.1 (calls - 1)
  some_left (Rereading p t) h =
      let costs = reread_costs m.widths (words_in base) extension.fresh.items (map watched extension.watches.items) p h.stands.3 in
      omega (arith, costs, h.stands.2)
  some_left Committing h = absurd h
  some_left Over h = absurd h
