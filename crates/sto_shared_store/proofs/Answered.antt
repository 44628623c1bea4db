-- After a call that was answered there is a last reply.
use Rattle.std.proofs.Common.{◌≡◌, ◌<◌, length, Option, Some, None, Ok, refl}
use Rattle.std.specs.Prelude.{option_map, option_and_then}
use Rattle.std.specs.Arc.{arc_value}
use Rattle.sto_part.specs.Listed.{Listed}
use Rattle.sto_part.specs.declared.naming.Naming as naming
use Rattle.sto_model.specs.declared.call.Call.{Call}
use Rattle.sto_model.specs.declared.reply.Reply.{Reply}
use Rattle.sto_type.specs.Traits.{OfType}
use Rattle.sto_core.specs.declared.view.View.{View}
use Rattle.sto_shared_store.specs.declared.store.Store.{Store}
use Rattle.sto_interactive.specs.declared.session.Session.{Session}
use Rattle.sto_interactive.specs.Steps.{HasAsked}
use Rattle.sto_interactive.proofs.LastReply.{asked_last}
use Rattle.sto_shared_store.specs.declared.owned_worker.OwnedWorker.{OwnedWorker}
use Rattle.sto_shared_store.specs.Owned.{Leads, IsAt, IsOwnedWorker, view_at, replies_of}
use Rattle.sto_shared_store.proofs.Since.{is_session}
use Rattle.sto_interactive.specs.Sessions.{live_of}

module _ {T : Type 0} {n : naming.Ghosts T} (t : OfType T) where
  by_session : (s : Store T) (v : View) (call : Call) (a b : Option (Session T n)) → IsAt t s v a → Leads (λ x y. HasAsked t s.ty s.shared x call (Ok tt) y) a b
      → (rs : Listed Reply) × (option_and_then (λ x. option_map (λ p. p.attempt.table.replies) (live_of x)) b ≡ Some rs) × (0 < length rs.items)
  by_session s v call None b h l = absurd h
  by_session s v call (Some x) None h l = absurd l
  by_session s v call (Some x) (Some y) h l = asked_last t s.ty s.shared x y call (live_of x) refl (is_session t s v x h) l

  pub answered_last : (w v : OwnedWorker T n) (call : Call) → IsOwnedWorker t w → Leads (λ x y. HasAsked t (arc_value w.store).ty (arc_value w.store).shared x call (Ok tt) y) w.session v.session
      → (rs : Listed Reply) × (replies_of v ≡ Some rs) × (0 < length rs.items)
  answered_last w v call is l = by_session (arc_value w.store) (view_at w.slot) call w.session v.session is.at l
