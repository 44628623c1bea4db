-- After a call that was answered there is a last reply.
use Rattle.std.proofs.Common.{◌≡◌, ◌<◌, List, [], ◌∷◌, ◌++◌, length, map, Option, Some, None, Ok, refl, ap, arith, length-append}
use Rattle.std.proofs.lemmas.List.{length-map}
use Rattle.std.specs.Prelude.{option_map}
use Rattle.sto_part.specs.Listed.{Listed}
use Rattle.sto_part.specs.declared.naming.Naming as naming
use Rattle.sto_model.specs.declared.call.Call.{Call}
use Rattle.sto_model.specs.declared.reply.Reply.{Reply}
use Rattle.sto_model.specs.PlainReplies.{PlainReply, plain_reply}
use Rattle.sto_type.specs.Traits.{OfType}
use Rattle.sto_core.specs.declared.view.View.{View}
use Rattle.sto_table.specs.declared.shared.Shared.{Shared}
use Rattle.sto_interactive.specs.declared.pause.RestingTransaction.{RestingTransaction}
use Rattle.sto_interactive.specs.Pausing.{IsPaused}
use Rattle.sto_interactive.specs.declared.session.Session.{Session}
use Rattle.sto_interactive.specs.Sessions.{live_of, Stands}
use Rattle.sto_interactive.specs.Steps.{HasAsked}

some_heard : (rs : List PlainReply) (reply : PlainReply) (xs : List Reply) → map plain_reply xs ≡ rs ++ reply ∷ [] → 0 < length xs
some_heard rs reply xs e = omega (arith, ap length e, length-map xs plain_reply, length-append rs (reply ∷ []))

module _ {T : Type 0} (t : OfType T) (ty : T) where
  heard_now : (calls : List Call) (rs : List PlainReply) (p : RestingTransaction) (begun v : View) → IsPaused t ty calls rs p begun v → map plain_reply p.attempt.table.replies.items ≡ rs
  heard_now calls rs p begun v h = (h (record { ref_ptr = (0, 0); now = ty }) refl).replies

module _ {T : Type 0} {n : naming.Ghosts T} (t : OfType T) (ty : T) (s : Shared T) where
  pub asked_last : (x y : Session T n) (call : Call) (o : Option RestingTransaction) → live_of x ≡ o → Stands t ty s o x.rest.seat x.left → HasAsked t ty s x call (Ok tt) y
      → (rs : Listed Reply) × (option_map (λ p. p.attempt.table.replies) (live_of y) ≡ Some rs) × (0 < length rs.items)
  asked_last x y call None e h a = cc ((a.free e).0)
  asked_last x y call (Some p) e h a =
      let b = a.asking h.0 h.1 h.2 (record { paused = p; live = e; waits = h.3 }) in
      let q = b.asking.paused in
      let heard = heard_now t ty (h.0 ++ call ∷ []) (h.1 ++ b.reply ∷ []) q h.2 y.rest.seat.me.0.view b.asking.waits.paused in (
        q.attempt.table.replies,
        ap (λ (r : Option RestingTransaction). option_map (λ p. p.attempt.table.replies) r) b.asking.live,
        some_heard h.1 b.reply q.attempt.table.replies.items heard,
      )
