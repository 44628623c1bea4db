-- What a store and a worker are that own their parts, and a worker before a call and after it.
use Rattle.std.specs.Prelude.{◌≡◌, ℕ, List, Option, Some, None, option_map, option_and_then}
use Rattle.atomic_table.specs.declared.shared.Seat.{Seat}
use Rattle.std.specs.List.{All}
use Rattle.std.specs.Arc.{arc_value}
use Rattle.std.specs.declared.alloc.Global.{Global}
use Rattle.std.specs.declared.sync.Arc.{Arc}
use Rattle.sto_part.specs.declared.naming.Naming as naming
use Rattle.sto_part.specs.Listed.{Listed}
use Rattle.sto_model.specs.declared.call.Call.{Call}
use Rattle.sto_model.specs.declared.reply.Reply.{Reply}
use Rattle.sto_model.specs.PlainReplies.{PlainReply}
use Rattle.sto_type.specs.Traits.{OfType}
use Rattle.sto_core.specs.declared.view.View.{View}
use Rattle.sto_history.specs.Added.{Grows}
use Rattle.sto_table.specs.declared.stance.Stance.{Stance}
use Rattle.sto_interactive.specs.declared.pause.RestingTransaction.{RestingTransaction}
use Rattle.sto_shared_store.specs.declared.store.Store.{Store}
use Rattle.sto_shared_store.specs.declared.worker.CountedRest.{CountedRest}
use Rattle.sto_shared_store.specs.Working.{IsWorker}
use Rattle.sto_interactive.specs.declared.session.Session.{Session}
use Rattle.sto_interactive.specs.Sessions.{live_of, Rests, Waits}
use Rattle.sto_shared_store.specs.declared.given.Hired.{Hired}
use Rattle.sto_shared_store.specs.declared.owned_store.OwnedStore.{OwnedStore}
use Rattle.sto_shared_store.specs.declared.owned_worker.OwnedWorker.{OwnedWorker}

-- both times it has a session, and the first leads to the second
abbrev pub Leads : {X : Type 0} → (X → X → Type 0) → Option X → Option X → Type 0
Leads to (Some x) (Some y) = to x y
Leads to _ _ = ⊥

-- what the calls of its transaction were answered so far, if it is in one
abbrev pub replies_of : {T : Type 0} {n : naming.Ghosts T} → OwnedWorker T n → Option (Listed Reply)
replies_of w = option_and_then (λ x. option_map (λ p. p.attempt.table.replies) (live_of x)) w.session

-- what a worker knew when it was given out, to whom this slot was lent
abbrev pub view_at : {T : Type 0} {n : naming.Ghosts T} → Arc (Hired T n) Global → View
view_at slot = (arc_value slot).worker.rest.seat.me.0.view

module _ {T : Type 0} (t : OfType T) where
  -- a pass of a store's words, free or in a transaction. It knows all that the view v has, and knew it when the transaction began
  abbrev pub StandsSince : Store T → View → Option RestingTransaction → Seat (Unit {0}) Stance → ℕ → Type 0
  StandsSince s v None seat left = Rests t s.ty s.shared seat × Grows v seat.me.0.view
  StandsSince s v (Some p) seat left =
      (calls : List Call) × (rs : List PlainReply) × (begun : View) × Waits t s.ty s.shared calls rs p begun seat left × Grows v begun

module _ {T : Type 0} {n : naming.Ghosts T} (t : OfType T) where
  -- the session of such a pass
  abbrev pub IsAt : Store T → View → Option (Session T n) → Type 0
  IsAt s v (Some x) = StandsSince t s v (live_of x) x.rest.seat x.left
  IsAt s v None = ⊥

  -- it comes back to its own store, with all that it knew when it was given out
  pub record IsOwnedWorker (w : OwnedWorker T n) : Type 0 where
    pub at : IsAt (arc_value w.store) (view_at w.slot) w.session
    pub home : arc_value (arc_value w.slot).store ≡ arc_value w.store

  -- the workers that rest in it are its own, and so are those that come back to it
  pub record IsOwnedStore (o : OwnedStore T n) : Type 0 where
    pub rest : All (λ (w : CountedRest T n). IsWorker (t.meaning (arc_value o.store).ty) (t.sizes (arc_value o.store).ty) (arc_value o.store).shared w.rest.seat) o.idle.items
    pub home : All (λ (slot : Arc (Hired T n) Global). arc_value (arc_value slot).store ≡ arc_value o.store) o.slots.items
