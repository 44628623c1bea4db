-- What an event that is allowed says of the ticket of its pass.
use Rattle.std.proofs.Common.{◌≡◌, ◌≤◌, ℕ, ℤ, List, true, false, sym, subst}
use Rattle.sto_core.specs.declared.view.Phase.{Phase}
use Rattle.sto_core.specs.declared.view.Phase.TheVariants.{Drawn, Won}
use Rattle.sto_core.specs.declared.view.View.{View}
use Rattle.sto_core.specs.History.{Validity}
use Rattle.sto_core.specs.Views.{own_ticket}
use Rattle.sto_core.specs.Event.{Event, Decide, Release}
use Rattle.sto_core.specs.Allowed.{Allowed, IsDrawn, MayDecide, MayRelease}
use Rattle.sto_core.specs.Remembered.{Remembers}
use Rattle.sto_core.specs.Rule.{InPhase, World}

-- the pass has a ticket: it has drawn or won
abbrev pub HasTicket : Phase → Type 0
HasTicket (Drawn t) = Unit {0}
HasTicket (Won t puts) = Unit {0}
HasTicket _ = ⊥

-- who has drawn, decides or releases has a ticket
drawn_has : (h : Phase) → IsDrawn h → HasTicket h
drawn_has h d = subst HasTicket (sym d.1) tt

decides_has : (b : _) (v : View) → MayDecide b v → HasTicket v.phase
decides_has true v may = drawn_has v.phase may.0
decides_has false v may = drawn_has v.phase may

releases_has : (p : ℕ) (v : View) (h : Phase) → MayRelease p v h → HasTicket h
releases_has p v (Won t puts) may = tt
releases_has p v _ may = absurd may

-- the same of an event that is known by an equation
module _ (valid : Validity) (e : Event) (v : View) (may : Allowed valid e v) where
  allowed : (d : Event) → e ≡ d → Allowed valid d v
  allowed d told = subst (λ (f : Event). Allowed valid f v) told may

  pub decides_ticket : (b : _) → e ≡ Decide b → HasTicket v.phase
  decides_ticket b told = decides_has b v (allowed (Decide b) told)

  pub releases_ticket : (p : ℕ) → e ≡ Release p → HasTicket v.phase
  releases_ticket p told = releases_has p v v.phase (allowed (Release p) told)

-- the ticket of a pass that has one is the remembered one, and no later than the clock
pub own_is : (ticket : ℕ) (h : Phase) → HasTicket h → Remembers ticket h → own_ticket h ≡ ticket
own_is ticket (Drawn t) has r = r
own_is ticket (Won t puts) has r = r
own_is ticket _ has r = absurd has

pub own_within : (opening : List (List ℤ)) (world : World) (settled : ℕ → Type 0) (h : Phase) (v : View)
    → HasTicket h → InPhase opening world settled h v → own_ticket h ≤ world.clock
own_within opening world settled (Drawn t) v has knows = knows.within
own_within opening world settled (Won t puts) v has knows = knows.within
own_within opening world settled _ v has knows = absurd has
