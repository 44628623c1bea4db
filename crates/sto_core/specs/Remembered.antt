-- The ticket that the owner of a pass keeps beside its view, which no word holds.
use Rattle.std.specs.Prelude.{◌≡◌, ℕ, suc}
use Rattle.sto_core.specs.declared.view.Phase.{Phase}
use Rattle.sto_core.specs.declared.view.Phase.TheVariants.{Drawn, Won}
use Rattle.sto_core.specs.Event.{Event, Draw}

-- the ticket of a pass that has drawn or won, else the other number
abbrev pub ticket_or : Phase → ℕ → ℕ
ticket_or (Drawn t) other = t
ticket_or (Won t puts) other = t
ticket_or _ other = other

-- the number kept is the pass's own ticket, from its draw to its last release
abbrev pub Remembers : ℕ → Phase → Type 0
Remembers ticket phase = ticket_or phase ticket ≡ ticket

-- what is kept after an event that found the number n
abbrev pub remembered : Event → ℕ → ℕ → ℕ
remembered (Draw us seen loaded) n ticket = suc n
remembered e n ticket = ticket
