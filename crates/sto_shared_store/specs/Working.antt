-- Workers of a store, and what is left of it at its end.
use Rattle.std.specs.Prelude.{◌≡◌, ℕ, List, [], ◌∷◌, ◌++◌, length}
use Rattle.atomic_table.specs.declared.shared.Seat.{Seat}
use Rattle.sto_model.specs.Rows.{Row}
use Rattle.sto_type.specs.Known.{Parts}
use Rattle.sto_type.specs.Meaning.{Meaning}
use Rattle.sto_core.specs.declared.view.View.{View}
use Rattle.sto_core.specs.Core.{Core}
use Rattle.sto_core.specs.History.{Validity}
use Rattle.sto_core.specs.Gathered.{gathered_into}
use Rattle.sto_core.specs.Opened.{opened_view}
use Rattle.sto_core.specs.Reopened.{reopened_view}
use Rattle.sto_plain.specs.Kept.{AreUpToDate}
use Rattle.sto_table.specs.declared.stance.Stance.{Stance}
use Rattle.sto_table.specs.declared.shared.Shared.{Shared}
use Rattle.sto_table.specs.Rests.{IsOf}
use Rattle.sto_transaction.specs.Resting.{IsAtRest}

-- a worker of these words, which rests between two transactions
pub record IsWorker {T : Type 0} (m : Meaning) (sizes : List ℕ) (s : Shared T) (seat : Seat (Unit {0}) Stance) : Type 0 where
  pub of : IsOf s seat
  pub rests : IsAtRest m sizes seat.me.0.view

-- the same, just opened
pub record IsFresh {T : Type 0} (m : Meaning) (sizes : List ℕ) (s : Shared T) (seat : Seat (Unit {0}) Stance) : Type 0 where
  pub of : IsOf s seat
  pub number : ℕ
  pub view : seat.me.0.view ≡ opened_view sizes m.opened number

-- what a pass knows into which these were gathered, the last one first
abbrev pub gathered_onto : List View → View → View
gathered_onto [] v = v
gathered_onto (u ∷ us) v = gathered_into (gathered_onto us v) u

-- these are the rows of the contents after all commits, by a history that begins with the opening and stands in the view v of all passes
pub record AreLastRows (valid : Validity) (m : Meaning) (v : View) (rows : List (List Row)) : Type 0 where
  pub core : Core
  pub contents : Parts
  pub now : AreUpToDate valid core contents
  pub one_view : core.views ≡ reopened_view v.sizes v.opening (v ∷ []) ∷ []
  pub one_pass : length core.statuses ≡ 1
  pub stand_for : rows ≡ m.rows contents

-- the same of passes with these views, which are all
pub record AreRowsAfter (valid : Validity) (m : Meaning) (views : List View) (rows : List (List Row)) : Type 0 where
  pub others : List View
  pub last : View
  pub all : views ≡ others ++ last ∷ []
  pub leave : AreLastRows valid m (gathered_onto others last) rows
