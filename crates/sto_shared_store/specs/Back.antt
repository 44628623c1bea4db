-- A worker that comes back to its store.
use Rattle.std.specs.Prelude.{ℕ, List}
use Rattle.sto_part.specs.declared.naming.Naming as naming
use Rattle.sto_type.specs.Meaning.{Meaning}
use Rattle.sto_history.specs.Added.{Grows}
use Rattle.sto_table.specs.declared.shared.Shared.{Shared}
use Rattle.sto_shared_store.specs.declared.worker.CountedRest.{CountedRest}
use Rattle.sto_shared_store.specs.Working.{IsWorker}

-- v was given out, and w came back: a worker of these words, which knows all that v knew, and so tells of each of its commits
pub record HasComeBack {T : Type 0} {n : naming.Ghosts T} (m : Meaning) (sizes : List ℕ) (s : Shared T) (v w : CountedRest T n) : Type 0 where
  pub own : IsWorker m sizes s w.rest.seat
  pub grows : Grows v.rest.seat.me.0.view w.rest.seat.me.0.view
