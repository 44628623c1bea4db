-- Why an exploration ends where a run was not made.
use Rattle.sto_explore.specs.declared.runs.RunError.{RunError}
use Rattle.sto_explore.specs.declared.runs.RunError.TheVariants as run_error
use Rattle.sto_explore.specs.declared.exploration.ExploreError.{ExploreError}
use Rattle.sto_explore.specs.declared.exploration.ExploreError.TheVariants as stopped

-- for the same reason
abbrev pub stopped_by : RunError → ExploreError
stopped_by run_error.NoMemory = stopped.NoMemory
stopped_by run_error.TooLong = stopped.TooLong
