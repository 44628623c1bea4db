-- How errors print themselves.
use Rattle.std.specs.Prelude.{ℕ, List, codes}
use Rattle.sto_explore.specs.declared.exploration.ExploreError.{ExploreError}
use Rattle.sto_explore.specs.declared.exploration.ExploreError.TheVariants as explore_error
use Rattle.sto_explore.specs.declared.runs.RunError.{RunError}
use Rattle.sto_explore.specs.declared.runs.RunError.TheVariants as run_error

abbrev pub explore_error_text : ExploreError → List ℕ
explore_error_text explore_error.NoMemory = codes "out of memory"
explore_error_text explore_error.TooLong = codes "a run has too many events"
explore_error_text explore_error.TooMany = codes "too many schedules"

abbrev pub run_error_text : RunError → List ℕ
run_error_text run_error.NoMemory = codes "out of memory"
run_error_text run_error.TooLong = codes "the run has too many events"
