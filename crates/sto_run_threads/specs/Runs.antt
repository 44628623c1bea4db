-- What a run of the whole plan leaves.
use Rattle.std.specs.Prelude.{◌≡◌, length}
use Rattle.std.specs.List.{All}
use Rattle.sto_plain.specs.Passes.{view_of}
use Rattle.sto_run_threads.specs.Plans.{Plan, Rests, IsPaced}
use Rattle.sto_run_threads.specs.Told.{told_in}
use Rattle.sto_run_threads.specs.Worked.{AreWhole, WasFound}
use Rattle.sto_run_threads.specs.declared.file.FinishedRun.{FinishedRun}

module _ {T : Type 0} where
  -- one pass is left, which is at rest and has gathered all others, and the records are those of a finished run of the plan
  pub record IsFinished (plan : Plan) (run : FinishedRun T) : Type 0 where
    pub one : (length run.words.views ≡ 1) × (length run.words.statuses ≡ 1)
    pub rests : Rests plan (view_of run.words 0)
    pub finished : AreWhole plan (view_of run.words 0) (told_in run.records)
    -- each attempt took at most so many steps
    pub paced : IsPaced plan (view_of run.words 0)

  -- there is a record for each start, and a finding behind each aborted one
  pub record IsAccounted (run : FinishedRun T) : Type 0 where
    pub starts : (view_of run.words 0).starts ≡ length run.records.items
    pub found : All (WasFound (view_of run.words 0)) (told_in run.records)
