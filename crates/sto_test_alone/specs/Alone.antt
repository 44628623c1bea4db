-- What a transaction does that runs beside nothing.
use Rattle.std.specs.Prelude.{◌≡◌, List, false, if◌then◌else◌}
use Rattle.sto_model.specs.PlainReplies.{PlainReply}
use Rattle.sto_model.specs.Run.{Behaviour}
use Rattle.sto_model.specs.Serial.{IsSerialRun, is_writer_run}
use Rattle.sto_model.specs.declared.run.End.{End}
use Rattle.sto_model.specs.declared.run.End.TheVariants.{Commit, Cancel}
use Rattle.sto_core.specs.History.{Contents}
use Rattle.sto_type.specs.Meaning.{Meaning}
use Rattle.sto_type.specs.Runs.{contents_along}
use Rattle.sto_history.specs.Records.{Verdict, Wrote, Read, Cancelled, Locked, Changed, is_abort, is_wrote}

-- how the body of an attempt ends that ended so
abbrev pub end_of : Verdict → End
end_of (Wrote ticket) = Commit
end_of (Read at) = Commit
end_of (Cancelled at) = Cancel
end_of (Locked at part) = Commit
end_of (Changed at part ticket) = Commit

-- It is not aborted. The replies, the end and the rows after are those of the serial run on what the contents stood for. It wrote exactly
-- where that run commits and has written something. Then the updates of its calls are installed; else the contents are as they were
pub record RunsAlone (m : Meaning) (f : Behaviour) (before after : Contents) (replies : List PlainReply) (verdict : Verdict) : Type 0 where
  pub unaborted : is_abort verdict ≡ false
  pub serial : IsSerialRun m.machines f (m.rows before) replies (end_of verdict) (m.rows after)
  pub writes : is_wrote verdict ≡ is_writer_run f replies (end_of verdict)
  pub installs : after ≡ (if is_wrote verdict then contents_along m f before replies else before)
