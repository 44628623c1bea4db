-- What the numbers of records must be, so that their report can be read again: what machine words hold.
use Rattle.std.specs.Prelude.{◌<◌, ◌^◌, List, length}
use Rattle.std.specs.List.{All}
use Rattle.sto_report_spec.specs.Short.{AreShortReplies}
use Rattle.sto_history.specs.Records.{Record}

-- those of a record are
pub record IsShortRecord (r : Record) : Type 0 where
  pub position : r.place.1 < 2 ^ 64
  pub replies : AreShortReplies r.replies

-- those of all records are, and there are not too many
pub record AreShortRecords (rs : List Record) : Type 0 where
  pub each : All IsShortRecord rs
  pub few : length rs < 2 ^ 64
