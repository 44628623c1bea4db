-- The picture of a run of a file.
use Rattle.std.specs.Prelude.{◌≡◌, ◌<◌, ◌≤◌, ℕ, List, length, map, Option, None, Some}
use Rattle.sto_lang.specs.Scripts.{File}
use Rattle.sto_trace.specs.declared.Step.{Step}
use Rattle.sto_journal.specs.declared.journal.Journal.{Journal}
use Rattle.sto_journal.specs.Journals.{entry}
use Rattle.sto_picture.specs.Pictures.{picture_of}
use Rattle.sto_draw.specs.Scenes.{scene_for}
use Rattle.sto_run.specs.Meanings.{updating_by}
use Rattle.sto_run.specs.Stores.{means}
use Rattle.sto_run.specs.Lawful.{IsLawfulJournal}
use Rattle.sto_run.specs.Alone.{RanAlone}
use Rattle.sto_run.specs.Logged.{RunLog}
use Rattle.sto_run.specs.Traced.{IsTraceOf}

-- the text is the picture of a run of the file by its schedule: of all its steps, in their order, of what the objects hold at its end, and of
-- the transactions that were handed back. The journal of this run is lawful, and with at most one script thread it is the one of such a run
pub record IsPicture (tries : ℕ) (file : File) (text : List ℕ) : Type 0 where
  pub journal : Journal
  pub homes : List (ℕ × ℕ)
  pub steps : List Step
  pub run : IsTraceOf file tries journal homes (Some steps)
  pub drawn : text ≡ picture_of (scene_for file.names file.declarations homes steps (map entry journal.lines.items) journal.state.items)
  pub lawful : IsLawfulJournal (updating_by means) file tries journal
  pub alone : length file.threads ≤ 1 → RanAlone file journal

-- these are more steps than a picture shows, or more than are kept
abbrev pub IsLong : RunLog → Type 0
IsLong None = Unit {0}
IsLong (Some steps) = 20000 < length steps

-- a run of the file by its schedule had more steps than a picture shows
pub record IsTooLong (tries : ℕ) (file : File) : Type 0 where
  pub journal : Journal
  pub homes : List (ℕ × ℕ)
  pub steps : RunLog
  pub run : IsTraceOf file tries journal homes steps
  pub long : IsLong steps

-- a picture, or none where a run was too long for one
abbrev pub IsDrawing : ℕ → File → Option (List ℕ) → Type 0
IsDrawing tries file None = IsTooLong tries file
IsDrawing tries file (Some text) = IsPicture tries file text
