-- What a picture of a run of a file shows.
use Rattle.std.specs.Prelude.{ℕ, ◌-◌, List, [], ◌∷◌, ◌++◌, map, flat_map, length, take, Bool, true, false, not, ◌==◌, ◌&&◌, Option, None, Some, if◌then◌else◌, codes}
use Rattle.std.specs.List.{list_any}
use Rattle.sto_model.specs.Run.{State}
use Rattle.sto_lang.specs.Objects.{Declaration}
use Rattle.sto_report_spec.specs.Aborts.{part_by_home}
use Rattle.sto_report_spec.specs.Replay.{Entry}
use Rattle.sto_report_spec.specs.Report.{part_text, line_text, object_text}
use Rattle.sto_attempt_log.specs.declared.verdict.Verdict.{Verdict}
use Rattle.sto_attempt_log.specs.declared.verdict.Verdict.TheVariants.{Wrote, Read, Cancelled, Locked, Changed}
use Rattle.sto_trace.specs.declared.Step.{Step}
use Rattle.sto_picture.specs.Views.{Scene}

-- a part by the name of its object and its number there, from its home
abbrev pub name_of_part : List Declaration → ℕ × ℕ → List ℕ
name_of_part declarations home = part_text (part_by_home declarations home)

-- a line of a report without its line feed
abbrev pub without_end : List ℕ → List ℕ
without_end line = take (length line - 1) line

-- an attempt ended, and was not aborted
abbrev pub is_end : Option Verdict → Bool
is_end None = false
is_end (Some (Wrote ticket)) = true
is_end (Some (Read at)) = true
is_end (Some (Cancelled at)) = true
is_end (Some (Locked at part)) = false
is_end (Some (Changed at part ticket)) = false

-- a step ended a transaction
abbrev pub ends : ℕ → ℕ → Step → Bool
ends thread position s = (s.thread == thread) && ((s.position == position) && is_end s.end)

-- a step of these did
abbrev pub has_ended : List Step → ℕ → ℕ → Bool
has_ended steps thread position = list_any (ends thread position) steps

-- none did, so it was handed back, and ran after them
abbrev pub is_late : List Step → Entry → Bool
is_late steps e = not (has_ended steps e.place.0 e.place.1)

-- the line of such a transaction
abbrev pub late_line : List (List ℕ) → List Step → Entry → List (List ℕ)
late_line names steps e = if is_late steps e then without_end (line_text names e) ∷ [] else []

-- the lines of all of them, below a heading where there is one
abbrev pub late_lines : List (List ℕ) → List Step → List Entry → List (List ℕ)
late_lines names steps entries =
    (if list_any (is_late steps) entries then codes "handed back, and run after the events above:" ∷ [] else []) ++ flat_map (late_line names steps) entries

-- the names of the threads; the parts as abort lines name them, from their homes; the steps; and below them the lines of the objects in a
-- report, and those of the transactions that were handed back
abbrev pub scene_for : List (List ℕ) → List Declaration → List (ℕ × ℕ) → List Step → List Entry → State → Scene
scene_for names declarations homes steps entries state = record {
  threads = names;
  parts = map (name_of_part declarations) homes;
  steps = steps;
  values = map (λ d. without_end (object_text state d)) declarations ++ late_lines names steps entries;
}
