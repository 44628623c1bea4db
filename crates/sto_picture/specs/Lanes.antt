-- What is drawn of lanes and locks: names, thick lines and arrows.
use Rattle.std.specs.Prelude.{ℕ, ◌+◌, ◌-◌, List, [], ◌++◌, Option, None, Some, codes}
use Rattle.sto_attempt_log.specs.declared.verdict.Verdict.{Verdict}
use Rattle.sto_attempt_log.specs.declared.verdict.Verdict.TheVariants.{Wrote, Read, Cancelled, Locked, Changed}
use Rattle.sto_trace.specs.declared.Step.{Step}
use Rattle.sto_picture.specs.Views.{Frame}
use Rattle.sto_picture.specs.Elements.{box_text, words_text, arrow_text}
use Rattle.sto_picture.specs.Told.{last_before, locks_of}
use Rattle.sto_picture.specs.Arrows.{ends_of}
use Rattle.sto_picture.specs.Places.{left, right, middle, bar_bottom, part_top, lane_of}

-- a thick line in a lane, from the step that locked its part to step n, which gave it back
abbrev pub held_text : Frame → Option ℕ → Option ℕ → ℕ → List ℕ
held_text frame None from n = []
held_text frame (Some lane) None n = []
held_text frame (Some lane) (Some from) n = box_text (codes "lock") (left frame from) (part_top frame lane + 10) (right frame n - left frame from) 7

-- the lock that step n gives back
abbrev pub lock_text : Frame → List Step → ℕ → ℕ → Option ℕ → List ℕ
lock_text frame steps n thread None = []
lock_text frame steps n thread (Some part) = held_text frame (lane_of frame part) (last_before (locks_of thread part) steps n) n

-- an arrow from the lane of a part, where it was released, to the bar of a thread, at the step that found this
abbrev pub found_text : Frame → ℕ → Option ℕ → Option (ℕ × ℕ) → List ℕ
found_text frame thread None ends = []
found_text frame thread (Some lane) None = []
found_text frame thread (Some lane) (Some (from, found)) =
    arrow_text (middle frame from) (part_top frame lane + 10) (part_top frame lane + 5) (middle frame found) (bar_bottom thread + 2)

-- the arrow to the attempt that ended with step n since a part was changed
abbrev pub change_text : Frame → List Step → ℕ → ℕ → Option Verdict → List ℕ
change_text frame steps n thread None = []
change_text frame steps n thread (Some (Wrote ticket)) = []
change_text frame steps n thread (Some (Read at)) = []
change_text frame steps n thread (Some (Cancelled at)) = []
change_text frame steps n thread (Some (Locked at part)) = []
change_text frame steps n thread (Some (Changed at part ticket)) = found_text frame thread (lane_of frame part) (ends_of steps thread part ticket n)

-- the name of a lane, and a line above it across the picture
abbrev pub lane_text : ℕ → ℕ → List ℕ → List ℕ
lane_text width top name = box_text (codes "rule") 0 top width 1 ++ words_text (codes "name") 12 (top + 17) name
