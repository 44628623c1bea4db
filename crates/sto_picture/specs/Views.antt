-- What a picture shows, and what its places are made of, as plain data.
use Rattle.std.specs.Prelude.{ℕ, List, [], map, unwrap_or, slice_get}
use Rattle.sto_part.specs.Listed.{Listed}
use Rattle.sto_trace.specs.declared.Step.{Step}
use Rattle.sto_picture.specs.declared.scene.Scene as whole
use Rattle.sto_picture.specs.declared.frame.Frame as measured

-- the names of threads and of parts, the steps of a run, and the lines below the heading "at the end"
pub record Scene : Type 0 where
  pub threads : List (List ℕ)
  pub parts : List (List ℕ)
  pub steps : List Step
  pub values : List (List ℕ)

-- so many lanes of threads, the parts that have a lane, where the column of each step begins and where the last ends, and how wide an
-- event is
pub record Frame : Type 0 where
  pub threads : ℕ
  pub lanes : List ℕ
  pub lefts : List ℕ
  pub event : ℕ

-- texts as lists of bytes
abbrev pub bytes_of : List (Listed ℕ) → List (List ℕ)
bytes_of texts = map (λ text. text.items) texts

abbrev pub scene_view : whole.Scene → Scene
scene_view s = record { threads = bytes_of s.threads.items; parts = bytes_of s.parts.items; steps = s.steps.items; values = bytes_of s.values.items }

abbrev pub frame_view : measured.Frame → Frame
frame_view f = record { threads = f.threads; lanes = f.lanes.items; lefts = f.lefts.items; event = f.event }

-- the text with a number
abbrev pub text_at : List (List ℕ) → ℕ → List ℕ
text_at texts number = unwrap_or (slice_get texts number) []
