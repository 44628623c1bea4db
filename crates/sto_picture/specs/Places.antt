-- Where things stand, in units of the picture: from the left for x, from above for y.
use Rattle.std.specs.Prelude.{ℕ, ◌+◌, ◌-◌, ◌*◌, ◌/◌, List, [], ◌∷◌, ◌++◌, map, max, min, length, fold, nat_le, if◌then◌else◌, Bool, Option, None, Some, unwrap_or, is_some, slice_get, take, count_by, position, ◌==◌}
use Rattle.std.specs.List.{list_any}
use Rattle.sto_trace.specs.declared.Step.{Step}
use Rattle.sto_picture.specs.Views.{Scene, Frame, text_at}
use Rattle.sto_picture.specs.Told.{locked_part}
use Rattle.sto_picture.specs.Elements.{each}

-- a character is 7 units wide

-- the length of the longest text
abbrev pub longest : List (List ℕ) → ℕ
longest texts = fold (λ most text. max most (length text)) 0 texts

-- the parts so far, and the part that a step locks, where it is not among them
abbrev pub with_part : List ℕ → Option ℕ → List ℕ
with_part lanes None = lanes
with_part lanes (Some part) = if list_any (λ lane. lane == part) lanes then lanes else (lanes ++ part ∷ [])

-- the parts that are locked, in the order of their first locks
abbrev pub lanes_of : List Step → List ℕ
lanes_of steps = fold (λ lanes step. with_part lanes (locked_part step.deed)) [] steps

-- the names of lanes
abbrev pub lane_names : List (List ℕ) → List ℕ → List (List ℕ)
lane_names parts lanes = map (text_at parts) lanes

-- the most characters that a name of a lane takes; no file has longer ones
abbrev pub name_width : List (List ℕ) → ℕ
name_width names = min 48 (longest names)

-- where the first event begins, right of the names of all lanes
abbrev pub first_left : Scene → ℕ
first_left scene = 24 + 7 * max (name_width scene.threads) (name_width (lane_names scene.parts (lanes_of scene.steps)))

-- how wide an event is: in a long run it has just room for its sign
abbrev pub event_width : ℕ → ℕ
event_width count = if nat_le count 200 then 14 else 8

-- how much further a step goes with which an attempt ends: the name of a part has room there, and no less than 16 characters
abbrev pub end_width : Scene → ℕ
end_width scene = 10 + 7 * max (name_width (lane_names scene.parts (lanes_of scene.steps))) 16

-- an attempt ends with this step
abbrev pub ends : Step → Bool
ends step = is_some step.end

-- where the column of step n begins, by where the first begins, the width of an event, and how much further a step goes with which an
-- attempt ends
abbrev pub left_of : ℕ → ℕ → ℕ → List Step → ℕ → ℕ
left_of first event room steps n = first + n * event + count_by ends (take n steps) * room

-- all places of a scene
abbrev pub frame_of : Scene → Frame
frame_of scene = record {
  threads = length scene.threads;
  lanes = lanes_of scene.steps;
  lefts = each (left_of (first_left scene) (event_width (length scene.steps)) (end_width scene) scene.steps) (length scene.steps + 1);
  event = event_width (length scene.steps);
}

-- where the column of step n begins
abbrev pub left : Frame → ℕ → ℕ
left frame n = unwrap_or (slice_get frame.lefts n) 0

-- where the event of step n ends
abbrev pub right : Frame → ℕ → ℕ
right frame n = left frame n + frame.event

-- the middle of the event of step n
abbrev pub middle : Frame → ℕ → ℕ
middle frame n = left frame n + frame.event / 2

-- where all columns end
abbrev pub last_right : Frame → ℕ
last_right frame = left frame (length frame.lefts - 1)

-- the lane of a thread: a bar of 20 units, and three lines of words below it
abbrev pub thread_top : ℕ → ℕ
thread_top thread = 30 + 72 * thread

abbrev pub bar_top : ℕ → ℕ
bar_top thread = thread_top thread + 7

abbrev pub bar_bottom : ℕ → ℕ
bar_bottom thread = thread_top thread + 27

abbrev pub words_line : ℕ → ℕ → ℕ
words_line thread line = thread_top thread + 40 + 13 * line

-- the lane of a part, below those of the threads
abbrev pub part_top : Frame → ℕ → ℕ
part_top frame lane = thread_top frame.threads + 24 * lane

-- the lane that a part has
abbrev pub lane_of : Frame → ℕ → Option ℕ
lane_of frame part = position (λ lane. lane == part) frame.lanes

-- where all lanes end
abbrev pub lanes_bottom : Frame → ℕ
lanes_bottom frame = part_top frame (length frame.lanes)

-- the line of the object with a place in the file, below a heading
abbrev pub value_line : Frame → ℕ → ℕ
value_line frame place = lanes_bottom frame + 38 + 15 * place

-- where the words about signs begin
abbrev pub legend_top : Scene → Frame → ℕ
legend_top scene frame = value_line frame (length scene.values)

abbrev pub picture_height : Scene → Frame → ℕ
picture_height scene frame = legend_top scene frame + 110

abbrev pub picture_width : Scene → Frame → ℕ
picture_width scene frame = max 740 (max (last_right frame + 48) (24 + 7 * longest scene.values))
