-- The whole picture.
use Rattle.std.specs.Prelude.{ℕ, ◌+◌, ◌-◌, ◌*◌, ◌/◌, List, [], ◌++◌, length, unwrap_or, slice_get, codes, decimal}
use Rattle.std.specs.Option.{option_map_or}
use Rattle.sto_trace.specs.declared.Step.{Step}
use Rattle.sto_picture.specs.Views.{Scene, Frame, text_at}
use Rattle.sto_picture.specs.Elements.{attribute, box_text, words_text, each_text}
use Rattle.sto_picture.specs.Told.{freed_part}
use Rattle.sto_picture.specs.Places.{frame_of, left, thread_top, part_top, lanes_bottom, value_line, legend_top, picture_width, picture_height}
use Rattle.sto_picture.specs.Lanes.{lane_text, lock_text, change_text}
use Rattle.sto_picture.specs.Attempts.{attempt_bar, end_words, sign_text}
use Rattle.sto_picture.specs.declared.style.TheConstants.{STYLE, LEGEND}

-- a text for each step, by its number
abbrev pub by_step : (ℕ → Step → List ℕ) → List Step → List ℕ
by_step text steps = each_text (λ n. option_map_or (text n) (slice_get steps n) []) (length steps)

-- each tenth event has a line through all lanes, with its number above
abbrev pub tick_text : Frame → ℕ → List ℕ
tick_text frame k =
    box_text (codes "rule") (left frame (10 * k)) 20 1 (lanes_bottom frame - 20) ++ words_text (codes "name") (left frame (10 * k) + 3) 24 (decimal (10 * k))

unfoldable pub ticks_text : Scene → Frame → List ℕ
ticks_text scene frame = each_text (tick_text frame) (length scene.steps / 10 + 1)

-- the lanes of the threads, and those of the parts
unfoldable pub lanes_text : Scene → Frame → List ℕ
lanes_text scene frame =
    each_text (λ thread. lane_text (picture_width scene frame) (thread_top thread) (text_at scene.threads thread)) frame.threads
    ++ each_text (λ lane. lane_text (picture_width scene frame) (part_top frame lane) (text_at scene.parts (unwrap_or (slice_get frame.lanes lane) 0))) (length frame.lanes)

-- the locks, then the bars, then the arrows, and above all the words
unfoldable pub steps_text : Scene → Frame → List ℕ
steps_text scene frame =
    by_step (λ n step. lock_text frame scene.steps n step.thread (freed_part step.deed)) scene.steps
    ++ (by_step (λ n step. attempt_bar frame scene.steps n step.thread step.end) scene.steps
    ++ (by_step (λ n step. change_text frame scene.steps n step.thread step.end) scene.steps
    ++ by_step (λ n step. sign_text frame n step ++ end_words scene frame n step step.end) scene.steps))

-- what the objects hold at the end
unfoldable pub values_text : Scene → Frame → List ℕ
values_text scene frame =
    box_text (codes "rule") 0 (lanes_bottom frame) (picture_width scene frame) 1
    ++ (words_text (codes "name") 12 (lanes_bottom frame + 20) (codes "at the end")
    ++ each_text (λ place. words_text (codes "value") 12 (value_line frame place) (text_at scene.values place)) (length scene.values))

-- what the roles look like
unfoldable pub style_text : List ℕ
style_text = STYLE.now

-- the words about signs
unfoldable pub signs_text : List ℕ
signs_text = LEGEND.now

-- how a picture begins
unfoldable pub opening_text : List ℕ
opening_text = codes "<svg xmlns='http://www.w3.org/2000/svg'"

-- the head of a picture with its size
unfoldable pub head_text : ℕ → ℕ → List ℕ
head_text width height =
    opening_text ++ (attribute (codes "width") width ++ (attribute (codes "height") height ++ (codes ">\n" ++ style_text)))

-- the words about signs where they stand
unfoldable pub legend_text : ℕ → List ℕ
legend_text top = codes "<g transform='translate(12 " ++ (decimal top ++ (codes ")'>\n" ++ (signs_text ++ codes "</g>\n</svg>\n")))

unfoldable pub drawn : Scene → Frame → List ℕ
drawn scene frame =
    head_text (picture_width scene frame) (picture_height scene frame)
    ++ (ticks_text scene frame ++ (lanes_text scene frame ++ (steps_text scene frame ++ (values_text scene frame ++ legend_text (legend_top scene frame)))))

-- the picture of a scene
abbrev pub picture_of : Scene → List ℕ
picture_of scene = drawn scene (frame_of scene)
