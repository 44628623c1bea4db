-- What is no picture: one with an arrow from a writer of another ticket, and one with an arrow from another part.
use Rattle.std.specs.Prelude.{codes}
use Rattle.std.specs.Fmt.{digits}
use Rattle.std.specs.Str.{bytes_eq}
use Rattle.std.proofs.Common.{◌≡◌, ℕ, ◌*◌, pos, List, [], ◌∷◌, ◌++◌, Option, None, Some, true, false, refl, sym, ap, ◌∙◌}
use Rattle.std.proofs.lemmas.Bool.{both_ways}
use Rattle.std.proofs.lemmas.List.{append_cancel_left, append_cancel_right}
use Rattle.std.proofs.lemmas.Slice.Eq.{bytes_eq-Decides}
use Rattle.sto_version.specs.declared.Version.{Version}
use Rattle.sto_attempt_log.specs.declared.verdict.Verdict.{Verdict}
use Rattle.sto_attempt_log.specs.declared.verdict.Verdict.TheVariants.{Wrote, Changed}
use Rattle.sto_trace.specs.declared.Deed.{Deed}
use Rattle.sto_trace.specs.declared.Deed.TheVariants.{Start, Open, Word, Close, Lock, Draw, Release, Unlock}
use Rattle.sto_trace.specs.declared.Step.{Step}
use Rattle.sto_picture.specs.Views.{Scene, Frame}
use Rattle.sto_picture.specs.Elements.{arrow_text, point_text, turn_text}
use Rattle.sto_picture.specs.Told.{freed_part}
use Rattle.sto_picture.specs.Places.{frame_of, legend_top, picture_width, picture_height}
use Rattle.sto_picture.specs.Lanes.{lock_text, change_text}
use Rattle.sto_picture.specs.Attempts.{attempt_bar, end_words, sign_text}
use Rattle.sto_picture.specs.Pictures.{by_step, ticks_text, lanes_text, steps_text, values_text, head_text, legend_text, drawn, picture_of}

-- the picture of a scene, with these arrows in place of its own
abbrev pub with_arrows : Scene → List ℕ → List ℕ
with_arrows scene arrows =
    let frame = frame_of scene in
    head_text (picture_width scene frame) (picture_height scene frame)
    ++ (ticks_text scene frame ++ (lanes_text scene frame
    ++ ((by_step (λ n step. lock_text frame scene.steps n step.thread (freed_part step.deed)) scene.steps
    ++ (by_step (λ n step. attempt_bar frame scene.steps n step.thread step.end) scene.steps
    ++ (arrows ++ by_step (λ n step. sign_text frame n step ++ end_words scene frame n step step.end) scene.steps)))
    ++ (values_text scene frame ++ legend_text (legend_top scene frame)))))

abbrev arrows_of : Scene → List ℕ
arrows_of scene = by_step (λ n step. change_text (frame_of scene) scene.steps n step.thread step.end) scene.steps

own_arrows : (scene : Scene) → picture_of scene ≡ with_arrows scene (arrows_of scene)
unfolding drawn steps_text
own_arrows scene = refl

-- a picture has its own arrows
only_arrows : (scene : Scene) (arrows : List ℕ) → with_arrows scene arrows ≡ picture_of scene → arrows ≡ arrows_of scene
only_arrows scene arrows h =
    let frame = frame_of scene in
    let inside = append_cancel_left (head_text (picture_width scene frame) (picture_height scene frame)) _ _ (h ∙ own_arrows scene) in
    let lanes = append_cancel_left (ticks_text scene frame) _ _ inside in
    let steps = append_cancel_left (lanes_text scene frame) _ _ lanes in
    let bars = append_cancel_left (by_step (λ n step. lock_text frame scene.steps n step.thread (freed_part step.deed)) scene.steps) _ _
    (append_cancel_right _ _ (values_text scene frame ++ legend_text (legend_top scene frame)) steps) in
    append_cancel_right arrows (arrows_of scene) (by_step (λ n step. sign_text frame n step ++ end_words scene frame n step step.end) scene.steps)
    (append_cancel_left (by_step (λ n step. attempt_bar frame scene.steps n step.thread step.end) scene.steps) _ _ bars)

-- a step of the only transaction of a thread
abbrev step_of : ℕ → Deed → Option Verdict → Step
step_of thread deed end = record { thread = thread; position = 1; deed = deed; replies = record { items = []; spare = 0 }; end = end }

-- a part that is free, with this ticket
abbrev free : ℕ → Version
free ticket = record { 0 = 2 * ticket }

-- Thread 0 reads part 0, which thread 1 then changes by ticket 1, with part 1, and by ticket 2. Thread 0 finds ticket 2 at its own lock.
abbrev pub broken : Scene
broken = record {
  threads = codes "t0" ∷ codes "t1" ∷ [];
  parts = codes "c 0" ∷ codes "d 0" ∷ [];
  steps =
      step_of 0 (Start 0) None ∷ step_of 0 (Open 0 (free 0)) None ∷ step_of 0 (Word 0 0 (pos 7)) None ∷ step_of 0 (Close 0 (free 0)) None
      ∷ step_of 1 (Start 0) None ∷ step_of 1 (Lock 0 (free 0)) None ∷ step_of 1 (Lock 1 (free 0)) None ∷ step_of 1 (Draw 1) None
      ∷ step_of 1 (Release 0) None ∷ step_of 1 (Release 1) (Some (Wrote 1))
      ∷ step_of 1 (Start 1) None ∷ step_of 1 (Lock 0 (free 1)) None ∷ step_of 1 (Draw 2) None ∷ step_of 1 (Release 0) (Some (Wrote 2))
      ∷ step_of 0 (Lock 0 (free 2)) None ∷ step_of 0 (Word 0 0 (pos 3)) None ∷ step_of 0 (Unlock 0) (Some (Changed 0 0 2)) ∷ [];
  values = [];
}

-- its arrow comes from the release with ticket 2, at x 356, to the lock
right_arrow : arrows_of broken ≡ codes "<path class='arrow' d='M356 184V179H492V59'/>\n"
unfolding arrow_text point_text turn_text digits
right_arrow = refl

refused : (arrows : List ℕ) → bytes_eq arrows (codes "<path class='arrow' d='M356 184V179H492V59'/>\n") ≡ false → with_arrows broken arrows ≡ picture_of broken → ⊥
refused arrows other h =
    both_ways (bytes_eq arrows (codes "<path class='arrow' d='M356 184V179H492V59'/>\n")) other
    ((bytes_eq-Decides arrows (codes "<path class='arrow' d='M356 184V179H492V59'/>\n")).1 (only_arrows broken arrows h ∙ right_arrow))

-- an arrow from the release with ticket 1
pub another_ticket : with_arrows broken (codes "<path class='arrow' d='M164 184V179H492V59'/>\n") ≡ picture_of broken → ⊥
another_ticket = refused (codes "<path class='arrow' d='M164 184V179H492V59'/>\n") refl

-- an arrow from the release of part 1
pub another_part : with_arrows broken (codes "<path class='arrow' d='M178 208V203H492V59'/>\n") ≡ picture_of broken → ⊥
another_part = refused (codes "<path class='arrow' d='M178 208V203H492V59'/>\n") refl

-- no arrow at all
pub no_arrow : with_arrows broken [] ≡ picture_of broken → ⊥
no_arrow = refused [] refl
