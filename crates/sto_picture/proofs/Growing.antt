-- What is made of one more number, or of one more step.
use Rattle.std.proofs.Common.{◌≡◌, ℕ, ◌+◌, ◌*◌, ◌<◌, List, [], ◌∷◌, ◌++◌, length, get_or, refl, sym, ap, ◌∙◌, arith, add-one, append_assoc, slice_get, Option, Some, Bool, true, false, cond, max}
use Rattle.std.specs.Option.{option_map_or}
use Rattle.std.proofs.lemmas.List.Sums.{count_by_more_yes, count_by_more_no}
use Rattle.sto_trace.specs.declared.Step.{Step}
use Rattle.sto_picture.specs.Elements.{each, each_text}
use Rattle.sto_picture.specs.Views.{Scene, Frame}
use Rattle.sto_picture.specs.Places.{ends, left_of, lanes_of, lane_names, name_width, event_width, frame_of}

pub each_more : {X : Type 0} (f : ℕ → X) (n : ℕ) → each f (n + 1) ≡ each f n ++ f n ∷ []
each_more f n = ap (each f) (add-one n)

-- one more text
pub told_more : (text : ℕ → List ℕ) (n : ℕ) (old now new : List ℕ) → now ≡ old ++ each_text text n → new ≡ now ++ text n → new ≡ old ++ each_text text (n + 1)
told_more text n old now new so_far more =
    more ∙ ap (λ (b : List ℕ). b ++ text n) so_far ∙ append_assoc old (each_text text n) (text n) ∙ ap (λ (b : List ℕ). old ++ b) (sym (ap (each_text text) (add-one n)))

-- the text of one more step
pub step_more : (text : ℕ → Step → List ℕ) (steps : List Step) (n : ℕ) (step : Step) (old now new : List ℕ) → slice_get steps n ≡ Some step
    → now ≡ old ++ each_text (λ k. option_map_or (text k) (slice_get steps k) []) n → new ≡ now ++ text n step
    → new ≡ old ++ each_text (λ k. option_map_or (text k) (slice_get steps k) []) (n + 1)
step_more text steps n step old now new here so_far more =
    told_more (λ k. option_map_or (text k) (slice_get steps k) []) n old now new so_far
    (more ∙ ap (λ (found : Option Step). now ++ option_map_or (text n) found []) (sym here))

-- where the next column begins
pub left_more : (first event room : ℕ) (steps : List Step) (i : ℕ) (d : Step) → i < length steps
    → left_of first event room steps (i + 1) ≡ left_of first event room steps i + (event + cond (ends (get_or steps i d)) room 0)
left_more first event room steps i d within = by (ends (get_or steps i d)) refl
  where
    by : (b : Bool) → ends (get_or steps i d) ≡ b → left_of first event room steps (i + 1) ≡ left_of first event room steps i + (event + cond b room 0)
    by true h =
        let counted = count_by_more_yes ends steps i d within h in
        ap (λ (c : ℕ). first + (i + 1) * event + c * room) counted ∙ omega arith
    by false h =
        let counted = count_by_more_no ends steps i d within h in
        ap (λ (c : ℕ). first + (i + 1) * event + c * room) counted ∙ omega arith

-- the places of a scene, from its measures
pub frame_made : (scene : Scene) (threads first event room : ℕ) (lanes lefts : List ℕ) → threads ≡ length scene.threads → lanes ≡ lanes_of scene.steps
    → first ≡ 24 + 7 * max (name_width scene.threads) (name_width (lane_names scene.parts lanes)) → event ≡ event_width (length scene.steps)
    → room ≡ 10 + 7 * max (name_width (lane_names scene.parts lanes)) 16 → lefts ≡ each (left_of first event room scene.steps) (length scene.steps + 1)
    → (let made : Frame = record { threads = threads; lanes = lanes; lefts = lefts; event = event } in made) ≡ frame_of scene
frame_made scene threads first event room lanes lefts t l f e r x =
    let first_is = f ∙ ap (λ (ls : List ℕ). 24 + 7 * max (name_width scene.threads) (name_width (lane_names scene.parts ls))) l in
    let room_is = r ∙ ap (λ (ls : List ℕ). 10 + 7 * max (name_width (lane_names scene.parts ls)) 16) l in
    let lefts_are = x ∙ (λ i. each (left_of (first_is i) (e i) (room_is i) scene.steps) (length scene.steps + 1)) in
    λ i. record { threads = t i; lanes = l i; lefts = lefts_are i; event = e i }
