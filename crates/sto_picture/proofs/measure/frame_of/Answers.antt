use Rattle.std.proofs.Common.{◌≡◌, ℕ, ◌+◌, ◌*◌, List, length, sym, ap, ◌∙◌, max}
use Rattle.std.proofs.lemmas.List.{length-map}
use Rattle.sto_picture.specs.Elements.{each}
use Rattle.sto_picture.specs.Views.{Scene, scene_view, bytes_of}
use Rattle.sto_picture.specs.Places.{left_of, lanes_of, lane_names, name_width, event_width}
use Rattle.sto_picture.proofs.Growing.{frame_made}
use Rattle.sto_picture.proofs.measure.frame_of.Goals as goal

pub returns : goal.returns
returns c =
    let seen : Scene = scene_view c.args.scene.now in
    let names : List ℕ → ℕ = λ lanes. name_width (lane_names seen.parts lanes) in
    let threads : c.thread_width-threads.result ≡ name_width seen.threads = c.thread_width-threads.ensures.width ∙ ap (λ ts. name_width (bytes_of ts)) c.as_slice-3.ensures.items in
    let parts : c.part_width-parts.result ≡ names c.in_ok-lanes.lanes.items =
    c.part_width-parts.ensures.width ∙ (λ i. name_width (lane_names (bytes_of (c.as_slice.ensures.items i)) (c.as_slice-2.ensures.items i))) in
    frame_made seen c.len-2.result (24 + 7 * c.max.result) c.event_width-event.result (10 + 7 * c.max-2.result) c.in_ok-lanes.lanes.items c.in_ok-lefts.lefts.items
    (c.len-2.ensures ∙ sym (length-map _ _))
    (c.in_ok-lanes.ensures ∙ ap lanes_of c.as_slice-steps.ensures.items)
    (ap (λ m. 24 + 7 * m) (c.max.ensures ∙ (λ i. max (threads i) (parts i))))
    (c.event_width-event.ensures.width ∙ ap event_width c.len.ensures)
    (ap (λ m. 10 + 7 * m) (c.max-2.ensures ∙ (λ i. max (parts i) 16)))
    (c.in_ok-lefts.ensures ∙ (λ i. each (left_of (24 + 7 * c.max.result) c.event_width-event.result (10 + 7 * c.max-2.result) (c.as_slice-steps.ensures.items i)) (length (c.as_slice-steps.ensures.items i) + 1)))
