-- The lines that the code adds, step by step.
use Rattle.std.specs.Prelude.{◌≡◌, ℕ, ◌+◌, List, [], ◌∷◌, ◌++◌, length, Option}
use Rattle.sto_lang.specs.Scripts.{File}
use Rattle.sto_script.specs.declared.body.ScriptBody.{ScriptBody}
use Rattle.sto_trace.specs.declared.Step.{Step}
use Rattle.sto_trace_text.specs.Events.{Event, event_after}
use Rattle.sto_trace_text.specs.Bodies.{AreBodiesAfter}

-- behind a text stands now the line of the event of a step, which has this number, and the bodies have gone through the step
abbrev pub AddsLine : (Event → List ℕ) → File → Step → ℕ → List (Option ScriptBody) → List ℕ → List (Option ScriptBody) → List ℕ → Type 0
AddsLine line file step number before text after longer =
    (earlier : List Step) → number ≡ length earlier + 1 → AreBodiesAfter file earlier before
    → (longer ≡ text ++ line (event_after file earlier step)) × AreBodiesAfter file (earlier ++ step ∷ []) after
