-- The schedules that are printed lead to the reports that are printed.
use Rattle.std.specs.Prelude.{string_bytes}
use Rattle.std.specs.List.{AllByRecursion, flat_map}
use Rattle.std.proofs.Common.{◌≡◌, ℕ, List, [], ◌∷◌, ◌++◌, refl, sym, ◌∙◌}
use Rattle.std.proofs.lemmas.List.{map-append}
use Rattle.sto_lang.specs.Scripts.{File}
use Rattle.sto_report_spec.specs.declared.form.ReportForm.{ReportForm}
use Rattle.sto_run_steps.specs.Turning.{entry_turns}
use Rattle.sto_run.specs.Stepped.{IsStepReport}
use Rattle.sto_explore.specs.Legs.{turns_of, turns_with, schedule_of}
use Rattle.sto_explore.specs.Schedules.{Turn}
use Rattle.sto_explore.specs.declared.leg.Leg.{Leg}
use Rattle.sto_explore.proofs.Following.{threads_with}
use Rattle.sto_explore.specs.declared.outcome.Outcome.{Outcome}
use Rattle.sto_explore.specs.Texts.{entries_of}
use Rattle.sto_run_schedules.specs.Leading.{Gives}
use Rattle.sto_lang.specs.declared.file.Turns.{Turns}

-- the entries of legs give their turns
entries_give : (legs : List Leg) → flat_map entry_turns (entries_of legs) ≡ schedule_of legs
entries_give [] = refl
entries_give (leg ∷ legs) =
    (λ i. sym (threads_with leg.thread leg.over leg.turns) i ++ entries_give legs i)
    ∙ sym (map-append (λ (turn : Turn). turn.thread) (turns_with leg.thread leg.over leg.turns) (turns_of legs))

pub printed : (form : ReportForm) (file : File) (tries : ℕ) (os : List Outcome)
    → AllByRecursion (λ (o : Outcome). (schedule : List Turns) → Gives (schedule_of o.legs.items) schedule → IsStepReport form file tries schedule (string_bytes o.text)) os
    → AllByRecursion (λ (o : Outcome). IsStepReport form file tries (entries_of o.legs.items) (string_bytes o.text)) os
printed form file tries [] h = tt
printed form file tries (o ∷ os) h = (h.0 (entries_of o.legs.items) (entries_give o.legs.items), printed form file tries os h.1)
