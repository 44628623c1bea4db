-- Reports of all outcomes.
use Rattle.std.specs.List.{All, AllZip, Contains}
use Rattle.std.proofs.Common.{◌≡◌, ◌<◌, ℕ, zero, suc, List, [], ◌∷◌, length, map, get_or, refl, sym, ap, ◌∙◌, subst, Some, slice_get, arith}
use Rattle.std.proofs.lemmas.List.Elements.{All-nil, All-cons}
use Rattle.std.proofs.lemmas.List.Sorted.{IsPermutation-map, Contains-permutation, All-permutation}
use Rattle.std.proofs.lemmas.List.{length-map}
use Rattle.std.proofs.lemmas.Option.{slice_get_within, get_or_from_slice_get, slice_get-map}
use Rattle.std.specs.Option.{option_map}
use Rattle.sto_lang.specs.Scripts.{File}
use Rattle.sto_report_spec.specs.declared.form.ReportForm.{ReportForm}
use Rattle.sto_report_spec.specs.declared.form.ReportForm.TheVariants.{Text, Json}
use Rattle.sto_report_spec.specs.Lawful.{IsLawfulIn}
use Rattle.sto_report_spec.specs.Orders.{IsOrder}
use Rattle.sto_report_spec.specs.Updated.{Updating}
use Rattle.sto_run.specs.Forms.{order_told}
use Rattle.sto_orders.specs.declared.same_by.SameBy.{SameBy}
use Rattle.sto_orders.specs.declared.outcome.Outcome.{Outcome}
use Rattle.sto_orders.specs.Outcomes.{OrderEnd, end_of, order_of, HasOutcome, AreOutcomes}
use Rattle.sto_run_orders.specs.declared.report.OrderReport.{OrderReport}
use Rattle.sto_run_orders.proofs.Apart.{AreDifferent, different_in_order}
use Rattle.sto_run_orders.specs.Reports.{told_end, HasTold, IsReportBy, IsOutcomeReport, AreOrderReports, TellApart, IsAmong}

-- a lawful report names an order of the file
lawful_order : (form : ReportForm) (u : Updating) (file : File) (tries : ℕ) (text : List ℕ) → IsLawfulIn form u file tries text → IsOrder file (order_told form file.names text)
lawful_order Text u file tries text lawful = lawful.order
lawful_order Json u file tries text lawful = lawful.order

module _ (by : SameBy) (form : ReportForm) (file : File) (tries : ℕ) where
  abbrev end_in : OrderReport → OrderEnd
  end_in r = told_end by form file r.report.items

  -- an outcome's report is among those of all
  told_at : (found : List Outcome) (told : List OrderReport) → AllZip (IsOutcomeReport by form file tries) found told → (k : ℕ) (o : Outcome) → slice_get found k ≡ Some o
      → Contains (map end_in told) (end_of by file (order_of o))
  told_at [] told each k o at = absurd cc
  told_at (p ∷ found) [] each k o at = absurd each
  told_at (p ∷ found) (r ∷ told) each zero o at =
      let same : p ≡ o = cc in
      (0, omega arith, each.0.same ∙ ap (λ (x : Outcome). end_of by file (order_of x)) same)
  told_at (p ∷ found) (r ∷ told) each (suc k) o at =
      let more = told_at found told each.1 k o at in
      (suc more.0, (let within = more.1 in omega (arith, within)), more.2)

  pub all_among : (u : Updating) (n : ℕ) (reports : List OrderReport) (text : List ℕ) → AreOrderReports by form file tries reports → IsLawfulIn form u file n text → IsAmong by form file reports text
  all_among u n reports text are lawful =
      let has : HasOutcome by file are.found (order_told form file.names text) = are.outcomes.complete (order_told form file.names text) (lawful_order form u file n text lawful) in
      let stands : Contains (map end_in are.told) (end_of by file (order_of has.outcome)) = told_at are.found are.told are.each has.at has.outcome has.stands in
      Contains-permutation (map end_in are.told) (map end_in reports) (told_end by form file text) (IsPermutation-map end_in are.told reports are.same)
      (subst (Contains (map end_in are.told)) has.same stands)

  -- each is come by as it says
  told_by : (found : List Outcome) (told : List OrderReport) → AllZip (IsOutcomeReport by form file tries) found told → All (λ (r : OrderReport). IsReportBy form file tries r.report.items r.schedule) told
  told_by [] [] each = All-nil (λ (r : OrderReport). IsReportBy form file tries r.report.items r.schedule)
  told_by [] (r ∷ told) each = absurd each
  told_by (o ∷ found) [] each = absurd each
  told_by (o ∷ found) (r ∷ told) each =
      All-cons (λ (x : OrderReport). IsReportBy form file tries x.report.items x.schedule) r told each.0.report (told_by found told each.1)

  pub all_by : (reports : List OrderReport) → AreOrderReports by form file tries reports → All (λ (r : OrderReport). IsReportBy form file tries r.report.items r.schedule) reports
  all_by reports are = All-permutation (λ (r : OrderReport). IsReportBy form file tries r.report.items r.schedule) are.told reports are.same (told_by are.found are.told are.each)

  -- the state beside each is the one that it tells
  states_by : (found : List Outcome) (told : List OrderReport) → AllZip (IsOutcomeReport by form file tries) found told → All (HasTold form file) told
  states_by [] [] each = All-nil (HasTold form file)
  states_by [] (r ∷ told) each = absurd each
  states_by (o ∷ found) [] each = absurd each
  states_by (o ∷ found) (r ∷ told) each = All-cons (HasTold form file) r told each.0.state (states_by found told each.1)

  pub all_states : (reports : List OrderReport) → AreOrderReports by form file tries reports → All (HasTold form file) reports
  all_states reports are = All-permutation (HasTold form file) are.told reports are.same (states_by are.found are.told are.each)

  -- a report tells the outcome in its place
  told_in_place : (found : List Outcome) (told : List OrderReport) → AllZip (IsOutcomeReport by form file tries) found told → (k : ℕ) (d : OrderEnd) → k < length (map end_in told)
      → (o : Outcome) × (slice_get found k ≡ Some o) × (get_or (map end_in told) k d ≡ end_of by file (order_of o))
  told_in_place [] [] each k d within = absurd (omega (arith, within))
  told_in_place [] (r ∷ told) each k d within = absurd each
  told_in_place (o ∷ found) [] each k d within = absurd each
  told_in_place (o ∷ found) (r ∷ told) each zero d within = (o, refl, each.0.same)
  told_in_place (o ∷ found) (r ∷ told) each (suc k) d within = told_in_place found told each.1 k d (omega (arith, within))

  pub all_apart : (reports : List OrderReport) → AreOrderReports by form file tries reports → TellApart by form file reports
  all_apart reports are i j a b at_a at_b same =
      apart i j (end_in a) (within i a at_a) (within j b at_b) (here i a at_a ∙ same ∙ sym (here j b at_b))
    where
      first : AreDifferent (map end_in are.told)
      first = λ k l d in_k in_l e.
          let x = told_in_place are.found are.told are.each k d in_k in
          let y = told_in_place are.found are.told are.each l d in_l in
          are.outcomes.distinct k l x.0 y.0 x.1 y.1 (sym x.2 ∙ e ∙ y.2)

      apart : AreDifferent (map end_in reports)
      apart = different_in_order (map end_in are.told) (map end_in reports) (IsPermutation-map end_in are.told reports are.same) first

      within : (k : ℕ) (r : OrderReport) → slice_get reports k ≡ Some r → k < length (map end_in reports)
      within k r at = let inside = slice_get_within reports k r at in omega (arith, inside, length-map reports end_in)

      here : (k : ℕ) (r : OrderReport) → slice_get reports k ≡ Some r → get_or (map end_in reports) k (end_in a) ≡ end_in r
      here k r at = get_or_from_slice_get (map end_in reports) k (end_in r) (end_in a) (slice_get-map end_in reports k ∙ ap (option_map end_in) at)
