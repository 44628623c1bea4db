-- What `explore` does not tell of outcomes that are asked for.
use Rattle.std.specs.Prelude.{filter}
use Rattle.std.specs.List.{All, Contains}
use Rattle.std.specs.Result.{is_ok}
use Rattle.std.proofs.Common.{◌≡◌, ◌<◌, ℕ, zero, suc, List, [], ◌∷◌, length, map, get_or, Bool, true, false, cond, Option, None, Some, Vec, Global, Result, Ok, Err, refl, sym, ap, ◌∙◌, subst, arith, true≢false}
use Rattle.std.proofs.lemmas.List.Elements.{All-head, All-nil, All-cons}
use Rattle.sto_lang.specs.Files.{file_of}
use Rattle.sto_lang.specs.Scripts.{File}
use Rattle.sto_lang.specs.declared.file.Turns.{Turns}
use Rattle.sto_report_spec.specs.declared.form.ReportForm.{ReportForm}
use Rattle.sto_report_spec.specs.Lawful.{IsLawfulIn}
use Rattle.sto_run.specs.Meanings.{updating_by}
use Rattle.sto_run.specs.Stores.{means}
use Rattle.sto_run.specs.Forms.{form_for}
use Rattle.sto_orders.specs.declared.same_by.SameBy.{SameBy}
use Rattle.sto_orders.specs.Outcomes.{OrderEnd}
use Rattle.sto_question.specs.declared.fault.QuestionFault.{QuestionFault}
use Rattle.sto_question.specs.Questions.{Question, question_of, is_true_of}
use Rattle.sto_run_orders.specs.declared.asked.Asking.TheVariants as asking
use Rattle.sto_run_orders.specs.declared.report.OrderReport.{OrderReport}
use Rattle.sto_run_orders.specs.Reports.{told_end, IsReportBy, AreOrderReports, IsAmong}
use Rattle.sto_run_orders.specs.Asked.{is_true_in, asked_of}
use Rattle.sto_run_orders.proofs.Listing.{all_by}
use Rattle.sto_args.specs.declared.command.Asked.TheVariants.{Where, Never}
use Rattle.sto_cli.specs.declared.told.Answer.{Answer}
use Rattle.sto_cli.specs.declared.told.Answer.TheVariants.{Done, Found}
use Rattle.sto_cli.specs.Orders.{answer_for, TellsAsked, IsExplored}
use Rattle.sto_test_program_refusals.proofs.Scheduled.{one_file}

one_question : (p q : Question) → ◌≡◌ {A = Result Question QuestionFault} (Ok p) (Ok q) → p ≡ q
one_question p q e = cc

found_is_not_done : Done ≡ Found → ⊥
found_is_not_done e = absurd cc

module _ (form : ReportForm) (f : File) (q : Question) where
  abbrev is_true : OrderReport → Bool
  is_true r = is_true_in form f q r.report.items

  -- of each that is told it is true
  pub each_true : (reports : List OrderReport) → All (λ (r : OrderReport). is_true r ≡ true) (asked_of form f q reports)
  each_true [] = All-nil (λ (r : OrderReport). is_true r ≡ true)
  each_true (r ∷ reports) = by (is_true r) refl (each_true reports)
    where
      by : (b : Bool) → is_true r ≡ b → All (λ (x : OrderReport). is_true x ≡ true) (asked_of form f q reports)
          → All (λ (x : OrderReport). is_true x ≡ true) (cond b (r ∷ asked_of form f q reports) (asked_of form f q reports))
      by true e rest = All-cons (λ (x : OrderReport). is_true x ≡ true) r (asked_of form f q reports) e rest
      by false e rest = rest

  -- and each of which it is true is told
  pub each_told : (reports : List OrderReport) (r : OrderReport) → Contains reports r → is_true r ≡ true → Contains (asked_of form f q reports) r
  each_told [] r (k, l, e) true_of = absurd (omega (arith, l))
  each_told (x ∷ reports) r (zero, l, e) true_of =
      let same : x ≡ r = e in
      subst (λ (b : Bool). Contains (cond b (x ∷ asked_of form f q reports) (asked_of form f q reports)) r) (sym (ap is_true same ∙ true_of)) (0, omega arith, same)
  each_told (x ∷ reports) r (suc k, l, e) true_of = by (is_true x) (each_told reports r (k, omega (arith, l), e) true_of)
    where
      by : (b : Bool) → Contains (asked_of form f q reports) r → Contains (cond b (x ∷ asked_of form f q reports) (asked_of form f q reports)) r
      by true rest = (suc rest.0, (let within = rest.1 in omega (arith, within)), rest.2)
      by false rest = rest

  -- one that tells the same as a text of which it is true
  pub some_told : (by : SameBy) (reports : List OrderReport) (report : List ℕ) → IsAmong by form f reports report → is_true_in form f q report ≡ true
      → (asked_of form f q reports ≡ []) → ⊥
  some_told by [] report (k, l, e) true_of none = omega (arith, l)
  some_told by (x ∷ reports) report (zero, l, e) true_of none =
      let same : told_end by form f x.report.items ≡ told_end by form f report = e in
      let here : is_true x ≡ true = ap (λ (end : OrderEnd). is_true_of q end.state) same ∙ true_of in
      let n : suc (length (asked_of form f q reports)) ≡ 0 = ap (λ (b : Bool). length (cond b (x ∷ asked_of form f q reports) (asked_of form f q reports))) (sym here) ∙ ap length none in
      omega (arith, n)
  some_told by (x ∷ reports) report (suc k, l, e) true_of none = at (is_true x) none (some_told by reports report (k, omega (arith, l), e) true_of)
    where
      at : (b : Bool) → cond b (x ∷ asked_of form f q reports) (asked_of form f q reports) ≡ [] → (asked_of form f q reports ≡ [] → ⊥) → ⊥
      at true is rest = let n : suc (length (asked_of form f q reports)) ≡ 0 = ap length is in omega (arith, n)
      at false is rest = rest is

done_for_none : (kept : List OrderReport) → Done ≡ answer_for asking.Never kept → kept ≡ []
done_for_none [] e = refl
done_for_none (r ∷ kept) e = absurd (found_is_not_done e)

found_for_some : (kept : List OrderReport) → Found ≡ answer_for asking.Never kept → (r : OrderReport) × (others : List OrderReport) × (kept ≡ r ∷ others)
found_for_some [] e = absurd (found_is_not_done (sym e))
found_for_some (r ∷ kept) e = (r, kept, refl)

pub never_silent : (by : SameBy) (states tries : ℕ) (json : Bool) (words bytes text report : List ℕ) (f : File) (q : Question) → file_of bytes ≡ Ok f → question_of f words ≡ Ok q
    → IsLawfulIn (form_for json) (updating_by means) f tries report → is_true_in (form_for json) f q report ≡ true → IsExplored by states json (Some (Never words)) bytes Done text → ⊥
never_silent by states tries json words bytes text report f q reads asks lawful true_of (g, also, tells) =
    let same : f ≡ g = one_file bytes f g reads also in
    let told = tells.told in
    let asked : q ≡ told.question = one_question q told.question (sym asks ∙ ap (λ (x : File). question_of x words) same ∙ told.reads) in
    let here = tells.complete tries report (subst (λ (x : File). IsLawfulIn (form_for json) (updating_by means) x tries report) same lawful) in
    some_told (form_for json) g told.question by tells.reports report here ((λ i. is_true_in (form_for json) (sym same i) (sym asked i) report) ∙ true_of) (done_for_none _ told.answered)

-- what is told of an outcome is a lawful report
lawful_by : (form : ReportForm) (f : File) (tries : ℕ) (r : OrderReport) → IsReportBy form f tries r.report.items r.schedule → IsLawfulIn form (updating_by means) f tries r.report.items
lawful_by form f tries r is = by r.schedule is
  where
    by : (schedule : Option (Vec Turns Global)) → IsReportBy form f tries r.report.items schedule → IsLawfulIn form (updating_by means) f tries r.report.items
    by None h = h.0
    by (Some schedule) h = h.report.lawful

-- one of the reports of which it is true
record IsTold (form : ReportForm) (f : File) (q : Question) (reports : List OrderReport) : Type 0 where
  report : OrderReport
  among : Contains reports report
  true_of : is_true_in form f q report.report.items ≡ true

told_in : (form : ReportForm) (f : File) (q : Question) (reports : List OrderReport) (r : OrderReport) (others : List OrderReport) → asked_of form f q reports ≡ r ∷ others
    → IsTold form f q reports
told_in form f q [] r others e = absurd cc
told_in form f q (x ∷ reports) r others e = by (is_true_in form f q x.report.items) refl e (λ is. told_in form f q reports r others is)
  where
    more : IsTold form f q reports → IsTold form f q (x ∷ reports)
    more t = record { report = t.report; among = (suc t.among.0, (let within = t.among.1 in omega (arith, within)), t.among.2); true_of = t.true_of }

    by : (b : Bool) → is_true_in form f q x.report.items ≡ b → cond b (x ∷ asked_of form f q reports) (asked_of form f q reports) ≡ r ∷ others
        → (asked_of form f q reports ≡ r ∷ others → IsTold form f q reports) → IsTold form f q (x ∷ reports)
    by true here is rest = record { report = x; among = (0, omega arith, refl); true_of = here }
    by false here is rest = more (rest is)

pub never_loud : (by : SameBy) (states : ℕ) (json : Bool) (words bytes text : List ℕ) (f : File) (q : Question) → file_of bytes ≡ Ok f → question_of f words ≡ Ok q
    → ((report : List ℕ) → IsLawfulIn (form_for json) (updating_by means) f 64 report → is_true_in (form_for json) f q report ≡ false)
    → IsExplored by states json (Some (Never words)) bytes Found text → ⊥
never_loud by states json words bytes text f q reads asks none (g, also, tells) =
    let same : g ≡ f = one_file bytes g f also reads in
    let told = tells.told in
    let asked : told.question ≡ q = one_question told.question q (sym told.reads ∙ ap (λ (x : File). question_of x words) same ∙ asks) in
    let some = found_for_some _ told.answered in
    let one : IsTold (form_for json) g told.question tells.reports = told_in (form_for json) g told.question tells.reports some.0 some.1 some.2 in
    let all : All (λ (r : OrderReport). IsReportBy (form_for json) g 64 r.report.items r.schedule) tells.reports = all_by by (form_for json) g 64 tells.reports tells.of_file in
    let k = one.among.0 in
    let is : IsReportBy (form_for json) g 64 one.report.report.items one.report.schedule =
    subst (λ (r : OrderReport). IsReportBy (form_for json) g 64 r.report.items r.schedule) one.among.2 (all k one.report one.among.1) in
    let lawful = subst (λ (x : File). IsLawfulIn (form_for json) (updating_by means) x 64 one.report.report.items) same (lawful_by (form_for json) g 64 one.report is) in
    true≢false (sym one.true_of ∙ (λ i. is_true_in (form_for json) (same i) (asked i) one.report.report.items) ∙ none one.report.report.items lawful)

pub no_question : (by : SameBy) (states : ℕ) (json : Bool) (words bytes text : List ℕ) (f : File) (fault : QuestionFault) (answer : Answer) → file_of bytes ≡ Ok f
    → question_of f words ≡ Err fault → IsExplored by states json (Some (Where words)) bytes answer text → ⊥
no_question by states json words bytes text f fault answer reads asks (g, also, tells) =
    let same : g ≡ f = one_file bytes g f also reads in
    true≢false (ap is_ok (sym tells.told.reads ∙ ap (λ (x : File). question_of x words) same ∙ asks))

-- where nothing is asked, or what may be, no outcome is one that must never be
pub found_unasked : (by : SameBy) (states : ℕ) (json : Bool) (bytes text : List ℕ) → IsExplored by states json None bytes Found text → ⊥
found_unasked by states json bytes text (g, also, tells) = found_is_not_done (sym tells.told.0)

pub found_where : (by : SameBy) (states : ℕ) (json : Bool) (words bytes text : List ℕ) → IsExplored by states json (Some (Where words)) bytes Found text → ⊥
found_where by states json words bytes text (g, also, tells) = found_is_not_done (sym tells.told.answered)
