-- Which texts are no lawful reports, by what any types say of updates.
use Rattle.std.specs.Fmt.{digits}
use Rattle.std.specs.Int.{int_wrap}
use Rattle.std.specs.List.{flat_map}
use Rattle.std.specs.Prelude.{codes}
use Rattle.std.proofs.Common.{◌≡◌, ℕ, pos, ◌<◌, ◌≤◌, List, [], ◌∷◌, ◌++◌, length, Some, refl, sym, ap, subst, arith}
use Rattle.std.proofs.lemmas.List.Elements.{All-head}
use Rattle.json.specs.Print.{escape_byte}
use Rattle.json.proofs.OnLiterals.{json_on_literals}
use Rattle.serde_json.specs.Written.{compact_text}
use Rattle.sto_model.specs.PlainReplies.{Value, Done}
use Rattle.sto_model.specs.Sizes.{part_count}
use Rattle.sto_lang.specs.Objects.{Declaration}
use Rattle.sto_lang.specs.Scripts.{File}
use Rattle.sto_report_spec.specs.Orders.{TransactionPlace}
use Rattle.sto_report_spec.specs.Aborts.{Abort, Changed}
use Rattle.sto_report_spec.specs.Replay.{Entry, entries_of, final_state}
use Rattle.sto_report_spec.specs.declared.ending.Ending.TheVariants.{Read}
use Rattle.sto_report_spec.specs.NamedJson.{json_order_named, json_aborts_named}
use Rattle.sto_report_spec.specs.Report.{line_text, abort_text, object_text}
use Rattle.sto_report_spec.specs.Json.{report_data}
use Rattle.sto_report_spec.specs.Updated.{Updating}
use Rattle.sto_report_spec.specs.LawfulAborts.{IsLawfulAbort, declared_as}
use Rattle.sto_report_spec.specs.Lawful.{IsLawful, IsLawfulJson, IsLawfulIn}
use Rattle.sto_report_spec.specs.declared.form.ReportForm.{ReportForm}
use Rattle.sto_report_spec.specs.declared.form.ReportForm.TheVariants.{Text, Json}
use Rattle.sto_test_premises.specs.Adding.{file}
use Rattle.sto_test_refusals.proofs.Lists.{differ, none_behind, some_is}
use Rattle.sto_test_refusals.specs.Texts.{exchanged, left_out, other_reply, other_part, other_writer, other_rows, json_left_out, json_other_reply}

-- what the line of the attempt tells that was aborted by part 1 of the box, and by the second writer
abbrev pub by_other_part : Abort
by_other_part = record { place = (0, 1); seen = 0; replies = Value (pos 0) ∷ Done ∷ []; cause = Changed (record { object = codes "a"; part = 1 }) 1 }

abbrev pub by_other_writer : Abort
by_other_writer = record { place = (0, 1); seen = 0; replies = Value (pos 0) ∷ Done ∷ []; cause = Changed (record { object = codes "a"; part = 0 }) 2 }

abbrev pub order : List TransactionPlace
order = (1, 1) ∷ (0, 1) ∷ []

-- the box is the one object, and has one part
pub no_part : (d : Declaration) → declared_as (codes "a") file.declarations ≡ Some d → 1 < part_count d.shape → ⊥
no_part d declared inside =
    let one : 1 < 1 = subst (λ (e : Declaration). 1 < part_count e.shape) (sym (some_is _ d declared)) inside in omega (arith, one)

-- stands for an entry where there is none
abbrev pub no_entry : Entry
no_entry = record { writers = 0; place = (0, 0); ending = Read; replies = [] }

module _ (u : Updating) where
  pub exchanged_is_none : IsLawful u file 64 exchanged → ⊥
  unfolding digits int_wrap
  exchanged_is_none l = differ _ _ 0 50 49 refl refl (λ e. omega (arith, e)) l.report

  pub left_out_is_none : IsLawful u file 64 left_out → ⊥
  unfolding digits int_wrap
  left_out_is_none l = let none : 0 ≡ 1 = ap length (l.order 0) in omega (arith, none)

  pub other_reply_is_none : IsLawful u file 64 other_reply → ⊥
  unfolding digits int_wrap
  other_reply_is_none l = differ _ _ 33 50 49 refl refl (λ e. omega (arith, e)) l.report

  pub other_rows_is_none : IsLawful u file 64 other_rows → ⊥
  unfolding digits int_wrap
  other_rows_is_none l = differ _ _ 90 51 50 refl refl (λ e. omega (arith, e)) l.report

  part_is_none : IsLawfulAbort u file order by_other_part → ⊥
  part_is_none a = no_part a.object a.part.declared a.part.inside

  pub other_part_is_none : IsLawful u file 64 other_part → ⊥
  unfolding digits int_wrap
  other_part_is_none l = part_is_none (All-head (IsLawfulAbort u file order) by_other_part [] l.aborts.each)

  writer_is_none : IsLawfulAbort u file order by_other_writer → ⊥
  unfolding digits int_wrap
  writer_is_none a =
      let there : 1 < 2 = omega arith in let second : 2 ≤ 1 = a.cause.earlier 1 no_entry there refl in omega (arith, second)

  pub other_writer_is_none : IsLawful u file 64 other_writer → ⊥
  unfolding digits int_wrap
  other_writer_is_none l = writer_is_none (All-head (IsLawfulAbort u file order) by_other_writer [] l.aborts.each)

  pub json_left_out_is_none : IsLawfulJson u file 64 json_left_out → ⊥
  unfolding digits int_wrap json_on_literals
  json_left_out_is_none l = let none : 0 ≡ 1 = ap length (l.order 0) in omega (arith, none)

  pub json_other_reply_is_none : IsLawfulJson u file 64 json_other_reply → ⊥
  unfolding digits int_wrap escape_byte json_on_literals
  json_other_reply_is_none l = differ _ _ 142 50 49 refl refl (λ e. omega (arith, e)) l.report

  -- a report says at least `state`
  pub nothing_is_none : (form : ReportForm) (f : File) (tries : ℕ) → IsLawfulIn form u f tries [] → ⊥
  nothing_is_none Text f tries l =
      let rest : [] ≡ flat_map (abort_text f.names) [] ++ (codes "state\n" ++ flat_map (object_text (final_state f [])) f.declarations) =
      none_behind (flat_map (line_text f.names) (entries_of f [])) _ l.report in
      let none : 0 ≡ length (codes "state\n" ++ flat_map (object_text (final_state f [])) f.declarations) = ap length rest in omega (arith, none)
  nothing_is_none Json f tries l =
      let places = json_order_named f.names [] in
      let told = report_data f.names f.declarations (entries_of f places) (json_aborts_named f.names []) (final_state f places) in
      let rest : [] ≡ codes "\n" = none_behind (compact_text told) (codes "\n") l.report in let none : 0 ≡ 1 = ap length rest in omega (arith, none)
