use Rattle.std.proofs.Common.{◌≡◌, ℕ, List, [], ◌∷◌, map, refl, sym, ap, ◌∙◌, subst, Option, None, Some, position, arith}
use Rattle.std.specs.Option.{option_map}
use Rattle.std.specs.List.{slice_split}
use Rattle.std.specs.Str.{bytes_eq}
use Rattle.std.proofs.lemmas.Option.{slice_get-map}
use Rattle.sto_part.specs.Listed.{Listed}
use Rattle.sto_lang.specs.declared.file.Decl.{Decl}
use Rattle.sto_lang.specs.declared.file.Thread.{Thread}
use Rattle.sto_lang.specs.Views.{file as view, declaration, names_of}
use Rattle.sto_report_spec.specs.Aborts.{Abort}
use Rattle.sto_report_spec.specs.Named.{is_space}
use Rattle.sto_report_spec.specs.NamedAborts.{aborts_in}
use Rattle.sto_journal.specs.Journals.{places}
use Rattle.sto_checker.specs.Reading.{place_of, IsSmall, IsAbortRead}
use Rattle.sto_checker.specs.declared.told.ToldAbort.{ToldAbort}
use Rattle.sto_checker.proofs.Truth.{no_truth}
use Rattle.sto_checker.proofs.Declared.{few_parts}
use Rattle.sto_checker.specs.declared.window.Window.{Window}
use Rattle.sto_checker.specs.Given.{MayBe, IsGivenOr}
use Rattle.sto_checker.proofs.Givens.{object_at, no_object, window_is, few_places, not_read, tells, unknown_transaction, outside, unknown_object, unknown_part, wrong_writer, is_given}
use Rattle.sto_checker.proofs.abort.given_abort.Goals.{then-not-has_part-via-then-not-has_part, then-not-has_part-via-else-not-has_part+then-not-may_be}
use Rattle.sto_checker.proofs.abort.given_abort.Goals as goal

abbrev Reads : List ℕ → Option ToldAbort → List Thread → Type 0
Reads content told threads = (a : Abort) → aborts_in (names_of threads) (slice_split is_space content) ≡ a ∷ [] → IsSmall a → IsAbortRead a told

abbrev MayBeOf : ToldAbort → Window → ℕ → List (Listed ℕ) → Type 0
MayBeOf told window object written = MayBe told.seen window.most (map (λ (objects : Listed ℕ). objects.items) written) object told.cause.by

pub returns-in_err-told : goal.returns-in_err-told
returns-in_err-told c =
    let f = view c.args.file.now in
    let r = c.args.replayed.now in
    let reads = subst (Reads c.args.line.content.now None) c.as_slice.ensures.items c.in_err-told.ensures in
    record {
      given = subst (IsGivenOr f (places r.past.run.lines.items) c.args.line.text.now) (sym c.from_residual.ensures)
          (not_read f r c.requires.replayed c.requires.order c.requires.sound (few_places f r c.requires.replayed c.requires.order c.requires.sound)
          c.args.line.text.now c.args.line.content.now c.requires.content reads);
    }

pub returns-in_err-window : goal.returns-in_err-window
returns-in_err-window c =
    let f = view c.args.file.now in
    let r = c.args.replayed.now in
    let reads = subst (Reads c.args.line.content.now (Some c.in_ok-told.told)) c.as_slice.ensures.items c.in_ok-told.ensures in
    record {
      given = subst (IsGivenOr f (places r.past.run.lines.items) c.args.line.text.now) (sym c.from_residual-in_err-window.ensures)
          (unknown_transaction f r c.requires.replayed c.requires.order c.requires.sound (few_places f r c.requires.replayed c.requires.order c.requires.sound)
          c.args.line.text.now c.args.line.content.now c.requires.content c.in_ok-told.told reads (sym c.in_err-window.ensures));
    }

pub returns-then-told-window : goal.returns-then-told-window
returns-then-told-window c =
    let f = view c.args.file.now in
    let r = c.args.replayed.now in
    let reads = subst (Reads c.args.line.content.now (Some c.in_ok-told.told)) c.as_slice.ensures.items c.in_ok-told.ensures in
    let has = window_is f r c.requires.replayed c.requires.order (place_of c.in_ok-told.told.place) c.in_ok-window.window (sym c.in_ok-window.ensures) in
    record {
      given = outside f r c.requires.replayed c.requires.order c.requires.sound (few_places f r c.requires.replayed c.requires.order c.requires.sound)
          c.args.line.text.now c.args.line.content.now c.requires.content c.in_ok-told.told reads c.in_ok-window.window has c.then-told-window.either;
    }

pub returns-in_err-object : goal.returns-in_err-object
returns-in_err-object c =
    let f = view c.args.file.now in
    let r = c.args.replayed.now in
    let name = c.in_ok-told.told.cause.object.now in
    let reads = subst (Reads c.args.line.content.now (Some c.in_ok-told.told)) c.as_slice.ensures.items c.in_ok-told.ensures in
    let has = window_is f r c.requires.replayed c.requires.order (place_of c.in_ok-told.told.place) c.in_ok-window.window (sym c.in_ok-window.ensures) in
    let none = sym (c.in_err-object.ensures ∙ ap (position (λ (d : Decl). bytes_eq name d.name.items)) c.as_slice-2.ensures.items) in
    record {
      given = subst (IsGivenOr f (places r.past.run.lines.items) c.args.line.text.now) (sym c.from_residual-in_err-object.ensures)
          (unknown_object f r c.requires.replayed c.requires.order c.requires.sound (few_places f r c.requires.replayed c.requires.order c.requires.sound)
          c.args.line.text.now c.args.line.content.now c.requires.content c.in_ok-told.told reads c.in_ok-window.window has (no_object c.args.file.now.decls.items name none));
    }

pub has_part-requires : goal.has_part-requires
has_part-requires c =
    let name = c.in_ok-told.told.cause.object.now in
    let found = sym (c.in_ok-object.ensures ∙ ap (position (λ (d : Decl). bytes_eq name d.name.items)) c.as_slice-2.ensures.items) in
    let declared = object_at c.args.file.now.decls.items name c.in_ok-object.field-0 c.get-decl.result.now found c.get-decl.ensures in
    let few = few_parts (view c.args.file.now) name (declaration c.get-decl.result.now) c.requires.sound declared in
    omega (arith, few)

pub returns-then-not-has_part : goal.returns-then-not-has_part
returns-then-not-has_part c =
    let f = view c.args.file.now in
    let r = c.args.replayed.now in
    let name = c.in_ok-told.told.cause.object.now in
    let reads = subst (Reads c.args.line.content.now (Some c.in_ok-told.told)) c.as_slice.ensures.items c.in_ok-told.ensures in
    let has = window_is f r c.requires.replayed c.requires.order (place_of c.in_ok-told.told.place) c.in_ok-window.window (sym c.in_ok-window.ensures) in
    let found = sym (c.in_ok-object.ensures ∙ ap (position (λ (d : Decl). bytes_eq name d.name.items)) c.as_slice-2.ensures.items) in
    let d = declaration c.get-decl.result.now in
    let declared = object_at c.args.file.now.decls.items name c.in_ok-object.field-0 c.get-decl.result.now found c.get-decl.ensures in
    let few = few_places f r c.requires.replayed c.requires.order c.requires.sound in
    record {
      given = elim c.then-not-has_part.branch [
        | then-not-has_part-via-then-not-has_part w ↦
            unknown_part f r c.requires.replayed c.requires.order c.requires.sound few c.args.line.text.now c.args.line.content.now c.requires.content c.in_ok-told.told reads c.in_ok-window.window has d declared
            (λ l. no_truth (w.if-not-has_part.ensures.1 l))
        | then-not-has_part-via-else-not-has_part+then-not-may_be w ↦
            wrong_writer f r c.requires.replayed c.requires.order c.requires.sound few c.args.line.text.now c.args.line.content.now c.requires.content c.in_ok-told.told reads c.in_ok-window.window has d declared
            (λ h. no_truth (w.if-not-may_be.ensures.1 (subst (MayBeOf c.in_ok-told.told c.in_ok-window.window c.get-decl.result.now.number) (sym c.as_slice-written.ensures.items) h)))
      ];
    }

pub returns : goal.returns
returns c =
    let f = view c.args.file.now in
    let r = c.args.replayed.now in
    let name = c.in_ok-told.told.cause.object.now in
    let reads = subst (Reads c.args.line.content.now (Some c.in_ok-told.told)) c.as_slice.ensures.items c.in_ok-told.ensures in
    let has = window_is f r c.requires.replayed c.requires.order (place_of c.in_ok-told.told.place) c.in_ok-window.window (sym c.in_ok-window.ensures) in
    let found = sym (c.in_ok-object.ensures ∙ ap (position (λ (d : Decl). bytes_eq name d.name.items)) c.as_slice-2.ensures.items) in
    let d = declaration c.get-decl.result.now in
    let declared = object_at c.args.file.now.decls.items name c.in_ok-object.field-0 c.get-decl.result.now found c.get-decl.ensures in
    let few = few_places f r c.requires.replayed c.requires.order c.requires.sound in
    let stands = slice_get-map declaration c.args.file.now.decls.items c.in_ok-object.field-0 ∙ ap (option_map declaration) c.get-decl.ensures in
    record {
      given = (
        refl,
        is_given f r c.requires.replayed c.requires.order c.requires.sound few c.args.line.text.now c.args.line.content.now c.requires.content c.in_ok-told.told reads c.in_ok-window.window has d declared
            (record { text = c.args.line.text; told = c.in_ok-told.told; object = c.in_ok-object.field-0 }) refl stands c.if-told-window.false c.if-window-told.false (c.if-not-has_part.ensures.0 refl)
            (subst (MayBeOf c.in_ok-told.told c.in_ok-window.window c.get-decl.result.now.number) c.as_slice-written.ensures.items (c.if-not-may_be.ensures.0 refl)),
        tells f r c.requires.replayed c.requires.order c.requires.sound few c.args.line.text.now c.args.line.content.now c.requires.content c.in_ok-told.told reads,
      );
    }
