use Rattle.std.proofs.Common.{◌≡◌, ℕ, ◌+◌, ◌-◌, ◌≤◌, ◌^◌, List, [], ◌∷◌, length, Bool, true, refl, subst, arith}
use Rattle.std.specs.List.{slice_split}
use Rattle.std.proofs.lemmas.Result.{IfOk-weaker}
use Rattle.sto_lang.specs.declared.file.Thread.{Thread}
use Rattle.sto_lang.specs.Views.{file as view, names_of}
use Rattle.sto_report_spec.specs.Orders.{TransactionPlace}
use Rattle.sto_report_spec.specs.Named.{is_space, named_in}
use Rattle.sto_report_spec.specs.Report.{line_text}
use Rattle.sto_journal.specs.declared.journal.Line.{Line}
use Rattle.sto_journal.specs.Journals.{entry}
use Rattle.sto_checker.specs.Reading.{place_of}
use Rattle.sto_checker.specs.declared.replayed.Replayed.{Replayed}
use Rattle.sto_checker.specs.Replayed.{IsTakenOr}
use Rattle.sto_checker.proofs.Taken.{few_windows, none_named, taken_or}
use Rattle.sto_checker.proofs.replayed.Replayed.take_line.Goals as goal

abbrev NamesFar : List ℕ → List Thread → Type 0
NamesFar content threads = (place : TransactionPlace) → named_in (names_of threads) (slice_split is_space content) ≡ place ∷ [] → 2 ^ 32 ≤ place.1

abbrev Names : List ℕ → TransactionPlace → List Thread → Type 0
Names content place threads = named_in (names_of threads) (slice_split is_space content) ≡ place ∷ []

abbrev SaysLine : List ℕ → Line → List Thread → Bool → Type 0
SaysLine line told threads same = (same ≡ true → line ≡ line_text (names_of threads) (entry told)) × (line ≡ line_text (names_of threads) (entry told) → same ≡ true)

pub returns-in_default : goal.returns-in_default
returns-in_default c =
    none_named (view c.args.file.now) c.args.self.now c.requires.sound c.requires.replayed c.args.line.text.now c.args.line.content.now c.requires.content
    (subst (NamesFar c.args.line.content.now) c.as_slice-threads.ensures.items c.in_default.ensures)

pub add-requires-clause-room : goal.add-requires-clause-room
add-requires-clause-room c = λ l e. (let few = few_windows (view c.args.file.now) c.args.self.now c.requires.sound c.requires.replayed c.get-told.result.now.thread l e in omega (arith, few))

pub returns : goal.returns
returns c =
    let f = view c.args.file.now in
    let old = c.args.self.now in
    let new : Replayed = record { past = c.run_next.new.past; windows = c.add.new.self } in
    let line = c.args.line.text.now in
    let told = c.get-told.result.now in
    let named = subst (Names c.args.line.content.now (place_of c.in-Some.at)) c.as_slice-threads.ensures.items c.in-Some.ensures in
    let next = c.if-not-has_next.ensures.0 refl in
    let past = c.in_ok-run_next.ensures.past in
    let last = c.in_ok-run_next.ensures.last in
    let is_last : (c.len.result - 1) + 1 ≡ length c.run_next.new.past.run.lines.items = (let e = c.len.ensures in let k = last.counted in omega (arith, e, k)) in
    IfOk-weaker c.is_line.result (SaysLine line told c.as_slice-threads.result.now) (IsTakenOr f old new line)
    (λ same h.
    taken_or f old c.requires.sound c.requires.replayed line c.args.line.content.now c.requires.content (place_of c.in-Some.at) named new next past last
    (c.len.result - 1) told is_last c.get-told.ensures c.in_ok-add.ensures same
    (subst (λ (threads : List Thread). SaysLine line told threads same) c.as_slice-threads.ensures.items h)) c.is_line.ensures
