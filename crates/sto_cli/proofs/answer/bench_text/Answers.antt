use Rattle.std.proofs.Common.{◌≡◌, ℕ, ap, sym, ◌∙◌, subst, length, map, arith}
use Rattle.std.proofs.lemmas.List.{length-map}
use Rattle.sto_model.specs.Run.{State}
use Rattle.sto_report_spec.specs.Replay.{Entry}
use Rattle.sto_journal.specs.Journals.{entry, places}
use Rattle.sto_bench.specs.Summary.{summary_of, HasTotals}
use Rattle.sto_bench.proofs.Orders.{order_long}
use Rattle.sto_bench.proofs.Totals.{four_objects, totals}
use Rattle.sto_cli.proofs.answer.bench_text.Goals as goal

pub summary-requires : goal.summary-requires
summary-requires g c =
    let journal = c.in_ok-journal.journal in
    let rows = ap (λ (st : State). length st) c.in_ok-journal.ensures.final ∙ four_objects c.args.number (places journal.lines.items) c.in_ok-journal.ensures.order in
    omega (arith, rows)

pub returns : goal.returns
returns g c =
    let journal = c.in_ok-journal.journal in
    let lines = journal.lines.items in
    let order = places lines in
    let placed : length order ≡ length lines = length-map (map entry lines) (λ (e : Entry). e.place) ∙ length-map lines entry in
    let all : length lines ≡ 3200 = sym placed ∙ order_long c.args.number order c.in_ok-journal.ensures.order in
    let held = subst HasTotals (sym c.in_ok-journal.ensures.final) (totals c.args.number order c.in_ok-journal.ensures.order) in
    (journal, c.in_ok-journal.ensures, c.in_ok-text.ensures ∙ ap (λ (count : ℕ). summary_of c.args.number count journal.state.items) all, held)
