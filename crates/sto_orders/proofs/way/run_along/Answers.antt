use Rattle.std.proofs.Common.{◌≡◌, ℕ, List, [], ◌∷◌, ◌++◌, length, take, take_all, get_or, Some, slice_get, sym, ap, ◌∙◌, subst, arith}
use Rattle.std.proofs.lemmas.Option.{slice_get-get_or}
use Rattle.sto_model.specs.SequentialObjects.{opening_of}
use Rattle.sto_model.specs.Objects.{machines_of}
use Rattle.sto_model.specs.declared.shape.Shape.{Shape}
use Rattle.sto_lang.specs.Views.{file as view}
use Rattle.sto_report_spec.specs.Orders.{TransactionPlace as Place}
use Rattle.sto_journal.specs.Journals.{places}
use Rattle.sto_checker.specs.declared.transaction.TransactionPlace.{TransactionPlace}
use Rattle.sto_checker.specs.Reading.{place_of}
use Rattle.sto_checker.proofs.Places.{length-threads}
use Rattle.sto_orders.specs.Ways.{along}
use Rattle.sto_orders.proofs.Nexts.{opening_so_far, along_one, inside_at}
use Rattle.sto_orders.proofs.way.run_along.Goals as goal

abbrev no_place : TransactionPlace
no_place = record { thread = 0; position = 0 }

pub loop-at-init : goal.loop-at-init
loop-at-init c = record {
  so_far = opening_so_far (view c.args.file.now) c.in_ok-run.run' c.in_ok-run.ensures.lines c.in_ok-run.ensures.writers
      (c.in_ok-run.ensures.state ∙ ap (λ (s : List Shape). opening_of (machines_of s)) c.requires.shapes);
  placed = ap places c.in_ok-run.ensures.lines;
  counted = ap length c.in_ok-run.ensures.lines;
}

pub run_one-requires-clause-thread : goal.run_one-requires-clause-thread
run_one-requires-clause-thread c =
    let order = c.args.order.now in
    let i = c.loop-at.at-index in
    let inside = inside_at (view c.args.file.now) order i (get_or order i no_place) c.requires.inside (slice_get-get_or order i no_place c.loop-at-test.true) in
    omega (arith, inside.thread, length-threads c.args.file.now.threads.items)

pub run_one-requires-clause-first : goal.run_one-requires-clause-first
run_one-requires-clause-first c =
    let order = c.args.order.now in
    let i = c.loop-at.at-index in
    (inside_at (view c.args.file.now) order i (get_or order i no_place) c.requires.inside (slice_get-get_or order i no_place c.loop-at-test.true)).first

pub run_one-requires-clause-last : goal.run_one-requires-clause-last
run_one-requires-clause-last c =
    let order = c.args.order.now in
    let i = c.loop-at.at-index in
    (inside_at (view c.args.file.now) order i (get_or order i no_place) c.requires.inside (slice_get-get_or order i no_place c.loop-at-test.true)).last

pub loop-at-preserved : goal.loop-at-preserved
loop-at-preserved c =
    let order = c.args.order.now in
    let i = c.loop-at.at-index in
    let at = get_or order i no_place in
    record {
      so_far = c.in_ok-run_one.ensures.so_far;
      placed = c.in_ok-run_one.ensures.placed
          ∙ ap (λ (ps : List Place). ps ++ place_of at ∷ []) c.loop-at.invariant.placed
          ∙ sym (along_one order i at (slice_get-get_or order i no_place c.loop-at-test.true));
      counted = omega (arith, c.in_ok-run_one.ensures.counted, c.loop-at.invariant.counted);
    }

pub returns-clause-placed : goal.returns-clause-placed
returns-clause-placed c =
    c.loop-at.invariant.placed ∙ ap along (take_all c.loop-at.at-index c.args.order.now (omega (arith, c.loop-at-test.false)))
