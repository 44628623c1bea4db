use Rattle.std.proofs.Common.{◌≡◌, ℕ, suc, ◌+◌, ◌<◌, ◌≤◌, List, [], ◌∷◌, ◌++◌, length, sym, ap, ◌∙◌, subst, arith}
use Rattle.std.proofs.lemmas.List.{length-map}
use Rattle.sto_lang.specs.Views.{file as view}
use Rattle.sto_report_spec.specs.Orders.{TransactionPlace as Place}
use Rattle.sto_journal.specs.declared.journal.Line.{Line}
use Rattle.sto_journal.specs.Journals.{HaveThreads, places}
use Rattle.sto_checker.specs.declared.transaction.TransactionPlace.{TransactionPlace}
use Rattle.sto_checker.specs.Reading.{place_of}
use Rattle.sto_checker.specs.Shown.{AreInside}
use Rattle.sto_checker.proofs.Places.{length-threads}
use Rattle.sto_checker.proofs.SoundRuns.{sound_runnable}
use Rattle.sto_orders.specs.Keys.{IsReplayed, IsKeyOf}
use Rattle.sto_orders.specs.Ways.{along}
use Rattle.sto_orders.proofs.Beginnings.{lines_of_threads}
use Rattle.sto_orders.proofs.Stepping.{new_begins, leads_on}
use Rattle.sto_orders.proofs.Nexts.{way_is, some_ways, so_far_replayed}
use Rattle.sto_orders.proofs.found.make_step.Goals as goal

pub best_way-best-requires : goal.best_way-best-requires
best_way-best-requires c =
    some_ways c.args.by (view c.args.file.now) c.requires.node.count c.args.node.now.key c.args.node.now.ways c.as_slice-ways.result.now c.requires.node.ways c.as_slice-ways.ensures.value

pub run_along-requires-clause-runnable : goal.run_along-requires-clause-runnable
run_along-requires-clause-runnable c = sound_runnable (view c.args.file.now) c.requires.sound

pub run_along-requires-clause-inside : goal.run_along-requires-clause-inside
run_along-requires-clause-inside c =
    let f = view c.args.file.now in
    let w = c.index-ways-best.result in
    let is = way_is c.args.by f c.requires.node.count c.args.node.now.key c.args.node.now.ways c.as_slice-ways.result.now c.best_way-best.result w c.requires.node.ways c.as_slice-ways.ensures.value
    c.best_way-best.ensures c.index-ways-best.is in
    (new_begins c.args.by f c.requires.node.count c.args.node.now.key w c.args.at c.args.thread is c.requires.next c.as_slice-order.result.now (c.as_slice-order.ensures.value ∙ c.in_ok-way.ensures)).inside

pub run_along-requires-clause-few : goal.run_along-requires-clause-few
run_along-requires-clause-few c =
    let f = view c.args.file.now in
    let w = c.index-ways-best.result in
    let is = way_is c.args.by f c.requires.node.count c.args.node.now.key c.args.node.now.ways c.as_slice-ways.result.now c.best_way-best.result w c.requires.node.ways c.as_slice-ways.ensures.value
    c.best_way-best.ensures c.index-ways-best.is in
    let begins = new_begins c.args.by f c.requires.node.count c.args.node.now.key w c.args.at c.args.thread is c.requires.next c.as_slice-order.result.now (c.as_slice-order.ensures.value ∙ c.in_ok-way.ensures) in
    let long = begins.long in
    let few = c.requires.node.few in
    omega (arith, long, few, length-map c.as_slice-order.result.now place_of)

pub key_of-requires-clause-few : goal.key_of-requires-clause-few
key_of-requires-clause-few c =
    let few = (sound_runnable (view c.args.file.now) c.requires.sound).few_threads in
    omega (arith, few, length-threads c.args.file.now.threads.items)

pub key_of-requires-clause-lines : goal.key_of-requires-clause-lines
key_of-requires-clause-lines c =
    let f = view c.args.file.now in
    let w = c.index-ways-best.result in
    let is = way_is c.args.by f c.requires.node.count c.args.node.now.key c.args.node.now.ways c.as_slice-ways.result.now c.best_way-best.result w c.requires.node.ways c.as_slice-ways.ensures.value
    c.best_way-best.ensures c.index-ways-best.is in
    let begins = new_begins c.args.by f c.requires.node.count c.args.node.now.key w c.args.at c.args.thread is c.requires.next c.as_slice-order.result.now (c.as_slice-order.ensures.value ∙ c.in_ok-way.ensures) in
    subst (λ (ls : List Line). HaveThreads (length c.args.file.now.threads.items) ls) (sym c.as_slice-lines.ensures.items)
    (subst (λ (n : ℕ). HaveThreads n c.in_ok-run.run'.lines.items) (length-threads c.args.file.now.threads.items)
    (lines_of_threads f c.in_ok-run.run'.lines.items (subst (AreInside f) (sym c.in_ok-run.ensures.placed) begins.inside)))

pub key_of-requires-clause-replayed : goal.key_of-requires-clause-replayed
key_of-requires-clause-replayed c =
    subst (λ (ls : List Line). IsReplayed (view c.args.file.now) ls c.in_ok-run.run'.state.items) (sym c.as_slice-lines.ensures.items)
    (so_far_replayed (view c.args.file.now) c.in_ok-run.run' c.in_ok-run.ensures.so_far)

pub returns-clause-way : goal.returns-clause-way
returns-clause-way c = λ count ways.
    let f = view c.args.file.now in
    let w = c.index-ways-best.result in
    let is = way_is c.args.by f count c.args.node.now.key c.args.node.now.ways c.as_slice-ways.result.now c.best_way-best.result w ways c.as_slice-ways.ensures.value c.best_way-best.ensures c.index-ways-best.is in
    record {
      beginning = new_begins c.args.by f count c.args.node.now.key w c.args.at c.args.thread is c.requires.next c.in_ok-way.way.order.items c.in_ok-way.ensures;
      leads = subst (λ (ps : List Place). IsKeyOf c.args.by f ps c.in_ok-key.key) (ap places c.as_slice-lines.ensures.items ∙ c.in_ok-run.ensures.placed ∙ ap along c.as_slice-order.ensures.value) c.in_ok-key.ensures;
    }

pub returns-clause-leads : goal.returns-clause-leads
returns-clause-leads c =
    let f = view c.args.file.now in
    let w = c.index-ways-best.result in
    let is = way_is c.args.by f c.requires.node.count c.args.node.now.key c.args.node.now.ways c.as_slice-ways.result.now c.best_way-best.result w c.requires.node.ways c.as_slice-ways.ensures.value
    c.best_way-best.ensures c.index-ways-best.is in
    leads_on c.args.by f c.requires.node.count c.args.node.now.key w c.args.at c.args.thread is c.requires.next c.in_ok-way.way.order.items c.in_ok-way.ensures c.in_ok-key.key
    (subst (λ (ps : List Place). IsKeyOf c.args.by f ps c.in_ok-key.key) (ap places c.as_slice-lines.ensures.items ∙ c.in_ok-run.ensures.placed ∙ ap along c.as_slice-order.ensures.value) c.in_ok-key.ensures)
