use Rattle.std.proofs.Common.{◌≡◌, ℕ, ◌<◌, List, length, sym, ap, ◌∙◌, subst, arith}
use Rattle.std.proofs.lemmas.List.{length-map}
use Rattle.sto_lang.specs.Views.{file as view}
use Rattle.sto_report_spec.specs.Orders.{TransactionPlace as Place}
use Rattle.sto_journal.specs.Journals.{places}
use Rattle.sto_checker.specs.declared.transaction.TransactionPlace.{TransactionPlace}
use Rattle.sto_checker.specs.Reading.{place_of}
use Rattle.sto_checker.specs.Shown.{AreInside}
use Rattle.sto_checker.proofs.SoundRuns.{sound_runnable}
use Rattle.sto_orders.specs.declared.way.Way.{Way}
use Rattle.sto_orders.specs.Keys.{IsKeyOf}
use Rattle.sto_orders.specs.Ways.{along, IsBeginning}
use Rattle.sto_orders.proofs.Nexts.{way_is, some_ways}
use Rattle.sto_orders.proofs.outcome.outcome_at.Goals as goal

pub fewest_legs-best-requires : goal.fewest_legs-best-requires
fewest_legs-best-requires c =
    some_ways c.args.by (view c.args.file.now) c.requires.node.count c.args.node.now.key c.args.node.now.ways c.as_slice-ways.result.now c.requires.node.ways c.as_slice-ways.ensures.value

pub run_along-requires-clause-runnable : goal.run_along-requires-clause-runnable
run_along-requires-clause-runnable c = sound_runnable (view c.args.file.now) c.requires.sound

pub run_along-requires-clause-inside : goal.run_along-requires-clause-inside
run_along-requires-clause-inside c =
    let f = view c.args.file.now in
    let is = way_is c.args.by f c.requires.node.count c.args.node.now.key c.args.node.now.ways c.as_slice-ways.result.now c.fewest_legs-best.result c.index-ways-best.result c.requires.node.ways c.as_slice-ways.ensures.value
    c.fewest_legs-best.ensures c.index-ways-best.is in
    subst (λ (o : List TransactionPlace). AreInside f (along o)) (sym (c.as_slice-order.ensures.value ∙ sym (ap (λ (x : Way). x.order.items) c.index-ways-best.is))) is.beginning.inside

pub run_along-requires-clause-few : goal.run_along-requires-clause-few
run_along-requires-clause-few c =
    let f = view c.args.file.now in
    let w = c.index-ways-best.result in
    let is = way_is c.args.by f c.requires.node.count c.args.node.now.key c.args.node.now.ways c.as_slice-ways.result.now c.fewest_legs-best.result w c.requires.node.ways c.as_slice-ways.ensures.value
    c.fewest_legs-best.ensures c.index-ways-best.is in
    let long = is.beginning.long in
    let few = c.requires.node.few in
    omega (arith, long, few, length-map w.order.items place_of, ap length (c.as_slice-order.ensures.value ∙ sym (ap (λ (x : Way). x.order.items) c.index-ways-best.is)))

pub returns : goal.returns
returns c = λ count ways.
    let f = view c.args.file.now in
    let w = c.index-ways-best.result in
    let is = way_is c.args.by f count c.args.node.now.key c.args.node.now.ways c.as_slice-ways.result.now c.fewest_legs-best.result w ways c.as_slice-ways.ensures.value c.fewest_legs-best.ensures c.index-ways-best.is in
    let placed : along w.order.items ≡ places c.in_ok-run.run'.lines.items = sym (c.in_ok-run.ensures.placed ∙ ap along (c.as_slice-order.ensures.value ∙ sym (ap (λ (x : Way). x.order.items) c.index-ways-best.is))) in
    record {
      begins = subst (IsBeginning f count) placed is.beginning;
      leads = subst (λ (ps : List Place). IsKeyOf c.args.by f ps c.args.node.now.key) placed is.leads;
      entries = c.in_ok-run.ensures.so_far.entries;
      final = c.in_ok-run.ensures.so_far.state_is;
    }
