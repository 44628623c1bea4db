use Rattle.std.proofs.Common.{subst}
use Rattle.std.proofs.lemmas.Result.{IfOk-weaker, IfErr-weaker}
use Rattle.sto_lang.specs.Views.{file as view}
use Rattle.sto_lang.proofs.SoundFiles.{readable_sound}
use Rattle.sto_orders.specs.declared.same_by.SameBy.{SameBy}
use Rattle.sto_cli.specs.Traces.{IsRefusalFor}
use Rattle.sto_cli.specs.Orders.{TellsOrders, IsOrdersFault}
use Rattle.sto_cli.proofs.Refusals.{no_orders, untold}
use Rattle.sto_cli.proofs.explored.explore_told.Goals as goal

pub outcomes_told-requires : goal.outcomes_told-requires
outcomes_told-requires c = readable_sound c.args.bytes.now (view c.in_ok-file.file) c.in_ok-file.ensures.file

pub returns-clause-told : goal.returns-clause-told
returns-clause-told c =
    let file = view c.in_ok-file.file in
    IfOk-weaker c.outcomes_told.result _ _
    (λ told h. (
      file,
      c.in_ok-file.ensures.file,
      subst (λ (by : SameBy). TellsOrders by c.args.states c.args.json c.args.asked.now file told.answer told.text.items) c.same_by.ensures h,
    ))
    c.outcomes_told.ensures.told

pub returns-clause-fault : goal.returns-clause-fault
returns-clause-fault c =
    IfErr-weaker c.outcomes_told.result _ _
    (λ e h. subst (λ (by : SameBy). IsRefusalFor (IsOrdersFault by c.args.states c.args.asked.now c.args.bytes.now) e) c.same_by.ensures
    (untold c.same_by.result c.args.states c.args.asked.now c.args.bytes.now (view c.in_ok-file.file) c.in_ok-file.ensures.file e h))
    c.outcomes_told.ensures.fault
