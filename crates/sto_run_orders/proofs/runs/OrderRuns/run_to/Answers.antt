use Rattle.std.proofs.Common.{◌≡◌, List, Option, Vec, Global, IfSome, length, sym, subst}
use Rattle.sto_lang.specs.declared.file.Turns.{Turns}
use Rattle.sto_journal.specs.declared.journal.Line.{Line}
use Rattle.sto_journal.specs.Journals.{HaveThreads}
use Rattle.sto_orders.proofs.Sameness.{replay_threads}
use Rattle.sto_run_orders.specs.Ready.{file_of, AreTurns, IsRunOf}
use Rattle.sto_run_orders.proofs.runs.OrderRuns.run_to.Goals as goal

pub schedule_along-requires-clause-lines : goal.schedule_along-requires-clause-lines
schedule_along-requires-clause-lines c =
    replay_threads (file_of c.args.self.now) (length (file_of c.args.self.now).threads) c.args.outcome.now.lines.items c.as_slice.result.now c.args.outcome.now.state.items
    (λ i. length (file_of c.args.self.now).threads) c.as_slice.ensures.items c.requires.outcome

pub run_by-requires-clause-schedule : goal.run_by-requires-clause-schedule
run_by-requires-clause-schedule c = subst (AreTurns c.args.self.now) (sym c.as_slice-2.ensures.value)
    (subst (λ (o : Option (Vec Turns Global)). IfSome o (λ entries. AreTurns c.args.self.now entries.items)) c.in-Some.is c.in_ok-schedule.ensures)

pub leads_to-requires-clause-replay : goal.leads_to-requires-clause-replay
leads_to-requires-clause-replay c =
    let lawful = c.in_ok-ran.ensures.lawful in
    record { order = lawful.order; entries = lawful.entries; final = lawful.final }

pub returns : goal.returns
returns c = record {
  run = subst (λ (schedule : List Turns). IsRunOf c.args.self.now schedule c.in_ok-ran.ran.journal) c.as_slice-2.ensures.value c.in_ok-ran.ensures;
  same = c.in_ok-same.ensures.0 c.if-not-same.false;
}
