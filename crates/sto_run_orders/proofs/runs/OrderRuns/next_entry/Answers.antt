use Rattle.std.specs.List.{All}
use Rattle.std.proofs.Common.{◌<◌, List, length, sym, subst, ◌∙◌}
use Rattle.std.proofs.lemmas.List.Elements.{All-push}
use Rattle.sto_lang.specs.declared.file.Turns.{Turns}
use Rattle.sto_run_orders.specs.Ready.{file_of, AreTurns}
use Rattle.sto_run_orders.proofs.runs.OrderRuns.next_entry.Goals as goal

pub run_by-requires-clause-schedule : goal.run_by-requires-clause-schedule
run_by-requires-clause-schedule c =
    let r = c.args.self.now in
    let to_end : Turns = record { thread = c.args.line.now.thread; steps = 4294967295 } in
    subst (AreTurns r) (sym (c.as_slice.ensures.value ∙ c.in_ok-longer.ensures))
    (All-push (λ (t : Turns). t.thread < length (file_of r).threads) c.args.entries.now to_end c.requires.entries c.requires.thread)
