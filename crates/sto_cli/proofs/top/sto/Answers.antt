use Rattle.sto_args.specs.Commands.{command_of, command_in}
use Rattle.sto_console.proofs.Endings.{ended, read_so, write_so}
use Rattle.sto_console.proofs.Causes.{causes}
use Rattle.std.proofs.Common.{◌∙◌, refl, sym, ap}
use Rattle.sto_args.specs.declared.command.Command.TheVariants.{Help}
use Rattle.sto_console.specs.Outcomes.{IsDone}
use Rattle.sto_cli.specs.declared.told.Answer.TheVariants.{Done, Found}
use Rattle.sto_cli.specs.Programs.{program, answer_status}
use Rattle.sto_cli.proofs.Exclusive.{exclusive, few_statuses, by_done, by_found}
use Rattle.sto_cli.proofs.Helped.{asked, helped}
use Rattle.sto_cli.proofs.top.sto.Goals as goal

pub returns : goal.returns
returns g c =
    let command = command_in c.args.words.now in
    let left = g.S.Source.left c.args.source.now in
    let rest = g.S.Source.left c.perform-outcome.new.source in
    let held = g.K.Sink.held c.args.out.now in
    let now = g.K.Sink.held c.perform-outcome.new.out in
    let read = g.S.Source.faults c.args.source.now in
    let read_now = g.S.Source.faults c.perform-outcome.new.source in
    let wrote = g.K.Sink.faults c.args.out.now in
    let wrote_now = g.K.Sink.faults c.perform-outcome.new.out in
    let status = c.status.result in
    let same = c.say.ensures.same in
    let ends = ended program command left rest held now c.perform-outcome.result c.say.result same c.perform-outcome.ensures.ends in
    let reads = read_so read read_now c.perform-outcome.result c.say.result same c.perform-outcome.ensures.source_faults in
    let writes = write_so wrote wrote_now c.perform-outcome.result c.say.result same c.perform-outcome.ensures.out_faults in
    let so = causes program exclusive answer_status few_statuses c.say.result status c.status.ensures command left rest held now read read_now wrote wrote_now ends reads writes in
    record {
      headline = λ zero. let told = so.done (Done, zero) in by_done (λ answer. IsDone program answer command left rest held now) told.0 (sym told.1 ∙ zero) told.2;
      found = λ one. let told = so.done (Found, one) in by_found (λ answer. IsDone program answer command left rest held now) told.0 (sym told.1 ∙ one) told.2;
      help = λ page asks.
          let is = ap command_of asks ∙ asked page in
          helped page left rest held now (c.perform-outcome.ensures.unread (Help page) is refl) command is c.say.result status c.status.ensures ends;
      ends = (c.say.result, c.status.ensures, (ends, c.say.ensures.says));
      causes = so;
    }
