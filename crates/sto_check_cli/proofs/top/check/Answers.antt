use Rattle.std.proofs.Common.{◌≡◌, ◌∙◌, ◌⊎◌, ℕ, sym, subst}
use Rattle.sto_checker.specs.declared.found.Found.TheVariants.{Lawful, Not}
use Rattle.sto_args.specs.Asked.{checking_in}
use Rattle.sto_console.specs.Outcomes.{IsDone}
use Rattle.sto_console.proofs.Endings.{ended, read_so, write_so}
use Rattle.sto_console.proofs.Causes.{causes}
use Rattle.sto_check_cli.specs.Programs.{program, found_status}
use Rattle.sto_check_cli.proofs.Endings.{exact, exclusive, few_statuses, by_lawful, by_wrong}
use Rattle.sto_check_cli.proofs.top.check.Goals as goal

pub returns : goal.returns
returns g c =
    let asked = checking_in c.args.words.now in
    let left = g.S.Source.left c.args.source.now in
    let rest = g.S.Source.left c.perform-outcome.new.source in
    let held = g.K.Sink.held c.args.out.now in
    let now = g.K.Sink.held c.perform-outcome.new.out in
    let read = g.S.Source.faults c.args.source.now in
    let read_now = g.S.Source.faults c.perform-outcome.new.source in
    let wrote = g.K.Sink.faults c.args.out.now in
    let wrote_now = g.K.Sink.faults c.perform-outcome.new.out in
    let status = c.status.result in
    let same = c.say.ensures.same in
    let ends = ended program asked left rest held now c.perform-outcome.result c.say.result same c.perform-outcome.ensures.ends in
    let reads = read_so read read_now c.perform-outcome.result c.say.result same c.perform-outcome.ensures.source_faults in
    let writes = write_so wrote wrote_now c.perform-outcome.result c.say.result same c.perform-outcome.ensures.out_faults in
    let so = causes program exclusive found_status few_statuses c.say.result status c.status.ensures asked left rest held now read read_now wrote wrote_now ends reads writes in
    record {
      lawful = λ zero. let told = so.done (Lawful, zero) in by_lawful (λ found. IsDone program found asked left rest held now) told.0 (sym told.1 ∙ zero) told.2;
      wrong = λ one. let told = so.done (Not 0, one) in by_wrong (λ found. IsDone program found asked left rest held now) told.0 (sym told.1 ∙ one) told.2;
      exact = λ found told no_read no_write.
          subst (λ (n : ℕ). (n ≡ found_status found) ⊎ (n ≡ 6)) (sym c.status.ensures)
          (exact c.say.result found asked left rest held now read read_now wrote wrote_now ends reads writes told no_read no_write);
      ends = (c.say.result, c.status.ensures, (ends, c.say.ensures.says));
      causes = so;
    }
