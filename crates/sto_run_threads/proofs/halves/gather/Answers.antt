use Rattle.std.proofs.Common.{rules, ◌≡◌, ◌++◌, map, ap, ◌∙◌}
use Rattle.std.proofs.lemmas.List.{map-append}
use Rattle.sto_transaction.specs.Plain.{plain}
use Rattle.sto_run_threads.proofs.Gathered.{both_finished}
use Rattle.sto_run_threads.specs.Told.{told_in}
use Rattle.sto_run_threads.proofs.halves.gather.Goals as goal

pub returns : goal.returns
returns g c =
    let whole : told_in c.append.new.self ≡ told_in c.args.first.records ++ told_in c.args.other.records =
    ap (map plain) c.in-Ok.ensures.items ∙ map-append plain c.args.first.records.items c.args.other.records.items in
    record {
      both = record {
        finished = both_finished c.args.shared.now c.args.claims.now (g.W.Work.plan c.args.work.now) c.args.first c.args.other _ c.requires.first c.requires.other
            c.gather.ensures.of c.gather.ensures.view c.gather-2.ensures.of c.gather-2.ensures.numbers c.gather-2.ensures.apart whole;
        view = c.gather.ensures.view;
        records = whole;
        seats = search rules;
      };
    }
