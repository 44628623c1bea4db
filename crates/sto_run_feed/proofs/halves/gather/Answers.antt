use Rattle.std.proofs.Common.{map, ap, ◌∙◌}
use Rattle.std.proofs.lemmas.List.{map-append}
use Rattle.sto_transaction.specs.Plain.{plain}
use Rattle.sto_run_feed.proofs.halves.gather.Goals as goal

pub returns : goal.returns
returns g c = record {
  both = record {
    of = c.gather.ensures.of;
    view = c.gather.ensures.view;
    records = ap (map plain) c.in-Ok.ensures.items ∙ map-append plain c.args.first.records.items c.args.other.records.items;
    workers = c.in-Ok-append.ensures.items;
  };
}
