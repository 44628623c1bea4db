use Rattle.std.proofs.Common.{rules, ◌≡◌, ℕ}
use Rattle.sto_run_feed.specs.declared.server.QueueWorker.{QueueWorker}
use Rattle.sto_run_feed.proofs.Gathered.{once_in_halves}
use Rattle.sto_run_feed.proofs.halves.split.Goals as goal

pub returns : goal.returns
returns g c =
    let N : QueueWorker g.row.T.Denot g.T.Naming → ℕ = λ w. w.number in
    let apart = once_in_halves N c.args.servers.now.items c.args.half c.split_off.new.self.items c.in-Ok.others.items c.in-Ok.ensures.items c.in-Ok.ensures.tail c.requires.apart in
    record {
      items = search rules;
      len = search rules;
      tail = search rules;
      tail_len = search rules;
      apart = apart.0;
      tail_apart = apart.1;
    }
