use Rattle.std.proofs.Common.{◌≡◌}
use Rattle.sto_core.proofs.Phases.{is_idle_of}
use Rattle.sto_table.proofs.pass.Pass.rest.Goals as goal

pub invariant_of-result : goal.invariant_of-result
invariant_of-result g c =
    let own = c.args.self in
    record {
      bare = own.bare;
      live = own.live;
      idle = is_idle_of own.seat.me.0.view.phase c.requires;
      numbered = own.numbered;
    }
