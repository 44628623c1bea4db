use Rattle.std.proofs.Common.{◌≡◌, ◌+◌, ◌≤◌, ◌^◌, ℕ, suc, sym, refl, ap, ◌∙◌, subst, arith}
use Rattle.sto_core.specs.Event.{Renew}
use Rattle.sto_core.specs.Remembered.{Remembers}
use Rattle.sto_table.proofs.Passes.{stays}
use Rattle.sto_table.proofs.pass.PassCells.renew.Goals as goal

pub invariant_of-self : goal.invariant_of-self
invariant_of-self g c =
    let old = c.args.self.now in
    let k = stays g.T.Naming.valid c.args.self.now.shared.now.table.shared.key.passes Renew
    c.args.self.now.seat.me c.load_clock.result c.load_clock.new.seat.me c.load_clock.ensures.tells in record {
      table = c.load_clock.ensures.table ∙ old.table;
      bare = k.bare old.bare;
      live = k.live old.live;
      opening = k.opening ∙ old.opening;
      numbered = k.number ∙ old.numbered;
      listed = old.listed;
      remembers = k.remembers old.ticket c.requires old.remembers;
      small = old.small;
    }

pub returns : goal.returns
returns g c =
    let k = stays g.T.Naming.valid c.args.self.now.shared.now.table.shared.key.passes Renew
    c.args.self.now.seat.me c.load_clock.result c.load_clock.new.seat.me c.load_clock.ensures.tells in record {
      tells = c.load_clock.ensures.tells.1;
      same = (refl, c.load_clock.ensures.table, k.opening, k.number, k.sizes, k.gathered);
    }
