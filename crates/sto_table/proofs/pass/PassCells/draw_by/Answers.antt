use Rattle.std.proofs.Common.{◌≡◌, ◌+◌, ◌≤◌, ◌^◌, ℕ, suc, sym, refl, ap, ◌∙◌, subst, arith}
use Rattle.sto_core.specs.Event.{Draw}
use Rattle.sto_core.specs.Remembered.{Remembers}
use Rattle.sto_table.proofs.Passes.{stays}
use Rattle.sto_table.proofs.pass.PassCells.draw_by.Goals as goal

pub overflow_add-self : goal.overflow_add-self
overflow_add-self g c = let room = c.raise_clock-clock.ensures.tells.1.learns.1 in omega arith

pub invariant_of-self : goal.invariant_of-self
invariant_of-self g c =
    let old = c.args.self.now in
    let drawn = Draw (g.L.CommitLists.updates c.args.lists.now) (g.L.CommitLists.seen c.args.lists.now) (g.L.CommitLists.loaded c.args.lists.now) in
    let k = stays g.T.Naming.valid c.args.self.now.shared.now.table.shared.key.passes drawn
    c.args.self.now.seat.me c.raise_clock-clock.result c.raise_clock-clock.new.seat.me c.raise_clock-clock.ensures.tells in record {
      table = c.raise_clock-clock.ensures.table ∙ old.table;
      bare = k.bare old.bare;
      live = k.live old.live;
      opening = k.opening ∙ old.opening;
      numbered = k.number ∙ old.numbered;
      listed = old.listed;
      remembers = subst (λ (k : ℕ). Remembers k c.raise_clock-clock.new.seat.me.0.view.phase) (omega arith) (k.remembers old.ticket c.requires old.remembers);
      small = (let room = c.raise_clock-clock.ensures.tells.1.learns.1 in omega arith);
    }

pub returns : goal.returns
returns g c =
    let drawn = Draw (g.L.CommitLists.updates c.args.lists.now) (g.L.CommitLists.seen c.args.lists.now) (g.L.CommitLists.loaded c.args.lists.now) in
    let k = stays g.T.Naming.valid c.args.self.now.shared.now.table.shared.key.passes drawn
    c.args.self.now.seat.me c.raise_clock-clock.result c.raise_clock-clock.new.seat.me c.raise_clock-clock.ensures.tells in record {
      tells = (c.raise_clock-clock.result, (omega arith), c.raise_clock-clock.ensures.tells.1);
      same = (refl, c.raise_clock-clock.ensures.table, k.opening, k.number, k.sizes, k.gathered);
    }
