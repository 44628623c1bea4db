use Rattle.std.proofs.Common.{◌≡◌, ◌+◌, ◌≤◌, ◌^◌, ℕ, ℤ, w64, suc, sym, refl, ap, ◌∙◌, subst, arith}
use Rattle.sto_core.specs.Event.{Word}
use Rattle.std.proofs.lemmas.Int.{to_z-of_z}
use Rattle.sto_core.specs.Tells.{Tells}
use Rattle.sto_core.specs.Remembered.{Remembers}
use Rattle.sto_table.proofs.Passes.{stays}
use Rattle.sto_table.proofs.pass.PassCells.word.Goals as goal

pub invariant_of-self : goal.invariant_of-self
invariant_of-self g c =
    let old = c.args.self.now in
    let k = stays g.T.Naming.valid c.args.self.now.shared.now.table.shared.key.passes (Word c.args.part c.args.word)
    c.args.self.now.seat.me c.load_word.result c.load_word.new.seat.me c.load_word.ensures.tells in record {
      table = c.load_word.ensures.table ∙ old.table;
      bare = k.bare old.bare;
      live = k.live old.live;
      opening = k.opening ∙ old.opening;
      numbered = k.number ∙ old.numbered;
      listed = old.listed;
      remembers = k.remembers old.ticket c.requires old.remembers;
      small = old.small;
    }

pub returns : goal.returns
returns g c =
    let k = stays g.T.Naming.valid c.args.self.now.shared.now.table.shared.key.passes (Word c.args.part c.args.word)
    c.args.self.now.seat.me c.load_word.result c.load_word.new.seat.me c.load_word.ensures.tells in record {
      tells = subst (λ (x : ℤ). Tells g.T.Naming.valid c.args.self.now.shared.now.table.shared.key.passes
          (Word c.args.part c.args.word) c.args.self.now.seat.me.0.view 0 x c.load_word.new.seat.me.0.view)
          (sym (to_z-of_z w64 c.cast_signed.result (record { sfits = c.cast_signed.type_inv }) ∙ c.cast_signed.ensures)) c.load_word.ensures.tells.1;
      same = (refl, c.load_word.ensures.table, k.opening, k.number, k.sizes, k.gathered);
    }
