use Rattle.std.proofs.Common.{◌≡◌, ◌+◌, ◌≤◌, ◌^◌, ℕ, ℤ, pos, w64, suc, sym, refl, ap, ◌∙◌, subst, arith}
use Rattle.sto_core.specs.Event.{Put}
use Rattle.std.proofs.lemmas.Int.{to_z-of_z}
use Rattle.std.specs.Int.{cast_signed, cast_unsigned}
use mir.Val.{SFits}
use Rattle.sto_core.specs.Allowed.{Allowed}
use Rattle.sto_core.specs.Tells.{Tells}
use Rattle.sto_core.specs.Remembered.{Remembers}
use Rattle.sto_table.proofs.Passes.{stays}
use Rattle.sto_table.proofs.pass.PassCells.put.Goals as goal

-- a value is passed as its bits
abbrev again : ℤ → ℤ
again x = cast_signed w64 (cast_unsigned w64 x)

same : (x : ℤ) → SFits w64 x → again x ≡ x
same x fits = to_z-of_z w64 x fits

pub invariant_of-self : goal.invariant_of-self
invariant_of-self g c =
    let old = c.args.self.now in
    let k = stays g.T.Naming.valid c.args.self.now.shared.now.table.shared.key.passes (Put c.args.part c.args.word (again c.args.value))
    c.args.self.now.seat.me 0 c.store_word.new.seat.me c.store_word.ensures.tells in record {
      table = c.store_word.ensures.table ∙ old.table;
      bare = k.bare old.bare;
      live = k.live old.live;
      opening = k.opening ∙ old.opening;
      numbered = k.number ∙ old.numbered;
      listed = old.listed;
      remembers = k.remembers old.ticket (subst (λ (x : ℤ). Allowed g.T.Naming.valid (Put c.args.part c.args.word x) c.args.self.now.seat.me.0.view) (sym (same c.args.value c.ranges.value)) c.requires) old.remembers;
      small = old.small;
    }

pub returns : goal.returns
returns g c =
    let k = stays g.T.Naming.valid c.args.self.now.shared.now.table.shared.key.passes (Put c.args.part c.args.word (again c.args.value))
    c.args.self.now.seat.me 0 c.store_word.new.seat.me c.store_word.ensures.tells in record {
      tells = subst (λ (x : ℤ). Tells g.T.Naming.valid c.args.self.now.shared.now.table.shared.key.passes
          (Put c.args.part c.args.word x) c.args.self.now.seat.me.0.view 0 (pos 0) c.store_word.new.seat.me.0.view)
          (same c.args.value c.ranges.value) c.store_word.ensures.tells.1;
      same = (refl, c.store_word.ensures.table, k.opening, k.number, k.sizes, k.gathered);
    }
