use Rattle.std.proofs.Common.{◌≡◌, ◌+◌, ◌*◌, ◌%◌, ◌^◌, ◌<◌, ℕ, suc, sym, refl, ap, ◌∙◌, subst, arith, bit_and, bit_or}
use Rattle.sto_part.specs.Parts.{part_of}
use Rattle.sto_core.specs.History.{Contents}
use Rattle.sto_table.specs.Laid.{place_of, words_of}
use Rattle.sto_table.proofs.Steps.{draws, told_as}
use Rattle.sto_table.proofs.shared.Shared.raise_clock.Goals as goal

pub fetch_add-requires : goal.fetch_add-requires
fetch_add-requires g c =
    let s = c.args.self.now in
    let k = s.table.shared.key in
    let sizes = g.T.Naming.sizes k.ty.value in
    let opening : Contents = k.opening.value.items in
    let me = c.args.seat.now.me in
    let live = c.requires.fits.live in
    let wide = s.wide in (
      c.requires.fits.table,
      (omega arith),
      told_as g.T.Naming.valid sizes opening k.passes s.table.shared.table_id.slots c.args.seat.now.id me g.J.Telling.event
          (0) (λ n. (n + 1) % 2 ^ 64) g.J.Telling.passes c.requires.passes
          (draws g.T.Naming.valid sizes opening k.passes s.table.shared.table_id.slots c.args.seat.now.id me live g.J.Telling.event _ _ _ c.requires.event c.requires.allowed),
    )
