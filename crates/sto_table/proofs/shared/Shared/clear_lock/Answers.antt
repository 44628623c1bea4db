use Rattle.std.proofs.Common.{◌≡◌, ◌+◌, ◌*◌, ◌%◌, ◌^◌, ◌<◌, ℕ, suc, sym, refl, ap, ◌∙◌, subst, arith, bit_and, bit_or, length}
use Rattle.sto_part.specs.Parts.{part_of}
use Rattle.sto_core.specs.History.{Contents}
use Rattle.sto_table.specs.Laid.{place_of, words_of}
use Rattle.sto_core.proofs.Places.{unlock_named}
use Rattle.sto_table.proofs.Steps.{unlocks, told_as, unlock_silent}
use Rattle.sto_table.proofs.shared.Shared.clear_lock.Goals as goal

pub version_place-place-requires : goal.version_place-place-requires
version_place-place-requires g c =
    subst (λ (o : Contents). c.args.part < length o) c.requires.fits.opening
    (unlock_named g.T.Naming.valid g.J.Telling.event c.args.seat.now.me.0.view c.requires.allowed c.args.part c.requires.event)

pub fetch_and-requires : goal.fetch_and-requires
fetch_and-requires g c =
    let s = c.args.self.now in
    let k = s.table.shared.key in
    let sizes = g.T.Naming.sizes k.ty.value in
    let opening : Contents = k.opening.value.items in
    let me = c.args.seat.now.me in
    let live = c.requires.fits.live in (
      c.requires.fits.table,
      c.version_place-place.ensures.within,
      told_as g.T.Naming.valid sizes opening k.passes s.table.shared.table_id.slots c.args.seat.now.id me g.J.Telling.event
          (c.version_place-place.result) (λ n. bit_and n 18446744073709551614) g.J.Telling.passes c.requires.passes
          (unlocks g.T.Naming.valid sizes opening k.passes s.table.shared.table_id.slots c.args.seat.now.id me live g.J.Telling.event c.args.part c.version_place-place.result c.requires.event c.version_place-place.ensures.is c.requires.allowed),
    )

pub returns-clause-tells : goal.returns-clause-tells
returns-clause-tells g c =
    unlock_silent g.T.Naming.valid g.J.Telling.passes c.args.seat.now.me g.J.Telling.event c.args.part c.requires.event
    c.fetch_and.result 0 c.fetch_and.new.seat.me c.fetch_and.ensures.2
