use Rattle.std.proofs.Common.{◌≡◌, ◌+◌, ◌*◌, ◌%◌, ◌^◌, ◌<◌, ℕ, suc, sym, refl, ap, ◌∙◌, subst, arith, bit_and, bit_or, length}
use Rattle.sto_part.specs.Parts.{part_of}
use Rattle.sto_core.specs.History.{Contents}
use Rattle.sto_table.specs.Laid.{place_of, words_of}
use Rattle.sto_core.proofs.Places.{release_named}
use Rattle.sto_table.proofs.Steps.{stores_told, release_at, silent}
use Rattle.sto_table.proofs.shared.Shared.store_version.Goals as goal

pub version_place-place-requires : goal.version_place-place-requires
version_place-place-requires g c =
    subst (λ (o : Contents). c.args.part < length o) c.requires.fits.opening
    (release_named g.T.Naming.valid g.J.Telling.event c.args.seat.now.me.0.view c.requires.allowed c.args.part c.requires.event)

pub store-requires : goal.store-requires
store-requires g c =
    let s = c.args.self.now in
    let k = s.table.shared.key in
    let sizes = g.T.Naming.sizes k.ty.value in
    let opening : Contents = k.opening.value.items in
    let me = c.args.seat.now.me in
    let live = c.requires.fits.live in (
      c.requires.fits.table,
      c.version_place-place.ensures.within,
      stores_told g.T.Naming.valid sizes opening k.passes s.table.shared.table_id.slots c.args.seat.now.id me g.J.Telling.event live c.requires.allowed
          (c.version_place-place.result) (2 * c.args.ticket) (release_at k.passes opening g.J.Telling.event me.0.view c.args.part c.version_place-place.result (2 * c.args.ticket) c.requires.event c.version_place-place.ensures.is (ap (λ (n : ℕ). 2 * n) (sym c.requires.ticket.0))) g.J.Telling.passes c.requires.passes,
    )
