use Rattle.std.proofs.Common.{◌≡◌, ◌+◌, ◌*◌, ◌%◌, ◌^◌, ◌<◌, ℕ, suc, sym, refl, ap, ◌∙◌, subst, arith, bit_and, bit_or, length}
use Rattle.sto_part.specs.Parts.{part_of}
use Rattle.sto_core.specs.History.{Contents}
use Rattle.sto_table.specs.Laid.{place_of, words_of}
use Rattle.sto_core.proofs.Places.{put_named}
use Rattle.sto_table.proofs.Steps.{stores_told, put_at, silent}
use Rattle.sto_table.proofs.shared.Shared.store_word.Goals as goal
use Rattle.std.proofs.lemmas.Int.{to_z-of_z}
use Rattle.std.proofs.Common.{w64}
use Rattle.std.specs.Int.{cast_signed, cast_unsigned}

pub word_place-place-requires : goal.word_place-place-requires
word_place-place-requires g c =
    subst (λ (o : Contents). (c.args.part < length o) × (c.args.word < length (part_of o c.args.part))) c.requires.fits.opening
    (put_named g.T.Naming.valid g.J.Telling.event c.args.seat.now.me.0.view c.requires.allowed c.args.part c.args.word c.args.value c.requires.event)

pub store-requires : goal.store-requires
store-requires g c =
    let s = c.args.self.now in
    let k = s.table.shared.key in
    let sizes = g.T.Naming.sizes k.ty.value in
    let opening : Contents = k.opening.value.items in
    let me = c.args.seat.now.me in
    let live = c.requires.fits.live in (
      c.requires.fits.table,
      c.word_place-place.ensures.within,
      stores_told g.T.Naming.valid sizes opening k.passes s.table.shared.table_id.slots c.args.seat.now.id me g.J.Telling.event live c.requires.allowed
          (c.word_place-place.result) (c.cast_unsigned.result) (put_at k.passes opening g.J.Telling.event me.0.view c.args.part c.args.word c.word_place-place.result c.cast_unsigned.result c.args.value c.requires.event c.word_place-place.ensures.is (let fits = c.ranges.value in let twice = to_z-of_z w64 c.args.value fits in ap (cast_signed w64) (c.cast_unsigned.ensures ∙ ap (cast_unsigned w64) twice) ∙ twice)) g.J.Telling.passes c.requires.passes,
    )
