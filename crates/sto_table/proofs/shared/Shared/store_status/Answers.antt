use Rattle.std.proofs.Common.{◌≡◌, ◌+◌, ◌*◌, ◌%◌, ◌^◌, ◌<◌, ℕ, suc, sym, refl, ap, ◌∙◌, subst, arith, bit_and, bit_or}
use Rattle.sto_part.specs.Parts.{part_of}
use Rattle.sto_core.specs.History.{Contents}
use Rattle.sto_table.specs.Laid.{place_of, words_of}
use Rattle.sto_table.proofs.Steps.{stores_told, status_at, store_silent, silent}
use Rattle.sto_core.specs.Core.{status_word}
use Rattle.sto_core.specs.Views.{own_ticket}
use Rattle.sto_table.proofs.shared.Shared.store_status.Goals as goal
use Rattle.sto_table.proofs.shared.Shared.store_status.Goals.{then-commit, else-commit}

pub store-requires : goal.store-requires
store-requires g c =
    let s = c.args.self.now in
    let k = s.table.shared.key in
    let sizes = g.T.Naming.sizes k.ty.value in
    let opening : Contents = k.opening.value.items in
    let me = c.args.seat.now.me in
    let live = c.requires.fits.live in
    let wide = s.wide in let range = c.requires.number.1 in (
      c.requires.fits.table,
      (omega arith),
      stores_told g.T.Naming.valid sizes opening k.passes s.table.shared.table_id.slots c.args.seat.now.id me g.J.Telling.event live c.requires.allowed
          (1 + c.args.number) (c.if-commit.word) (status_at k.passes opening g.J.Telling.event me.0.view c.args.commit (1 + c.args.number) c.if-commit.word c.requires.event (let n = c.requires.number.0 in omega arith) (elim c.if-commit.branch [ then-commit w ↦ w.word-is ∙ (λ j. status_word (sym w.if-commit.true j) (sym c.requires.ticket.0 j)) | else-commit w ↦ w.word-is ∙ (λ j. status_word (sym w.if-commit.false j) (sym c.requires.ticket.0 j)) ])) g.J.Telling.passes c.requires.passes,
    )
