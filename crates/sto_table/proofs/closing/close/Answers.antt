use Rattle.std.proofs.Common.{◌≡◌, ◌<◌, ◌+◌, ℕ, List, length, sym, refl, ap, ◌∙◌, subst, arith}
use Rattle.std.specs.Slots.{slots_items}
use Rattle.sto_core.specs.History.{Contents}
use Rattle.sto_core.specs.Closed.{ClosedWords}
use Rattle.sto_core.proofs.Lists.{length_of_map}
use Rattle.sto_table.specs.Closings.{IsClosedBy}
use Rattle.sto_table.proofs.Closings.{are_closed, closed_by, within}
use Rattle.sto_core.proofs.Phases.{idle_is}
use Rattle.sto_table.proofs.Places.{places_many}
use Rattle.sto_table.proofs.closing.close.Goals as goal

pub read_all-read-requires : goal.read_all-read-requires
read_all-read-requires g c =
    let s = c.args.shared in
    let k = s.table.shared.key in
    record {
      full = c.close_with-words.ensures.values.0;
      same = ap length s.placed ∙ (places_many k.passes k.opening.value.items ∙ sym (ap length s.measured ∙ length_of_map length k.opening.value.items));
      within = within k.passes k.opening.value.items s.places.items s.widths.items _ s.placed s.measured
          (c.close_with-words.ensures.counts.0 ∙ s.wide);
    }

pub new-requires-2 : goal.new-requires-2
new-requires-2 g c =
    let s = c.args.shared in
    let k = s.table.shared.key in
    let f = c.close_with-words.ensures.values.2 in
    let v = c.args.rest.seat.me.0 in
    are_closed g.T.Naming.valid (g.T.Naming.sizes k.ty.value) k.opening.value.items k.passes f.0 f.1.0
    (slots_items c.close_with-words.result.words) s.places.items s.widths.items f.2 s.placed s.measured
    c.args.rest.seat.id v f.1.1 c.requires.all c.args.rest.live (idle_is v.view.phase c.args.rest.idle)
    c.word-clock.result c.in_ok-versions.versions.items c.in_ok-versions.contents.items c.note_rest.new.book
    c.word-clock.ensures c.in_ok-versions.ensures.0 c.in_ok-versions.ensures.1 c.note_rest.ensures

pub returns : goal.returns
returns g c =
    let s = c.args.shared in
    let k = s.table.shared.key in
    let f = c.close_with-words.ensures.values.2 in
    let v = c.args.rest.seat.me.0 in
    subst (λ (w : ClosedWords). IsClosedBy g.T.Naming.valid k.passes v.view w) (sym c.new-2.ensures)
    (closed_by g.T.Naming.valid (g.T.Naming.sizes k.ty.value) k.opening.value.items k.passes f.0 f.1.0
    (slots_items c.close_with-words.result.words) s.places.items s.widths.items f.2 s.placed s.measured
    c.args.rest.seat.id v f.1.1 c.requires.all c.args.rest.live (idle_is v.view.phase c.args.rest.idle)
    c.word-clock.result c.in_ok-versions.versions.items c.in_ok-versions.contents.items c.note_rest.new.book
    c.word-clock.ensures c.in_ok-versions.ensures.0 c.in_ok-versions.ensures.1 c.note_rest.ensures)
