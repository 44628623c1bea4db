use Rattle.std.proofs.Common.{ℕ, List, position, ap, sym, ◌∙◌}
use Rattle.std.specs.Str.{bytes_eq}
use Rattle.sto_lang.proofs.NameTables.{found_at}
use Rattle.sto_lang.proofs.name_table.NameTable.stands_at.Goals as goal

pub returns-then-place-len : goal.returns-then-place-len
returns-then-place-len c = λ e.
    let q : List ℕ = c.args.name.now.bytes.now in
    sym (ap (position (bytes_eq q)) c.self.view_is)
    ∙ found_at c.self.inside.names.items c.args.place c.get.result.now q c.self.invariant c.get.ensures (sym (λ i. bytes_eq (c.as_bytes.ensures i) (c.bytes.ensures i)) ∙ sym c.eq.ensures ∙ e)
