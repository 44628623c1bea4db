use Rattle.std.proofs.Common.{◌∷◌, [], ◌++◌, ℕ, List, ap, sym, ◌∙◌, slice_get}
use Rattle.std.specs.Arc.{arc_value}
use Rattle.std.specs.Str.{bytes_eq}
use Rattle.sto_part.specs.Listed.{Listed}
use Rattle.sto_lang.specs.declared.text.Text.{Text}
use Rattle.sto_lang.proofs.SharedNames.{next_taken}
use Rattle.sto_lang.proofs.names.Names.take_next.Goals as goal

pub returns-then-eq-clause-taken : goal.returns-then-eq-clause-taken
returns-then-eq-clause-taken c = λ _.
    let name : List ℕ = c.args.name.now.bytes.now in
    next_taken (arc_value c.self.inside.shared).items c.get.result.now name c.self.inside.count
    (ap (λ (l : Listed Text). slice_get l.items c.self.inside.count) (sym c.deref-then-self-len.ensures) ∙ c.get.ensures)
    (sym (λ i. bytes_eq (c.as_bytes.ensures i) (c.bytes.ensures i)) ∙ sym c.eq.ensures ∙ c.if-eq.true)
    ∙ ap (λ old. old ++ name ∷ []) c.self.view_is
