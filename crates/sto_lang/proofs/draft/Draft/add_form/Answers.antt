use Rattle.std.proofs.Common.{ap, sym, ◌∙◌}
use Rattle.sto_syntax.specs.declared.form.Form as lines
use Rattle.sto_syntax.specs.Views.{form}
use Rattle.sto_lang.specs.DraftViews.{draft_of}
use Rattle.sto_lang.specs.Places.{has_place}
use Rattle.sto_lang.proofs.ThreadLemmas.{no_threads}
use Rattle.sto_lang.proofs.draft.Draft.add_form.Goals as goal

pub add_object-requires-clause-first : goal.add_object-requires-clause-first
add_object-requires-clause-first c =
    let placed = c.requires.placed in
    let at = ap (λ (l : lines.Form). has_place (draft_of c.args.self.now) placed.0 (form l)) (sym c.in-Declare.is) ∙ placed.1 in
    c.args.self.now.placed (no_threads c.args.self.now.threads.items at)
