use Rattle.std.proofs.Common.{Option, ap, sym, ◌∙◌}
use Rattle.std.specs.Option.{option_map_or}
use Rattle.sto_syntax.specs.Lines.{lines_of}
use Rattle.sto_syntax.specs.Views.{form}
use Rattle.sto_lang.specs.DraftViews.{draft_of}
use Rattle.sto_lang.specs.declared.objects.KnownObject.{KnownObject}
use Rattle.sto_lang.proofs.FaultLemmas.{no_fault}
use Rattle.sto_lang.proofs.AskedLemmas.{number_asked}
use Rattle.sto_lang.proofs.draft.Draft.add_line.Goals as goal

pub add_form-requires-clause-placed : goal.add_form-requires-clause-placed
add_form-requires-clause-placed c =
    let free = no_fault (draft_of c.args.self.now) (lines_of c.args.later.now) (form c.in-Some-form_of.form) (sym c.in-None.ensures) in
    (lines_of c.args.later.now, free.placed)

pub add_form-requires-clause-free : goal.add_form-requires-clause-free
add_form-requires-clause-free c =
    (no_fault (draft_of c.args.self.now) (lines_of c.args.later.now) (form c.in-Some-form_of.form) (sym c.in-None.ensures)).free

pub add_form-requires-clause-within : goal.add_form-requires-clause-within
add_form-requires-clause-within c =
    (no_fault (draft_of c.args.self.now) (lines_of c.args.later.now) (form c.in-Some-form_of.form) (sym c.in-None.ensures)).within

pub add_form-requires-clause-asked : goal.add_form-requires-clause-asked
add_form-requires-clause-asked c =
    c.number_of.ensures
    ∙ ap (λ (o : Option KnownObject). option_map_or (λ (k : KnownObject). k.number) o 0) c.asked-asked.ensures
    ∙ number_asked (draft_of c.args.self.now) (form c.in-Some-form_of.form)
