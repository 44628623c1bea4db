use Rattle.std.proofs.Common.{◌≡◌, ap, sym, ◌∙◌, Some, None, map, slice_get}
use Rattle.std.specs.Option.{option_and_then, option_map}
use Rattle.std.specs.Str.{bytes_eq}
use Rattle.sto_lang.specs.Views.{declaration}
use Rattle.sto_lang.specs.declared.file.Decl.{Decl}
use Rattle.sto_question.specs.Readings.{known}
use Rattle.sto_question.proofs.Pieces.{named_at, declared_at, inside}
use Rattle.sto_question.proofs.amount.named.Goals as goal

pub returns-in-Some : goal.returns-in-Some
returns-in-Some c =
    let ds = c.args.decls.now in
    let name = c.args.name.now in
    let here = (inside (λ (d : Decl). bytes_eq d.name.items name) ds c.in-Some.place (sym c.in-Some.ensures)).1 in
    ap (λ k. Some k) c.known.ensures
    ∙ sym (ap (option_map known) (sym (named_at name ds (Some c.in-Some.place) c.in-Some.ensures) ∙ declared_at ds c.in-Some.place c.index-decls-place.result here c.index-decls-place.is))

pub returns-in-None : goal.returns-in-None
returns-in-None c = sym (ap (option_map known) (sym (named_at c.args.name.now c.args.decls.now None c.in-None.ensures)))
