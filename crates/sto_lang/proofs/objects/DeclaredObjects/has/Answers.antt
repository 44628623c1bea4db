use Rattle.std.proofs.Common.{◌∙◌, sym, ap, is_some}
use Rattle.sto_lang.specs.Objects.{object_place}
use Rattle.sto_lang.proofs.ObjectLemmas.{place_of_name}
use Rattle.sto_lang.proofs.objects.DeclaredObjects.has.Goals as goal

pub returns : goal.returns
returns c =
    let o = c.self.inside in
    c.is_some.ensures
    ∙ ap is_some (c.find.ensures ∙ sym (place_of_name c.args.name.now.bytes.now o.names o.shapes.items c.self.invariant.paired) ∙ ap (object_place c.args.name.now.bytes.now) c.self.view_is)
