use Rattle.std.proofs.Common.{◌∙◌, sym, ap}
use Rattle.sto_lang.specs.Shapes.{in_order}
use Rattle.sto_lang.specs.Objects.{shapes_in}
use Rattle.sto_lang.proofs.ObjectLemmas.{shapes_of_objects}
use Rattle.sto_lang.proofs.objects.DeclaredObjects.in_order.Goals as goal

pub returns : goal.returns
returns c =
    let o = c.self.inside in
    c.as_slice.ensures.items ∙ c.self.invariant.in_order
    ∙ sym (ap in_order (ap shapes_in (sym c.self.view_is) ∙ shapes_of_objects o.names o.shapes.items c.self.invariant.paired))
