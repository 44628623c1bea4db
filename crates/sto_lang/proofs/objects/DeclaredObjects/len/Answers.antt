use Rattle.std.proofs.Common.{◌∙◌, sym, ap, length}
use Rattle.sto_lang.proofs.ObjectLemmas.{count_of_objects}
use Rattle.sto_lang.proofs.objects.DeclaredObjects.len.Goals as goal

pub returns : goal.returns
returns c =
    let o = c.self.inside in
    c.len.ensures ∙ sym (count_of_objects o.names o.shapes.items c.self.invariant.paired) ∙ ap length c.self.view_is
