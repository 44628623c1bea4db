use Rattle.std.proofs.Common.{List, ap, ◌∙◌, sym, arith}
use Rattle.std.proofs.lemmas.Bool.Decides.{nat_tests}
use Rattle.sto_lang.specs.Objects.{Object}
use Rattle.sto_lang.specs.Limits.{is_full}
use Rattle.sto_lang.proofs.ObjectLemmas.{full_table}
use Rattle.sto_lang.proofs.objects.DeclaredObjects.is_full.Goals.{then-many, else-many}
use Rattle.sto_lang.proofs.objects.DeclaredObjects.is_full.Goals as goal

pub returns-then-large : goal.returns-then-large
returns-then-large c =
    let o = c.self.inside in
    let e = ap (λ (objects : List Object). is_full c.args.version objects c.args.shape.now) (sym c.self.view_is) ∙ full_table o.names o.shapes.items o.numbers.items o.ordered.items o.parts o.words c.args.shape.now c.args.version c.self.invariant in
    elim c.if-many.branch [ then-many w ↦ grind (arith, nat_tests, e) | else-many w ↦ grind (arith, nat_tests, e) ]

pub returns-else-large : goal.returns-else-large
returns-else-large c =
    let o = c.self.inside in
    let e = ap (λ (objects : List Object). is_full c.args.version objects c.args.shape.now) (sym c.self.view_is) ∙ full_table o.names o.shapes.items o.numbers.items o.ordered.items o.parts o.words c.args.shape.now c.args.version c.self.invariant in
    grind (arith, nat_tests, e)
