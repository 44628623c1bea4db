use Rattle.std.specs.Prelude.{sum_by}
use Rattle.std.proofs.Common.{◌<◌, ◌^◌, ◌∷◌, [], ◌++◌, List, pos, ap, sym, subst, ◌∙◌, arith}
use Rattle.sto_model.specs.declared.shape.Shape.{Shape}
use Rattle.sto_model.specs.declared.shape.Shape.TheVariants.{Single, Counter, Array, Hash, Tree}
use Rattle.sto_model.specs.Sizes.{part_count}
use Rattle.sto_store.specs.Stores.{AreFit}
use Rattle.sto_test_types.proofs.store.one_of_each_kind.Goals as goal

abbrev shapes : List Shape
shapes = Single (pos 7) ∷ Counter (pos 5) ∷ Array 3 (pos 2) ∷ Hash 2 1 ∷ Tree 2 ∷ []

fit : AreFit shapes
fit = (tt, (tt, (tt, ((omega arith, omega arith, omega arith), ((omega arith, omega arith), tt)))))

few : sum_by part_count shapes < 2 ^ 32
few = omega arith

pub build-requires-clause-fit : goal.build-requires-clause-fit
build-requires-clause-fit c = subst AreFit (sym (c.in_ok-extend.ensures.ok ∙ ap (λ l. l.items ++ shapes) c.new-shapes.ensures)) fit

pub build-requires-clause-parts : goal.build-requires-clause-parts
build-requires-clause-parts c = subst (λ (ss : List Shape). sum_by part_count ss < 2 ^ 32) (sym (c.in_ok-extend.ensures.ok ∙ ap (λ l. l.items ++ shapes) c.new-shapes.ensures)) few
