use Rattle.std.proofs.Common.{◌≡◌, ◌∙◌, ap, nat_lt, false, arith, Some, None}
use Rattle.std.proofs.lemmas.Bool.Decides.{nat_tests}
use Rattle.sto_part.specs.Index.{near_end, place_at}
use Rattle.sto_part.proofs.Stamped.{far_told}
use Rattle.sto_part.proofs.index.PartIndex.get.Goals as goal

pub returns-in-Some : goal.returns-in-Some
returns-in-Some c =
    let i = c.self.inside in
    let far : nat_lt c.args.part near_end ≡ false = grind (arith, nat_tests, c.if-part-lt-NEAR_END.false) in
    c.told-in-Some.ensures
    ∙ far_told i.generation i.near.items i.far.entries c.args.part (Some c.in-Some.stamp.now) far c.in-Some.ensures.value
    ∙ ap (λ v. place_at v c.args.part) c.self.view_is

pub returns-in-None : goal.returns-in-None
returns-in-None c =
    let i = c.self.inside in
    let far : nat_lt c.args.part near_end ≡ false = grind (arith, nat_tests, c.if-part-lt-NEAR_END.false) in
    far_told i.generation i.near.items i.far.entries c.args.part None far c.in-None.ensures.value ∙ ap (λ v. place_at v c.args.part) c.self.view_is
