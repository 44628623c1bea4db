use Rattle.std.proofs.Common.{rules, FitsSigned}
use Rattle.std.specs.Int.{w64}
use Rattle.std.proofs.lemmas.Int.{to_z-of_z}
use Rattle.std.proofs.lemmas.Result.{IfOk-weaker}
use Rattle.sto_type.specs.Known.{known}
use Rattle.sto_vector.proofs.Plans.{known_size, first_planned, then_planned}
use Rattle.sto_vector.proofs.vector.TVectorTxType.plan.Goals as goal

pub size_in-requires : goal.size_in-requires
size_in-requires c =
    let r : FitsSigned w64 c.in-Some.word = search rules in
    simp to_z-of_z (known_size c.args.self.now.capacity (known c.args.cache.now) c.requires.part.0 c.in-Some.word c.requires.part.1 c.requires.part.2 c.in-Some.ensures)

pub returns-in-None : goal.returns-in-None
returns-in-None c =
    IfOk-weaker c.first_answer.result _ _ (λ a h. first_planned c.args.self.now.capacity c.args.self.now.few c.args.call.now (known c.args.cache.now) c.requires.takes a c.in-None.ensures h) c.first_answer.ensures

pub returns-in-Some : goal.returns-in-Some
returns-in-Some c =
    let r : FitsSigned w64 c.in-Some.word = search rules in
    let is = simp to_z-of_z at c.size_in.ensures.is in
    IfOk-weaker c.answer.result _ _ (λ a h. then_planned c.args.self.now.capacity c.args.self.now.few c.args.call.now (known c.args.cache.now) c.requires.takes a c.size_in.result c.in-Some.word c.in-Some.ensures is h) c.answer.ensures
