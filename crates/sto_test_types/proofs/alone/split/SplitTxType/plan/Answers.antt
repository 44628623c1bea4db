use Rattle.std.proofs.Common.{rules, pos, slice_index_or, FitsSigned, w64}
use Rattle.std.proofs.lemmas.Int.{to_z-of_z}
use Rattle.sto_type.specs.Known.{known}
use Rattle.sto_type.specs.Plans.{planned}
use Rattle.sto_type.proofs.Answering.{IfOk-mapped}
use Rattle.sto_test_alone.proofs.SplitSays.{split_says}
use Rattle.sto_test_types.proofs.alone.split.SplitTxType.plan.Goals as goal

pub returns-in-Some-get : goal.returns-in-Some-get
returns-in-Some-get c =
    let f : FitsSigned w64 (slice_index_or c.in-Some.first.now 0 (pos 0)) = search rules in
    let h : FitsSigned w64 (slice_index_or c.in-Some-get.second.now 0 (pos 0)) = search rules in
    let made = simp to_z-of_z at c.both_read.ensures in
    IfOk-mapped c.both_read.result _ _
    (λ a same. split_says c.args.self.now.first c.args.self.now.second c.args.call.now (known c.args.cache.now) c.in-Some.first.now c.in-Some-get.second.now (planned a) c.requires.takes.object c.requires.takes.third c.in-Get.is c.in-Some.ensures c.in-Some-get.ensures same)
    made
