use Rattle.std.proofs.Common.{pos, ap, ◌∙◌, arith}
use Rattle.std.proofs.lemmas.Int.{ints}
use Rattle.sto_model.specs.Objects.{machines_of}
use Rattle.sto_library.specs.Keeping.{Any, IfGave, IfTold}
use Rattle.sto_library.specs.Kinds.{IsGoodEither}
use Rattle.sto_library.proofs.Keeping.{all_keep, left_keeps, right_keeps, times_keep, times_tell}
use Rattle.sto_library.proofs.Planned.{planned}
use Rattle.sto_library.proofs.TwoKinds.{lefts_good, rights_good}
use Rattle.sto_example_bank.specs.Accounts.{accounts, HoldAll, IsLack, IsAll}
use Rattle.sto_example_bank.proofs.Sums.{first_moves, second_moves, first_lacks, second_lacks, sees_all, opened}
use Rattle.sto_example_bank.proofs.run_bank.Goals as goal

pub returns : goal.returns
returns g c =
    let a = planned _ c.new-schema.ensures c.in_ok-a.ensures in
    let b = planned _ a.1 c.in_ok-b.ensures in
    let k = planned _ b.1 c.in_ok-c.ensures in
    let o = c.in_ok-store.ensures in
    let machines = o.machines ∙ ap machines_of k.1 in
    let day = c.in_ok-told.ensures in
    let kept = all_keep _ accounts HoldAll (IsGoodEither (λ _. IfTold Any IsLack) (λ _. IfGave IsAll)) machines o.fresh day.same.0 day.done c.in_ok-close.ensures.history opened (left_keeps (times_tell accounts Any machines IsLack (first_moves (pos 3) (a.0, b.0) (grind (arith, ints))) (first_lacks (pos 3) (a.0, b.0) (grind (arith, ints)))), (left_keeps (times_tell accounts Any machines IsLack (second_moves (pos 2) (b.0, k.0) (grind (arith, ints))) (second_lacks (pos 2) (b.0, k.0) (grind (arith, ints)))), (right_keeps (times_keep accounts IsAll machines (sees_all (a.0, b.0, k.0))), (right_keeps (times_keep accounts IsAll machines (sees_all (a.0, b.0, k.0))), tt)))) in
    let moved = lefts_good kept.1 in let seen = rights_good kept.1 in
    record { tellers = moved.0; lacks = moved.1; auditors = seen.0; sees = seen.1; holds = kept.0 }
