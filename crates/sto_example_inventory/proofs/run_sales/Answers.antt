use Rattle.std.proofs.Common.{pos, [], refl, ap, ◌∙◌, arith}
use Rattle.std.proofs.lemmas.Int.{ints}
use Rattle.sto_model.specs.Objects.{machines_of}
use Rattle.sto_library.specs.Keeping.{Any, IfGave}
use Rattle.sto_library.specs.Kinds.{IsGoodEither}
use Rattle.sto_library.proofs.Keeping.{all_keep, left_keeps, right_keeps, times_keep}
use Rattle.sto_library.proofs.Planned.{planned}
use Rattle.sto_library.proofs.TwoKinds.{rights_good}
use Rattle.sto_example_inventory.specs.Stock.{objects, IsStocked, IsCount}
use Rattle.sto_example_inventory.proofs.Stocked.{sells, counts}
use Rattle.sto_example_inventory.proofs.run_sales.Goals as goal

pub returns : goal.returns
returns g c =
    let s = planned _ c.new-schema.ensures c.in_ok-stock.ensures in
    let b = planned _ s.1 c.in_ok-book.ensures in
    let o = c.in_ok-store.ensures in
    let machines = o.machines ∙ ap machines_of b.1 in
    let day = c.in_ok-told.ensures in
    let kept = all_keep _ objects IsStocked (IsGoodEither (λ _. IfGave Any) (λ _. IfGave IsCount)) machines o.fresh day.same.0 day.done c.in_ok-close.ensures.history
    (record { left = pos 50; lines = []; are = refl; some = grind (arith, ints) }) (left_keeps (times_keep objects Any machines (sells (pos 1) (pos 3) (s.0, b.0))), (left_keeps (times_keep objects Any machines (sells (pos 2) (pos 3) (s.0, b.0))), (right_keeps (times_keep objects IsCount machines (counts (pos 1) (pos 2) (s.0, b.0))), (right_keeps (times_keep objects IsCount machines (counts (pos 1) (pos 2) (s.0, b.0))), tt)))) in
    let told = rights_good kept.1 in
    (told.0, told.1, kept.0)
