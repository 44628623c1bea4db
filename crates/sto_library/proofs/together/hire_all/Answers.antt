use Rattle.std.proofs.Common.{rules, ◌≡◌, length, ap, ◌∙◌, arith}
use Rattle.sto_type.specs.Traits.{of_type}
use Rattle.sto_library.proofs.SideBySide.{none_hired, one_hired}
use Rattle.sto_library.proofs.together.hire_all.Goals as goal

pub loop-turn-init : goal.loop-turn-init
loop-turn-init g c = record { same = search rules; hired = none_hired (of_type g.T.Naming g.T.TxType) c.args.store.now c.in-Ok.workers.items c.in-Ok.ensures.items; room = search rules }

pub loop-turn-preserved : goal.loop-turn-preserved
loop-turn-preserved g c =
    let i = c.loop-turn.invariant in
    record { same = search rules; hired = one_hired (of_type g.T.Naming g.T.TxType) c.hire.new.self c.in-Some.worker i.hired i.same.0 c.in-Some.ensures.worker c.push_reserved.ensures.items; room = search rules }
