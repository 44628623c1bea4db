use Rattle.std.proofs.Common.{◌-◌, ◌≤◌, max}
use Rattle.sto_type.specs.Traits.{of_type}
use Rattle.sto_library.proofs.Doings.{RanTimes}
use Rattle.sto_library.proofs.times.TimesTask.work.Given as goal

abbrev pub invariant-loop-turn : goal.invariant-loop-turn
invariant-loop-turn g l = record {
  ran : RanTimes (of_type g.T.Naming g.T.TxType) l.fn.worker l.worker (l._turn - 1) (g.K.Action.most l.fn.self.1) (g.K.Action.does l.fn.self.1);
  within : l._turn ≤ max l.fn.self.0 1;
}
