use Rattle.std.proofs.Common.{◌≡◌, ◌≤◌, ◌+◌, refl, ap, arith}
use Rattle.sto_test_layers.proofs.Ended.{weaker, enough}
use Rattle.sto_test_layers.proofs.counting.add_hundred.Goals as goal

pub loop-init : goal.loop-init
loop-init c = (
  (refl, refl, refl, refl, refl, refl),
  weaker 6400 c.args.rest.seat.me.0.view c.pass-pass.result.seat.me.0.view (ap (λ s. s.me.0.view) c.pass-pass.ensures.seat) c.requires.pass,
  enough 6400 c.args.rest.seat.me.0.view c.pass-pass.result.seat.me.0.view (ap (λ s. s.me.0.view) c.pass-pass.ensures.seat) c.requires.pass,
)
