use Rattle.std.proofs.Common.{◌≡◌, ◌+◌, ℕ, Some, length, arith, ap, ◌∙◌}
use Rattle.sto_type.specs.OneObjectLaw.{home_there}
use Rattle.sto_ring.specs.Ringed.{ring_widths}
use Rattle.sto_ring.proofs.ring.TRingTxType.home.Goals as goal

pub returns : goal.returns
returns c =
    let z : 0 + c.args.part ≡ c.args.part = omega arith in
    home_there 0 (length (ring_widths c.args.self.now.places)) c.args.part c.requires ∙ ap (λ (x : ℕ). Some (0, x)) z
