use Rattle.std.proofs.Common.{◌≡◌, ◌+◌, ℕ, Some, length, arith, ap, ◌∙◌}
use Rattle.sto_type.specs.OneObjectLaw.{home_there}
use Rattle.sto_map.specs.Mapped.{map_widths}
use Rattle.sto_map.specs.Sized.{sizes_of}
use Rattle.sto_map.proofs.map.TMapTxType.home.Goals as goal

pub returns : goal.returns
returns c =
    let z : 0 + c.args.part ≡ c.args.part = omega arith in
    home_there 0 (length (map_widths (sizes_of c.args.self.now.keys c.args.self.now.places c.args.self.now.stripes c.args.self.now.seed))) c.args.part c.requires ∙ ap (λ (x : ℕ). Some (0, x)) z
