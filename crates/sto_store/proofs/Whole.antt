-- Whole contents of a lawful type.
use Rattle.std.proofs.Common.{◌≡◌, List, length, take, drop, arith, ap}
use Rattle.std.proofs.lemmas.List.{length-map, take_all}
use Rattle.sto_type.specs.Known.{Parts}
use Rattle.sto_type.specs.Meaning.{Meaning, IsLawful}

-- valid contents have as many parts as the type
pub whole_contents : (m : Meaning) → IsLawful m → (c : Parts) → m.valid c → take (length m.widths) (drop 0 c) ≡ c
whole_contents m law c valid =
    let many = ap length (law.widths c valid) in
    take_all (length m.widths) c (omega (arith, many, length-map c length))
