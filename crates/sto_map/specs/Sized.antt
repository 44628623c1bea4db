-- The sizes of a map by its numbers: the home and the stripe of a key, by a mix of its bits, and how the room is shared out.
use Rattle.std.specs.Prelude.{◌≡◌, ◌<◌, ◌≤◌, ◌+◌, ◌-◌, ◌*◌, ◌/◌, ◌%◌, ◌^◌, ℕ, zero, suc, ℤ, nat_lt, if◌then◌else◌, List, [], ◌∷◌}
use Rattle.std.specs.Int.{w64}
use Rattle.std.proofs.Common.{of_z, ap, sym, ◌∙◌, arith, subst}
use Rattle.std.proofs.Math.Nat.{mod-lt, div-add-mod, suc-mul, zero-mul}
use Rattle.std.proofs.lemmas.Bool.Decides.{nat_tests}
use Rattle.sto_type.specs.Known.{Parts}
use Rattle.sto_type.specs.Meaning.{Meaning, IsLawful}
use Rattle.sto_type.specs.OneObject.{IsType}
use Rattle.sto_map.specs.Counts.{total}
use Rattle.sto_map.specs.Mapped.{Sizes, AreSizes, IsMap, map_meaning, telling}
use Rattle.sto_map.specs.MappedLaw.{map_type}
use Rattle.sto_map.specs.Opening.{opening, opened_map, map_is_lawful}

-- a number and its upper half, modulo 2^64
abbrev pub folded : ℕ → ℕ
folded x = (x + x / 2 ^ 32) % 2 ^ 64

abbrev pub mixed : ℕ → ℤ → ℕ
mixed seed k = folded ((folded ((of_z w64 k * 11400714819323198485 + seed) % 2 ^ 64) * 15074714826142052245 + 2685821657736338717) % 2 ^ 64)

abbrev pub home_of : ℕ → ℕ → ℤ → ℕ
home_of places seed k = mixed seed k % places

abbrev pub stripe_of : ℕ → ℕ → ℤ → ℕ
stripe_of stripes seed k = (mixed seed k / 2 ^ 40) % stripes

abbrev pub sizes_of : ℕ → ℕ → ℕ → ℕ → Sizes
sizes_of keys places stripes seed = record { keys = keys; places = places; stripes = stripes; home = home_of places seed; stripe = stripe_of stripes seed }

-- the room of a stripe at the opening
abbrev pub room_of : ℕ → ℕ → ℕ → ℕ
room_of keys stripes s = if nat_lt s (keys % stripes) then suc (keys / stripes) else keys / stripes

abbrev shared : ℕ → ℕ → ℕ → ℕ
shared q r s = if nat_lt s r then suc q else q

more : (q r s : ℕ) → s < r → shared q r s ≡ suc q
more q r s l = grind (arith, nat_tests)

less : (q r s : ℕ) → r ≤ s → shared q r s ≡ q
less q r s l = grind (arith, nat_tests)

first_rooms : (q r n : ℕ) → n ≤ r → total n (shared q r) ≡ n * q + n
first_rooms q r zero l = let e : 0 * q ≡ 0 = zero-mul q in omega (arith, e)
first_rooms q r (suc n) l = omega (arith, more q r n (omega (arith, l)), first_rooms q r n (omega (arith, l)), suc-mul n q)

all_rooms : (q r d : ℕ) → total (d + r) (shared q r) ≡ (d + r) * q + r
all_rooms q r zero = let e : 0 + r ≡ r = omega arith in subst (λ (n : ℕ). total n (shared q r) ≡ n * q + r) (sym e) (first_rooms q r r (omega arith))
all_rooms q r (suc d) =
    let e : suc d + r ≡ suc (d + r) = omega arith in
    subst (λ (n : ℕ). total n (shared q r) ≡ n * q + r) (sym e) (omega (arith, less q r (d + r) (omega arith), all_rooms q r d, suc-mul (d + r) q))

pub rooms_sum : (keys stripes : ℕ) → 0 < stripes → total stripes (room_of keys stripes) ≡ keys
rooms_sum keys stripes l =
    let r = keys % stripes in
    let q = keys / stripes in
    let m : keys % stripes < stripes = mod-lt keys l in
    let d : (stripes - r) + r ≡ stripes = omega (arith, m) in
    ap (λ n. total n (shared q r)) (sym d) ∙ all_rooms q r (stripes - r) ∙ ap (λ n. n * q + r) d ∙ div-add-mod keys stripes

abbrev pub opening_of : ℕ → ℕ → ℕ → ℕ → Parts
opening_of keys places stripes seed = opening (sizes_of keys places stripes seed) (room_of keys stripes)

abbrev pub meaning_by : ℕ → ℕ → ℕ → ℕ → Meaning
meaning_by keys places stripes seed = map_meaning (sizes_of keys places stripes seed) (opening_of keys places stripes seed)

-- the same by the list of sizes
abbrev pub IsMapOf : List ℕ → Parts → Type 0
IsMapOf (keys ∷ places ∷ stripes ∷ seed ∷ []) c = IsMap (sizes_of keys places stripes seed) c
IsMapOf sizes c = ⊥

module _ (keys places stripes seed : ℕ) (enough : keys ≤ places) (some : 0 < places) (striped : 0 < stripes) (few : stripes + 3 * places < 2 ^ 32) where
  pub are_sizes : AreSizes (sizes_of keys places stripes seed)
  are_sizes = record { enough = enough; homes = λ k. mod-lt (mixed seed k) some; rooms = λ k. mod-lt (mixed seed k / 2 ^ 40) striped; small = omega (arith, enough, few) }

  pub type_is : IsType (meaning_by keys places stripes seed) (telling (sizes_of keys places stripes seed))
  type_is = map_type (sizes_of keys places stripes seed) are_sizes (opening_of keys places stripes seed) (opened_map (sizes_of keys places stripes seed) are_sizes (room_of keys stripes) (rooms_sum keys stripes striped))

  -- a map of these sizes is lawful
  pub type_lawful : IsLawful (meaning_by keys places stripes seed)
  type_lawful = map_is_lawful (sizes_of keys places stripes seed) are_sizes (room_of keys stripes) (rooms_sum keys stripes striped)
