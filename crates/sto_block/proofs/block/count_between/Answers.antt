use Rattle.std.proofs.Common.{◌<◌, ◌≡◌, ◌+◌, [], arith, length, drop, count_by, sym, ◌∙◌, to_z-of_z, to_z, of_z}
use Rattle.std.specs.Int.{w64}
use Rattle.sto_block.specs.Blocks.{places_of, is_between}
use Rattle.sto_block.proofs.Places.{in_range, drop-all, counted-there, counted-past}
use Rattle.sto_block.proofs.block.count_between.Goals as goal
use Rattle.sto_block.proofs.block.count_between.Goals.{then-is_place_between, else-is_place_between}

pub place_at-requires : goal.place_at-requires
place_at-requires c =
    let l : c.loop-place.place < length (places_of c.args.keys.now) = omega (arith, c.loop-place-test.true, c.count-place-end.ensures) in
    in_range c.args.keys.now c.loop-place.place l

pub loop-place-preserved : goal.loop-place-preserved
loop-place-preserved c =
    let ss = places_of c.args.keys.now in
    let test = is_between (to_z w64 (of_z w64 c.args.low)) (to_z w64 (of_z w64 c.args.high)) in
    let i = c.loop-place.place in
    elim c.if-is_place_between.branch [
      | then-is_place_between w ↦
          let h : count_by test (drop i ss) ≡ 1 + count_by test (drop (i + 1) ss) = counted-there test i ss c.place_at.result c.place_at.ensures (sym c.is_place_between.ensures ∙ w.if-is_place_between.true) in
          record { few = omega (arith, w.found-is, c.loop-place.invariant.few); rest = omega (arith, h, w.found-is, c.loop-place.invariant.rest) }
      | else-is_place_between w ↦
          let h : count_by test (drop i ss) ≡ count_by test (drop (i + 1) ss) = counted-past test i ss c.place_at.result c.place_at.ensures (sym c.is_place_between.ensures ∙ w.if-is_place_between.false) in
          record { few = omega (arith, w.found-is, c.loop-place.invariant.few); rest = omega (arith, h, w.found-is, c.loop-place.invariant.rest) }
    ]

pub returns : goal.returns
returns c =
    let all : drop c.loop-place.place (places_of c.args.keys.now) ≡ [] = drop-all (places_of c.args.keys.now) c.loop-place.place (omega (arith, c.loop-place-test.false, c.count-place-end.ensures)) in
    let h = rw (to_z-of_z c.ranges.low, to_z-of_z c.ranges.high, all) at c.loop-place.invariant.rest in
    omega (arith, h)
