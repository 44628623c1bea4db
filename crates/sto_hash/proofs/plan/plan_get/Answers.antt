use Rattle.std.proofs.Common.{◌<◌, arith}
use Rattle.std.specs.Int.{w64}
use Rattle.std.specs.Int.RustNames.{FitsSigned}
use Rattle.std.proofs.Common.{◌+◌, ◌^◌, rules}
use Rattle.std.proofs.lemmas.Int.{to_z-of_z}
use Rattle.std.proofs.lemmas.Result.{IfOk-weaker}
use Rattle.sto_type.specs.Known.{known}
use Rattle.sto_block.specs.Blocks.{is_here}
use Rattle.sto_hash.specs.HashedLaw.{first_within}
use Rattle.sto_hash.proofs.Plans.{wide, room_for, some_below, absent_on, present_on}
use Rattle.sto_hash.proofs.plan.plan_get.Goals as goal

pub find-found-requires : goal.find-found-requires
find-found-requires c =
    let f = c.requires.takes.fits in
    let p = simp to_z-of_z at c.key_part_of-part.ensures in
    let long = wide c.args.buckets c.args.places c.requires.some c.args.call.now (known c.args.cache.now) c.key_part_of-part.result p c.in-Some.keys.now c.in-Some.ensures c.requires.part.0 c.requires.part.1 c.requires.part.2 in
    omega (arith, long, c.requires.words)

pub overflow_add-home : goal.overflow_add-home
overflow_add-home c =
    let f = c.requires.takes.fits in
    let p = simp to_z-of_z at c.key_part_of-part.ensures in
    let long = wide c.args.buckets c.args.places c.requires.some c.args.call.now (known c.args.cache.now) c.key_part_of-part.result p c.in-Some.keys.now c.in-Some.ensures c.requires.part.0 c.requires.part.1 c.requires.part.2 in
    let at = simp to_z-of_z at c.in-Some-found.ensures in
    let room : c.key_part_of-part.result + 1 + c.args.places < 2 ^ 32 = room_for c.args.buckets c.args.places c.requires.some c.args.call.now (known c.args.cache.now) c.key_part_of-part.result p c.in-Some.keys.now c.in-Some.ensures _ c.requires.few in
    let l : c.in-Some-found.place < c.args.places = some_below _ c.in-Some-found.place c.args.places at (first_within c.args.buckets c.args.places c.requires.some (is_here c.args.call.now.a) c.in-Some.keys.now long) in
    record { fits = omega (arith, room) }

pub overflow_add-home-in-Some-found : goal.overflow_add-home-in-Some-found
overflow_add-home-in-Some-found c =
    let f = c.requires.takes.fits in
    let p = simp to_z-of_z at c.key_part_of-part.ensures in
    let long = wide c.args.buckets c.args.places c.requires.some c.args.call.now (known c.args.cache.now) c.key_part_of-part.result p c.in-Some.keys.now c.in-Some.ensures c.requires.part.0 c.requires.part.1 c.requires.part.2 in
    let at = simp to_z-of_z at c.in-Some-found.ensures in
    let room : c.key_part_of-part.result + 1 + c.args.places < 2 ^ 32 = room_for c.args.buckets c.args.places c.requires.some c.args.call.now (known c.args.cache.now) c.key_part_of-part.result p c.in-Some.keys.now c.in-Some.ensures _ c.requires.few in
    let l : c.in-Some-found.place < c.args.places = some_below _ c.in-Some-found.place c.args.places at (first_within c.args.buckets c.args.places c.requires.some (is_here c.args.call.now.a) c.in-Some.keys.now long) in
    record { fits = omega (arith, room, l) }

pub present_answer-requires-clause-place : goal.present_answer-requires-clause-place
present_answer-requires-clause-place c =
    let f = c.requires.takes.fits in
    let p = simp to_z-of_z at c.key_part_of-part.ensures in
    let long = wide c.args.buckets c.args.places c.requires.some c.args.call.now (known c.args.cache.now) c.key_part_of-part.result p c.in-Some.keys.now c.in-Some.ensures c.requires.part.0 c.requires.part.1 c.requires.part.2 in
    let at = simp to_z-of_z at c.in-Some-found.ensures in
    let room : c.key_part_of-part.result + 1 + c.args.places < 2 ^ 32 = room_for c.args.buckets c.args.places c.requires.some c.args.call.now (known c.args.cache.now) c.key_part_of-part.result p c.in-Some.keys.now c.in-Some.ensures _ c.requires.few in
    let l : c.in-Some-found.place < c.args.places = some_below _ c.in-Some-found.place c.args.places at (first_within c.args.buckets c.args.places c.requires.some (is_here c.args.call.now.a) c.in-Some.keys.now long) in
    omega (arith, l, c.requires.words)

pub present_answer-requires-clause-part : goal.present_answer-requires-clause-part
present_answer-requires-clause-part c =
    let f = c.requires.takes.fits in
    let p = simp to_z-of_z at c.key_part_of-part.ensures in
    let long = wide c.args.buckets c.args.places c.requires.some c.args.call.now (known c.args.cache.now) c.key_part_of-part.result p c.in-Some.keys.now c.in-Some.ensures c.requires.part.0 c.requires.part.1 c.requires.part.2 in
    let at = simp to_z-of_z at c.in-Some-found.ensures in
    let room : c.key_part_of-part.result + 1 + c.args.places < 2 ^ 32 = room_for c.args.buckets c.args.places c.requires.some c.args.call.now (known c.args.cache.now) c.key_part_of-part.result p c.in-Some.keys.now c.in-Some.ensures _ c.requires.few in
    let l : c.in-Some-found.place < c.args.places = some_below _ c.in-Some-found.place c.args.places at (first_within c.args.buckets c.args.places c.requires.some (is_here c.args.call.now.a) c.in-Some.keys.now long) in
    omega (arith, room, l)

pub returns-in-None-found : goal.returns-in-None-found
returns-in-None-found c =
    let f = c.requires.takes.fits in
    let p = simp to_z-of_z at c.key_part_of-part.ensures in
    let at = simp to_z-of_z at c.in-None-found.ensures in
    IfOk-weaker c.absent_answer.result _ _
    (λ a h. absent_on c.args.buckets c.args.places c.requires.some c.args.call.now (known c.args.cache.now) c.key_part_of-part.result p c.in-Some.keys.now c.in-Some.ensures c.requires.takes.object c.requires.operation a at h)
    c.absent_answer.ensures

pub returns-in-Some-first_word : goal.returns-in-Some-first_word
returns-in-Some-first_word c =
    let f = c.requires.takes.fits in
    let r : FitsSigned w64 c.in-Some-first_word.value = search rules in
    let p = simp to_z-of_z at c.key_part_of-part.ensures in
    let at = simp to_z-of_z at c.in-Some-found.ensures in
    let said = simp to_z-of_z at c.present_answer.ensures in
    IfOk-weaker c.present_answer.result _ _
    (λ a h. present_on c.args.buckets c.args.places c.requires.some c.args.call.now (known c.args.cache.now) c.key_part_of-part.result p c.in-Some.keys.now c.in-Some.ensures c.requires.takes.object c.requires.operation c.in-Some-found.place c.in-Some-first_word.value a at c.in-Some-first_word.ensures h)
    said
