use Rattle.std.proofs.Common.{sym, rules, arith, FitsSigned}
use Rattle.std.specs.Int.{w64}
use Rattle.std.proofs.lemmas.Int.{to_z-of_z}
use Rattle.std.proofs.lemmas.Result.{IfOk-weaker}
use Rattle.sto_type.specs.Known.{known}
use Rattle.sto_array.specs.ArrayedRows.{place_some}
use Rattle.sto_array.proofs.Saying.{said_outside, get_need, add_need, said_get, said_set, said_add}
use Rattle.sto_array.proofs.array.answer.Goals as goal

pub returns-in-None : goal.returns-in-None
returns-in-None c =
    let f = c.requires.takes.fits in
    let e = simp to_z-of_z at c.in-None.ensures in
    IfOk-weaker c.outside.result _ _ (λ a said. said_outside c.args.array.now.len c.args.array.now.first c.args.call.now (known c.args.cache.now) c.args.first a c.requires.takes (sym e) said) c.outside.ensures

pub overflow_add-part : goal.overflow_add-part
overflow_add-part c =
    let f = c.requires.takes.fits in
    let e = simp to_z-of_z at c.in-Some.ensures in
    omega (arith, (place_some c.args.array.now.len c.args.call.now.a c.in-Some.place (sym e)).1, c.requires.few)

pub returns-in-None-first_word : goal.returns-in-None-first_word
returns-in-None-first_word c =
    let f = c.requires.takes.fits in
    let e = simp to_z-of_z at c.in-Some.ensures in
    get_need c.args.array.now.len c.args.array.now.first c.args.call.now (known c.args.cache.now) c.args.first c.in-Some.place c.requires.takes.object (sym e) c.in-Get.is c.in-None-first_word.ensures

pub returns-in-Some-first_word : goal.returns-in-Some-first_word
returns-in-Some-first_word c =
    let f = c.requires.takes.fits in
    let g = c.requires.takes.fits_too in
    let r : FitsSigned w64 c.in-Some-first_word.value = search rules in
    let e = simp to_z-of_z at c.in-Some.ensures in
    let said = simp to_z-of_z at c.get_answer.ensures in
    IfOk-weaker c.get_answer.result _ _
    (λ a h. said_get c.args.array.now.len c.args.array.now.first c.args.call.now (known c.args.cache.now) c.args.first c.in-Some.place c.requires.takes.object (sym e) c.in-Some-first_word.value a c.in-Get.is c.in-Some-first_word.ensures h)
    said

pub returns-in-Set : goal.returns-in-Set
returns-in-Set c =
    let f = c.requires.takes.fits in
    let g = c.requires.takes.fits_too in
    let e = simp to_z-of_z at c.in-Some.ensures in
    let said = simp to_z-of_z at c.set_answer.ensures in
    IfOk-weaker c.set_answer.result _ _
    (λ a h. said_set c.args.array.now.len c.args.array.now.first c.args.call.now (known c.args.cache.now) c.args.first c.in-Some.place c.requires.takes.object (sym e) a c.in-Set.is h)
    said

pub returns-in-None-first_word-2 : goal.returns-in-None-first_word-2
returns-in-None-first_word-2 c =
    let f = c.requires.takes.fits in
    let e = simp to_z-of_z at c.in-Some.ensures in
    add_need c.args.array.now.len c.args.array.now.first c.args.call.now (known c.args.cache.now) c.args.first c.in-Some.place c.requires.takes.object (sym e) c.in-Add.is c.in-None-first_word-2.ensures

pub returns-in-Some-first_word-2 : goal.returns-in-Some-first_word-2
returns-in-Some-first_word-2 c =
    let f = c.requires.takes.fits in
    let g = c.requires.takes.fits_too in
    let r : FitsSigned w64 c.in-Some-first_word-2.value = search rules in
    let e = simp to_z-of_z at c.in-Some.ensures in
    let said = simp to_z-of_z at c.add_answer.ensures in
    IfOk-weaker c.add_answer.result _ _
    (λ a h. said_add c.args.array.now.len c.args.array.now.first c.args.call.now (known c.args.cache.now) c.args.first c.in-Some.place c.requires.takes.object (sym e) c.in-Some-first_word-2.value a c.in-Add.is c.in-Some-first_word-2.ensures h)
    said
