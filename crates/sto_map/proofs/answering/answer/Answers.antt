use Rattle.std.proofs.Common.{◌≡◌, ap, sym, ◌∙◌, to_z, of_z}
use Rattle.std.specs.Int.{w64}
use Rattle.std.proofs.lemmas.Int.{to_z-of_z}
use Rattle.std.proofs.lemmas.Result.{IfOk-weaker}
use Rattle.sto_model.specs.declared.operation.Operation.TheVariants.{Get, Has, Set, Add, Put, Remove}
use Rattle.sto_type.specs.Known.{known}
use Rattle.sto_type.specs.Telling.{plan_of}
use Rattle.sto_map.specs.Mapped.{map_telling}
use Rattle.sto_map.proofs.answering.answer.Goals as goal

pub returns-in-Get : goal.returns-in-Get
returns-in-Get c =
    let e = c.in-Get.is in
    let k = known c.args.cache.now in
    let a : to_z w64 (of_z w64 c.args.call.now.a) ≡ c.args.call.now.a = to_z-of_z w64 c.args.call.now.a c.requires.fits in
    IfOk-weaker c.plan_get.result _ _
    (λ answer h z p s o t. h z p s (ap z.home a ∙ o) ∙ ap (λ y. plan_of (map_telling z Get y c.args.call.now.b) k) a ∙ sym (ap (λ x. plan_of (map_telling z x c.args.call.now.a c.args.call.now.b) k) e))
    c.plan_get.ensures

pub returns-in-Has : goal.returns-in-Has
returns-in-Has c =
    let e = c.in-Has.is in
    let k = known c.args.cache.now in
    let a : to_z w64 (of_z w64 c.args.call.now.a) ≡ c.args.call.now.a = to_z-of_z w64 c.args.call.now.a c.requires.fits in
    IfOk-weaker c.plan_has.result _ _
    (λ answer h z p s o t. h z p s (ap z.home a ∙ o) ∙ ap (λ y. plan_of (map_telling z Has y c.args.call.now.b) k) a ∙ sym (ap (λ x. plan_of (map_telling z x c.args.call.now.a c.args.call.now.b) k) e))
    c.plan_has.ensures

pub returns-in-Set : goal.returns-in-Set
returns-in-Set c =
    let e = c.in-Set.is in
    let k = known c.args.cache.now in
    let a : to_z w64 (of_z w64 c.args.call.now.a) ≡ c.args.call.now.a = to_z-of_z w64 c.args.call.now.a c.requires.fits in
    let b : to_z w64 (of_z w64 c.args.call.now.b) ≡ c.args.call.now.b = to_z-of_z w64 c.args.call.now.b c.requires.fits_too in
    IfOk-weaker c.plan_change.result _ _
    (λ answer h z p s o t. h z p s (ap z.home a ∙ o) ∙ (λ i. plan_of (map_telling z Set (a i) (b i)) k) ∙ sym (ap (λ x. plan_of (map_telling z x c.args.call.now.a c.args.call.now.b) k) e))
    c.plan_change.ensures

pub returns-in-Add : goal.returns-in-Add
returns-in-Add c =
    let e = c.in-Add.is in
    let k = known c.args.cache.now in
    let a : to_z w64 (of_z w64 c.args.call.now.a) ≡ c.args.call.now.a = to_z-of_z w64 c.args.call.now.a c.requires.fits in
    let b : to_z w64 (of_z w64 c.args.call.now.b) ≡ c.args.call.now.b = to_z-of_z w64 c.args.call.now.b c.requires.fits_too in
    IfOk-weaker c.plan_change-in-Add.result _ _
    (λ answer h z p s o t. h z p s (ap z.home a ∙ o) ∙ (λ i. plan_of (map_telling z Add (a i) (b i)) k) ∙ sym (ap (λ x. plan_of (map_telling z x c.args.call.now.a c.args.call.now.b) k) e))
    c.plan_change-in-Add.ensures

pub returns-in-Remove : goal.returns-in-Remove
returns-in-Remove c =
    let e = c.in-Remove.is in
    let k = known c.args.cache.now in
    let a : to_z w64 (of_z w64 c.args.call.now.a) ≡ c.args.call.now.a = to_z-of_z w64 c.args.call.now.a c.requires.fits in
    IfOk-weaker c.plan_remove.result _ _
    (λ answer h z p s o t. h z p s (ap z.home a ∙ o) (ap z.stripe a ∙ t) ∙ ap (λ y. plan_of (map_telling z Remove y c.args.call.now.b) k) a ∙ sym (ap (λ x. plan_of (map_telling z x c.args.call.now.a c.args.call.now.b) k) e))
    c.plan_remove.ensures

pub returns-in-Put : goal.returns-in-Put
returns-in-Put c =
    let e = c.in-Put.is in
    let k = known c.args.cache.now in
    let a : to_z w64 (of_z w64 c.args.call.now.a) ≡ c.args.call.now.a = to_z-of_z w64 c.args.call.now.a c.requires.fits in
    let b : to_z w64 (of_z w64 c.args.call.now.b) ≡ c.args.call.now.b = to_z-of_z w64 c.args.call.now.b c.requires.fits_too in
    IfOk-weaker c.plan_put.result _ _
    (λ answer h z p s o t. h z p s (ap z.home a ∙ o) (ap z.stripe a ∙ t) ∙ (λ i. plan_of (map_telling z Put (a i) (b i)) k) ∙ sym (ap (λ x. plan_of (map_telling z x c.args.call.now.a c.args.call.now.b) k) e))
    c.plan_put.ensures
