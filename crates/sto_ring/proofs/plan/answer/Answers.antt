use Rattle.std.proofs.Common.{refl}
use Rattle.std.proofs.lemmas.Int.{to_z-of_z}
use Rattle.std.proofs.lemmas.Result.{IfOk-weaker}
use Rattle.sto_model.specs.declared.operation.Operation.TheVariants.{Push, Pop, Get, Has}
use Rattle.sto_type.specs.Known.{known}
use Rattle.sto_container.specs.Places.{is_live}
use Rattle.sto_ring.specs.Ringed.{push_told, pop_told, front_told, some_told}
use Rattle.sto_ring.proofs.AtEnds.{head_known, tail_known, asks, says}
use Rattle.sto_ring.proofs.plan.answer.Goals as goal

pub at_end-requires-clause-end : goal.at_end-requires-clause-end
at_end-requires-clause-end c ws e = tail_known c.args.places (known c.args.cache.now) c.requires.part.0 c.requires.part.1 c.requires.part.2 ws e

pub returns-in-Err : goal.returns-in-Err
returns-in-Err c =
    let e = c.in-Push.is in
    asks c.args.places (known c.args.cache.now) c.args.call.now.operation c.args.call.now.a Push e 1 (λ t ws. push_told c.args.places c.args.call.now.a t (is_live ws)) refl c.in-Err.part c.in-Err.ensures.asks

pub returns-in-Ok : goal.returns-in-Ok
returns-in-Ok c =
    let e = c.in-Push.is in
    let f = c.requires.fits in
    let said = simp to_z-of_z at c.push_answer.ensures in
    IfOk-weaker c.push_answer.result _ _ (λ a h. says c.args.places (known c.args.cache.now) c.args.call.now.operation c.args.call.now.a Push e 1 (λ t ws. push_told c.args.places c.args.call.now.a t (is_live ws)) refl a c.in-Ok.end.place c.in-Ok.end.words.now c.in-Ok.ensures.found h) said

pub at_end-requires-in-Pop-clause-end : goal.at_end-requires-in-Pop-clause-end
at_end-requires-in-Pop-clause-end c ws e = head_known c.args.places (known c.args.cache.now) c.requires.part.0 c.requires.part.1 c.requires.part.2 ws e

pub returns-in-Err-at_end : goal.returns-in-Err-at_end
returns-in-Err-at_end c =
    let e = c.in-Pop.is in
    asks c.args.places (known c.args.cache.now) c.args.call.now.operation c.args.call.now.a Pop e 0 (λ h ws. pop_told c.args.places h ws (is_live ws)) refl c.in-Err-at_end.part c.in-Err-at_end.ensures.asks

pub returns-in-Ok-at_end : goal.returns-in-Ok-at_end
returns-in-Ok-at_end c =
    let e = c.in-Pop.is in
    IfOk-weaker c.pop_answer.result _ _ (λ a h. says c.args.places (known c.args.cache.now) c.args.call.now.operation c.args.call.now.a Pop e 0 (λ h ws. pop_told c.args.places h ws (is_live ws)) refl a c.in-Ok-at_end.end.place c.in-Ok-at_end.end.words.now c.in-Ok-at_end.ensures.found h) c.pop_answer.ensures

pub at_end-requires-in-Get-clause-end : goal.at_end-requires-in-Get-clause-end
at_end-requires-in-Get-clause-end c ws e = head_known c.args.places (known c.args.cache.now) c.requires.part.0 c.requires.part.1 c.requires.part.2 ws e

pub returns-in-Err-at_end-2 : goal.returns-in-Err-at_end-2
returns-in-Err-at_end-2 c =
    let e = c.in-Get.is in
    asks c.args.places (known c.args.cache.now) c.args.call.now.operation c.args.call.now.a Get e 0 (λ h ws. front_told h ws (is_live ws)) refl c.in-Err-at_end-2.part c.in-Err-at_end-2.ensures.asks

pub returns-in-Ok-at_end-2 : goal.returns-in-Ok-at_end-2
returns-in-Ok-at_end-2 c =
    let e = c.in-Get.is in
    IfOk-weaker c.front_answer.result _ _ (λ a h. says c.args.places (known c.args.cache.now) c.args.call.now.operation c.args.call.now.a Get e 0 (λ h ws. front_told h ws (is_live ws)) refl a c.in-Ok-at_end-2.end.place c.in-Ok-at_end-2.end.words.now c.in-Ok-at_end-2.ensures.found h) c.front_answer.ensures

pub at_end-requires-in-Has-clause-end : goal.at_end-requires-in-Has-clause-end
at_end-requires-in-Has-clause-end c ws e = head_known c.args.places (known c.args.cache.now) c.requires.part.0 c.requires.part.1 c.requires.part.2 ws e

pub returns-in-Err-at_end-3 : goal.returns-in-Err-at_end-3
returns-in-Err-at_end-3 c =
    let e = c.in-Has.is in
    asks c.args.places (known c.args.cache.now) c.args.call.now.operation c.args.call.now.a Has e 0 (λ h ws. some_told h (is_live ws)) refl c.in-Err-at_end-3.part c.in-Err-at_end-3.ensures.asks

pub returns-in-Ok-at_end-3 : goal.returns-in-Ok-at_end-3
returns-in-Ok-at_end-3 c =
    let e = c.in-Has.is in
    IfOk-weaker c.some_answer.result _ _ (λ a h. says c.args.places (known c.args.cache.now) c.args.call.now.operation c.args.call.now.a Has e 0 (λ h ws. some_told h (is_live ws)) refl a c.in-Ok-at_end-3.end.place c.in-Ok-at_end-3.end.words.now c.in-Ok-at_end-3.ensures.found h) c.some_answer.ensures
