-- The answer of a get of the tests' type, where both parts are known.
use Rattle.std.proofs.Common.{◌≡◌, ℤ, pos, true, Some, List, [], ◌∷◌, length, refl, ap, sym, ◌∙◌, subst, arith, slice_index_or}
use Rattle.std.proofs.lemmas.List.{length-map}
use Rattle.sto_part.specs.Parts.{part_of}
use Rattle.sto_item.specs.declared.item.Item.TheVariants.{Seen}
use Rattle.sto_model.specs.declared.call.Call.{Call}
use Rattle.sto_model.specs.declared.operation.Operation.TheVariants.{Get}
use Rattle.sto_model.specs.Calls.{call_of}
use Rattle.sto_model.specs.SequentialObjects.{reply_to}
use Rattle.sto_model.specs.PlainReplies.{Pairs}
use Rattle.sto_type.specs.Known.{Parts, Known, IsPartOf}
use Rattle.sto_type.specs.Plans.{Plan, Say, IsPlan}
use Rattle.sto_test_alone.specs.Split.{split_meaning, is_get, split_rows, IsSplit}

pub split_says :
    (x y : ℤ) (call : Call) (k : Known) (ws vs : List ℤ) (p : Plan) → call.object ≡ 0 → call.c ≡ pos 0 → call.operation ≡ Get → k 0 ≡ Some ws → k 1 ≡ Some vs
    → p ≡ Say (Pairs ((slice_index_or ws 0 (pos 0), slice_index_or vs 0 (pos 0)) ∷ [])) (Seen 0 ∷ Seen 1 ∷ []) [] → IsPlan (split_meaning x y) call k p
split_says x y call k ws vs p o third get first second made =
    let asks : is_get call.operation ≡ true = ap is_get get in
    let same : call ≡ call_of 0 Get call.a call.b = λ i. record { object = o i; operation = get i; a = call.a; b = call.b; c = third i } in
    let told : (d : Parts) → IsSplit d → IsPartOf k d → Pairs ((slice_index_or ws 0 (pos 0), slice_index_or vs 0 (pos 0)) ∷ []) ≡ reply_to (split_meaning x y).machines call (split_rows d ∷ []) =
    λ d v part.
    let long : length d ≡ 2 = sym (length-map d length) ∙ ap length v.widths in
    let front : part_of d 0 ≡ ws = part.same 0 ws (omega (arith, long)) first in
    let back : part_of d 1 ≡ vs = part.same 1 vs (omega (arith, long)) second in
    (λ i. Pairs ((slice_index_or (sym front i) 0 (pos 0), slice_index_or (sym back i) 0 (pos 0)) ∷ []))
    ∙ ap (λ c. reply_to (split_meaning x y).machines c (split_rows d ∷ [])) (sym same) in
    subst (λ (q : Plan). IsPlan (split_meaning x y) call k q) (sym made)
    (rw (asks, first, second) refl, rw asks refl, λ d v part. (told d v part, rw asks refl))
