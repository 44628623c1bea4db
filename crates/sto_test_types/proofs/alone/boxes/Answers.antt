use Rattle.std.proofs.Common.{◌<◌, ◌^◌, ◌++◌, ◌∷◌, [], arith, refl, length, length-append}
use Rattle.sto_test_alone.proofs.Ones.{ones_few}
use Rattle.sto_test_types.proofs.alone.boxes.Goals as goal

pub push-requires-clause-few : goal.push-requires-clause-few
push-requires-clause-few c =
    let few : length (c.loop-value.many ++ c.new.result ∷ []) < 2 ^ 32 =
    omega (arith, length-append c.loop-value.many (c.new.result ∷ []), c.loop-value.invariant, c.loop-value-test.true, c.requires) in
    ones_few _ (λ x. refl) (λ x. refl) (c.loop-value.many ++ c.new.result ∷ []) few
