-- Items that `==` finds equal are the same.
use Rattle.std.proofs.Common.{rules, ◌≡◌, true, ap}
use Rattle.std.specs.Cmp.{IsEquivalence}
use Rattle.sto_part.specs.declared.pred.Test.{Test}
use Rattle.sto_part.specs.declared.pred.Pred.{Pred}
use Rattle.sto_part.specs.contracts.pred.TestPartialEq.TheImpl.{eq-value as test-value}
use Rattle.sto_part.specs.contracts.pred.PredPartialEq.TheImpl.{eq-value as pred-value}
use Rattle.sto_item.specs.declared.item.Item.{Item}
use Rattle.sto_item.specs.declared.item.Item.TheVariants.{Seen, Holds}
use Rattle.sto_item.specs.contracts.item.ItemPartialEq.TheImpl.{eq-value}
use Rattle.sto_item.specs.contracts.item.ItemEq.TheImpl.Laws.{laws-law}

test_exact : (s t : Test) → test-value.it s t ≡ true → s ≡ t
test_exact s t e = search (rules, e)

pred_exact : (p q : Pred) → pred-value.it p q ≡ true → p ≡ q
pred_exact p q e =
    let part : p.part ≡ q.part = search (rules, e) in
    let word : p.word ≡ q.word = search (rules, e) in
    let shift : p.shift ≡ q.shift = search (rules, e) in
    let test : p.test ≡ q.test = test_exact p.test q.test (search (rules, e)) in
    let bound : p.bound ≡ q.bound = search (rules, e) in
    λ i. record { part = part i; word = word i; shift = shift i; test = test i; bound = bound i }

pub item_laws : IsEquivalence (eq-value.it)
item_laws = laws-law

pub item_exact : (x y : Item) → eq-value.it x y ≡ true → x ≡ y
item_exact (Seen p) (Seen q) e = search (rules, e)
item_exact (Seen p) (Holds q) e = search (rules, e)
item_exact (Holds p) (Seen q) e = search (rules, e)
item_exact (Holds p) (Holds q) e = ap Holds (pred_exact p q e)
