-- An order of a file has no more transactions than the file.
use Rattle.std.proofs.Common.{◌≤◌, List, [], ◌∷◌, length, arith}
use Rattle.std.specs.List.{All}
use Rattle.std.proofs.lemmas.List.Elements.{All-nil, All-cons}
use Rattle.sto_lang.specs.Scripts.{File}
use Rattle.sto_lang.specs.Sound.{IsSound}
use Rattle.sto_checker.specs.Orders.{TransactionPlace, IsOrder}
use Rattle.sto_checker.specs.Shown.{IsInside, AreInside}
use Rattle.sto_checker.proofs.Complete.{order_count}
use Rattle.sto_checker.proofs.Lawful.{Each, in_order}

all_of : {X : Type 0} (P : X → Type 0) (xs : List X) → Each P xs → All P xs
all_of P [] h = All-nil P
all_of P (x ∷ xs) h = All-cons P x xs h.0 (all_of P xs h.1)

inside : (file : File) (order : List TransactionPlace) → IsOrder file order → AreInside file order
inside file order is = all_of (IsInside file.threads) order (in_order file order is)

pub order_few : (file : File) (order : List TransactionPlace) → IsSound file → IsOrder file order → length order ≤ 10000
order_few file order sound is = let count = order_count file order is (inside file order is) in let few = sound.few_transactions in omega (arith, count, few)
