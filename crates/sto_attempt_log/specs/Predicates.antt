-- The predicates among items.
use Rattle.std.specs.Prelude.{◌≡◌, Bool, List, [], ◌∷◌}
use Rattle.std.specs.List.{list_all}
use Rattle.sto_part.specs.declared.pred.Pred.{Pred}
use Rattle.sto_item.specs.declared.item.Item.{Item}
use Rattle.sto_item.specs.declared.item.Item.TheVariants.{Seen, Holds}

-- the predicates, in the order of the items
abbrev pub preds_in : List Item → List Pred
preds_in [] = []
preds_in (Seen p ∷ items) = preds_in items
preds_in (Holds q ∷ items) = q ∷ preds_in items

-- a test is true of all of these exactly where it is of all predicates among the items
abbrev pub ArePredsOf : List Item → List Pred → Type 0
ArePredsOf items preds = (f : Pred → Bool) → list_all f preds ≡ list_all f (preds_in items)
