-- An extension: what was observed is said of the parts that were read anew.
use Rattle.std.specs.Prelude.{◌≡◌, ◌<◌, ℕ, ℤ, Some, List, true, false, Bool}
use Rattle.sto_part.specs.declared.pred.Pred.{Pred}
use Rattle.sto_item.specs.declared.item.Item.{Item}
use Rattle.sto_item.specs.declared.item.Item.TheVariants.{Seen, Holds}
use Rattle.sto_item.specs.Observed.{Watched}
use Rattle.sto_type.specs.Known.{Known}
use Rattle.sto_attempt_log.specs.ReadSet.{IsTrueIn, AllTrueIn}

-- the part is known as it was
pub record SameSeen (long : ℕ) (old new : Known) (p : ℕ) : Type 0 where
  pub range : p < long
  pub words : List ℤ
  pub before : old p ≡ Some words
  pub now : new p ≡ Some words

-- the predicate is true of the part as it is known now
pub record StillHolds (long : ℕ) (new : Known) (q : Pred) : Type 0 where
  pub range : q.part < long
  pub words : List ℤ
  pub now : new q.part ≡ Some words
  pub holds : IsTrueIn words q

abbrev pub StaysSo : ℕ → Known → Known → Item → Type 0
StaysSo long old new (Seen p) = SameSeen long old new p
StaysSo long old new (Holds q) = StillHolds long new q

-- the same by what is watched of a part
pub record PredsHold (new : Known) (p : ℕ) (ps : List Pred) : Type 0 where
  pub words : List ℤ
  pub now : new p ≡ Some words
  pub hold : AllTrueIn words ps

abbrev pub IsWatched : ℕ → Known → Known → Bool → ℕ → List Pred → Type 0
IsWatched long old new true p ps = SameSeen long old new p
IsWatched long old new false p ps = PredsHold new p ps

abbrev pub StaysWatched : ℕ → Known → Known → Watched → Type 0
StaysWatched long old new w = IsWatched long old new w.seen w.part w.preds
