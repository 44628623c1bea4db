-- What the entry of an attempt rests on: the parts that were seen, as they were read, and the parts whose predicates the commit has tested, as it loaded them.
use Rattle.std.specs.Prelude.{◌≡◌, ◌⊎◌, ℕ, ℤ, Some, List}
use Rattle.sto_core.specs.declared.view.View.{View}
use Rattle.sto_core.specs.Views.{loaded_part}
use Rattle.sto_part.specs.declared.pred.Pred.{Pred}
use Rattle.sto_item.specs.declared.item.Item.{Item}
use Rattle.sto_item.specs.declared.item.Item.TheVariants.{Seen, Holds}
use Rattle.sto_core.specs.declared.view.Looked.{Looked}
use Rattle.sto_core.specs.Lists.{Among}
use Rattle.sto_type.specs.Known.{Known}
use Rattle.sto_attempt_log.specs.ReadSet.{IsTrueIn}

-- the part was looked at with these words
pub record IsLooked (looked : List Looked) (p : ℕ) (words : List ℤ) : Type 0 where
  pub one : Looked
  pub among : Among one looked
  pub of_part : one.part ≡ p
  pub with_words : one.words ≡ words

-- a part that is seen was looked at with the words that were read
pub record LooksSeen (base : Known) (looked : List Looked) (p : ℕ) : Type 0 where
  pub words : List ℤ
  pub read : base p ≡ Some words
  pub looked_at : IsLooked looked p words

-- a predicate is true of the words with which its part was looked at
pub record LooksTrue (looked : List Looked) (q : Pred) : Type 0 where
  pub words : List ℤ
  pub looked_at : IsLooked looked q.part words
  pub holds : IsTrueIn words q

-- the entry looks at what the item observes
abbrev pub LooksAt : Known → List Looked → Item → Type 0
LooksAt base looked (Seen p) = LooksSeen base looked p
LooksAt base looked (Holds q) = LooksTrue looked q

-- what the item observes is seen, or was loaded by the commit, with words of which the predicate is true
abbrev pub IsCovered : View → List ℕ → List ℕ → Item → Type 0
IsCovered v seen loaded (Seen p) = Among p seen
IsCovered v seen loaded (Holds q) = Among q.part seen ⊎ (Among q.part loaded × IsTrueIn (loaded_part v q.part).words q)
