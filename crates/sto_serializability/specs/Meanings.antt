-- What the types of objects say of their shapes, as the replay of contents takes it.
use Rattle.std.specs.Prelude.{◌≡◌, ◌<◌, ◌≤◌, ℕ, ◌+◌, List, map, take, sum_by, slice_get, slice_index_or, Some, true, length}
use Rattle.sto_item.specs.Pending.{Entry, applied_updates}
use Rattle.sto_model.specs.declared.call.Call.{Call}
use Rattle.sto_model.specs.declared.shape.Shape.{Shape}
use Rattle.sto_model.specs.Objects.{machines_of}
use Rattle.sto_syntax.specs.Words.{is_name}
use Rattle.sto_lang.specs.Objects.{Declaration, HaveNames, shapes_of, with_number}
use Rattle.sto_model.specs.Sizes.{part_count}
use Rattle.sto_lang.specs.Scripts.{Script, File}
use Rattle.sto_lang.specs.Sizes.{calls_of}
use Rattle.sto_report_spec.specs.Orders.{TransactionPlace, transaction_at}
use Rattle.sto_report_spec.specs.Named.{AreNames}
use Rattle.sto_report_spec.specs.LawfulAborts.{declared_as}
use Rattle.sto_type.specs.Meaning.{Meaning, IsLawful}
use Rattle.sto_report_spec.specs.Updated.{Updating}
use Rattle.sto_type.specs.Touching.{Touches}

-- the contents at the opening, what a call updates, and what it may touch, as the type of the shapes says it
abbrev pub updating_by : (List Shape → Meaning) → Updating
updating_by means = record {
  opening = λ shapes. (means shapes).opened;
  parts = λ shapes call c. map (λ (e : Entry). e.0) ((means shapes).updates call c);
  after = λ shapes call c. applied_updates ((means shapes).updates call c) c;
  touches = λ shapes part call. Touches (means shapes) part call;
}

-- a part of the words by its home: it is one of its object, and parts are numbered in the order of the objects
pub record IsHomeAt (shapes : List Shape) (p : ℕ) (home : ℕ × ℕ) : Type 0 where
  pub shape : Shape
  pub object : slice_get shapes home.0 ≡ Some shape
  pub inside : home.1 < part_count shape
  pub number : p ≡ sum_by part_count (take home.0 shapes) + home.1

-- the type is that of objects of these shapes
pub record IsTypeOf (shapes : List Shape) (m : Meaning) : Type 0 where
  pub lawful : IsLawful m
  pub machines : m.machines ≡ machines_of shapes
  pub homes : (p : ℕ) → p < length m.homes → IsHomeAt shapes p (slice_index_or m.homes p (0, 0))

-- the object with a number is this declared one, and by its name it is found again
pub record IsNamedObject (declarations : List Declaration) (object : ℕ) (d : Declaration) : Type 0 where
  pub number : d.number ≡ object
  pub shaped : slice_get (shapes_of declarations) object ≡ Some d.shape
  pub by_number : with_number object declarations ≡ Some d
  pub by_name : declared_as d.name declarations ≡ Some d
  pub word : is_name d.name ≡ true

-- each object is declared, by a name that no other has
abbrev pub AreNamed : List Declaration → Type 0
AreNamed declarations =
    (object : ℕ) (shape : Shape) → slice_get (shapes_of declarations) object ≡ Some shape → (d : Declaration) × IsNamedObject declarations object d

-- what the headline needs of a file: each object is found by its number and its name, each transaction asks at most as many calls as it
-- weighs, and each thread has a name of its own. Every file that can be read has it
pub record IsUsable (file : File) : Type 0 where
  pub named : AreNamed file.declarations
  pub words : HaveNames file.declarations
  pub threads : AreNames file.names
  pub each_thread : length file.names ≡ length file.threads
  pub weighed : (place : TransactionPlace) (script : Script) → transaction_at file place ≡ Some script → calls_of script.body ≤ script.weight
