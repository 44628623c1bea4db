-- What the reports are whose lines are all right.
use Rattle.std.specs.Prelude.{◌≡◌, ℕ, ◌≤◌, ◌<◌, List, ◌∷◌, ◌++◌, Some}
use Rattle.std.specs.List.{All}
use Rattle.sto_model.specs.Sizes.{part_count}
use Rattle.sto_model.specs.declared.call.Call.{Call}
use Rattle.sto_model.specs.declared.shape.Shape.{Shape}
use Rattle.sto_lang.specs.Objects.{Declaration}
use Rattle.sto_lang.specs.Scripts.{File}
use Rattle.sto_report_spec.specs.Orders.{TransactionPlace, IsOrder}
use Rattle.sto_report_spec.specs.Aborts.{Abort}
use Rattle.sto_report_spec.specs.LawfulAborts.{IsSorted, HandsBack, count_at, declared_as, part_number}
use Rattle.sto_report_spec.specs.Report.{report_of}
use Rattle.sto_report_spec.specs.Updated.{Contents, Updating, updated}
use Rattle.sto_checker.specs.Right.{HasWritten, IsRightAlone}

-- aborted attempts are lawful, but that the object that a cause names stands for the part: each of them is, no transaction
-- has more than the tries, one that has as many is the last of its thread to have any, and they stand in their order
pub record AreRightAborts (file : File) (tries : ℕ) (order : List TransactionPlace) (aborts : List Abort) : Type 0 where
  pub each : All (IsRightAlone file order) aborts
  pub few : (place : TransactionPlace) → count_at place aborts ≤ tries
  pub handed : HandsBack tries aborts
  pub sorted : IsSorted aborts

-- the text is the report of an order of the file and of such aborted attempts
pub record IsRightReport (file : File) (tries : ℕ) (text : List ℕ) : Type 0 where
  pub order : List TransactionPlace
  pub aborts : List Abort
  pub is_order : IsOrder file order
  pub are_right : AreRightAborts file tries order aborts
  pub report : text ≡ report_of file order aborts

-- what types say of updates alone
pub record UpdatesAlone : Type 0 where
  pub opening : List Shape → Contents
  pub parts : List Shape → Call → Contents → List ℕ
  pub after : List Shape → Call → Contents → Contents

-- the types that say so, by which every call may touch every part
abbrev pub touching_all : UpdatesAlone → Updating
touching_all u = record { opening = u.opening; parts = u.parts; after = u.after; touches = λ shapes part call. Unit {0} }

-- what the types say of updates: a writer run updates only parts of objects that one of its calls wrote
abbrev pub UpdatesWritten : Updating → File → Type 0
UpdatesWritten u file =
    (order : List TransactionPlace) → IsOrder file order → (name : List ℕ) (d : Declaration) → declared_as name file.declarations ≡ Some d → (part : ℕ) → part < part_count d.shape
    → (by : ℕ) → 1 ≤ by → (before after : List ℕ) → updated u file order by ≡ before ++ part_number file.declarations d part ∷ after → HasWritten file order by d.number
