-- What a run needs of the transactions of a file, which every sound file has, and of its opening.
use Rattle.std.specs.Prelude.{◌≡◌, ◌≤◌, List, Some, true}
use Rattle.sto_model.specs.declared.shape.Shape.{Shape}
use Rattle.sto_lang.specs.Objects.{shapes_of}
use Rattle.sto_lang.specs.Scripts.{Script, File}
use Rattle.sto_lang.specs.Sizes.{calls_of}
use Rattle.sto_lang.specs.Taken.{are_taken}
use Rattle.sto_lang.specs.Sound.{IsSound, IsFromTo}
use Rattle.sto_core.specs.History.{Contents, Validity}
use Rattle.sto_report_spec.specs.Orders.{TransactionPlace, transaction_at}
use Rattle.sto_serializability.specs.Meanings.{IsTypeOf}
use Rattle.sto_run_threads.specs.Plans.{Plan, Opens}
use Rattle.sto_run_threads.specs.Taken.{IsTaken}

-- the transaction asks at most as many calls as it weighs, and only such as the shapes of their objects take
pub record CanBeRun (shapes : List Shape) (script : Script) : Type 0 where
  pub weighed : calls_of script.body ≤ script.weight
  pub light : script.weight ≤ 4096
  pub taken : are_taken shapes script.body ≡ true

-- each transaction of the file can be run
abbrev pub AreRunnable : File → Type 0
AreRunnable file = (place : TransactionPlace) (script : Script) → transaction_at file place ≡ Some script → CanBeRun (shapes_of file.declarations) script

-- all that a run asks whose words open with these contents: a sound file, a type of its objects that takes their calls, and 1 to 64 tries
pub record IsRunnable (plan : Plan) (valid : Validity) (opening : Contents) : Type 0 where
  pub sound : IsSound plan.file
  pub type_of : IsTypeOf (shapes_of plan.file.declarations) plan.meaning
  pub taken : IsTaken plan.file plan.meaning
  pub tries : IsFromTo 1 64 plan.tries
  pub opens : Opens plan valid plan.sizes opening
