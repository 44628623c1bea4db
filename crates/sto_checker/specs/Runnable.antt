-- What a run needs of a file. Every sound file has it.
use Rattle.std.specs.Prelude.{◌≡◌, ℕ, ◌<◌, ◌≤◌, List, length, true, Some}
use Rattle.std.specs.List.{All}
use Rattle.sto_model.specs.declared.shape.Shape.{Shape}
use Rattle.sto_lang.specs.Objects.{HaveNames, shapes_of}
use Rattle.sto_lang.specs.Scripts.{Script, File}
use Rattle.sto_lang.specs.Sizes.{calls_of}
use Rattle.sto_lang.specs.Taken.{are_taken}
use Rattle.sto_report_spec.specs.Orders.{TransactionPlace, transaction_at, count_in}

-- the transaction asks at most as many calls as it weighs, and only such as the shapes of their objects take
pub record CanRun (shapes : List Shape) (script : Script) : Type 0 where
  pub weighed : calls_of script.body ≤ script.weight
  pub taken : are_taken shapes script.body ≡ true

-- the objects have names and numbers, each transaction can be run, and there are not too many of them
pub record IsRunnable (file : File) : Type 0 where
  pub names : HaveNames file.declarations
  pub numbered : All (λ d. d.number < length (shapes_of file.declarations)) file.declarations
  pub scripts : (place : TransactionPlace) (script : Script) → transaction_at file place ≡ Some script → CanRun (shapes_of file.declarations) script
  pub few_threads : length file.threads ≤ 64
  pub few_transactions : (thread : ℕ) → count_in file.threads thread ≤ 10000
